-- `numbers_at` meets its contract: the closure keeps the bytes and the place.
use Rattle.std.proofs.Common.{◌≡◌, ℕ, ◌+◌, ◌*◌, refl, rules, arith}
use Rattle.std.proofs.lemmas.List.FromFn.{fill_by_all}
use Rattle.trials.proofs.Parts.{made_from}
use Rattle.trials.specs.Vectors.{long_at, numbers_at}
use Rattle.trials.proofs.vectors.numbers_at.Goals as goal

pub returns : goal.returns
unfolding numbers_at
returns c =
    let made = c.from_fn.ensures.items in
    let f = λ (i : ℕ). long_at c.args.s.now (c.args.at + 4 * i) in
    fill_by_all f c.from_fn.result 6 0 made.long
    (λ k h. made_from _ f (λ p. (p.0.now ≡ c.args.s.now) × (p.1.now ≡ c.args.at)) (λ p q k y s called. search rules) _ c.from_fn.result 0 6
    (refl, refl) made.each k (omega arith) h)
