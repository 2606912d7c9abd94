-- `marked` meets its contract: the closure keeps the seed. Assumes nothing.
use Rattle.std.proofs.Common.{◌≡◌, refl, rules, arith}
use Rattle.std.proofs.lemmas.List.FromFn.{fill_by_all}
use Rattle.trials.proofs.Parts.{made_from}
use Rattle.trials.specs.Vectors.{marker, marks}
use Rattle.trials.proofs.vectors.marked.Goals as goal

pub returns : goal.returns
unfolding marks
returns c =
    let made = c.from_fn.ensures.items in
    fill_by_all (marker c.args.seed) c.from_fn.result 65536 0 made.long
    (λ k h. made_from _ (marker c.args.seed) (λ p. p.0.now ≡ c.args.seed) (λ p q k y s called. search rules) _ c.from_fn.result 0 65536 refl made.each k (omega arith) h)
