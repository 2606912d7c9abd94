-- `next` gives the first vector and leaves the others.
use Rattle.std.proofs.Common.{◌≡◌, ◌<◌, ◌∷◌, length, ap, rules, arith}
use Rattle.trials.specs.Sets.{vectors_of}
use Rattle.trials.proofs.Counting.{vectors_none, vectors_next}
use Rattle.trials.proofs.vector_set.VectorsIterator.next.Goals as goal

pub returns-then-is_empty-clause-steps : goal.returns-then-is_empty-clause-steps
returns-then-is_empty-clause-steps c = (vectors_none _ (search rules), vectors_none _ (search rules))

first_of : (c : goal.After-front) → vectors_of c.args.self.now.0.now ≡ c.front.result.now ∷ vectors_of c.from-self.result.now
first_of c =
    rw (c.front.ensures, c.from.ensures, c.from-self.ensures, c.word_at-length.ensures.0)
    (vectors_next c.args.self.now.0.now (search rules))

pub returns-clause-steps : goal.returns-clause-steps
returns-clause-steps c = first_of c

pub returns-clause-goes : goal.returns-clause-goes
returns-clause-goes c =
    let fewer : length (vectors_of c.from-self.result.now) < length (vectors_of c.args.self.now.0.now) = omega (arith, ap length (first_of c)) in
    search rules
