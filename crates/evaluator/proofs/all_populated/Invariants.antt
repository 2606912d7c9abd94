-- What the loop of `all_populated` keeps: the tables before x are populated.
use Rattle.evaluator.proofs.Opening.{PopulatedTo}
use Rattle.evaluator.proofs.all_populated.Given as goal

abbrev pub invariant-loop-x : goal.invariant-loop-x
invariant-loop-x l = PopulatedTo l.book l.x
