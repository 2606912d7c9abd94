-- What the loop of `marks::mark` keeps.
use Rattle.steps.proofs.Marking.{MarkedFrom}
use Rattle.steps.proofs.marks.mark.Given as goal

abbrev pub invariant-loop-at : goal.invariant-loop-at
invariant-loop-at l = MarkedFrom l.bytes l.ends l.at
