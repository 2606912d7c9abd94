-- `marks::mark` meets its contract: marked from the last place on.
use native.Mathlib.Omega.{arith}
use Rattle.steps.proofs.Standing.{inside}
use Rattle.steps.proofs.Marking.{marked_next}
use Rattle.steps.proofs.marks.mark.Goals as goal

pub loop-at-init : goal.loop-at-init
loop-at-init c = λ p l h. absurd (omega (arith, inside h))

pub loop-at-preserved : goal.loop-at-preserved
loop-at-preserved c = marked_next _ (omega arith) (omega arith) c.loop-at.invariant c.end_by.ensures
