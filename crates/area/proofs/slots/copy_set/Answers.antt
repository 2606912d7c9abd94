-- `slots::copy_set` meets its contract: onto itself there is nothing to do.
use Rattle.area.proofs.Lending.{slotted_same}
use Rattle.area.proofs.slots.copy_set.Goals as goal

pub returns-else-i-j : goal.returns-else-i-j
returns-else-i-j c = rw c.if-i-j.false (slotted_same _ _ _)
