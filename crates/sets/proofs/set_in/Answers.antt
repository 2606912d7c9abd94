-- The rows written where they stand; where they do not ascend then, they are gathered anew.
use Rattle.sets.proofs.Inserting.{none_put, changed_held}
use Rattle.sets.proofs.set_in.Goals as goal

pub returns-then-f : goal.returns-then-f
returns-then-f g c = none_put _ _ c.if-f.true c.requires

pub returns-then-ascends : goal.returns-then-ascends
returns-then-ascends g c = changed_held c.write_in.ensures c.requires (c.ascends.ensures c.if-ascends.true)
