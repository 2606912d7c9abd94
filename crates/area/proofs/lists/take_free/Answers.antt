-- `lists::take_free` meets its contract: the last of the free numbers.
use Rattle.area.proofs.Words.{free_top}
use Rattle.area.proofs.lists.take_free.Goals as goal

pub returns : goal.returns
returns c = free_top _ _ c.requires.0 c.requires.1 c.told-work
