-- `lists::give_back` meets its contract.
use Rattle.area.proofs.Words.{gave}
use Rattle.area.proofs.lists.give_back.Goals as goal

pub returns : goal.returns
returns c = gave _ _ _ c.requires c.told-work
