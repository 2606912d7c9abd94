-- `lists::list_one` meets its contract.
use Rattle.area.proofs.Listing.{listed_one}
use Rattle.area.proofs.lists.list_one.Goals as goal

pub returns : goal.returns
returns c = let p = c.requires in listed_one _ _ _ p.0 p.1 c.told-work _
