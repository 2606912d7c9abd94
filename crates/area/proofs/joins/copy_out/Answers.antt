-- `joins::copy_out` meets its contract.
use Rattle.area.proofs.Joining.{copied_out}
use Rattle.area.proofs.joins.copy_out.Goals as goal

pub returns : goal.returns
returns c = copied_out c.slot_range.ensures c.requires c.copy_rows.ensures
