-- `slots::tidy` meets its contract: the rows from n on are cleared.
use Rattle.area.proofs.Lending.{back, tidied}
use Rattle.area.proofs.slots.tidy.Goals as goal

pub returns : goal.returns
returns c =
    let h = c.requires in
    let s = c.slot_range.ensures in
    tidied (back _ s _ c.clear_rows.new.v h.there c.told-work c.clear_rows.auto.v) s h c.clear_rows.ensures
