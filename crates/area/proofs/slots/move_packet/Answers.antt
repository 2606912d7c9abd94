-- `slots::move_packet` meets its contract: one row of a slot taken up, and stored in another.
use mathlib.Core.Path.{◌∙◌}
use Rattle.area.proofs.Lending.{back, lent_packet, rowed}
use Rattle.area.proofs.slots.move_packet.Goals as goal

pub returns : goal.returns
returns c =
    let h = c.requires in
    let s = c.slot_range-2.ensures in
    rowed (back _ s _ c.put_row.new.w h.0 c.told-work c.put_row.auto.w) s h.1
    (c.row.ensures ∙ lent_packet _ c.slot_range.ensures _ _) c.put_row.ensures
