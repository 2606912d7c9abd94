-- `slots::emit_packets` meets its contract: the first rows of the slot are its packets.
use Rattle.area.proofs.Lending.{front_rows, lent_slot}
use Rattle.area.proofs.slots.emit_packets.Goals as goal

pub returns : goal.returns
returns c = rw (lent_slot _ c.slot_range.ensures _, front_rows _ c.args.n c.requires.1) at c.emit_rows.ensures
