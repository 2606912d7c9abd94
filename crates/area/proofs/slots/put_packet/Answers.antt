-- `slots::put_packet` meets its contract: the packet is the first row of the slot.
use mathlib.Core.Path.{refl}
use native.Mathlib.Omega.{arith}
use Rattle.area.proofs.Lending.{back, rowed}
use Rattle.area.proofs.slots.put_packet.Goals as goal

pub returns : goal.returns
returns c =
    let s = c.slot_range.ensures in
    rowed (back _ s _ c.put_row.new.w c.requires c.told-work c.put_row.auto.w) s (omega arith) refl c.put_row.ensures
