-- `joins::bare_packet` meets its contract.
use mathlib.Core.Path.{ap, ◌∙◌}
use native.Mathlib.Omega.{arith}
use Rattle.rules.specs.Packets.{Packet, without}
use Rattle.area.proofs.Lending.{back, lent_packet, rowed}
use Rattle.area.proofs.joins.bare_packet.Goals as goal

pub returns : goal.returns
returns c =
    let h = c.requires in
    let s = c.slot_range-2.ensures in
    rowed (back _ s _ c.put_row.new.w h.1 c.told-work c.put_row.auto.w) s (omega arith)
    (c.bare-p.ensures ∙ ap (λ (p : Packet). without c.args.w p) (c.row.ensures ∙ lent_packet _ c.slot_range.ensures _ _))
    c.put_row.ensures
