-- `joins::order_packets` meets its contract.
use mathlib.Core.Path.{◌∙◌, ap₂}
use Rattle.rules.specs.Packets.{Packet, order_of}
use Rattle.area.proofs.Lending.{lent_packet}
use Rattle.area.proofs.joins.order_packets.Goals as goal

pub returns : goal.returns
returns c =
    c.order_row.ensures
    ∙ ap₂ (λ (p q : Packet). order_of p q) (c.row.ensures ∙ lent_packet _ c.slot_range.ensures _ _) (lent_packet _ c.slot_range-2.ensures _ _)
