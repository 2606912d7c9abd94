-- `joins::pair_one` meets its contract.
use mathlib.Core.Path.{◌∙◌, ap₂}
use native.Mathlib.Omega.{arith}
use Rattle.rules.specs.Packets.{Packet, mix}
use Rattle.area.proofs.Lending.{back, lent_packet, rowed}
use Rattle.area.proofs.joins.pair_one.Goals as goal

pub returns : goal.returns
returns c =
    let h = c.requires in
    let s = c.slot_range-3.ensures in
    rowed (back _ s _ c.put_row.new.w h.0 c.told-work c.put_row.auto.w) s (omega arith)
    (c.mixed-p.ensures ∙ ap₂ (λ (p q : Packet). mix c.args.w p q) (c.row.ensures ∙ lent_packet _ c.slot_range.ensures _ _)
    (c.row-2.ensures ∙ lent_packet _ c.slot_range-2.ensures _ _))
    c.put_row.ensures
