-- `slots::keep_one` meets its contract.
use mathlib.Core.Path.{sym, ◌∙◌, ap}
use Rattle.rules.specs.Packets.{Packet, passes}
use Rattle.area.proofs.Lending.{lent_packet, kept_one, dropped_one}
use Rattle.area.proofs.slots.keep_one.Goals as goal

pub returns-then-passes_at : goal.returns-then-passes_at
returns-then-passes_at c =
    let a = c.args in
    kept_one _ _ _ _
    (ap (λ (p : Packet). passes a.f a.x p) (sym (lent_packet _ c.slot_range.ensures _ _)) ∙ (sym c.passes_at.ensures ∙ c.if-passes_at.true))

pub returns-else-passes_at : goal.returns-else-passes_at
returns-else-passes_at c =
    let a = c.args in
    dropped_one _ _ _ _
    (ap (λ (p : Packet). passes a.f a.x p) (sym (lent_packet _ c.slot_range.ensures _ _)) ∙ (sym c.passes_at.ensures ∙ c.if-passes_at.false))
