-- `joins::lead` meets its contract: by which set has no more, and by the order of the two packets.
use mathlib.Core.Path.{sym, ◌∙◌}
use native.Mathlib.Omega.{arith}
use Rattle.area.proofs.Joining.{lead_left, lead_right, lead_less, lead_same, lead_more}
use Rattle.area.proofs.joins.lead.Goals as goal

pub returns-then-b-y : goal.returns-then-b-y
returns-then-b-y c =
    let t = c.if-b-y.true in
    let h = c.requires in
    rw c.taking.ensures (lead_left _ _ h.0 h.1 (omega (arith, t, h.4)) t h.3)

pub returns-then-a-x : goal.returns-then-a-x
returns-then-a-x c =
    let h = c.requires in
    rw c.taking-then-a-x.ensures (lead_right _ _ h.0 h.1 c.if-a-x.true h.2 (omega (arith, c.if-b-y.false)))

pub returns-in-Less : goal.returns-in-Less
returns-in-Less c =
    let h = c.requires in
    rw c.taking-in-Less.ensures
    (lead_less _ _ h.0 h.1 (omega (arith, c.if-a-x.false)) (omega (arith, c.if-b-y.false))
    (sym c.order_packets-o.ensures ∙ c.in-Less.is))

pub returns-in-Equal : goal.returns-in-Equal
returns-in-Equal c =
    let h = c.requires in
    rw c.taking-in-Equal.ensures
    (lead_same _ _ h.0 h.1 (omega (arith, c.if-a-x.false)) (omega (arith, c.if-b-y.false))
    (sym c.order_packets-o.ensures ∙ c.in-Equal.is))

pub returns-in-Greater : goal.returns-in-Greater
returns-in-Greater c =
    let h = c.requires in
    rw c.taking-in-Greater.ensures
    (lead_more _ _ h.0 h.1 (omega (arith, c.if-a-x.false)) (omega (arith, c.if-b-y.false))
    (sym c.order_packets-o.ensures ∙ c.in-Greater.is))
