-- The byte picks a ready number; the step there, and the list put right, are the rules' move.
use mathlib.Core.Path.{ap}
use Rattle.area.specs.declared.headers.Header.{Header}
use Rattle.machine.proofs.Choosing.{idle, can_choose, can_relist, advanced}
use Rattle.machine.proofs.advance.advance.Goals as goal

pub returns-then-r-eq0 : goal.returns-then-r-eq0
returns-then-r-eq0 c = idle _ _ _ _ _ c.requires c.if-r-eq0.true

pub head-up-requires : goal.head-up-requires
head-up-requires c = (can_choose _ _ _ _ _ c.requires _ c.if-r-eq0.false c.ready_at-i.ensures).there

pub step-t-requires : goal.step-t-requires
step-t-requires c =
    can_choose _ _ _ _ _ c.requires _ c.if-r-eq0.false c.ready_at-i.ensures

pub relist-ready-requires : goal.relist-ready-requires
relist-ready-requires c =
    can_relist _ _ _ _ _ c.requires _ c.if-r-eq0.false c.ready_at-i.ensures _ _ _ _ c.step-t.ensures
    (ap (λ (h : Header). h.up) c.head-up.ensures)

pub returns : goal.returns
returns c = advanced _ _ _ _ _ c.requires _ c.if-r-eq0.false c.ready_at-i.ensures _ _ _ _ c.step-t.ensures
    (ap (λ (h : Header). h.up) c.head-up.ensures) _ _ c.relist-ready.ensures.0 c.relist-ready.ensures.1
