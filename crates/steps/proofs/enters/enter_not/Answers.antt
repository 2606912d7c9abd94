-- `enters::enter_not` meets its contract.
use native.Mathlib.Omega.{arith}
use mathlib.Core.Path.{refl}
use Rattle.steps.proofs.Entering.{from_at, not_room, not_lays, not_turned}
use Rattle.steps.proofs.enters.enter_not.Goals as goal

pub take_free-c-requires : goal.take_free-c-requires
take_free-c-requires c = let h = c.before.requires in
    (omega (arith, not_room _ _ _ _ h), h.few)

pub lay-x-requires : goal.lay-x-requires
lay-x-requires c =
    let p = c.before.requires in
    let from = from_at p c.head-h.ensures c.head_at-p.ensures.head refl in
    rw (from, c.head-h.ensures) (not_lays _ _ _ _ p _ c.take_free-c.ensures)

pub returns : goal.returns
returns c =
    let p = c.before.requires in
    let e = c.head-h.ensures in
    let from = from_at p e c.head_at-p.ensures.head refl in
    rw c.from.ensures (not_turned _ _ _ _ p _ c.take_free-c.ensures c.lay-x.new.work
    c.put_head.new.work _ _ _
    (λ f. rw (from, e) at (c.lay-x.ensures f)) (rw e at c.put_head.ensures) c.or.ensures)
