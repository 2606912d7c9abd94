-- `enters::enter_sum` meets its contract.
use native.Mathlib.Omega.{arith}
use mathlib.Core.Path.{refl}
use Rattle.steps.proofs.Entering.{from_at, sum_room, sum_first, left_lays, right_lays, sum_turned}
use Rattle.steps.proofs.enters.enter_sum.Goals as goal

pub take_free-l-requires : goal.take_free-l-requires
take_free-l-requires c = let h = c.before.requires in
    (omega (arith, sum_room _ _ _ _ h), h.few)

pub take_free-r-requires : goal.take_free-r-requires
take_free-r-requires c = let h = c.before.before.requires in
    (omega (arith, sum_room _ _ _ _ h), omega (arith, h.few))

pub lay-x-requires : goal.lay-x-requires
lay-x-requires c =
    let p = c.before.before.requires in
    let from = from_at p c.head-h.ensures c.head_at-p.ensures.head refl in
    rw (from, c.head-h.ensures) (left_lays _ _ _ _ p _ _ c.take_free-l.ensures c.take_free-r.ensures)

pub end_at-q-requires : goal.end_at-q-requires
end_at-q-requires c =
    let h = c.before.before.requires in
    rw (from_at h c.head-h.ensures c.head_at-p.ensures.head refl, c.head-h.ensures) (sum_first _ _ _ _ h)

pub lay-y-requires : goal.lay-y-requires
lay-y-requires c =
    let p = c.before.before.requires in
    let e = c.head-h.ensures in
    let from = from_at p e c.head_at-p.ensures.head refl in
    rw (rw (from, e) at c.end_at-q.ensures, e) (right_lays _ _ _ _ p _ _ c.take_free-l.ensures c.take_free-r.ensures
    c.lay-x.new.work _ _ (λ f. rw (from, e) at (c.lay-x.ensures f)))

pub returns : goal.returns
returns c =
    let p = c.before.before.requires in
    let e = c.head-h.ensures in
    let from = from_at p e c.head_at-p.ensures.head refl in
    let q = rw (from, e) at c.end_at-q.ensures in
    rw c.two_ready.ensures (sum_turned _ _ _ _ p _ _ c.take_free-l.ensures c.take_free-r.ensures
    c.lay-x.new.work _ _ (λ f. rw (from, e) at (c.lay-x.ensures f))
    c.lay-y.new.work c.put_head.new.work _ _
    (λ f. rw (q, e) at (c.lay-y.ensures f))
    (rw e at c.put_head.ensures))
