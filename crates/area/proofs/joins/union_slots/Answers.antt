-- `joins::union_slots` meets its contract: packet by packet.
use native.Mathlib.Omega.{arith}
use Rattle.area.proofs.Joining.{merging_start, merging_sets, merging_room, next_there, merging_next, merging_end}
use Rattle.area.proofs.joins.union_slots.Goals as goal

pub loop-x-init : goal.loop-x-init
loop-x-init c = merging_start _ _ _ _ _ _

pub lead-t-requires : goal.lead-t-requires
lead-t-requires c =
    let i = c.loop-x.invariant in
    let g = merging_sets c.requires.0 i in
    (g.0, g.1, i.left, i.right, c.loop-x-test.true)

pub move_packet-requires : goal.move_packet-requires
move_packet-requires c =
    let h = c.requires in
    let e = c.lead-t.ensures in
    let i = c.loop-x.invariant in
    (h.0.there, merging_room h.0 i e h.1, next_there h.0 i e, e.row)

pub overflow_add-k : goal.overflow_add-k
overflow_add-k c =
    let h = c.requires in
    omega (arith, merging_room h.0 c.loop-x.invariant c.lead-t.ensures h.1)

pub loop-x-preserved : goal.loop-x-preserved
loop-x-preserved c =
    merging_next c.requires.0 c.loop-x.invariant c.lead-t.ensures c.move_packet.ensures

pub returns : goal.returns
returns c =
    let h = c.requires in
    merging_end h.0 c.loop-x.invariant h.1 (omega (arith, c.loop-x-test.false))
