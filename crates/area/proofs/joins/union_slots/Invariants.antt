-- What the loop of `joins::union_slots` keeps, and what falls.
use Prim.Native.Nat.{◌+◌, ◌-◌}
use Rattle.area.proofs.Joining.{Merging}
use Rattle.area.proofs.joins.union_slots.Given as goal

abbrev pub invariant-loop-x : goal.invariant-loop-x
invariant-loop-x l = Merging l.initial.work l.i l.l l.r l.a l.b l.work l.x l.y l.k

abbrev pub decreases-loop-x : goal.decreases-loop-x
decreases-loop-x l = (l.a + l.b) - (l.x + l.y)
