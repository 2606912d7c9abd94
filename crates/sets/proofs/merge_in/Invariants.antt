-- What the loop of `merge_in` keeps, and what falls.
use Prim.Native.Nat.{◌+◌, ◌≤◌, ◌-◌}
use lib.ListN.{take}
use lib.Seq.{slice}
use Rattle.rules.specs.Packets.{union}
use Rattle.rows.specs.Chunks.{rows_of}
use Rattle.sets.proofs.Merging.{Merging}
use Rattle.sets.proofs.merge_in.Given as goal

abbrev pub invariant-loop-j : goal.invariant-loop-j
invariant-loop-j g l =
    (l.j ≤ l.m)
    × Merging g.row.R l.v l.i l.e l.k (slice l.j l.m (rows_of g.row.R l.b))
    (union (slice l.h l.e (rows_of g.row.R l.initial.v)) (take l.m (rows_of g.row.R l.b)))

abbrev pub decreases-loop-j : goal.decreases-loop-j
decreases-loop-j g l = (l.e - l.i) + (l.m - l.j)
