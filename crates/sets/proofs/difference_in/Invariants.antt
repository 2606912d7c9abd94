-- What the loop of `difference_in` keeps, and what falls.
use Prim.Native.Nat.{◌+◌, ◌≤◌, ◌-◌}
use lib.ListN.{take}
use lib.Seq.{slice}
use Rattle.rules.specs.Packets.{keep, lacks}
use Rattle.rows.specs.Chunks.{rows_of}
use Rattle.sets.proofs.Rows.{Sliding}
use Rattle.sets.proofs.difference_in.Given as goal

abbrev pub invariant-loop-i : goal.invariant-loop-i
invariant-loop-i g l =
    (l.i ≤ l.n) × (l.j ≤ l.m) × (l.k ≤ l.i)
    × Sliding g.row.R l.v l.initial.v l.i l.k (keep (lacks (slice l.j l.m (rows_of g.row.R l.b))) (slice l.i l.n (rows_of g.row.R l.initial.v)))
    (keep (lacks (take l.m (rows_of g.row.R l.b))) (take l.n (rows_of g.row.R l.initial.v)))

abbrev pub decreases-loop-i : goal.decreases-loop-i
decreases-loop-i g l = (l.n + l.m) - (l.i + l.j)
