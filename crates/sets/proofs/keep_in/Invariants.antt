-- What the loop of `keep_in` keeps.
use Prim.Native.Nat.{◌≤◌}
use lib.ListN.{take}
use lib.Seq.{slice}
use Rattle.rules.specs.Packets.{passes, keep}
use Rattle.rows.specs.Chunks.{rows_of}
use Rattle.sets.proofs.Rows.{Sliding}
use Rattle.sets.proofs.keep_in.Given as goal

abbrev pub invariant-loop-i : goal.invariant-loop-i
invariant-loop-i g l =
    (l.k ≤ l.i)
    × Sliding g.row.R l.v l.initial.v l.i l.k (keep (passes l.f l.x) (slice l.i l.n (rows_of g.row.R l.initial.v)))
    (keep (passes l.f l.x) (take l.n (rows_of g.row.R l.initial.v)))
