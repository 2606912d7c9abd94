-- What the loop of `lower` keeps.
use Prim.Native.Nat.{◌+◌, ◌-◌}
use mathlib.Core.List.{◌++◌}
use lib.ListN.{take}
use lib.Seq.{slice}
use Rattle.rows.specs.Chunks.{rows_of}
use Rattle.sets.proofs.Rows.{Sliding}
use Rattle.sets.proofs.lower.Given as goal

abbrev pub invariant-loop-a : goal.invariant-loop-a
invariant-loop-a g l =
    Sliding g.row.R l.v l.initial.v l.a (l.k + (l.a - l.i)) (slice l.a l.e (rows_of g.row.R l.initial.v))
    (take l.k (rows_of g.row.R l.initial.v) ++ slice l.i l.e (rows_of g.row.R l.initial.v))
