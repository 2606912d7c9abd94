-- What the loop of `ascends` keeps.
use Prim.Native.Nat.{◌-◌}
use lib.Seq.{slice}
use Rattle.rules.specs.Packets.{Ascending}
use Rattle.rows.specs.Chunks.{rows_of}
use Rattle.sets.proofs.ascends.Given as goal

abbrev pub invariant-loop-i : goal.invariant-loop-i
invariant-loop-i g l = Ascending (slice (l.i - 1) l.n (rows_of g.row.R l.v))
