-- What the loop of `put_rows` keeps.
use Prim.Native.Nat.{◌*◌}
use mathlib.Core.Path.{◌≡◌}
use mathlib.Core.List.{◌++◌}
use lib.ListN.{take, drop}
use Rattle.rules.specs.Packets.{values_of}
use Rattle.rows.specs.Chunks.{rows_of}
use Rattle.rows.proofs.put_rows.Given as goal

abbrev pub invariant-loop-i : goal.invariant-loop-i
invariant-loop-i g l = l.out ≡ values_of l.k (take l.i (rows_of g.row.R l.v)) ++ drop (l.i * l.k) l.initial.out
