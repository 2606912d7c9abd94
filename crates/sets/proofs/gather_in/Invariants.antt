-- What the loop of `gather_in` keeps.
use lib.ListN.{take}
use Rattle.rules.specs.Packets.{gathered}
use Rattle.rows.specs.Chunks.{rows_of}
use Rattle.sets.proofs.Inserting.{Sorting}
use Rattle.sets.proofs.gather_in.Given as goal

abbrev pub invariant-loop-j : goal.invariant-loop-j
invariant-loop-j g l = Sorting g.row.R l.v l.initial.v l.j l.n l.k (gathered (take l.n (rows_of g.row.R l.initial.v)))
