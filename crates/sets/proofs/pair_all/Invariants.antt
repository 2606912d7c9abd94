-- What the loop of `pair_all` keeps.
use lib.ListN.{take}
use lib.Seq.{slice}
use Rattle.rules.specs.Packets.{pairs}
use Rattle.rows.specs.Chunks.{rows_of}
use Rattle.sets.proofs.Pairing.{Pairing}
use Rattle.sets.proofs.pair_all.Given as goal

abbrev pub invariant-loop-i : goal.invariant-loop-i
invariant-loop-i g l =
    Pairing g.row.R l.w l.v l.k (slice l.i l.n (rows_of g.row.R l.a)) (take l.m (rows_of g.row.R l.b))
    (pairs l.w (take l.n (rows_of g.row.R l.a)) (take l.m (rows_of g.row.R l.b)))
