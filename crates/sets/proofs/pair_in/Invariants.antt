-- What the loop of `pair_in` keeps.
use mathlib.Core.List.{[], map}
use lib.ListN.{take, get_or}
use lib.Seq.{slice}
use Rattle.rules.specs.Packets.{mix, union}
use Rattle.rows.specs.Chunks.{rows_of}
use Rattle.sets.proofs.Inserting.{Gathering}
use Rattle.sets.proofs.pair_in.Given as goal

abbrev pub invariant-loop-j : goal.invariant-loop-j
invariant-loop-j g l =
    Gathering g.row.R l.v l.c (map (mix l.w (get_or (rows_of g.row.R l.a) l.i [])) (slice l.j l.m (rows_of g.row.R l.y)))
    (union (take l.k (rows_of g.row.R l.initial.v)) (map (mix l.w (get_or (rows_of g.row.R l.a) l.i [])) (take l.m (rows_of g.row.R l.y))))
