-- What the loop of `place_in` keeps.
use mathlib.Core.Path.{◌≡◌}
use mathlib.Core.List.{◌∷◌}
use lib.ListN.{take, drop}
use Rattle.rules.specs.Packets.{insert}
use Rattle.rows.specs.Chunks.{rows_of}
use Rattle.sets.proofs.place_in.Given as goal

abbrev pub invariant-loop-i : goal.invariant-loop-i
invariant-loop-i g l =
    insert l.p (drop l.i (take l.k (rows_of g.row.R l.w))) ≡ l.p ∷ drop l.i (take l.k (rows_of g.row.R l.w))
