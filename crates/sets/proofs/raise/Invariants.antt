-- What the loop of `raise` keeps.
use Prim.Native.Nat.{◌≤◌}
use Rattle.sets.specs.Lists.{Raised}
use Rattle.sets.proofs.raise.Given as goal

abbrev pub invariant-loop-j : goal.invariant-loop-j
invariant-loop-j g l = (l.i ≤ l.j) × Raised g.row.R l.v l.initial.v l.j l.n l.h
