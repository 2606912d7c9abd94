-- What the loop of `put_row` keeps.
use mathlib.Core.Path.{◌≡◌}
use lib.Seq.{paste}
use Rattle.rows.proofs.put_row.Given as goal

abbrev pub invariant-loop-f : goal.invariant-loop-f
invariant-loop-f g l = l.w ≡ paste l.initial.w l.a l.p l.f
