-- What the loop of `copy_rows` keeps.
use Rattle.rows.specs.Chunks.{Copied}
use Rattle.rows.proofs.copy_rows.Given as goal

abbrev pub invariant-loop-i : goal.invariant-loop-i
invariant-loop-i g l = Copied g.row.R l.w l.initial.w l.v l.i
