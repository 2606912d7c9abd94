-- The first i rows are copied.
use native.Mathlib.Omega.{arith}
use Rattle.rows.proofs.Holding.{copied_next}
use Rattle.rows.proofs.copy_rows.Goals as goal

pub loop-i-preserved : goal.loop-i-preserved
loop-i-preserved g c =
    copied_next c.loop-i.i (omega (arith, c.requires.0, c.loop-i-test.true)) c.loop-i.invariant (rw c.row.ensures at c.put_row.ensures)
