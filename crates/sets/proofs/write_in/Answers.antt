-- The first i rows are written.
use native.Mathlib.Omega.{arith}
use Rattle.sets.proofs.Inserting.{changed_next}
use Rattle.sets.proofs.write_in.Goals as goal

pub loop-i-preserved : goal.loop-i-preserved
loop-i-preserved g c = changed_next c.loop-i.i _ (omega (arith, c.requires.1, c.loop-i-test.true)) c.loop-i.invariant c.put_at.ensures
