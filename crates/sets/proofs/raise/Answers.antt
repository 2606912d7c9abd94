-- Rows j to n - 1 are raised.
use mathlib.Core.Path.{◌≡◌}
use native.Mathlib.Omega.{arith}
use Rattle.sets.proofs.Merging.{raised_next}
use Rattle.sets.proofs.raise.Goals as goal

pub loop-j-preserved : goal.loop-j-preserved
loop-j-preserved g c =
    let j = c.loop-j.j in (
      omega arith,
      raised_next j _ c.args.n c.args.h (omega arith) (omega arith) c.requires.1 c.loop-j.invariant.1 c.move_row.ensures,
    )

pub returns : goal.returns
returns g c = let e : c.loop-j.j ≡ c.args.i = omega (arith, c.loop-j-test.false, c.loop-j.invariant.0) in rw e at c.loop-j.invariant.1
