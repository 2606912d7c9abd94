-- Rows i to a - 1 are lowered.
use Prim.Native.Nat.{◌+◌, ◌-◌}
use mathlib.Core.Path.{◌≡◌, refl}
use native.Mathlib.Omega.{arith}
use Rattle.sets.proofs.Merging.{lowering_next, lowered, lowered_same}
use Rattle.sets.proofs.lower.Goals as goal

pub returns-then-k-i : goal.returns-then-k-i
returns-then-k-i g c = lowered_same _ _ _ c.if-k-i.true c.requires.1 c.requires.3

pub loop-a-preserved : goal.loop-a-preserved
loop-a-preserved g c =
    let x = c.args in
    let a = c.loop-a.a in
    let e : x.k + (a + 1 - x.i) ≡ x.k + (a - x.i) + 1 = omega arith in
    rw e (lowering_next a x.e c.loop-a.invariant c.loop-a-test.true c.requires.2 (omega (arith, c.requires.0)) c.move_row.ensures)

pub returns : goal.returns
returns g c =
    let x = c.args in
    let a : c.loop-a.a ≡ x.e = omega (arith, c.loop-a-test.false, c.requires.1) in
    let m = rw a at c.loop-a.invariant in
    lowered x.k x.i x.e x.e (x.k + (x.e - x.i)) m refl c.requires.2 c.requires.0 c.requires.1 refl c.clear_rows.ensures
