-- The values of row i are written after those of the rows before it.
use mathlib.Core.Path.{refl, ap, ◌∙◌}
use mathlib.Core.List.{List}
use native.Mathlib.Omega.{arith}
use native.Mathlib.Nat.{zero-mul}
use Prim.Native.Nat.{ℕ}
use lib.ListN.{take}
use Rattle.rules.specs.Packets.{values_of}
use Rattle.rows.proofs.Words.{emit_next}
use Rattle.rows.proofs.put_rows.Goals as goal

pub loop-i-init : goal.loop-i-init
unfolding values_of
loop-i-init g c = rw (zero-mul c.args.k) refl

pub loop-i-preserved : goal.loop-i-preserved
loop-i-preserved g c =
    let a = c.args in
    emit_next a.k c.loop-i.i a.out.now c.loop-i.out _ c.requires.0 (omega (arith, c.loop-i-test.true, c.requires.1)) c.requires.3
    c.loop-i.invariant (c.copy_from_slice.ensures.after ∙ ap (λ (x : List ℕ). take a.k x) c.row.ensures)
