-- `all_bodies` meets its contract: the loop keeps what stands after the bodies below y. Assumes nothing.
use native.Mathlib.Omega.{arith}
use native.Mathlib.Numerals.{add-one}
use Rattle.rules.proofs.HandingUp.{handed_up}
use Rattle.typing.proofs.EndLaws.{so_ends, so_after, off_after}
use Rattle.typing.proofs.all_bodies.Goals as goal

pub returns-in_err-z : goal.returns-in_err-z
returns-in_err-z c =
    rw (handed_up c.from_residual.ensures.1) (off_after _ 0 _ _ _ c.in_err-z.was c.main_body.ensures)

pub loop-y-init : goal.loop-y-init
loop-y-init c = record {
  entries = (c.byte_at-y-end.ensures, omega arith, omega arith);
  so = so_after _ 0 _ _ _ c.in_ok-z.was c.main_body.ensures;
}

pub returns-in_err-z-2 : goal.returns-in_err-z-2
returns-in_err-z-2 c =
    rw (handed_up c.from_residual-in_err-z-2.ensures.1) (off_after _ c.loop-y.y _ _ _ c.in_err-z-2.was c.table_body.ensures)

pub loop-y-preserved : goal.loop-y-preserved
loop-y-preserved c = record {
  entries = (c.loop-y.invariant.entries.0, omega arith, omega arith);
  so = rw add-one (so_after _ c.loop-y.y _ _ _ c.in_ok-z-2.was c.table_body.ensures);
}

pub returns-in_ok-z : goal.returns-in_ok-z
returns-in_ok-z c = so_ends _ _ _ _ (omega arith) c.loop-y.invariant.so

pub returns-in_ok-z-2 : goal.returns-in_ok-z-2
returns-in_ok-z-2 c =
    so_ends _ _ _ _ (omega arith) (so_after _ c.loop-y.y _ _ _ c.in_ok-z-2.was c.table_body.ensures)
