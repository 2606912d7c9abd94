-- `place_after` meets its contract; the measure is the depth that is left. Assumes nothing.
use native.Mathlib.Omega.{arith}
use Rattle.book.proofs.PlaceLaws.{after_zero, after_none, after_one, after_two}
use Rattle.book.proofs.+place_after.Goals as goal

pub returns-then-depth-eq0 : goal.returns-then-depth-eq0
returns-then-depth-eq0 t c = after_zero _ _ _ c.if-depth-eq0.true

pub returns-in-0 : goal.returns-in-0
returns-in-0 t c = after_none _ _ _ c.if-depth-eq0.false _ c.head_at-h.ensures _ c.shape_of-shape.ensures c.in-0.is

pub returns-in-1 : goal.returns-in-1
returns-in-1 t c =
    after_one _ _ _ c.if-depth-eq0.false _ c.head_at-h.ensures _ c.shape_of-shape.ensures _ c.place_after.ensures c.in-1.is

pub returns-in_default : goal.returns-in_default
returns-in_default t c =
    after_two _ _ _ c.if-depth-eq0.false _ c.head_at-h.ensures _ c.shape_of-shape.ensures _ _
    c.place_after-middle.ensures c.place_after-in_default.ensures (λ e. omega arith) (λ e. omega arith)
