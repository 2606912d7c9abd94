-- The proof of the walk for number 9. The measure is the depth.
use native.Mathlib.Omega.{arith}
use Rattle.evaluator.proofs.Opening.{sees_zero, sees_table, sees_none, sees_first, sees_one, sees_two}
use Rattle.evaluator.proofs.+look_part.Goals as goal

pub returns-then-depth-eq0 : goal.returns-then-depth-eq0
returns-then-depth-eq0 t c = sees_zero _ _ _ _ c.if-depth-eq0.true

pub returns-then-head-eq-TABLE : goal.returns-then-head-eq-TABLE
returns-then-head-eq-TABLE t c =
    sees_table _ _ _ _ c.if-depth-eq0.false _ c.head_at-head.ensures _ c.if-head-eq-TABLE.true c.look_table.ensures

pub returns-in_err-middle-in_default : goal.returns-in_err-middle-in_default
returns-in_err-middle-in_default t c =
    rw c.from_residual.ensures
    (sees_first _ _ _ _ c.if-depth-eq0.false _ c.head_at-head.ensures c.if-head-eq-TABLE.false _ c.shape_of.ensures (λ e. omega arith) c.in_err-middle-in_default.ensures)

pub returns-in-0 : goal.returns-in-0
returns-in-0 t c =
    sees_none _ _ _ _ c.if-depth-eq0.false _ c.head_at-head.ensures c.if-head-eq-TABLE.false _ c.shape_of.ensures c.in-0.is

pub returns-in-1 : goal.returns-in-1
returns-in-1 t c =
    sees_one _ _ _ _ c.if-depth-eq0.false _ c.head_at-head.ensures c.if-head-eq-TABLE.false _ c.shape_of.ensures _ c.in-1.is c.look_part.ensures

pub returns-in_ok-middle-in_default : goal.returns-in_ok-middle-in_default
returns-in_ok-middle-in_default t c =
    sees_two _ _ _ _ c.if-depth-eq0.false _ c.head_at-head.ensures c.if-head-eq-TABLE.false _ c.shape_of.ensures c.in_ok-middle-in_default.ensures (λ e. omega arith)
    (λ e. omega arith) _
    c.look_part-in_default-2.ensures
