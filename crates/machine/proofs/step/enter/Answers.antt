-- The code tells which part is entered.
use mathlib.Core.Path.{◌≡◌}
use Rattle.machine.specs.Steps.{code_at}
use native.Mathlib.Omega.{arith}
use Rattle.steps.proofs.Standing.{code_small}
use Rattle.machine.proofs.Positions.{code_read, entering_as, table_left}
use Rattle.machine.proofs.step.enter.Goals as goal

pub enter_leaf-requires : goal.enter_leaf-requires
enter_leaf-requires c =
    let e = code_read c.requires c.head-h.ensures c.head_at-code.ensures.head in
    (entering_as e c.requires.entering, omega (arith, c.requires.acts, e), omega arith)

pub enter_not-requires : goal.enter_not-requires
enter_not-requires c =
    let e : 4 ≡ code_at c.args.book.now c.args.work.now c.args.i = omega (arith, code_read c.requires c.head-h.ensures c.head_at-code.ensures.head) in
    entering_as e c.requires.entering

pub enter_sum-requires : goal.enter_sum-requires
enter_sum-requires c =
    let e : 5 ≡ code_at c.args.book.now c.args.work.now c.args.i = omega (arith, code_read c.requires c.head-h.ensures c.head_at-code.ensures.head) in
    entering_as e c.requires.entering

pub enter_beside-requires : goal.enter_beside-requires
enter_beside-requires c =
    let e : 7 ≡ code_at c.args.book.now c.args.work.now c.args.i = omega (arith, code_read c.requires c.head-h.ensures c.head_at-code.ensures.head) in
    entering_as e c.requires.entering

pub enter_table-requires : goal.enter_table-requires
enter_table-requires c =
    let e = code_read c.requires c.head-h.ensures c.head_at-code.ensures.head in
    let eight = table_left e (code_small c.requires.entering.stands) c.requires.single (omega arith) (λ z. omega arith)
    (λ z. omega arith) (λ z. omega arith) in
    entering_as eight c.requires.entering
