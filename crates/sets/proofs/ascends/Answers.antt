-- The rows from i - 1 on ascend.
use mathlib.Core.Path.{sym, ◌∙◌}
use native.Mathlib.Omega.{arith}
use Rattle.rows.specs.Chunks.{rows_of}
use Rattle.rows.proofs.Chunks.{length_rows_lem}
use Rattle.sets.proofs.Inserting.{ascends_last, ascends_next}
use Rattle.sets.proofs.ascends.Goals as goal

pub loop-i-init : goal.loop-i-init
loop-i-init g c =
    let R = rows_of g.row.R c.args.v.now in
    ascends_last R c.args.n (omega (arith, length_rows_lem g.row.R c.args.v.now, c.requires.0))

pub loop-i-preserved : goal.loop-i-preserved
loop-i-preserved g c =
    let R = rows_of g.row.R c.args.v.now in
    let e = sym (rw c.row.ensures at c.order_row-o.ensures) ∙ c.in-Less.is in
    let n = ascends_next R c.args.n c.loop-i.i c.loop-i-test.true c.loop-i.auto.i
    (omega (arith, length_rows_lem g.row.R c.args.v.now, c.requires.0)) in
    n c.loop-i.invariant e
