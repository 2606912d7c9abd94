-- By whether there is a row i.
use native.Mathlib.Omega.{arith}
use Rattle.rows.specs.Chunks.{rows_of}
use Rattle.rows.proofs.Chunks.{length_rows_lem}
use Rattle.sets.proofs.Rows.{slice_at}
use borrow.Author.Rules.{rules}
use Rattle.sets.proofs.weigh.Goals as goal

pub returns-then-i-e : goal.returns-then-i-e
returns-then-i-e g c =
    let a = c.args in
    let R = rows_of g.row.R a.a.now in
    rw (slice_at R a.i a.e (search rules) (omega (arith, length_rows_lem g.row.R a.a.now, c.requires))) (rw c.row.ensures at c.order_row.ensures)
