-- By whether there is a packet j.
use native.Mathlib.Omega.{arith}
use Rattle.rows.specs.Chunks.{rows_of}
use Rattle.rows.proofs.Chunks.{length_rows_lem}
use Rattle.sets.proofs.Rows.{slice_at}
use borrow.Author.Rules.{rules}
use Rattle.sets.proofs.weigh_out.Goals as goal

pub returns-then-j-m : goal.returns-then-j-m
returns-then-j-m g c =
    let a = c.args in
    let R = rows_of g.row.R a.b.now in
    rw (slice_at R a.j a.m (search rules) (omega (arith, length_rows_lem g.row.R a.b.now, c.requires.2))) (rw c.row.ensures at c.order_row.ensures)
