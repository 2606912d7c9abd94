-- There is no room, or by where the packet goes: it is there, or it is put in the gap.
use Prim.Native.Nat.{◌≤◌}
use mathlib.Core.Path.{◌≡◌}
use native.Mathlib.Omega.{arith}
use lib.ListN.{take}
use lib.Seq.{length-take-le}
use Rattle.rows.specs.Chunks.{rows_of}
use Rattle.rows.proofs.Chunks.{length_rows_lem}
use Rattle.sets.proofs.Inserting.{inserted, inserted_there, inserted_full}
use Rattle.sets.proofs.insert_in.Goals as goal

pub returns-then-k-ge-MOST : goal.returns-then-k-ge-MOST
returns-then-k-ge-MOST g c =
    let e : c.unwrap-row.result.now ≡ take g.row.R c.args.p.now = (rw c.unwrap-row.ensures at c.first_chunk.ensures.cases).same in
    rw (c.then_some.ensures, ← e)
    (inserted_full _ c.args.k c.has_row.result (omega (arith, c.requires.0, c.if-k-ge-MOST.true)) c.requires.2 c.requires.3 c.has_row.ensures)

pub returns-in_default : goal.returns-in_default
returns-in_default g c =
    let e : c.unwrap-row.result.now ≡ take g.row.R c.args.p.now = (rw c.unwrap-row.ensures at c.first_chunk.ensures.cases).same in
    rw (← e) (inserted_there _ c.args.k c.requires.0 c.requires.2 (rw c.in_default.is at c.place_in.ensures))

pub returns : goal.returns
returns g c =
    let a = c.args in
    let e : c.unwrap-row.result.now ≡ take g.row.R c.args.p.now = (rw c.unwrap-row.ensures at c.first_chunk.ensures.cases).same in
    let f = rw c.in-Some.is at c.place_in.ensures in
    let n = length_rows_lem g.row.R a.w.now in
    let b : c.in-Some.i ≤ a.k = omega (arith, f.0, length-take-le a.k (rows_of g.row.R a.w.now) (omega (arith, c.requires.0))) in
    rw (← e) (inserted _ c.in-Some.i c.args.k b (omega (arith, c.if-k-ge-MOST.false)) c.raise.ensures c.put_row.ensures f.1)
