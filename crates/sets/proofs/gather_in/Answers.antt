-- The first k rows of v, with those from j on, make the whole.
use Prim.Native.Nat.{◌≤◌}
use mathlib.Core.Path.{◌∙◌}
use native.Mathlib.Omega.{arith}
use lib.ListN.{length}
use lib.Seq.{take_all}
use Rattle.sets.proofs.Inserting.{inserted_some, sorting_next, sorting_end}
use borrow.Author.Rules.{rules}
use Rattle.sets.proofs.gather_in.Goals as goal

pub unwrap-k-requires : goal.unwrap-k-requires
unwrap-k-requires g c =
    let x = c.args in
    inserted_some g.row.R _ _ c.loop-j.k _ _ (omega (arith, c.loop-j-test.true, c.loop-j.invariant.below, c.requires.room)) c.insert_in.ensures

pub loop-j-preserved : goal.loop-j-preserved
loop-j-preserved g c =
    let p = c.row.result.now in
    let l : length p ≤ g.row.R = omega arith in
    sorting_next c.loop-j.j c.args.n c.loop-j.invariant _ (search rules) c.requires.room (take_all g.row.R p l ∙ c.row.ensures)
    (rw c.unwrap-k.ensures at c.insert_in.ensures)

pub returns : goal.returns
returns g c =
    sorting_end c.loop-j.j c.args.n c.loop-j.invariant (omega arith) c.requires c.clear_rows.ensures
