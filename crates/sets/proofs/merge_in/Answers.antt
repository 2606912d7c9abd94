-- The first k rows of v, with the union of those from i on and the packets of b from j on, are the whole.
use Prim.Native.Nat.{ℕ, ◌+◌, ◌<◌}
use mathlib.Core.Path.{◌≡◌, sym, ◌∙◌}
use mathlib.Core.List.{List, [], ◌∷◌}
use native.Mathlib.Omega.{arith}
use lib.ListN.{get_or}
use lib.Seq.{slice}
use Rattle.rules.proofs.Sets.{union_ascending}
use Rattle.rows.specs.Chunks.{rows_of, Packed}
use Rattle.rows.proofs.Chunks.{length_rows_lem}
use Rattle.rows.proofs.Clearing.{cleared_all}
use Rattle.sets.proofs.Rows.{slice_at, slice_end}
use Rattle.sets.proofs.Merging.{merging_less, merging_same, merging_more, merging_over}
use Rattle.sets.proofs.Merging.{merging_end, ascending_at, length_joined}
use borrow.Author.Rules.{rules}
use Rattle.sets.proofs.merge_in.Goals as goal

-- the packets of b that are still to be merged begin with the one at hand
below : (r j m : ℕ) (b : List ℕ) → j < m → Packed r b m
    → slice j m (rows_of r b) ≡ get_or (rows_of r b) j [] ∷ slice (j + 1) m (rows_of r b)
below r j m b l p = slice_at (rows_of r b) j m l (omega (arith, length_rows_lem r b, p.room))

pub loop-j-preserved-in-Less : goal.loop-j-preserved-in-Less
loop-j-preserved-in-Less g c =
    let x = c.args in
    let o = sym c.weigh-o.ensures ∙ c.in-Less.is in
    let a = ascending_at x.m c.loop-j.j c.requires.1 (search rules) in (
      search rules,
      merging_less c.loop-j.i x.e c.loop-j.k c.requires.0.top c.loop-j.invariant.1 _ _ (below g.row.R _ x.m _ (search rules) c.requires.1) a o
          c.move_row.ensures,
    )

pub loop-j-preserved-in-Equal : goal.loop-j-preserved-in-Equal
loop-j-preserved-in-Equal g c =
    let x = c.args in
    let o = sym c.weigh-o.ensures ∙ c.in-Equal.is in
    let a = ascending_at x.m c.loop-j.j c.requires.1 (search rules) in (
      omega arith,
      merging_same c.loop-j.i x.e c.loop-j.k c.requires.0.top c.loop-j.invariant.1 _ _ (below g.row.R _ x.m _ (search rules) c.requires.1) a o
          c.move_row-in-Equal.ensures,
    )

pub returns-then-k-i : goal.returns-then-k-i
returns-then-k-i g c =
    let x = c.args in
    let o = sym c.weigh-o.ensures ∙ c.in-Greater.is in
    let a = ascending_at x.m c.loop-j.j c.requires.1 (search rules) in
    let m = c.loop-j.invariant.1 in (
      merging_over c.loop-j.i x.e c.loop-j.k c.requires.0.top m _ _
          (below g.row.R _ x.m _ (search rules) c.requires.1) a x.h x.m o c.if-k-i.true c.requires.0.low
          (length_joined c.requires.0 c.requires.1) c.requires.0.room,
      cleared_all c.clear_rows.ensures c.requires.0.top m.zeros,
    )

pub loop-j-preserved : goal.loop-j-preserved
loop-j-preserved g c =
    let x = c.args in
    let o = sym c.weigh-o.ensures ∙ c.in-Greater.is in
    let a = ascending_at x.m c.loop-j.j c.requires.1 (search rules) in (
      omega arith,
      merging_more c.loop-j.i x.e c.loop-j.k c.requires.0.top c.loop-j.invariant.1 _ _
          (below g.row.R _ x.m _ (search rules) c.requires.1) a o c.if-k-i.false
          (rw c.row.ensures at c.put_row.ensures),
    )

pub returns : goal.returns
returns g c =
    let x = c.args in
    let z = slice_end (rows_of g.row.R x.b.now) c.loop-j.j x.m (search rules) in
    merging_end c.loop-j.i x.e c.loop-j.k c.requires.0.top c.loop-j.invariant.1 _ z c.lower.ensures
    (union_ascending _ _ c.requires.0.order)
