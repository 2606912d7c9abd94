-- The first k packets of v, with what of the others from i on is not in b from j on, are the whole.
use mathlib.Core.Path.{sym, ◌∙◌}
use native.Mathlib.Omega.{arith}
use Rattle.rules.proofs.Sets.{keep_ascending}
use Rattle.sets.proofs.Rows.{sliding_row, keep_end}
use Rattle.sets.proofs.Sifting.{sifted_less, sifted_same, sifted_more}
use borrow.Author.Rules.{rules}
use Rattle.sets.proofs.difference_in.Goals as goal

pub loop-i-preserved-in-Less : goal.loop-i-preserved-in-Less
loop-i-preserved-in-Less g c =
    let s = sliding_row c.loop-i.invariant.3 (omega (arith, c.requires.0.room)) in
    let e = sym (rw s at c.weigh_out-o.ensures) ∙ c.in-Less.is in
    let y = sifted_less c.loop-i.i c.loop-i.j c.requires.0 c.requires.1 (search rules) c.loop-i.invariant.3 (search rules) e in
    (omega arith, search rules, omega arith, y (rw s at c.move_row.ensures))

pub loop-i-preserved-in-Equal : goal.loop-i-preserved-in-Equal
loop-i-preserved-in-Equal g c =
    let s = sliding_row c.loop-i.invariant.3 (omega (arith, c.requires.0.room)) in
    let e = sym (rw s at c.weigh_out-o.ensures) ∙ c.in-Equal.is in
    let y = sifted_same c.loop-i.i c.loop-i.j c.requires.0 c.requires.1 (search rules) c.loop-i.invariant.3 e in
    (omega arith, omega (arith, y.0), omega arith, y.1)

pub loop-i-preserved : goal.loop-i-preserved
loop-i-preserved g c =
    let s = sliding_row c.loop-i.invariant.3 (omega (arith, c.requires.0.room)) in
    let e = sym (rw s at c.weigh_out-o.ensures) ∙ c.in-Greater.is in
    let y = sifted_more c.loop-i.i c.loop-i.j c.requires.0 c.requires.1 (search rules) c.loop-i.invariant.3 e in
    (search rules, omega (arith, y.0), search rules, y.1)

pub returns : goal.returns
returns g c =
    let e = keep_end _ c.args.n c.loop-i.i c.loop-i.invariant.3 c.requires.0 in
    e (search rules) (search rules) (search rules) (keep_ascending _ _ c.requires.0.order) c.clear_rows.ensures
