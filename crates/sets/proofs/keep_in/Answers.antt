-- The first k packets of v are those that pass of the first i.
use mathlib.Core.Path.{sym, ◌∙◌}
use native.Mathlib.Omega.{arith}
use Rattle.rules.proofs.Sets.{keep_ascending}
use Rattle.sets.proofs.Rows.{sliding_row, keep_yes, keep_no, keep_end}
use borrow.Author.Rules.{rules}
use Rattle.sets.proofs.keep_in.Goals as goal
use Rattle.sets.proofs.keep_in.Goals.{then-passes_at, else-passes_at}

pub loop-i-preserved : goal.loop-i-preserved
loop-i-preserved g c =
    let m = c.loop-i.invariant in
    let i = c.loop-i.i in
    let l = c.loop-i-test.true in
    let e = sliding_row m.1 (omega (arith, l, c.requires.room)) in
    let t = rw e at c.passes_at.ensures in
    elim c.if-passes_at.branch [
      | then-passes_at w ↦
          rw (w.k-is, w.v-is)
          (omega arith, keep_yes _ c.args.n i m.1 c.requires l m.0 (sym t ∙ w.if-passes_at.true) (rw e at w.move_row.ensures))
      | else-passes_at w ↦
          rw (w.k-is, w.v-is)
          (omega (arith, m.0), keep_no _ c.args.n i m.1 c.requires l (sym t ∙ w.if-passes_at.false))
    ]

pub returns : goal.returns
returns g c =
    let e = keep_end _ c.args.n c.loop-i.i c.loop-i.invariant.1 c.requires in
    e (search rules) (search rules) (search rules) (keep_ascending _ _ c.requires.order) c.clear_rows.ensures
