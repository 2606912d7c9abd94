-- p goes before all packets from place i on.
use Prim.Native.Nat.{◌+◌, ◌-◌}
use mathlib.Core.Path.{◌≡◌, sym, ◌∙◌}
use native.Mathlib.Omega.{arith}
use Rattle.rows.specs.Chunks.{rows_of}
use Rattle.rows.proofs.Chunks.{length_rows_lem}
use Rattle.sets.proofs.Inserting.{placed_start, placed_here, placed_there, placed_on}
use Rattle.sets.proofs.place_in.Goals as goal

pub loop-i-init : goal.loop-i-init
loop-i-init g c = let a = c.args in placed_start (rows_of g.row.R a.w.now) a.p.now a.k

pub returns-in-Greater : goal.returns-in-Greater
returns-in-Greater g c =
    let R = rows_of g.row.R c.args.w.now in
    let i = c.loop-i.i in
    let e : i - 1 + 1 ≡ i = omega (arith, c.loop-i-test.true) in
    rw e (placed_here R c.args.p.now c.args.k i (omega (arith, length_rows_lem g.row.R c.args.w.now, c.requires.0)) c.requires.2
    c.loop-i-test.true c.loop-i.auto.i (sym c.order_row-o.ensures ∙ c.in-Greater.is) c.loop-i.invariant)

pub returns-in-Equal : goal.returns-in-Equal
returns-in-Equal g c =
    let R = rows_of g.row.R c.args.w.now in
    placed_there R c.args.p.now c.args.k c.loop-i.i (omega (arith, length_rows_lem g.row.R c.args.w.now, c.requires.0)) c.requires.2
    c.loop-i-test.true c.loop-i.auto.i (sym c.order_row-o.ensures ∙ c.in-Equal.is)

pub loop-i-preserved : goal.loop-i-preserved
loop-i-preserved g c =
    let R = rows_of g.row.R c.args.w.now in
    placed_on R c.args.p.now c.args.k c.loop-i.i (omega (arith, length_rows_lem g.row.R c.args.w.now, c.requires.0)) c.requires.2
    c.loop-i-test.true c.loop-i.auto.i (sym c.order_row-o.ensures ∙ c.in-Less.is)

pub returns : goal.returns
returns g c = let e : c.loop-i.i ≡ 0 = omega (arith, c.loop-i-test.false) in (omega arith, rw e at c.loop-i.invariant)
