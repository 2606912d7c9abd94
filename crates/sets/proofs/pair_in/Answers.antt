-- The first c packets of v, with the pairings of the packets from j on, make the whole.
use Prim.Native.Nat.{◌≤◌}
use native.Mathlib.Omega.{arith}
use lib.ListN.{length}
use lib.Seq.{take_all}
use Rattle.sets.proofs.Inserting.{gathering_next}
use Rattle.sets.proofs.Pairing.{gather_at, pairing_over, pairing_end}
use borrow.Author.Rules.{rules}
use Rattle.sets.proofs.pair_in.Goals as goal

pub returns-in_err-c : goal.returns-in_err-c
returns-in_err-c g c =
    let x = c.args in
    let q = c.mixed-q.result in
    let l : length q ≤ g.row.R = omega arith in
    let e = rw (c.in_err-c.was, take_all g.row.R q l, c.mixed-q.ensures, c.row.ensures, c.row-in-loop-j.ensures) at c.insert_in.ensures in
    rw c.from_residual.ensures (pairing_over _ x.y.now x.v.now x.m x.k c.loop-j.j c.loop-j.invariant (search rules) c.requires.3.room e)

pub loop-j-preserved : goal.loop-j-preserved
loop-j-preserved g c =
    let x = c.args in
    let q = c.mixed-q.result in
    let l : length q ≤ g.row.R = omega arith in
    let e = rw (c.in_ok-c.was, take_all g.row.R q l, c.mixed-q.ensures, c.row.ensures, c.row-in-loop-j.ensures) at c.insert_in.ensures in
    gathering_next (gather_at _ x.y.now x.m c.loop-j.j c.loop-j.invariant (search rules) c.requires.3.room) e

pub returns : goal.returns
returns g c =
    let x = c.args in
    pairing_end _ x.y.now x.v.now x.m x.k c.loop-j.j c.loop-j.invariant (search rules)
