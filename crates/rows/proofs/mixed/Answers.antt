-- Value f is written after those before it.
use mathlib.Core.Path.{◌∙◌}
use native.Mathlib.Omega.{arith}
use lib.ListN.{length-set}
use Rattle.rows.proofs.Mixing.{mixed_next, mixed_end}
use Rattle.rows.proofs.mixed.Goals as goal

pub loop-f-preserved : goal.loop-f-preserved
loop-f-preserved g c =
    let a = c.args in
    let l = c.loop-f in (
      length-set l.t l.f c.pick.result ∙ l.invariant.0,
      mixed_next a.w a.p.now a.q.now l.t l.f c.pick.result (omega (arith, c.loop-f-test.true, c.told-p)) l.invariant.0 c.pick.ensures l.invariant.1,
    )

pub returns : goal.returns
returns g c =
    let a = c.args in
    mixed_end a.w a.p.now a.q.now c.loop-f.t c.loop-f.f (omega (arith, c.loop-f-test.false, c.told-p)) c.loop-f.invariant.0 c.loop-f.invariant.1
