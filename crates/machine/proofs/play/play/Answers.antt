-- Each turn of the loop is one choice.
use lib.ListN.{length}
use mathlib.Core.Path.{◌≡◌, refl}
use native.Mathlib.Omega.{arith}
use Rattle.machine.proofs.Playing.{play_starts, can_advance, play_turns, play_ends, play_over}
use Rattle.machine.proofs.play.play.Goals as goal

pub loop-n-init : goal.loop-n-init
loop-n-init c = play_starts c.args.schedule.now c.requires.1

pub returns-then-c-eq0 : goal.returns-then-c-eq0
returns-then-c-eq0 c = play_over _ _ _ _ _ _ _ c.loop-n.invariant c.if-c-eq0.true

pub advance-c-requires : goal.advance-c-requires
advance-c-requires c = can_advance _ _ _ _ _ _ _ c.loop-n.invariant c.requires.0

pub loop-n-preserved : goal.loop-n-preserved
loop-n-preserved c =
    play_turns _ _ _ _ _ _ _ c.loop-n.invariant _ _ _ _ c.loop-n-test.true refl c.if-c-eq0.false c.advance-c.ensures

pub returns : goal.returns
returns c =
    let e : length c.args.schedule.now ≡ c.loop-n.n = omega arith in
    rw e (play_ends _ _ _ _ _ _ _ c.loop-n.invariant c.loop-n-test.false)
