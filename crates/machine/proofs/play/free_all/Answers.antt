-- Each turn gives the next lower number.
use native.Mathlib.Omega.{arith}
use Rattle.machine.proofs.Starting.{freeing_starts, freeing_turns}
use Rattle.machine.proofs.play.free_all.Goals as goal

pub loop-n-init : goal.loop-n-init
loop-n-init c = freeing_starts c.args.work.now

pub loop-n-preserved : goal.loop-n-preserved
loop-n-preserved c = freeing_turns _ _ _ (omega arith) c.loop-n.invariant c.give_back.ensures
