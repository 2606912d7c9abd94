-- What the loop of `play::free_all` keeps.
use Rattle.machine.specs.Answered.{Freed}
use Rattle.machine.proofs.play.free_all.Given as goal

abbrev pub invariant-loop-n : goal.invariant-loop-n
invariant-loop-n l = Freed l.work l.n
