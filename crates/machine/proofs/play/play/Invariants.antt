-- What the loop of `play::play` keeps.
use Rattle.rules.specs.Answers.{start}
use Rattle.machine.proofs.Playing.{Playing}
use Rattle.machine.proofs.play.play.Given as goal

abbrev pub invariant-loop-n : goal.invariant-loop-n
invariant-loop-n l = Playing l.book l.work l.c.free l.c.ready l.n (start l.book l.packet) l.schedule
