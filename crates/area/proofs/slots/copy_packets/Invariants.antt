-- What the loop of `slots::copy_packets` keeps.
use Rattle.area.proofs.Lending.{Copying}
use Rattle.area.proofs.slots.copy_packets.Given as goal

abbrev pub invariant-loop-k : goal.invariant-loop-k
invariant-loop-k l = Copying l.initial.work l.i l.m l.j l.n l.work l.k
