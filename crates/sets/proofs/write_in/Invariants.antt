-- What the loop of `write_in` keeps.
use Rattle.rules.specs.Packets.{put}
use Rattle.sets.specs.Lists.{Changed}
use Rattle.sets.proofs.write_in.Given as goal

abbrev pub invariant-loop-i : goal.invariant-loop-i
invariant-loop-i g l = Changed g.row.R l.v l.initial.v l.i (put l.f l.x)
