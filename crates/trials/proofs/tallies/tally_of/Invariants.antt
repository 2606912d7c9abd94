-- What was counted of the vectors before the rest.
use Rattle.trials.specs.Sets.{vectors_of}
use Rattle.trials.specs.Tallies.{asked}
use Rattle.trials.proofs.Counting.{Going}
use Rattle.trials.proofs.tallies.tally_of.Given as goal

abbrev pub invariant-loop-v : goal.invariant-loop-v
invariant-loop-v l =
    (goal.iterator-loop-v).can_next l.v-iterator × (goal.iterator-loop-v).is_finite l.v-iterator
    × Going (asked l.question) (vectors_of l.set) (vectors_of l.v-iterator.0.now) l.cases l.found l.first
