-- What the loop of `vectors::words_of` keeps.
use Rattle.std.proofs.Common.{◌≡◌}
use Rattle.trials.specs.Vectors.{words_in}
use Rattle.trials.proofs.vectors.words_of.Given as goal

abbrev pub invariant-loop-i : goal.invariant-loop-i
invariant-loop-i l = l.words.items ≡ words_in l.i l.s
