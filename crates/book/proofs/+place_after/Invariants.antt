-- `place_after` ends: the depth that is left.
use Rattle.book.proofs.+place_after.Given as goal

abbrev pub decreases-place_after : goal.decreases-place_after
decreases-place_after l = l.depth
