-- What the loop of `lays::+lay` keeps, and what falls.
use Rattle.steps.proofs.lays.+lay.Given as goal

abbrev pub decreases-lay : goal.decreases-lay
decreases-lay l = l.n
