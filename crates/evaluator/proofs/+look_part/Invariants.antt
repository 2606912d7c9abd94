-- What the loop of `look_part` keeps, and what falls.
use Rattle.evaluator.proofs.+look_part.Given as goal

abbrev pub decreases-look_part : goal.decreases-look_part
decreases-look_part l = l.depth
