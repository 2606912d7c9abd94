-- What the loop of `walking` keeps, and what falls.
use Rattle.typing.specs.Walking.{state, walked, tally_of}
use Rattle.typing.proofs.CycleLaws.{Round}
use Prim.Native.Nat.{◌+◌, ◌*◌}
use Rattle.typing.proofs.+walking.Given as goal

abbrev pub invariant-walk-loop-way : goal.invariant-walk-loop-way
invariant-walk-loop-way l =
    Round l.s l.notes (state l.st) l.depth l.way (walked l.s l.fn.way l.fn.depth (tally_of (state l.fn.st) l.initial.notes)) l.fn.way.level l.fn.depth

abbrev pub decreases-walk-loop-way : goal.decreases-walk-loop-way
decreases-walk-loop-way l = l.depth

abbrev pub decreases-beside_part : goal.decreases-beside_part
decreases-beside_part l = 4 * l.depth + 2

abbrev pub decreases-side : goal.decreases-side
decreases-side l = 4 * l.depth + 1

abbrev pub decreases-walk : goal.decreases-walk
decreases-walk l = 4 * l.depth
