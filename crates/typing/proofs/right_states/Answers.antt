-- `right_states` meets its contract. Assumes nothing.
use native.Mathlib.Omega.{arith}
use Rattle.std.proofs.lemmas.Grind.{common_steps}
use Rattle.rules.specs.Typing.{right_masks}
use Rattle.typing.proofs.right_states.Goals as goal

pub returns-then-apart-2 : goal.returns-then-apart-2
unfolding right_masks
returns-then-apart-2 c = grind (arith, common_steps)

pub returns-else-apart-2 : goal.returns-else-apart-2
unfolding right_masks
returns-else-apart-2 c = grind (arith, common_steps)
