-- `fit_state` meets its contract. Assumes nothing.
use native.Mathlib.Omega.{arith}
use Rattle.std.proofs.lemmas.Grind.{common_steps}
use Rattle.rules.specs.Typing.{fit_masks}
use Rattle.typing.proofs.fit_state.Goals as goal

pub returns-then-within : goal.returns-then-within
unfolding fit_masks
returns-then-within c = grind (arith, common_steps)

pub returns-else-within : goal.returns-else-within
unfolding fit_masks
returns-else-within c = grind (arith, common_steps)
