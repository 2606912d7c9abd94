-- `entry_masks` meets its contract. Assumes nothing.
use Rattle.rules.specs.Masks.{apart}
use Rattle.rules.specs.Books.{masks_fit}
use native.Mathlib.Omega.{arith}
use Rattle.std.proofs.lemmas.Grind.{common_steps}
use Rattle.book.proofs.entry_masks.Goals as goal

pub returns-then-small_mask : goal.returns-then-small_mask
unfolding masks_fit apart
returns-then-small_mask c = grind (arith, common_steps)

pub returns-else-small_mask : goal.returns-else-small_mask
unfolding masks_fit apart
returns-else-small_mask c = grind (arith, common_steps)
