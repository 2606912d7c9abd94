-- `masks_wrong` meets its contract: one law for each answer. Assumes nothing.
use mathlib.Core.Path.{sym, ◌∙◌}
use Rattle.book.proofs.OperandLaws.{masks_first, masks_second, masks_small}
use Rattle.book.proofs.masks_wrong.Goals as goal

pub returns-then-not-small_mask : goal.returns-then-not-small_mask
returns-then-not-small_mask c =
    masks_first _ _ _ c.requires (rw c.byte_at.ensures at (sym c.small_mask.ensures ∙ c.if-not-small_mask.true))

pub returns-then-small_mask : goal.returns-then-small_mask
returns-then-small_mask c =
    masks_small _ _ _ c.requires (rw c.byte_at.ensures at (sym c.small_mask.ensures ∙ c.if-not-small_mask.false))
    (rw c.byte_at-2.ensures at (sym c.small_mask-2.ensures ∙ c.if-small_mask.true))

pub returns-else-small_mask : goal.returns-else-small_mask
returns-else-small_mask c =
    masks_second _ _ _ c.requires (rw c.byte_at.ensures at (sym c.small_mask.ensures ∙ c.if-not-small_mask.false))
    (rw c.byte_at-2.ensures at (sym c.small_mask-2.ensures ∙ c.if-small_mask.false))
