-- `masks_right` meets its contract. Assumes nothing.
use native.Mathlib.Omega.{arith}
use mathlib.Core.Path.{sym, ◌∙◌}
use Rattle.book.proofs.LayoutLaws.{masks_step, masks_stop, masks_end}
use Rattle.book.proofs.masks_right.Goals as goal

pub loop-x-preserved : goal.loop-x-preserved
loop-x-preserved c = record {
  fields = c.loop-x.invariant.fields;
  entries = (c.loop-x.invariant.entries.0, omega arith);
  left =
      c.loop-x.invariant.left
      ∙ masks_step _ _ _ _ _ c.loop-x.invariant.fields (omega arith) c.entry_masks.ensures c.if-not-entry_masks.false;
}

pub returns-then-not-entry_masks : goal.returns-then-not-entry_masks
returns-then-not-entry_masks c =
    sym
    (c.loop-x.invariant.left ∙ masks_stop _ _ _ _ _ c.loop-x.invariant.fields (omega arith) c.entry_masks.ensures
    c.if-not-entry_masks.true)

pub returns-else-not-entry_masks : goal.returns-else-not-entry_masks
returns-else-not-entry_masks c =
    sym
    (c.loop-x.invariant.left ∙ masks_step _ _ _ _ _ c.loop-x.invariant.fields (omega arith) c.entry_masks.ensures
    c.if-not-entry_masks.false ∙ masks_end _ _ _ (omega arith))
