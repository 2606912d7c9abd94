-- `operand_wrong` meets its contract: one law for each kind of operand. Assumes nothing.
use native.Mathlib.Omega.{arith}
use mathlib.Core.Logic.{inl, inr}
use Rattle.book.proofs.OperandLaws.{by_field, by_masks, by_table, by_none}
use Rattle.book.proofs.operand_wrong.Goals as goal

pub returns-in-7 : goal.returns-in-7
returns-in-7 c = by_masks _ _ _ _ _ _ c.in-7.is c.masks_wrong.ensures

pub returns-in-8 : goal.returns-in-8
returns-in-8 c = by_table _ _ _ _ _ _ c.in-8.is c.table_wrong.ensures

pub returns-in-2 : goal.returns-in-2
returns-in-2 c = by_field _ _ _ _ _ _ (omega arith) (omega arith) c.field_wrong.ensures

pub returns-in_default : goal.returns-in_default
returns-in_default c = by_none _ _ _ _ _ (λ e. omega arith) (λ e. omega arith) (inl (omega arith))

pub returns-in_default-2 : goal.returns-in_default-2
returns-in_default-2 c = by_none _ _ _ _ _ (λ e. omega arith) (λ e. omega arith) (inr (omega arith))
