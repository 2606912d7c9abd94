-- `read_operands` meets its contract: one law for each answer. Assumes nothing.
use Rattle.book.proofs.OperandLaws.{read_past, read_wrong, read_cut, read_next}
use Rattle.book.proofs.read_operands.Goals as goal

pub returns-then-s-at : goal.returns-then-s-at
returns-then-s-at c = read_past _ _ _ _ _ c.if-s-at.true

pub returns-in-Some : goal.returns-in-Some
returns-in-Some c = read_wrong _ _ _ _ _ _ _ c.in-Some.is c.operand_wrong.ensures

pub returns-then-s-end : goal.returns-then-s-end
returns-then-s-end c = read_cut _ _ _ _ _ _ c.in_default.is c.operand_wrong.ensures _ c.shape_of.ensures c.if-s-end.true

pub returns-else-s-end : goal.returns-else-s-end
returns-else-s-end c = read_next _ _ _ _ _ _ c.in_default.is c.operand_wrong.ensures _ c.shape_of.ensures c.if-s-end.false
