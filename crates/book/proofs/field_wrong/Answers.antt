-- `field_wrong` meets its contract: one law for each answer. Assumes nothing.
use Rattle.book.proofs.OperandLaws.{field_absent, field_right, field_over}
use Rattle.book.proofs.field_wrong.Goals as goal
use Rattle.book.proofs.field_wrong.Goals.{else-at-s-via-then-at-s+else-s-at, else-at-s-via-else-at-s}

pub returns-then-s-at : goal.returns-then-s-at
returns-then-s-at c = field_over _ _ _ c.if-at-s.true c.if-s-at.true

pub returns-else-at-s : goal.returns-else-at-s
returns-else-at-s c =
    elim c.else-at-s.branch [
      | else-at-s-via-then-at-s+else-s-at w ↦ field_right _ _ _ w.if-at-s.true w.if-s-at.false
      | else-at-s-via-else-at-s w ↦ field_absent _ _ _ w.if-at-s.false
    ]
