-- `table_wrong` meets its contract: one law for each answer. Assumes nothing.
use borrow.Author.Rules.{rules}
use Rattle.book.proofs.OperandLaws.{table_absent, table_right, table_over}
use Rattle.book.proofs.table_wrong.Goals as goal
use Rattle.book.proofs.table_wrong.Goals.{else-at-s-via-then-at-s+else-not-contains, else-at-s-via-else-at-s}

pub returns-then-not-contains : goal.returns-then-not-contains
returns-then-not-contains c = table_over _ _ _ c.if-at-s.true _ (search rules) c.if-not-contains.true

pub returns-else-at-s : goal.returns-else-at-s
returns-else-at-s c =
    elim c.else-at-s.branch [
      | else-at-s-via-then-at-s+else-not-contains w ↦ table_right _ _ _ w.if-at-s.true _ (search rules) w.if-not-contains.false
      | else-at-s-via-else-at-s w ↦ table_absent _ _ _ w.if-at-s.false
    ]
