-- `body_start` meets its contract: the loop keeps where the body of entry i starts. Assumes nothing.
use Rattle.book.proofs.PlaceLaws.{start_zero, start_more}
use borrow.Author.Rules.{rules}
use Rattle.book.proofs.body_start.Goals as goal

pub loop-i-init : goal.loop-i-init
loop-i-init c = (rw c.from.ensures (start_zero _ _ c.byte_at.ensures), search rules)

pub loop-i-preserved : goal.loop-i-preserved
loop-i-preserved c = (start_more _ _ _ _ c.loop-i.invariant.0 c.length_of-at.ensures.length, search rules)
