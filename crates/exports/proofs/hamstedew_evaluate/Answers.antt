-- With fewer than five words lent, and else by what was laid.
use borrow.Author.Rules.{rules}
use Rattle.exports.proofs.FaceLaws.{evaluate_short, evaluate_laid}
use Rattle.exports.proofs.hamstedew_evaluate.Goals as goal

pub returns-then-outcome-lt-FACE_WORDS : goal.returns-then-outcome-lt-FACE_WORDS
returns-then-outcome-lt-FACE_WORDS c = evaluate_short c.if-outcome-lt-FACE_WORDS.true

pub returns : goal.returns
returns c =
    evaluate_laid (search rules) (rw c.evaluate.ensures.is at c.lay_evaluated.ensures) c.evaluate.ensures.out
