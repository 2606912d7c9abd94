-- With fewer than five words lent, and else by what was laid.
use borrow.Author.Rules.{rules}
use Rattle.exports.proofs.FaceLaws.{run_short, run_laid}
use Rattle.exports.proofs.hamstedew_run.Goals as goal

pub returns-then-progress-lt-FACE_WORDS : goal.returns-then-progress-lt-FACE_WORDS
returns-then-progress-lt-FACE_WORDS c = run_short c.if-progress-lt-FACE_WORDS.true

pub returns : goal.returns
returns c =
    run_laid (search rules) (rw c.run.ensures.is at c.lay_ran.ensures) c.run.ensures.out c.run.ensures.work
