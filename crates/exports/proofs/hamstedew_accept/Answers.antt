-- With fewer than five words lent, and else by what was laid.
use borrow.Author.Rules.{rules}
use Rattle.exports.proofs.FaceLaws.{face_short, face_laid}
use Rattle.exports.proofs.hamstedew_accept.Goals as goal

pub returns-then-sizes-lt-FACE_WORDS : goal.returns-then-sizes-lt-FACE_WORDS
returns-then-sizes-lt-FACE_WORDS c = face_short c.if-sizes-lt-FACE_WORDS.true

pub returns : goal.returns
returns c = face_laid (search rules) (rw c.accept.ensures.is at c.lay_verdict.ensures)
