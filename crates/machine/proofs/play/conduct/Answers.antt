-- What each part leaves is what the next one asks.
use Rattle.machine.proofs.play.conduct.Goals as goal

pub returns : goal.returns
returns c =
    let r = rw c.new-marked.ensures at c.answer-r.ensures in
    (r.0, r.1, rw c.play-c.array_long at (c.fill.ensures.after (λ y h. h)))
