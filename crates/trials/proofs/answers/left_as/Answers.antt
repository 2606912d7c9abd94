-- `left_as` meets its contract, with or without the stated words in front.
use Rattle.std.proofs.Common.{rules}
use Rattle.rules.specs.Answers.{overwritten}
use Rattle.trials.specs.Agreement.{left}
use Rattle.trials.proofs.Comparing.{stripped}
use Rattle.trials.proofs.answers.left_as.Goals as goal

pub returns : goal.returns
unfolding left overwritten
returns c =
    let g = c.args in
    stripped g.after.now g.stated.now _ c.strip_prefix.result c.is_some_and.result c.strip_prefix.ensures.cases (search rules)
