-- `within` meets its contract. Assumes nothing.
use borrow.Author.Rules.{rules}
use Rattle.rules.specs.Masks.{within}
use Rattle.typing.proofs.within.Goals as goal

pub returns : goal.returns
unfolding within
returns c = search rules
