-- `apart` meets its contract. Assumes nothing.
use borrow.Author.Rules.{rules}
use Rattle.rules.specs.Masks.{apart}
use Rattle.typing.proofs.apart.Goals as goal

pub returns : goal.returns
unfolding apart
returns c = search rules
