-- `add_use` meets its contract. Assumes nothing.
use Rattle.typing.specs.Walking.{note_use}
use Rattle.typing.proofs.Notes.add_use.Goals as goal

pub returns : goal.returns
unfolding note_use
returns c = rw (c.max.ensures, c.from-i.ensures)
