-- `bodies` meets its contract. Assumes nothing.
use Rattle.typing.proofs.EndLaws.{ended_all, ended_off, form_refused}
use Rattle.typing.proofs.bodies.Goals as goal

pub sentence-requires : goal.sentence-requires
sentence-requires c = (c.requires, ended_all _ _ _ _ c.in-Ok.is c.all_bodies.ensures)

pub returns-in-Err : goal.returns-in-Err
returns-in-Err c = form_refused _ c.requires _ (ended_off _ _ _ _ c.in-Err.is c.all_bodies.ensures)
