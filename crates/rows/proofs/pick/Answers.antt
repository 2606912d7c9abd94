-- The bit of the mask decides.
use borrow.Author.Tests.{eq-eqb, ne_eqb}
use Rattle.rules.specs.Masks.{has}
use Rattle.rows.proofs.pick.Goals as goal

pub returns-then-w-f-eq1 : goal.returns-then-w-f-eq1
unfolding has
returns-then-w-f-eq1 c = rw (eq-eqb _ _ c.if-w-f-eq1.true)

pub returns-else-w-f-eq1 : goal.returns-else-w-f-eq1
unfolding has
returns-else-w-f-eq1 c = rw (ne_eqb _ _ c.if-w-f-eq1.false)
