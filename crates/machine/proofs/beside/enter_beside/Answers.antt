-- By how many packets the set has.
use mathlib.Core.Path.{sym, ap, ◌∙◌}
use Rattle.area.specs.declared.headers.Header.{Header}
use Rattle.machine.proofs.Sides.{none_entered}
use Rattle.machine.proofs.beside.enter_beside.Goals as goal

pub returns-in-0 : goal.returns-in-0
returns-in-0 c =
    rw c.ended.ensures
    (none_entered c.requires (sym (ap (λ (h : Header). h.count) c.head-h.ensures) ∙ c.in-0.is) (rw c.head-h.ensures at c.finish.ensures))

pub returns-in_default : goal.returns-in_default
returns-in_default c = c.enter_split.ensures c.args.book.now c.requires
