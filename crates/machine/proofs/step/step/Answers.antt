-- The phase tells which step it is, and that it is the own step of whatever stands there.
use mathlib.Core.Path.{sym, ap, ◌∙◌}
use Rattle.area.specs.declared.headers.Header.{Header}
use Rattle.machine.proofs.Phases.{above_two}
use Rattle.machine.proofs.Positions.{entered_steps, taken_steps, lacked_steps, joined_steps}
use Rattle.machine.proofs.step.step.Goals as goal

pub returns-in-Placed : goal.returns-in-Placed
returns-in-Placed c = entered_steps (sym (ap (λ (h : Header). h.phase) c.head-h.ensures) ∙ c.in-Placed.is) c.enter.ensures

pub returns-in-Waiting : goal.returns-in-Waiting
returns-in-Waiting c =
    let e = c.head-h.ensures in
    taken_steps (sym (ap (λ (h : Header). h.phase) e) ∙ c.in-Waiting.is) (λ f. rw e at (c.take_next.ensures f))

pub returns-in-Negated : goal.returns-in-Negated
returns-in-Negated c =
    let e = c.head-h.ensures in
    lacked_steps (sym (ap (λ (h : Header). h.phase) e) ∙ c.in-Negated.is) (rw e at (c.leave_not.ensures c.args.book.now))

pub returns-in-Entered : goal.returns-in-Entered
returns-in-Entered c =
    let e = c.head-h.ensures in
    joined_steps (above_two (rw e at c.in-Entered.is)) (rw e at c.leave_both.ensures)
