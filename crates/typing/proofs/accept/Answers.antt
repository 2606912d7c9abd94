-- `accept` meets its contract: one law for each refusal. Assumes nothing.
use borrow.Author.Tests.{eqb-true, eqb-false}
use Rattle.rules.proofs.Answering.{accept_answer}
use Rattle.rules.proofs.HandingUp.{handed_up}
use Rattle.typing.proofs.EndLaws.{check_off, check_on, test_1, test_2, test_3, test_4}
use Rattle.typing.proofs.accept.Goals as goal

pub returns-in_err-check : goal.returns-in_err-check
returns-in_err-check c =
    let o = check_off _ _ _ _ c.check.ensures c.in_err-check.was in
    accept_answer (rw (handed_up c.from_residual.ensures.1, o.1) (test_1 _ _ c.length_right.ensures o.0))

pub returns-in_err-check-2 : goal.returns-in_err-check-2
returns-in_err-check-2 c =
    let q1 = check_on _ _ _ _ c.check.ensures c.in_ok-check.was in
    let o = check_off _ _ _ _ c.check-2.ensures c.in_err-check-2.was in
    accept_answer (rw (handed_up c.from_residual-in_err-check-2.ensures.1, o.1)
    (test_2 _ _ c.length_right.ensures q1 _ _ _ c.byte_at.ensures c.byte_at-m.ensures c.counts_right.ensures o.0))

pub returns-in_err-check-3 : goal.returns-in_err-check-3
returns-in_err-check-3 c =
    let q1 = check_on _ _ _ _ c.check.ensures c.in_ok-check.was in
    let q2 = check_on _ _ _ _ c.check-2.ensures c.in_ok-check-2.was in
    let o = check_off _ _ _ _ c.check-3.ensures c.in_err-check-3.was in
    accept_answer (rw (handed_up c.from_residual-in_err-check-3.ensures.1, o.1)
    (test_3 _ _ c.length_right.ensures q1 _ _ _ c.byte_at.ensures c.byte_at-m.ensures c.counts_right.ensures q2 _
    c.body_start.ensures.place (eqb-false _ _ o.0)))

pub returns-in_err-check-4 : goal.returns-in_err-check-4
returns-in_err-check-4 c =
    let q1 = check_on _ _ _ _ c.check.ensures c.in_ok-check.was in
    let q2 = check_on _ _ _ _ c.check-2.ensures c.in_ok-check-2.was in
    let q3 = check_on _ _ _ _ c.check-3.ensures c.in_ok-check-3.was in
    let o = check_off _ _ _ _ c.check-4.ensures c.in_err-check-4.was in
    accept_answer (rw (handed_up c.from_residual-in_err-check-4.ensures.1, o.1)
    (test_4 _ _ c.length_right.ensures q1 _ _ _ c.byte_at.ensures c.byte_at-m.ensures c.counts_right.ensures q2 _
    c.body_start.ensures.place (eqb-true _ _ q3) _ c.masks_right.ensures o.0))
