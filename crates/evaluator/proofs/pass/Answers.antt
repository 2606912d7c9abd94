-- `pass` meets its contract: 9, then the main policy is worked through.
use mathlib.Core.Path.{sym, ◌∙◌}
use Rattle.rules.proofs.HandingUp.{handed_up}
use Rattle.evaluator.proofs.WorkLaws.{counted}
use Rattle.evaluator.proofs.Answering.{main_fair, main_wide, main_through}
use Rattle.evaluator.proofs.pass.Goals as goal

pub evaluate_part-requires : goal.evaluate_part-requires
evaluate_part-requires c =
    main_fair _ _ c.body_start-start.ensures.place _ c.requires.passable.accepted.1 (sym c.names_open.ensures ∙ c.if-names_open.false)

pub returns-in_err-w : goal.returns-in_err-w
returns-in_err-w c =
    rw (handed_up c.from_residual.ensures.1)
    (main_wide _ _ c.body_start-start.ensures.place _ c.requires.alone (sym c.names_open.ensures ∙ c.if-names_open.false) c.in_err-w.ensures)

pub returns : goal.returns
returns c =
    main_through _ _ c.body_start-start.ensures.place _ c.requires.alone (sym c.names_open.ensures ∙ c.if-names_open.false) c.in_ok-w.ensures
    (counted c.evaluate_part.new.set)
