-- `evaluate` meets its contract.
use Rattle.rules.proofs.HandingUp.{handed_up}
use Rattle.evaluator.proofs.Answering.{refused}
use Rattle.evaluator.proofs.evaluate.Goals as goal

pub returns-in_err-sizes : goal.returns-in_err-sizes
returns-in_err-sizes c =
    rw (handed_up c.from_residual.ensures.1) (refused _ _ _ _ c.in_err-sizes.ensures.is)
