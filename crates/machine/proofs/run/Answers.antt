-- `run` meets its contract: the book's own refusal, or the run of an accepted book. Assumes nothing.
use mathlib.Core.Path.{sym}
use Rattle.rules.proofs.HandingUp.{handed_up}
use Rattle.machine.proofs.Running.{refused_book}
use Rattle.machine.proofs.run.Goals as goal

pub returns-in_err-sizes : goal.returns-in_err-sizes
returns-in_err-sizes c =
    rw (handed_up c.from_residual.ensures.1) (refused_book _ _ _ _ _ _ (sym c.in_err-sizes.ensures.is))
