-- `look_table` meets its contract.
use mathlib.Core.Path.{sym, ◌∙◌}
use Rattle.evaluator.proofs.Opening.{sees_open, sees_use}
use Rattle.evaluator.proofs.look_table.Goals as goal

pub returns-then-length_of-eq0 : goal.returns-then-length_of-eq0
returns-then-length_of-eq0 c = sees_open _ _ c.args.next (sym c.length_of.ensures.length ∙ c.if-length_of-eq0.true)

pub returns : goal.returns
returns c = sees_use _ _ _ (λ e. c.if-length_of-eq0.false (c.length_of.ensures.length ∙ e))
