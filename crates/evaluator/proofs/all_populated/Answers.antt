-- `all_populated` meets its contract: with the last table all are populated.
use native.Mathlib.Omega.{arith}
use mathlib.Core.Path.{◌∙◌}
use Rattle.evaluator.proofs.Opening.{populated_next}
use Rattle.evaluator.proofs.all_populated.Goals as goal

pub loop-x-init : goal.loop-x-init
loop-x-init c = λ y l u e. omega arith

pub loop-x-preserved : goal.loop-x-preserved
loop-x-preserved c =
    populated_next c.args.book.now _ c.loop-x.invariant (λ e. c.if-length_of-eq0.false (c.length_of.ensures.length ∙ e))

pub returns-else-length_of-eq0 : goal.returns-else-length_of-eq0
returns-else-length_of-eq0 c =
    let next = populated_next c.args.book.now _ c.loop-x.invariant (λ e. c.if-length_of-eq0.false (c.length_of.ensures.length ∙ e)) in
    λ e x p u. next x p (omega (arith, c.byte_at-x-end.ensures))
