-- `print_answer` meets its contract, for each answer of the machine.
use Rattle.std.specs.Prelude.{Ok}
use native.Mathlib.Omega.{arith}
use mathlib.Core.Path.{refl, ap, ◌∙◌}
use borrow.Author.Rules.{rules}
use Rattle.printer.proofs.Finishing.{finished_asks, text_refused, text_running, text_finished}
use Rattle.printer.proofs.print_answer.Goals as goal

pub finished-requires : goal.finished-requires
finished-requires c =
    let asks = finished_asks _ _ _ _ _ _ _ c.requires (search rules) (search rules) c.run_accepted.ensures.is
    _ (c.in-Ok-Finished.is ∙ ap Ok c.in-Ok-Finished.field-0-is) (λ i. omega (arith, c.type_inv.book i)) _ _ refl c.run_accepted.ensures.out in
    record { eight = asks.0; few = asks.1; room = asks.2 }

pub returns-in-Ok-Finished : goal.returns-in-Ok-Finished
returns-in-Ok-Finished c =
    let e = text_finished _ _ _ _ _ _ _ c.requires (search rules) (search rules) c.run_accepted.ensures.is
    _ (c.in-Ok-Finished.is ∙ ap Ok c.in-Ok-Finished.field-0-is) (λ i. omega (arith, c.type_inv.book i)) _ _ refl c.run_accepted.ensures.out in
    rw e c.finished.ensures

pub returns-in-Ok-Running : goal.returns-in-Ok-Running
returns-in-Ok-Running c =
    let e = text_running _ _ _ _ _ _ _ c.requires (search rules) (search rules) c.run_accepted.ensures.is
    _ (c.in-Ok-Running.is ∙ ap Ok c.in-Ok-Running.field-0-is) in
    rw e c.running.ensures

pub returns-in-Err : goal.returns-in-Err
returns-in-Err c =
    let e = text_refused _ _ _ _ _ _ _ c.requires (search rules) (search rules) c.run_accepted.ensures.is
    _ c.in-Err.is in
    rw e c.refused.ensures
