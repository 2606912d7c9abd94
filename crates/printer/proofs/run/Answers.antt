-- What is written is what is printed for the front of the input, and so for the whole.
use Rattle.std.proofs.Common.{◌≡◌, ℕ, List, take, subst, ap, ◌∙◌}
use Rattle.std.specs.Prelude.{Option, Some, None, IfSome, Result, Ok, Err, OnOk}
use Rattle.std.specs.Io.KnownBytes.{Appends}
use Rattle.printer.specs.declared.TheConstants.{MOST_INPUT}
use Rattle.printer.specs.Printing.{printed}
use Rattle.printer.proofs.Enough.{enough}
use Rattle.printer.proofs.run.Goals as goal

sent : {A E : Type 0} (r : Result A E) (o old new : Option (List ℕ)) (input out : List ℕ) → OnOk r (Appends old new out)
    → IfSome o (λ bytes. input ≡ take MOST_INPUT bytes) → out ≡ printed input → OnOk r (IfSome o (λ bytes. Appends old new (printed bytes)))
sent (Err e) o old new input out w f p = w
sent (Ok a) None old new input out w f p = tt
sent (Ok a) (Some bytes) old new input out w f p = subst (Appends old new) (p ∙ ap printed f ∙ enough bytes) w

pub returns : goal.returns
returns g c =
    sent _ _ _ _ c.in_ok-input.input.items c.as_bytes.result.now c.write_all.ensures.bytes c.in_ok-input.ensures
    (c.as_bytes.ensures.value ∙ c.as_str.ensures.value ∙ rw c.as_slice.ensures.value at c.print_run.ensures)
