-- What `?` hands up: the refusal as it came.
use mathlib.Core.Path.{◌≡◌, ap}
use Rattle.std.specs.Prelude.{Result, Ok, Err}
use Rattle.std.specs.Result.{IsErrAnd}

pub handed_up : {A E : Type 0} {r : Result A E} {e : E} → IsErrAnd r (λ x. x ≡ e) → r ≡ Err e
handed_up {A = A} {E = E} {r = Ok _} {e = e} q = elim q [ ]
handed_up {r = Err x} q = ap Err q
