-- Of what the reader has, where that is known, the front is there.
use Rattle.std.proofs.Common.{◌≡◌, ℕ, List, take, length, ap, ◌∙◌}
use Rattle.std.specs.Prelude.{Option, Some, None, IfSome}
use Rattle.std.specs.List.{refill}
use lib.Seq.{take_at}
use Rattle.printer.specs.declared.TheConstants.{MOST_INPUT}
use Rattle.printer.proofs.read_front.Goals as goal

-- a buffer of the vector's length is written back whole
cut : (o : Option (List ℕ)) (n most : ℕ) (items old buf : List ℕ) → items ≡ take n (refill (length old) old buf) → length buf ≡ length old
    → most ≡ MOST_INPUT → IfSome o (λ bytes. take n buf ≡ take most bytes) → IfSome o (λ bytes. items ≡ take MOST_INPUT bytes)
cut None n most items old buf e l m h = h
cut (Some bytes) n most items old buf e l m h =
    e ∙ ap (take n) (take_at buf _ (length old) l) ∙ h ∙ ap (λ k. take k bytes) m

pub returns : goal.returns
returns g c =
    let whole = ap length c.as_mut_slice.ensures.value in
    cut _ _ _ _ _ _ c.truncate.ensures.items (c.in_ok-n.ensures.kept ∙ whole) (whole ∙ c.from-input.ensures.1) c.in_ok-n.ensures.bytes
