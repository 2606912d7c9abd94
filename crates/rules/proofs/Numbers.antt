-- The table of numbers, and which of them each call can give: 1 to 7 on a book, 8, 9, 10 and 12 besides for a packet, 11 besides
-- for a run.
use Rattle.std.specs.Prelude.{Err}
use Prim.Native.Nat.{ℕ, ◌≤◌}
use native.Mathlib.Omega.{arith}
use mathlib.Core.Path.{◌≡◌, refl}
use mathlib.Core.Logic.{◌⊎◌, inl, inr}
use mathlib.Core.List.{List, [], ◌∷◌, map}
use mathlib.Core.Option.{Option, none, some}
use lib.Dec.{lit≤}
use Rattle.rules.specs.declared.Reason.TheVariants.{BookLength, Counts, Lengths, EntryMasks, Form, Limits, Typing}
use Rattle.rules.specs.declared.Reason.TheVariants.{PacketLength, Unpopulated, TooWide, Positions, BufferLength, Stuck, Input}
use Rattle.rules.specs.declared.Refusal.{Refusal}
use Rattle.rules.specs.declared.Outcome.{Outcome}
use Rattle.rules.specs.Checks.{no_place, in_book, number_of}
use Rattle.rules.specs.Reading.{form_checks, book_checks, verdict}
use Rattle.rules.specs.Answers.{refusal, refusal_says, outcome, packet_checks, result_check, evaluate_checks, evaluated_by, evaluated}
use Rattle.rules.specs.Ends.{TurnedAway, by_book, by_packet, by_buffer, by_table, by_width, by_room}
use Rattle.rules.proofs.CheckLaws.{OfRefusals, no_more, ◌also◌, of_both, of_more, of_failed}
use Rattle.rules.proofs.Acceptance.{refused_checks}

-- each reason as document 01's number, "and a place, 0 but for three", by computation
pub number-table :
    (map (λ r. refusal_says (no_place r)) (BookLength ∷ Counts ∷ Lengths ∷ EntryMasks ∷ Form ∷ Limits ∷ Typing ∷ [])
    ≡ refusal 1 0 ∷ refusal 2 0 ∷ refusal 3 0 ∷ refusal 4 0 ∷ refusal 5 0 ∷ refusal 6 0 ∷ refusal 7 0 ∷ [])
    × (map (λ r. refusal_says (no_place r)) (PacketLength ∷ Unpopulated ∷ TooWide ∷ Positions ∷ BufferLength ∷ Stuck ∷ Input ∷ [])
    ≡ refusal 8 0 ∷ refusal 9 0 ∷ refusal 10 0 ∷ refusal 11 0 ∷ refusal 12 0 ∷ refusal 13 0 ∷ refusal 14 0 ∷ [])
    × (map (λ r. refusal_says (in_book r 6)) (Form ∷ Typing ∷ Stuck ∷ []) ≡ refusal 5 6 ∷ refusal 7 6 ∷ refusal 13 6 ∷ [])
unfolding refusal_says
number-table = (refl, refl, refl)

book_refusals : (book : List ℕ) → OfRefusals (λ r. number_of r ≤ 7) (book_checks book)
unfolding book_checks form_checks
book_refusals book =
    lit≤ tt also lit≤ tt also lit≤ tt also lit≤ tt also lit≤ tt also lit≤ tt also lit≤ tt also lit≤ tt also lit≤ tt also lit≤ tt
    also lit≤ tt also no_more

pub book_numbers : (book : List ℕ) (r : Refusal) → verdict book ≡ Err r → number_of r ≤ 7
book_numbers book r e = of_failed (λ r. number_of r ≤ 7) (book_checks book) r (book_refusals book) (refused_checks book r e)

not_given : (o : Option Refusal) (u : Outcome) (r : Refusal) → evaluated_by o u ≡ Err r → o ≡ some r
not_given none u r e = let n : ◌≡◌ {A = ℕ} 0 1 = cc in absurd (omega arith)
not_given (some q) u r e = let same : q ≡ r = cc in rw same

abbrev EvaluationNumber : Refusal → Type 0
EvaluationNumber r = (number_of r ≤ 10) ⊎ (number_of r ≡ 12)

packet_refusals : (book packet : List ℕ) (words : ℕ) → OfRefusals EvaluationNumber (packet_checks book packet (result_check book words ∷ []))
unfolding packet_checks
packet_refusals book packet words = inl (lit≤ tt) also inr refl also inl (lit≤ tt) also inl (lit≤ tt) also no_more

pub evaluation_numbers : (book packet : List ℕ) (words : ℕ) (r : Refusal) → evaluated book packet words ≡ Err r
    → (number_of r ≤ 10) ⊎ (number_of r ≡ 12)
unfolding evaluated evaluate_checks
evaluation_numbers book packet words r e =
    of_failed EvaluationNumber _ r
    (of_both EvaluationNumber (book_checks book) _
    (of_more (λ r. number_of r ≤ 7) EvaluationNumber (λ r h. inl (omega (arith, h))) (book_checks book) (book_refusals book))
    (packet_refusals book packet words)) (not_given _ (outcome book packet) r e)

pub run_numbers : (book packet : List ℕ) (words area : ℕ) (r : Refusal) → TurnedAway book packet words area r → number_of r ≤ 12
run_numbers book packet words area r (by_book e) = omega (arith, book_numbers book r e)
run_numbers book packet words area r (by_packet e n) = lit≤ tt
run_numbers book packet words area r (by_buffer f h) = lit≤ tt
run_numbers book packet words area r (by_table b o) = lit≤ tt
run_numbers book packet words area r (by_width b o w) = lit≤ tt
run_numbers book packet words area r (by_room b o w p) = lit≤ tt
