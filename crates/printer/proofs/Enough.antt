-- What is printed follows from the first 12,307 bytes of the input: a length, a book of 4,096 bytes, a packet of 16, and one byte more
-- than a schedule may have.
use Rattle.std.specs.Prelude.{Err, Ok, Result}
use Rattle.rules.specs.declared.Refusal.{Refusal}
use Prim.Native.Nat.{ℕ, zero, suc, ◌+◌, ◌*◌, ◌≤◌, ◌<◌}
use native.Mathlib.Omega.{arith}
use mathlib.Core.Path.{◌≡◌, refl, sym, ap, ◌∙◌}
use mathlib.Core.Bool.{Bool, true, false}
use mathlib.Core.List.{List, [], ◌∷◌}
use lib.Dec.{ltb, leb, lit<}
use lib.ListN.{length, take, drop, length-drop}
use lib.Seq.{take_all, take-take, length-take-le, get_or-take}
use borrow.Author.Tests.{ltb-true, ltb-false, leb-true, leb-false}
use Rattle.rules.specs.declared.Reason.TheVariants.{Input}
use Rattle.rules.specs.declared.Sizes.{Sizes}
use Rattle.rules.specs.Books.{most_bytes}
use Rattle.rules.specs.Checks.{no_place}
use Rattle.rules.specs.Reading.{number_at, fields_of, verdict}
use Rattle.rules.proofs.AcceptedBooks.{accepted_fields}
use Rattle.printer.specs.Printing.{book_in, after_book, refused_line, printed}
use Rattle.printer.proofs.Ways.{printed_long_book, printed_refused, printed_long_schedule}

-- 2 + 4,096 + 16 + 8,193
abbrev pub most_input : ℕ
most_input = 12307

-- a part of a front is that part of the whole, if the front reaches so far
part_take : (m n w : ℕ) (l : List ℕ) → m + n ≤ w → take n (drop m (take w l)) ≡ take n (drop m l)
part_take zero n w l h = take-take n w l (omega arith)
part_take (suc m) n zero l h = absurd (omega arith)
part_take (suc m) n (suc w) [] h = refl
part_take (suc m) n (suc w) (x ∷ l) h = part_take m n w l (omega arith)

-- with so many bytes and an accepted book, the schedule is too long
module _ (s : List ℕ) (long : most_input ≤ length s) (few : number_at s 0 ≤ most_bytes) (z : Sizes)
    (yes : verdict (book_in s) ≡ Ok z) where
  too_many : printed s ≡ refused_line (no_place Input)
  too_many =
      let k = (accepted_fields (book_in s) z yes).1 in
      let after = length-drop (2 + number_at s 0) s in
      let rest = length-drop (2 * fields_of (book_in s)) (after_book s) in
      printed_long_schedule s (omega arith) few (omega arith) z yes (omega arith) (omega arith)

module _ (l : List ℕ) (long : most_input < length l) where
  cut_length : length (take most_input l) ≡ most_input
  cut_length = length-take-le most_input l (omega arith)

  cut_number : number_at (take most_input l) 0 ≡ number_at l 0
  cut_number = rw (get_or-take most_input l 0 0 (lit< tt), get_or-take most_input l 1 0 (lit< tt))

  module _ (few : number_at l 0 ≤ most_bytes) where
    cut_few : number_at (take most_input l) 0 ≤ most_bytes
    cut_few = rw cut_number few

    cut_book : book_in (take most_input l) ≡ book_in l
    cut_book =
        ap (λ (n : ℕ). take n (drop 2 (take most_input l))) cut_number ∙ part_take 2 (number_at l 0) most_input l (omega arith)

    by_verdict : (v : Result Sizes Refusal) → verdict (book_in l) ≡ v → printed (take most_input l) ≡ printed l
    by_verdict (Err r) e =
        printed_refused (take most_input l) (omega (arith, cut_length)) cut_few (omega (arith, cut_length, cut_few)) r
        (ap verdict cut_book ∙ e)
        ∙ sym (printed_refused l (omega arith) few (omega arith) r e)
    by_verdict (Ok z) e =
        too_many (take most_input l) (omega (arith, cut_length)) cut_few z (ap verdict cut_book ∙ e) ∙ sym (too_many l (omega arith) few z e)

  by_length : (b : Bool) → ltb most_bytes (number_at l 0) ≡ b → printed (take most_input l) ≡ printed l
  by_length true e =
      let over = ltb-true most_bytes (number_at l 0) e in
      printed_long_book (take most_input l) (omega (arith, cut_length)) (rw cut_number over) ∙ sym (printed_long_book l (omega arith) over)
  by_length false e = by_verdict (ltb-false most_bytes (number_at l 0) e) (verdict (book_in l)) refl

by_size : (l : List ℕ) (b : Bool) → leb (length l) most_input ≡ b → printed (take most_input l) ≡ printed l
by_size l true e = ap printed (take_all most_input l (leb-true (length l) most_input e))
by_size l false e = by_length l (leb-false (length l) most_input e) (ltb most_bytes (number_at l 0)) refl

pub enough : (input : List ℕ) → printed (take most_input input) ≡ printed input
enough input = by_size input (leb (length input) most_input) refl
