-- The input's parts: its words, one after the other, and each part of document 01's order as the program takes it.
use Rattle.std.specs.Prelude.{Err, Ok, Result}
use Rattle.rules.specs.declared.Refusal.{Refusal}
use Prim.Native.Nat.{ℕ, zero, suc, ◌+◌, ◌*◌, ◌≤◌, ◌<◌}
use native.Mathlib.Omega.{arith}
use mathlib.Core.Path.{◌≡◌, refl, ap, ◌∙◌}
use mathlib.Core.List.{List, [], ◌∷◌, ◌++◌}
use lib.ListN.{length, take, drop, length-drop}
use lib.Seq.{get_or-drop, get_or-take, drop-drop}
use Rattle.std.proofs.lemmas.List.{drop-take}
use Rattle.rules.specs.declared.Reason.TheVariants.{PacketLength, Input}
use Rattle.rules.specs.declared.Sizes.{Sizes}
use Rattle.rules.specs.Books.{most_bytes}
use Rattle.rules.specs.Checks.{no_place}
use Rattle.rules.specs.Reading.{number_at, fields_of, sizes_of, verdict}
use Rattle.rules.proofs.AcceptedBooks.{accepted_sizes, accepted_fields}
use Rattle.printer.specs.Printing.{most_choices, book_in, after_book, words_in, schedule_in, refused_line, ran_in, ends_with, printed}
use Rattle.printer.specs.Building.{HasBook, ran_text}
use Rattle.printer.proofs.Ways.{printed_refused, printed_cut_packet, printed_long_schedule, printed_ran}

number_drop : (m at : ℕ) (l : List ℕ) → number_at (drop m l) at ≡ number_at l (m + at)
number_drop m at l =
    let e : m + (at + 1) ≡ m + at + 1 = omega arith in
    rw (get_or-drop m l at 0, get_or-drop m l (at + 1) 0, e)

-- one word more
pub words_last : (n : ℕ) (l : List ℕ) → words_in (suc n) l ≡ words_in n l ++ (number_at l (2 * n) ∷ [])
words_last zero l = refl
words_last (suc n) l =
    let e : 2 + 2 * n ≡ 2 * suc n = omega arith in
    rw (words_last n (drop 2 l), number_drop 2 (2 * n) l, e)

pub words_length : (n : ℕ) (l : List ℕ) → length (words_in n l) ≡ n
words_length zero l = refl
words_length (suc n) l = ap suc (words_length n (drop 2 l))

-- of the words' bytes alone
pub words_front : (n : ℕ) (l : List ℕ) → words_in n (take (2 * n) l) ≡ words_in n l
words_front zero l = refl
words_front (suc n) l =
    let e : 2 * suc n ≡ 2 + 2 * n = omega arith in
    let first = get_or-take (2 + 2 * n) l 0 0 (omega arith) in
    let second = get_or-take (2 + 2 * n) l 1 0 (omega arith) in
    rw (e, first, second, drop-take 2 (2 * n) l, words_front n (drop 2 l))

-- ---- the parts as the program cuts them off

pub cut : (input : List ℕ) {n : ℕ} {tail book rest : List ℕ} → 2 ≤ length input → tail ≡ drop 2 input → n ≡ number_at input 0 → n ≤ most_bytes
    → n ≤ length tail → book ≡ take n tail → rest ≡ drop n tail → HasBook input book rest
cut input {n} two t e few long b r =
    let there = length-drop 2 input in
    let tail_long = ap length t in
    record {
      few = rw (← e) few;
      whole = rw (← e) (omega arith);
      book_is = b ∙ rw (t, e);
      rest_is = r ∙ rw (t, e, drop-drop (number_at input 0) 2 input);
    }

pub cut_short : (input : List ℕ) {n : ℕ} {tail : List ℕ} → 2 ≤ length input → tail ≡ drop 2 input → n ≡ number_at input 0 → length tail < n
    → length input < 2 + number_at input 0
cut_short input two t e short =
    let there = length-drop 2 input in
    let tail_long = ap length t in
    rw (← e) (omega arith)

pub fields_few : (book : List ℕ) (z : Sizes) → verdict book ≡ Ok z → z.fields ≤ 8
unfolding sizes_of
fields_few book z ok =
    let fields : z.fields ≡ fields_of book = ap (λ (y : Sizes). y.fields) (accepted_sizes book z ok) in
    rw fields (accepted_fields book z ok).1

module _ {input book rest : List ℕ} (h : HasBook input book rest) where
  two : 2 ≤ length input
  two = omega (arith, h.whole)

  judged : {v : Result Sizes Refusal} → verdict book ≡ v → verdict (book_in input) ≡ v
  judged e = rw h.book_is at e

  pub book_refused : (r : Refusal) → verdict book ≡ Err r → printed input ≡ refused_line r
  book_refused r e = printed_refused input two h.few h.whole r (judged e)

  module _ {z : Sizes} (yes : verdict book ≡ Ok z) where
    fields : z.fields ≡ fields_of (book_in input)
    unfolding sizes_of
    fields = ap (λ (y : Sizes). y.fields) (accepted_sizes (book_in input) z (judged yes))

    pub packet_cut : length rest < 2 * z.fields → printed input ≡ refused_line (no_place PacketLength)
    packet_cut h' = printed_cut_packet input two h.few h.whole z (judged yes) (rw (← fields, ← h.rest_is) h')

    module _ {schedule : List ℕ} (long : 2 * z.fields ≤ length rest) (after : schedule ≡ drop (2 * z.fields) rest) where
      packet : 2 * fields_of (book_in input) ≤ length (after_book input)
      packet = rw (← fields, ← h.rest_is) long

      schedule_is : schedule ≡ schedule_in input
      schedule_is = after ∙ rw (fields, h.rest_is)

      pub schedule_long : most_choices < length schedule → printed input ≡ refused_line (no_place Input)
      schedule_long m = printed_long_schedule input two h.few h.whole z (judged yes) packet (rw (← schedule_is) m)

      pub run_asked : {words packet : List ℕ} → words ≡ take (2 * z.fields) rest → packet ≡ words_in z.fields words → length schedule ≤ most_choices
          → printed input ≡ ran_text book packet schedule
      unfolding ran_text ran_in ends_with
      run_asked w e m =
          printed_ran input two h.few h.whole z (judged yes) packet (rw (← schedule_is) m)
          ∙ rw (e, w, words_front z.fields rest, h.book_is, fields, h.rest_is, schedule_is)
