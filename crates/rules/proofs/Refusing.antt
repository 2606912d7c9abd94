-- When each of the numbers 1 to 7 is given: one law for each, under what the numbers before it have tested ("Order: 1 to 7"). With
-- `passed_is` these are all cases, so each number is given exactly if its rule is the first that is broken.
use Rattle.std.specs.Prelude.{Err, Result, ℕ}
use Prim.Native.Nat.{ℕ, suc, ◌≤◌}
use mathlib.Core.Path.{◌≡◌, refl, ap, ◌∙◌}
use mathlib.Core.Bool.{Bool, true, false}
use mathlib.Core.List.{List, [], ◌∷◌, ◌++◌}
use mathlib.Core.Option.{some}
use lib.Dec.{leb, eqb}
use lib.ListN.{length}
use borrow.Author.Tests.{leb-true, le-leb, eq-eqb, ne_eqb}
use Rattle.rules.specs.declared.Reason.{Reason}
use Rattle.rules.specs.declared.Reason.TheVariants.{BookLength, Counts, Lengths, EntryMasks, Form, Limits, Typing}
use Rattle.rules.specs.Parts.{parts, deep}
use Rattle.rules.specs.Books.{most_fields, most_tables, most_bytes, most_parts, most_beside}
use Rattle.rules.specs.Checks.{no_place, in_book, Check, check, check_at, first_failed}
use Rattle.rules.specs.Reading.{fields_of, tables_of, body_start, read_entries, masks_right, main_of, policy_of, typing_faults}
use Rattle.rules.specs.Reading.{goes_on, stops_at, no_fault, first_of, form_checks, book_checks, verdict}
use Rattle.rules.proofs.CheckLaws.{AllHold, end, ◌&◌, first_failed_lem, failed_before, group_failed}
use Rattle.rules.proofs.Whole.{Readable}
use Rattle.rules.proofs.Acceptance.{checks_refused}

-- two rows with the same refusal, of which one fails
either_fails : (a b : Bool) (r : Reason) (rest : List Check) → ((a ≡ true) × (b ≡ true) → ⊥)
    → first_failed (check a r ∷ check b r ∷ rest) ≡ some (no_place r)
unfolding first_failed
either_fails true true r rest h = absurd (h (refl, refl))
either_fails true false r rest h = refl
either_fails false b r rest h = refl

one_fails : (a b c : Bool) (r : Reason) (rest : List Check) → ((a ≡ true) × (b ≡ true) × (c ≡ true) → ⊥)
    → first_failed (check a r ∷ check b r ∷ check c r ∷ rest) ≡ some (no_place r)
unfolding first_failed
one_fails true b c r rest h = either_fails b c r rest (λ k. h (refl, k.0, k.1))
one_fails false b c r rest h = refl

-- the rules of 1, 2 and 6, in numbers
abbrev pub LengthKept : List ℕ → Type 0
LengthKept s = (2 ≤ length s) × (length s ≤ most_bytes)

abbrev pub CountsKept : List ℕ → Type 0
CountsKept s = (1 ≤ fields_of s) × (fields_of s ≤ most_fields) × (tables_of s ≤ most_tables)

abbrev pub LimitsKept : List ℕ → Type 0
LimitsKept s = (parts (main_of s) ≤ most_parts) × (deep (main_of s) ≤ most_beside)

-- the rows of 1, 2, 3 to 5 and 6
module _ (s : List ℕ) where
  abbrev length_rows : List Check
  length_rows = check (leb 2 (length s)) BookLength ∷ check (leb (length s) most_bytes) BookLength ∷ []

  abbrev count_rows : List Check
  count_rows =
      check (leb 1 (fields_of s)) Counts ∷ check (leb (fields_of s) most_fields) Counts ∷ check (leb (tables_of s) most_tables) Counts ∷ []

  lengths_hold : LengthKept s → {rest : List Check} → AllHold rest → AllHold (length_rows ++ rest)
  lengths_hold k h = le-leb 2 (length s) k.0 & le-leb (length s) most_bytes k.1 & h

  counts_hold : CountsKept s → {rest : List Check} → AllHold rest → AllHold (count_rows ++ rest)
  counts_hold k h =
      le-leb 1 (fields_of s) k.0 & le-leb (fields_of s) most_fields k.1 & le-leb (tables_of s) most_tables k.2 & h

  pub refused_length : (LengthKept s → ⊥) → verdict s ≡ Err (no_place BookLength)
  unfolding book_checks form_checks
  refused_length h =
      checks_refused s _ (failed_before length_rows _ _ (either_fails (leb 2 (length s)) (leb (length s) most_bytes) BookLength []
      (λ k. h (leb-true 2 (length s) k.0, leb-true (length s) most_bytes k.1))))

  module _ (long : LengthKept s) where
    pub refused_counts : (CountsKept s → ⊥) → verdict s ≡ Err (no_place Counts)
    unfolding book_checks form_checks
    refused_counts h =
        checks_refused s _ (group_failed length_rows count_rows _ _ (lengths_hold long end)
        (one_fails (leb 1 (fields_of s)) (leb (fields_of s) most_fields) (leb (tables_of s) most_tables) Counts []
        (λ k. h (leb-true 1 (fields_of s) k.0, leb-true (fields_of s) most_fields k.1, leb-true (tables_of s) most_tables k.2))))

    module _ (counts : CountsKept s) where
      pub refused_lengths : (body_start s (suc (tables_of s)) ≡ length s → ⊥) → verdict s ≡ Err (no_place Lengths)
      unfolding book_checks form_checks
      refused_lengths h =
          checks_refused s _ (first_failed_lem (length_rows ++ count_rows) _ _ (lengths_hold long (counts_hold counts end))
          (ne_eqb (body_start s (suc (tables_of s))) (length s) h))

      module _ (lengths : body_start s (suc (tables_of s)) ≡ length s) where
        same_length : eqb (body_start s (suc (tables_of s))) (length s) ≡ true
        same_length = eq-eqb (body_start s (suc (tables_of s))) (length s) lengths

        pub refused_masks : masks_right s (suc (tables_of s)) 0 ≡ false → verdict s ≡ Err (no_place EntryMasks)
        unfolding book_checks form_checks
        refused_masks h =
            checks_refused s _ (first_failed_lem (length_rows ++ (count_rows ++ (check _ Lengths ∷ []))) _ _
            (lengths_hold long (counts_hold counts (same_length & end))) h)

        pub refused_form : masks_right s (suc (tables_of s)) 0 ≡ true → (at : ℕ) → read_entries s (suc (tables_of s)) 0 ≡ Err at
            → verdict s ≡ Err (in_book Form at)
        unfolding book_checks form_checks
        refused_form masks at h =
            checks_refused s _
            (first_failed_lem (length_rows ++ (count_rows ++ (check _ Lengths ∷ check _ EntryMasks ∷ []))) _ _
            (lengths_hold long (counts_hold counts (same_length & masks & end))) (ap goes_on h)
            ∙ ap (λ (x : Result ℕ ℕ). some (in_book Form (stops_at x))) h)

  module _ (readable : Readable s) where
    -- past 1 to 5, which 6 and 7 leave
    abbrev form_rows : List Check
    form_rows =
        length_rows
        ++ (count_rows
        ++ (check (eqb (body_start s (suc (tables_of s))) (length s)) Lengths
        ∷ check (masks_right s (suc (tables_of s)) 0) EntryMasks
        ∷ check_at (goes_on (read_entries s (suc (tables_of s)) 0)) Form (stops_at (read_entries s (suc (tables_of s)) 0))
        ∷ []))

    form_holds : {rest : List Check} → AllHold rest → AllHold (form_rows ++ rest)
    form_holds h =
        lengths_hold readable.bytes
        (counts_hold (readable.fields.0, readable.fields.1, readable.tables)
        (eq-eqb (body_start s (suc (tables_of s))) (length s) readable.lengths & readable.masks & ap goes_on readable.form.1 & h))

    pub refused_limits : (LimitsKept s → ⊥) → verdict s ≡ Err (no_place Limits)
    unfolding book_checks form_checks
    refused_limits h =
        checks_refused s _ (group_failed form_rows (check _ Limits ∷ check _ Limits ∷ []) _ _ (form_holds end)
        (either_fails (leb (parts (main_of s)) most_parts) (leb (deep (main_of s)) most_beside) Limits []
        (λ k. h (leb-true (parts (main_of s)) most_parts k.0, leb-true (deep (main_of s)) most_beside k.1))))

    -- the place of 7 is the first of the faults: the concurrent parts that are not right, then the bodies that do not fit
    pub refused_typing : LimitsKept s → (at : ℕ) (l : List ℕ) → typing_faults (policy_of s) ≡ at ∷ l → verdict s ≡ Err (in_book Typing at)
    unfolding book_checks form_checks
    refused_typing limits at l h =
        checks_refused s _
        (first_failed_lem (form_rows ++ (check (leb (parts (main_of s)) most_parts) Limits ∷ check (leb (deep (main_of s)) most_beside) Limits ∷ []))
        _ [] (form_holds (le-leb (parts (main_of s)) most_parts limits.0 & le-leb (deep (main_of s)) most_beside limits.1 & end))
        (ap no_fault h) ∙ ap (λ (x : List ℕ). some (in_book Typing (first_of x))) h)
