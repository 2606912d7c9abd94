-- What is printed, one law for each way that document 01's order leads to.
use Rattle.std.specs.Prelude.{Err, Ok}
use Prim.Native.Nat.{ℕ, ◌+◌, ◌*◌, ◌≤◌, ◌<◌}
use mathlib.Core.Path.{◌≡◌, ◌∙◌}
use mathlib.Core.List.{List, [], ◌∷◌, ◌++◌}
use lib.Dec.{leb}
use lib.ListN.{length}
use borrow.Author.Tests.{le-leb, lt-leb}
use Rattle.rules.specs.declared.Reason.TheVariants.{BookLength, PacketLength, Input}
use Rattle.rules.specs.declared.Refusal.{Refusal}
use Rattle.rules.specs.declared.Sizes.{Sizes}
use Rattle.rules.specs.Books.{most_bytes}
use Rattle.rules.specs.Checks.{no_place, Check, check, first_failed}
use Rattle.rules.specs.Reading.{number_at, fields_of, book_checks, verdict}
use Rattle.rules.proofs.CheckLaws.{AllHold, end, ◌&◌, none_failed, after_held, group_failed}
use Rattle.rules.proofs.Acceptance.{accepted_checks, refused_checks}
use Rattle.printer.specs.Printing.{most_choices, book_in, after_book, schedule_in, refused_line, ran_lines, ran_in, ends_with}
use Rattle.printer.specs.Printing.{print_checks, printed_by, printed}

module _ (input : List ℕ) where
  pub printed_no_length : length input < 2 → printed input ≡ refused_line (no_place Input)
  unfolding printed print_checks first_failed
  printed_no_length h = rw (lt-leb 2 (length input) h)

  module _ (two : 2 ≤ length input) where
    pub printed_long_book : most_bytes < number_at input 0 → printed input ≡ refused_line (no_place BookLength)
    unfolding printed print_checks first_failed
    printed_long_book h = rw (le-leb 2 (length input) two, lt-leb (number_at input 0) most_bytes h)

    module _ (few : number_at input 0 ≤ most_bytes) where
      pub printed_cut_book : length input < 2 + number_at input 0 → printed input ≡ refused_line (no_place Input)
      unfolding printed print_checks first_failed
      printed_cut_book h =
          rw (le-leb 2 (length input) two, le-leb (number_at input 0) most_bytes few, lt-leb (2 + number_at input 0) (length input) h)

      module _ (whole : 2 + number_at input 0 ≤ length input) where
        -- the checks before the book's own hold
        abbrev front : List Check
        front =
            check (leb 2 (length input)) Input
            ∷ check (leb (number_at input 0) most_bytes) BookLength
            ∷ check (leb (2 + number_at input 0) (length input)) Input
            ∷ []

        front_holds : AllHold front
        front_holds =
            le-leb 2 (length input) two & le-leb (number_at input 0) most_bytes few & le-leb (2 + number_at input 0) (length input) whole & end

        pub printed_refused : (r : Refusal) → verdict (book_in input) ≡ Err r → printed input ≡ refused_line r
        unfolding printed print_checks
        printed_refused r e =
            rw (group_failed front (book_checks (book_in input)) _ r front_holds (refused_checks (book_in input) r e))

        module _ (z : Sizes) (yes : verdict (book_in input) ≡ Ok z) where
          -- past the book's own
          last : printed input
              ≡ printed_by (first_failed (check (leb (2 * fields_of (book_in input)) (length (after_book input))) PacketLength
              ∷ check (leb (length (schedule_in input)) most_choices) Input ∷ []))
              (ran_lines (fields_of (book_in input)) (ends_with input) (ran_in input))
          unfolding printed print_checks
          last =
              rw (
                after_held front (book_checks (book_in input) ++ _) (none_failed front front_holds),
                after_held (book_checks (book_in input)) _ (accepted_checks (book_in input) z yes),
              )

          pub printed_cut_packet : length (after_book input) < 2 * fields_of (book_in input)
              → printed input ≡ refused_line (no_place PacketLength)
          unfolding first_failed
          printed_cut_packet h = last ∙ rw (lt-leb (2 * fields_of (book_in input)) (length (after_book input)) h)

          module _ (packet : 2 * fields_of (book_in input) ≤ length (after_book input)) where
            pub printed_long_schedule : most_choices < length (schedule_in input) → printed input ≡ refused_line (no_place Input)
            unfolding first_failed
            printed_long_schedule h =
                last
                ∙ rw (
                  le-leb (2 * fields_of (book_in input)) (length (after_book input)) packet,
                  lt-leb (length (schedule_in input)) most_choices h,
                )

            pub printed_ran : length (schedule_in input) ≤ most_choices
                → printed input ≡ ran_lines (fields_of (book_in input)) (ends_with input) (ran_in input)
            unfolding first_failed
            printed_ran h =
                last
                ∙ rw (
                  le-leb (2 * fields_of (book_in input)) (length (after_book input)) packet,
                  le-leb (length (schedule_in input)) most_choices h,
                )
