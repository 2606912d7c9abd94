-- What may be relied on of an accepted book's main policy, each from the verdict alone.
use Rattle.std.specs.Prelude.{Ok}
use Prim.Native.Nat.{ℕ, ◌≤◌}
use mathlib.Core.Path.{◌≡◌}
use mathlib.Core.List.{List}
use lib.ListN.{length}
use Rattle.rules.specs.declared.Sizes.{Sizes}
use Rattle.rules.specs.Masks.{all_fields, Sub}
use Rattle.rules.specs.Parts.{Formed, parts, deep}
use Rattle.rules.specs.Typing.{Right, tested, written}
use Rattle.rules.specs.Books.{most_fields, most_bytes, most_parts, most_beside, entries, Book, Bytes}
use Rattle.rules.specs.Reading.{fields_of, main_of, policy_of, sizes_of, verdict}
use Rattle.rules.proofs.Whole.{Readable}
use Rattle.rules.proofs.FieldsBelow.{FieldsBelow}
use Rattle.rules.proofs.FineLaws.{main_formed, main_below, main_tested, main_written}
use Rattle.rules.proofs.Acceptance.{passed_was, accepted}

module _ (s : List ℕ) (z : Sizes) (yes : verdict s ≡ Ok z) where
  pub accepted_sizes : z ≡ sizes_of s
  accepted_sizes = (passed_was s z yes).1

  pub accepted_readable : Readable s
  accepted_readable = (passed_was s z yes).0.readable

  pub accepted_length : length s ≤ most_bytes
  accepted_length = accepted_readable.bytes.1

  pub accepted_fields : (1 ≤ fields_of s) × (fields_of s ≤ most_fields)
  accepted_fields = accepted_readable.fields

  pub accepted_parts : parts (main_of s) ≤ most_parts
  accepted_parts = (passed_was s z yes).0.parts

  pub accepted_deep : deep (main_of s) ≤ most_beside
  accepted_deep = (passed_was s z yes).0.deep

  module _ (small : Bytes s) where
    pub accepted_book : Book (policy_of s)
    accepted_book = (accepted s small z yes).0

    pub accepted_formed : Formed (main_of s)
    unfolding policy_of
    accepted_formed = main_formed (policy_of s) accepted_book.formed

    pub accepted_right : Right (main_of s)
    unfolding policy_of entries
    accepted_right = accepted_book.typed.0.0

    pub accepted_below : FieldsBelow (fields_of s) (main_of s)
    unfolding policy_of
    accepted_below = main_below (policy_of s) accepted_book.formed

    pub accepted_tested : Sub (tested (main_of s)) (all_fields (fields_of s))
    unfolding policy_of
    accepted_tested = main_tested (policy_of s) accepted_book.formed

    pub accepted_written : Sub (written (main_of s)) (all_fields (fields_of s))
    unfolding policy_of
    accepted_written = main_written (policy_of s) accepted_book.formed
