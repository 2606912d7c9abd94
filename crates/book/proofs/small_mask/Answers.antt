-- `book::small_mask` meets its contract. Assumes nothing.
use native.Mathlib.Nat.{lt_of_lt_of_le}
use mathlib.Core.Path.{sym, ◌∙◌}
use lib.Pow.{pow_mono}
use borrow.Author.Tests.{lt-ltb, le-leb}
use Rattle.book.proofs.small_mask.Goals as goal

pub returns-then-k-ge-MOST_FIELDS : goal.returns-then-k-ge-MOST_FIELDS
returns-then-k-ge-MOST_FIELDS c =
    let h = c.if-k-ge-MOST_FIELDS.true in
    le-leb _ _ h ∙ sym (lt-ltb _ _ (lt_of_lt_of_le c.ranges.b.fits (pow_mono h)))
