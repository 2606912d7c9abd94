-- What the loop of `masks_right` keeps: what is left to test are the entries from x on.
use Prim.Native.Nat.{suc, ◌-◌, ◌≤◌}
use mathlib.Core.Path.{◌≡◌}
use Rattle.rules.specs.Reading.{fields_of, tables_of, masks_right}
use Rattle.book.proofs.masks_right.Given as goal

abbrev pub invariant-loop-x : goal.invariant-loop-x
invariant-loop-x l = record {
  fields : l.k ≡ fields_of l.book;
  entries : (l.x-end ≡ tables_of l.book) × (l.x ≤ l.x-end);
  left : masks_right l.book (suc (tables_of l.book)) 0 ≡ masks_right l.book (suc l.x-end - l.x) l.x;
}
