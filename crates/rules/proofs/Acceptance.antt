-- A book is accepted exactly when it meets document 01's layout, limits and typing: some policy that is a `Book`, written (`exactly`);
-- the policy is the only one (`unique`), and it is the one that the bytes decode to (`accepted`).
use Rattle.std.specs.Prelude.{Err, Ok, Result, ℕ}
use Prim.Native.Nat.{ℕ, suc, ◌≤◌}
use native.Mathlib.Omega.{arith}
use mathlib.Core.Path.{◌≡◌, refl, sym, ap, ◌∙◌}
use mathlib.Core.Bool.{true, false≢true}
use mathlib.Core.Logic.{◌↔◌}
use mathlib.Core.List.{List, [], ◌∷◌}
use mathlib.Core.Option.{Option, none, some}
use lib.ListN.{length}
use borrow.Author.Tests.{leb-true, le-leb, eqb-true, eq-eqb}
use Rattle.rules.specs.declared.Refusal.{Refusal}
use Rattle.rules.specs.declared.Sizes.{Sizes}
use Rattle.rules.specs.Parts.{parts, deep}
use Rattle.rules.specs.Books.{most_fields, most_tables, most_bytes, most_parts, most_beside, Policy, write_book, WellFormed, Book, Bytes}
use Rattle.rules.specs.Checks.{first_failed}
use Rattle.rules.specs.Reading.{fields_of, tables_of, body_start, read_entries, main_of, policy_of, typing_faults}
use Rattle.rules.specs.Reading.{goes_on, no_fault, form_checks, book_checks, sizes_of, verdict_by, verdict}
use Rattle.rules.proofs.CheckLaws.{AllHold, end, ◌&◌, none_failed, all_held}
use Rattle.rules.proofs.Whole.{Readable, whole_read, whole_reads}
use Rattle.rules.proofs.Faults.{faults}

-- ---- the verdict and its checks

by_checks : (o : Option Refusal) (y z : Sizes) → verdict_by o y ≡ Ok z → (o ≡ none) × (z ≡ y)
by_checks none y z e = (refl, (let q : y ≡ z = cc in sym q))
by_checks (some r) y z e = let n : ◌≡◌ {A = ℕ} 0 1 = cc in absurd (omega arith)

by_refusal : (o : Option Refusal) (y : Sizes) (r : Refusal) → verdict_by o y ≡ Err r → o ≡ some r
by_refusal none y r e = let n : ◌≡◌ {A = ℕ} 0 1 = cc in absurd (omega arith)
by_refusal (some q) y r e = let same : q ≡ r = cc in rw same

module _ (s : List ℕ) where
  pub accepted_checks : (z : Sizes) → verdict s ≡ Ok z → first_failed (book_checks s) ≡ none
  unfolding verdict
  accepted_checks z e = (by_checks (first_failed (book_checks s)) (sizes_of s) z e).0

  -- and back
  pub checks_refused : (r : Refusal) → first_failed (book_checks s) ≡ some r → verdict s ≡ Err r
  unfolding verdict
  checks_refused r e = rw e

  pub checks_accepted : first_failed (book_checks s) ≡ none → (z : Sizes) × (verdict s ≡ Ok z)
  unfolding verdict
  checks_accepted e = (sizes_of s, rw e)

  pub refused_checks : (r : Refusal) → verdict s ≡ Err r → first_failed (book_checks s) ≡ some r
  unfolding verdict
  refused_checks r e = by_refusal (first_failed (book_checks s)) (sizes_of s) r e

-- what an accepting verdict has tested: 1 to 5, then 6, then 7
pub record Passed (s : List ℕ) : Type 0 where
  pub readable : Readable s
  pub parts : parts (main_of s) ≤ most_parts
  pub deep : deep (main_of s) ≤ most_beside
  pub typed : typing_faults (policy_of s) ≡ []

on_was : (x : Result ℕ ℕ) → goes_on x ≡ true → (a : ℕ) × (x ≡ Ok a)
on_was (Ok a) e = (a, refl)
on_was (Err a) e = absurd (false≢true e)

none_was : (l : List ℕ) → no_fault l ≡ true → l ≡ []
none_was [] e = refl
none_was (at ∷ l) e = absurd (false≢true e)

module _ (s : List ℕ) where
  held_was : AllHold (book_checks s) → Passed s
  unfolding book_checks form_checks
  held_was (short & long & some-field & fields & tables & lengths & masks & form & parts_few & deep-few & typed & end) =
      record {
        readable = record {
          bytes = (leb-true 2 (length s) short, leb-true (length s) most_bytes long);
          fields = (leb-true 1 (fields_of s) some-field, leb-true (fields_of s) most_fields fields);
          tables = leb-true (tables_of s) most_tables tables;
          lengths = eqb-true (body_start s (suc (tables_of s))) (length s) lengths;
          masks = masks;
          form = on_was (read_entries s (suc (tables_of s)) 0) form;
        };
        parts = leb-true (parts (main_of s)) most_parts parts_few;
        deep = leb-true (deep (main_of s)) most_beside deep-few;
        typed = none_was (typing_faults (policy_of s)) typed;
      }

  pub passed_was : (z : Sizes) → verdict s ≡ Ok z → Passed s × (z ≡ sizes_of s)
  unfolding verdict
  passed_was z q =
      let k = by_checks (first_failed (book_checks s)) (sizes_of s) z q in
      (held_was (all_held (book_checks s) k.0), k.1)

  held_is : Passed s → AllHold (book_checks s)
  unfolding book_checks form_checks
  held_is t =
      let r = t.readable in
      le-leb 2 (length s) r.bytes.0
      & le-leb (length s) most_bytes r.bytes.1
      & le-leb 1 (fields_of s) r.fields.0
      & le-leb (fields_of s) most_fields r.fields.1
      & le-leb (tables_of s) most_tables r.tables
      & eq-eqb (body_start s (suc (tables_of s))) (length s) r.lengths
      & r.masks
      & ap goes_on r.form.1
      & le-leb (parts (main_of s)) most_parts t.parts
      & le-leb (deep (main_of s)) most_beside t.deep
      & ap no_fault t.typed
      & end

  pub passed_is : Passed s → verdict s ≡ Ok (sizes_of s)
  unfolding verdict
  passed_is t = rw (none_failed (book_checks s) (held_is t))

-- ---- acceptance

pub accepted : (s : List ℕ) → Bytes s → (z : Sizes) → verdict s ≡ Ok z
    → Book (policy_of s) × (s ≡ write_book (policy_of s)) × (z ≡ sizes_of s)
unfolding policy_of
accepted s small z q =
    let t = passed_was s z q in
    let w = whole_read s small t.0.readable in (
      record {
        formed = w.0;
        limited = record { parts = t.0.parts; deep = t.0.deep };
        typed = (faults (policy_of s) w.0).0 t.0.typed;
      },
      w.1,
      t.1,
    )

pub written : (P : Policy) → Book P → verdict (write_book P) ≡ Ok (sizes_of (write_book P))
unfolding policy_of
written P b =
    let s : List ℕ = write_book P in
    let w = whole_reads P b.formed in
    let main : main_of s ≡ P.main = ap (λ (Q : Policy). Q.main) w.1 in
    passed_is s record {
      readable = w.0;
      parts = rw main b.limited.parts;
      deep = rw main b.limited.deep;
      typed = rw w.1 ((faults P b.formed).1 b.typed);
    }

-- no two well-formed policies are written alike
pub unique : (P Q : Policy) → WellFormed P → WellFormed Q → write_book P ≡ write_book Q → P ≡ Q
unique P Q f g e = sym (whole_reads P f).1 ∙ ap policy_of e ∙ (whole_reads Q g).1

-- the bytes that are accepted are exactly the policies that meet layout, limits and typing, written
pub exactly : (s : List ℕ) → Bytes s → ((z : Sizes) × (verdict s ≡ Ok z)) ↔ ((P : Policy) × Book P × (s ≡ write_book P))
exactly s small = (
  (λ a. (let w = accepted s small a.0 a.1 in (policy_of s, w.0, w.1))),
  (λ b. (sizes_of s, rw b.2 (written b.0 b.1))),
)
