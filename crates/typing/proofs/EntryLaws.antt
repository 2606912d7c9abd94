-- The bodies in order as they are read: each answer from what was read before it.
use Rattle.std.specs.Prelude.{Err, Ok, Result, ℕ}
use Prim.Native.Nat.{ℕ, zero, suc, ◌+◌, ◌-◌, ◌<◌, ◌≤◌}
use native.Mathlib.Omega.{arith}
use mathlib.Core.Path.{◌≡◌, refl, sym, ◌∙◌}
use mathlib.Core.Bool.{false}
use mathlib.Core.List.{List}
use lib.ListN.{length, take}
use borrow.Author.Tests.{ne_eqb}
use Rattle.rules.specs.Books.{scope_of}
use Rattle.rules.specs.Reading.{and_then, read_body, read_entry, read_entries, body_start, length_at, fields_of, tables_of}

-- the body of an entry, by what its contents say
module _ (s : List ℕ) (x at n k m : ℕ) (r : Result ℕ ℕ) (ea : at ≡ body_start s x) (en : n ≡ length_at s x) where
  pub entry_open : (x ≡ 0 → ⊥) → n ≡ 0 → Ok at ≡ read_entry s x
  unfolding read_entry
  entry_open h z = go x ea (sym en ∙ z) h
    where
      go : (x : ℕ) → at ≡ body_start s x → length_at s x ≡ 0 → (x ≡ 0 → ⊥) → Ok at ≡ read_entry s x
      go zero e l h = absurd (h refl)
      go (suc x) e l h = rw (l, e)

  pub entry_table : k ≡ fields_of s → m ≡ tables_of s → (x ≡ 0 → ⊥) → (n ≡ 0 → ⊥) → r ≡ read_body (take (at + n) s) (scope_of k m false) at
      → r ≡ read_entry s x
  unfolding read_entry body_start
  entry_table ek em h z e = e ∙ rw (ea, en, ek, em) (go x h (λ q. z (en ∙ q)))
    where
      go : (x : ℕ) → (x ≡ 0 → ⊥) → (length_at s x ≡ 0 → ⊥)
          → read_body (take (body_start s x + length_at s x) s) (scope_of (fields_of s) (tables_of s) false) (body_start s x) ≡ read_entry s x
      go zero h z = absurd (h refl)
      go (suc x) h z = rw (ne_eqb (length_at s (suc x)) 0 z)

-- the bodies in order
module _ (s : List ℕ) (n x : ℕ) where
  pub entries_end : n ≤ x → read_entries s (n - x) x ≡ Ok (length s)
  unfolding read_entries
  entries_end h = let e : n - x ≡ 0 = omega arith in rw e

  entries_more : x < n → read_entries s (n - x) x ≡ and_then (read_entry s x) (λ a. read_entries s (n - (x + 1)) (x + 1))
  unfolding read_entries
  entries_more h =
      let e : n - x ≡ suc (n - (x + 1)) = omega arith in
      let f : suc x ≡ x + 1 = omega arith in
      rw (e, ← f)

  module _ (b : Result ℕ ℕ) (h : x < n) (eb : b ≡ read_entry s x) where
    pub entries_stop : (r : ℕ) → b ≡ Err r → read_entries s (n - x) x ≡ b
    entries_stop r q = entries_more h ∙ rw (← eb, q)

    pub entries_step : (a : ℕ) → b ≡ Ok a → read_entries s (n - x) x ≡ read_entries s (n - (x + 1)) (x + 1)
    entries_step a q = entries_more h ∙ rw (← eb, q)
