-- The table of ends: the word at a place, made from those after it, is the place after the part that stands there.
use Prim.Native.Nat.{ℕ, zero, suc, ◌+◌, ◌≤◌, ◌<◌}
use native.Mathlib.Omega.{arith}
use native.Mathlib.Decide.{dec_lt}
use mathlib.Core.Path.{◌≡◌, refl, sym, ap, ◌∙◌}
use mathlib.Core.List.{List}
use lib.ListN.{length, get_or, set, length-append}
use lib.Seq.{get_or-set_same, get_or-set_other}
use Rattle.rules.specs.declared.Head.{Head}
use Rattle.rules.specs.declared.Shape.{Shape}
use Rattle.rules.specs.Codes.{shape_at, operands_of, parts_of}
use Rattle.rules.specs.Parts.{Part, Not, Sum, Seq, Beside, write, size}
use Rattle.rules.specs.Books.{most_depth}
use Rattle.rules.specs.Reading.{skip, after, head, head_at}
use Rattle.rules.proofs.ReadingLaws.{head_is, row_small}
use Rattle.rules.proofs.Decoding.{size_positive}
use Rattle.book.proofs.PlaceLaws.{parts_few, after_none}
use Rattle.steps.specs.Standing.{part_of, Runnable, end_by}
use Rattle.steps.proofs.Standing.{Two, inside, ends_at, code_small, not_below, sum_below, seq_below, beside_below}

-- ---- the word made at a place

module _ (s m : List ℕ) (at : ℕ) (l : at < length s) (p : Head) (ep : p ≡ head_at s at) (x : Shape) (ex : x ≡ shape_at p.code) where
  here : p ≡ head s at
  here = ep ∙ head_is s at l

  end_skip : end_by s m at ≡ skip x.parts (λ q. get_or m q 0) p.from
  unfolding end_by
  end_skip = rw (ex, here)

  pub end_none : x.parts ≡ 0 → p.from ≡ end_by s m at
  end_none z = sym (end_skip ∙ rw z)

  pub end_one : (q : ℕ) → q ≡ get_or m p.from 0 → x.parts ≡ 1 → q ≡ end_by s m at
  end_one q d z = d ∙ sym (end_skip ∙ rw z)

  pub end_two : (q r : ℕ) → q ≡ get_or m p.from 0 → r ≡ get_or m q 0 → (x.parts ≡ 0 → ⊥) → (x.parts ≡ 1 → ⊥) → r ≡ end_by s m at
  end_two q r d f n₀ n₁ =
      let z : x.parts ≡ 2 = omega (arith, parts_few p.code x ex) in
      f ∙ rw d (sym (end_skip ∙ rw z))

pub from_small : (s : List ℕ) (at : ℕ) {p : Head} → at < length s → p ≡ head_at s at → p.from ≤ at + 4
from_small s at {p} l e =
    let f : p.from ≡ at + 1 + operands_of (get_or s at 0) = ap (λ (p : Head). p.from) (e ∙ head_is s at l) in
    omega (arith, f, (row_small (get_or s at 0)).0)

-- ---- is the place after the part

module _ (s m : List ℕ) (at : ℕ) (h : Runnable s at) (known : (p : ℕ) → at < p → Runnable s p → get_or m p 0 ≡ after s most_depth p) where
  whole : (p : Part) → part_of s at ≡ p → after s most_depth at ≡ at + size p
  whole p e = rw e at (ends_at h)

  -- nothing below it
  rest : {c : ℕ} → get_or s at 0 ≡ c → parts_of c ≡ 0 → end_by s m at ≡ after s most_depth at
  unfolding end_by
  rest e z =
      let n : parts_of (get_or s at 0) ≡ 0 = rw e z in
      rw n (after_none s most_depth at (λ d. omega arith) (head s at) (sym (head_is s at (inside h))) (shape_at (get_or s at 0)) refl n)

  -- two parts from place q on
  by_two : (q : ℕ) → at < q → Two s q → get_or m (get_or m q 0) 0 ≡ q + size (part_of s q) + size (part_of s (after s most_depth q))
  by_two q l t =
      let z = size_positive (part_of s q) in
      let second = known (after s most_depth q) (omega (arith, t.ends)) t.right in
      rw (known q l t.left) (second ∙ ends_at t.right ∙ omega (arith, t.ends))

  -- where the parts below it begin: after the code byte, or after two masks
  straight : at + 1 + 0 ≡ at + 1
  straight = omega arith

  masks : at + 1 + 2 ≡ at + 3
  masks = omega arith

  by_code : (c : ℕ) → get_or s at 0 ≡ c → c ≤ 8 → end_by s m at ≡ after s most_depth at
  unfolding end_by write
  by_code zero e l = rest e refl
  by_code (suc zero) e l = rest e refl
  by_code (suc (suc zero)) e l = rest e refl
  by_code (suc (suc (suc zero))) e l = rest e refl
  by_code (suc (suc (suc (suc zero)))) e l =
      let b = not_below h e in
      rw (e, straight) (known (at + 1) (omega arith) b.1 ∙ ends_at b.1 ∙ sym (whole (Not (part_of s (at + 1))) b.0 ∙ omega arith))
  by_code (suc (suc (suc (suc (suc zero))))) e l =
      let b = sum_below h e in
      let p = part_of s (at + 1) in
      let q = part_of s (after s most_depth (at + 1)) in
      rw (e, straight) (by_two (at + 1) (omega arith) b.1 ∙ sym
      (whole (Sum p q) b.0 ∙ omega (arith, length-append (write p) (write q))))
  by_code (suc (suc (suc (suc (suc (suc zero)))))) e l =
      let b = seq_below h e in
      let p = part_of s (at + 1) in
      let q = part_of s (after s most_depth (at + 1)) in
      rw (e, straight) (by_two (at + 1) (omega arith) b.1 ∙ sym
      (whole (Seq p q) b.0 ∙ omega (arith, length-append (write p) (write q))))
  by_code (suc (suc (suc (suc (suc (suc (suc zero))))))) e l =
      let b = beside_below h e in
      let p = part_of s (at + 3) in
      let q = part_of s (after s most_depth (at + 3)) in
      rw (e, masks) (by_two (at + 3) (omega arith) b.1
      ∙ sym (whole (Beside (get_or s (at + 1) 0) (get_or s (at + 2) 0) p q) b.0 ∙ omega (arith, length-append (write p) (write q))))
  by_code (suc (suc (suc (suc (suc (suc (suc (suc zero)))))))) e l = rest e refl
  by_code (suc (suc (suc (suc (suc (suc (suc (suc (suc c))))))))) e l = absurd (omega arith)

  pub end_is : end_by s m at ≡ after s most_depth at
  end_is = by_code (get_or s at 0) refl (code_small h)

-- ---- the loop

-- from place `at` on the table is right
abbrev pub MarkedFrom : List ℕ → List ℕ → ℕ → Type 0
MarkedFrom s m at = (p : ℕ) → at ≤ p → Runnable s p → get_or m p 0 ≡ after s most_depth p

pub marked_next : {s : List ℕ} {at b e : ℕ} (m : List ℕ) → b < length m → at ≡ b + 1 → MarkedFrom s m at → e ≡ end_by s m b → MarkedFrom s (set m b e) b
marked_next {s} {at} {b} {e} m room d k f = λ p l h. elim (dec_lt b p) [
  | yes g ↦ get_or-set_other m b p e 0 (λ q. omega arith) ∙ k p (omega arith) h
  | no n ↦
      let q : p ≡ b = omega arith in
      rw q (get_or-set_same m b e 0 room ∙ f ∙ end_is s m b (rw q at h) (λ r g. k r (omega arith)))
]
