-- What a code stands for: cases over the nine codes, and which part stands at a place, as its head builds it.
use Prim.Native.Nat.{ℕ, zero, suc, ◌-◌}
use native.Mathlib.Numerals.{sub-one}
use mathlib.Core.Path.{◌≡◌, refl, subst}
use mathlib.Core.Bool.{Bool, true, false, cond}
use mathlib.Core.List.{List}
use lib.Dec.{ltb}
use lib.ListN.{length, get_or, get_or-eq_default}
use borrow.Author.Tests.{ltb-false}
use Rattle.rules.specs.declared.Head.{Head}
use Rattle.rules.specs.Codes.{parts_of}
use Rattle.rules.specs.Parts.{Part, Id}
use Rattle.rules.specs.Reading.{head, no_head, head_at, below, skip, after, built, part_at}

-- the nine codes, and the unknown ones
pub by_code : (P : ℕ → Type 0) → P 0 → P 1 → P 2 → P 3 → P 4 → P 5 → P 6 → P 7 → P 8
    → ((c : ℕ) → P (suc (suc (suc (suc (suc (suc (suc (suc (suc c)))))))))) → (c : ℕ) → P c
by_code P p0 p1 p2 p3 p4 p5 p6 p7 p8 p9 zero = p0
by_code P p0 p1 p2 p3 p4 p5 p6 p7 p8 p9 (suc zero) = p1
by_code P p0 p1 p2 p3 p4 p5 p6 p7 p8 p9 (suc (suc zero)) = p2
by_code P p0 p1 p2 p3 p4 p5 p6 p7 p8 p9 (suc (suc (suc zero))) = p3
by_code P p0 p1 p2 p3 p4 p5 p6 p7 p8 p9 (suc (suc (suc (suc zero)))) = p4
by_code P p0 p1 p2 p3 p4 p5 p6 p7 p8 p9 (suc (suc (suc (suc (suc zero))))) = p5
by_code P p0 p1 p2 p3 p4 p5 p6 p7 p8 p9 (suc (suc (suc (suc (suc (suc zero)))))) = p6
by_code P p0 p1 p2 p3 p4 p5 p6 p7 p8 p9 (suc (suc (suc (suc (suc (suc (suc zero))))))) = p7
by_code P p0 p1 p2 p3 p4 p5 p6 p7 p8 p9 (suc (suc (suc (suc (suc (suc (suc (suc zero)))))))) = p8
by_code P p0 p1 p2 p3 p4 p5 p6 p7 p8 p9 (suc (suc (suc (suc (suc (suc (suc (suc (suc c))))))))) = p9 c

-- the part that stands at a place, and the place after it
pub record PartThere (s : List ℕ) (named : ℕ → Part) (d at : ℕ) (p : Part) (n : ℕ) : Type 0 where
  pub part : part_at s named d at ≡ p
  pub next : after s d at ≡ n

pub stands_zero : (s : List ℕ) (named : ℕ → Part) (d at : ℕ) → d ≡ 0 → PartThere s named d at Id at
unfolding part_at after
stands_zero s named d at e = rw e (record { part = refl; next = refl })

-- by its head h: what the code builds of the parts from where they begin
module _ (s : List ℕ) (named : ℕ → Part) (d at : ℕ) (hd : d ≡ 0 → ⊥) (h : Head) (eh : h ≡ head_at s at) where
  abbrev pub first : Part
  first = part_at s named (d - 1) h.from

  abbrev pub second : Part
  second = part_at s named (d - 1) (after s (d - 1) h.from)

  pub stands_head : PartThere s named d at (built h named h.code first second) (skip (parts_of h.code) (after s (d - 1)) h.from)
  unfolding part_at after built head_at
  stands_head = rw eh (go d hd (ltb at (length s)) refl)
    where
      go : (d : ℕ) → (d ≡ 0 → ⊥) → (there : Bool) → ltb at (length s) ≡ there
          → let y = cond there (head s at) (no_head at) in
          PartThere s named d at
          (built y named y.code (part_at s named (d - 1) y.from) (part_at s named (d - 1) (after s (d - 1) y.from)))
          (skip (parts_of y.code) (after s (d - 1)) y.from)
      go zero hd there e = absurd (hd refl)
      go (suc d) hd true e = record { part = rw sub-one; next = rw (e, sub-one) }
      go (suc d) hd false e = record { part = rw (get_or-eq_default s 0 (ltb-false at (length s) e)); next = rw e }

  pub stands_as : (c : ℕ) → h.code ≡ c
      → PartThere s named d at (built h named c first second) (skip (parts_of c) (after s (d - 1)) h.from)
  stands_as c e =
      subst (λ (x : ℕ). PartThere s named d at (built h named x first second) (skip (parts_of x) (after s (d - 1)) h.from)) e stands_head

  -- code 0 and the unknown codes
  pub stands_plain : (h.code ≡ 1 → ⊥) → (h.code ≡ 2 → ⊥) → (h.code ≡ 3 → ⊥) → (h.code ≡ 4 → ⊥) → (h.code ≡ 5 → ⊥)
      → (h.code ≡ 6 → ⊥) → (h.code ≡ 7 → ⊥) → (h.code ≡ 8 → ⊥) → PartThere s named d at Id h.from
  unfolding built
  stands_plain h1 h2 h3 h4 h5 h6 h7 h8 = go h.code refl stands_head
    where
      go : (c : ℕ) → h.code ≡ c → PartThere s named d at (built h named c first second) (skip (parts_of c) (after s (d - 1)) h.from)
          → PartThere s named d at Id h.from
      go =
          by_code (λ c. h.code ≡ c → PartThere s named d at (built h named c first second) (skip (parts_of c) (after s (d - 1)) h.from)
          → PartThere s named d at Id h.from)
          (λ e t. t) (λ e t. absurd (h1 e)) (λ e t. absurd (h2 e)) (λ e t. absurd (h3 e)) (λ e t. absurd (h4 e)) (λ e t. absurd (h5 e))
          (λ e t. absurd (h6 e)) (λ e t. absurd (h7 e)) (λ e t. absurd (h8 e)) (λ c e t. t)

pub part_suc : (s : List ℕ) (named : ℕ → Part) (d at : ℕ) → (d ≡ 0 → ⊥)
    → part_at s named d at ≡ built (head s at) named (get_or s at 0) (part_at s named (d - 1) (below s at))
    (part_at s named (d - 1) (after s (d - 1) (below s at)))
unfolding part_at
part_suc s named zero at h = absurd (h refl)
part_suc s named (suc d) at h = rw sub-one
