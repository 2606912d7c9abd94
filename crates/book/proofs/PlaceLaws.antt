-- Plain laws of places: after a part, and where a body starts.
use Prim.Native.Nat.{ℕ, zero, suc, ◌+◌, ◌-◌, ◌*◌, ◌≤◌}
use native.Mathlib.Omega.{arith}
use native.Mathlib.Numerals.{add-one}
use mathlib.Core.Path.{◌≡◌, refl, sym, ◌∙◌}
use mathlib.Core.List.{List}
use lib.ListN.{get_or}
use Rattle.rules.specs.Codes.{shape_at}
use Rattle.rules.specs.declared.Head.{Head}
use Rattle.rules.specs.declared.Shape.{Shape}
use Rattle.rules.specs.Reading.{head_at, skip, after, body_start, length_at}
use Rattle.rules.specs.Parts.{Id}
use Rattle.rules.proofs.CodeLaws.{stands_head}
use Rattle.rules.proofs.ReadingLaws.{row_small}

-- x is the row of the code
module _ (c : ℕ) (x : Shape) (e : x ≡ shape_at c) where
  pub parts_few : x.parts ≤ 2
  parts_few = rw e (row_small c).1

-- the place after a part
pub after_zero : (s : List ℕ) (d at : ℕ) → d ≡ 0 → at ≡ after s d at
unfolding after
after_zero s zero at e = refl
after_zero s (suc d) at e = absurd (omega arith)

-- h is the head at the place, and x the row of its code
module _ (s : List ℕ) (d at : ℕ) (hd : d ≡ 0 → ⊥) (h : Head) (eh : h ≡ head_at s at) (x : Shape) (ex : x ≡ shape_at h.code) where
  after_suc : after s d at ≡ skip x.parts (after s (d - 1)) h.from
  after_suc = rw ex (stands_head s (λ x. Id) d at hd h eh).next

  pub after_none : x.parts ≡ 0 → h.from ≡ after s d at
  after_none e = sym (after_suc ∙ rw e)

  pub after_one : (m : ℕ) → m ≡ after s (d - 1) h.from → x.parts ≡ 1 → m ≡ after s d at
  after_one m em e = em ∙ sym (after_suc ∙ rw e)

  pub after_two : (m n : ℕ) → m ≡ after s (d - 1) h.from → n ≡ after s (d - 1) m → (x.parts ≡ 0 → ⊥) → (x.parts ≡ 1 → ⊥)
      → n ≡ after s d at
  after_two m n em en h0 h1 =
      let b : x.parts ≤ 2 = parts_few h.code x ex in
      let e : x.parts ≡ 2 = omega arith in
      en ∙ rw em (sym (after_suc ∙ rw e))

-- where a body starts
pub start_zero : (s : List ℕ) (b : ℕ) → b ≡ get_or s 1 0 → 6 + 4 * b ≡ body_start s 0
unfolding body_start
start_zero s b e = rw e

pub start_more : (s : List ℕ) (i at n : ℕ) → at ≡ body_start s i → n ≡ length_at s i → at + n ≡ body_start s (i + 1)
unfolding body_start
start_more s i at n e en = rw (add-one, e, en)
