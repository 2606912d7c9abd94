-- The parts of a vector: a front of zeros, and an array that a closure made word by word.
use Prim.Native.Nat.{ℕ, zero, suc, ◌+◌, ◌≤◌, ◌<◌}
use native.Mathlib.Omega.{arith}
use mathlib.Core.Path.{◌≡◌, refl, ap, subst, ◌∙◌}
use mathlib.Core.Bool.{Bool, true, false}
use lib.Dec.{ltb}
use borrow.Author.Tests.{ltb-true, ltb-false}
use mathlib.Core.List.{List, ◌∷◌}
use lib.ListN.{take, get_or, replicate}
use denote.Param.Members.{Mut}
use Rattle.std.specs.Fn.{Called}
use Rattle.std.specs.Array.{IsFromFnResultFrom}

pub zeros_front : (n m : ℕ) → n ≤ m → take n (replicate {A = ℕ} m 0) ≡ replicate n 0
zeros_front zero m h = refl
zeros_front (suc n) zero h = absurd (omega arith)
zeros_front (suc n) (suc m) h = ap (λ (l : List ℕ). 0 ∷ l) (zeros_front n m (omega arith))

first_or_later : (f : ℕ → ℕ) (ys : List ℕ) (i k : ℕ) (b : Bool) → ltb i k ≡ b → i ≤ k → get_or ys i 0 ≡ f i → (i < k → get_or ys k 0 ≡ f k)
    → get_or ys k 0 ≡ f k
first_or_later f ys i k true e low first later = later (ltb-true i k e)
first_or_later f ys i k false e low first later =
    let same : i ≡ k = omega (arith, ltb-false i k e) in
    subst (λ j. get_or ys j 0 ≡ f j) same first

module _ {F : Type 0} (g : Mut F (ℕ × Unit {0}) ℕ) (f : ℕ → ℕ) (Keeps : F → Type 0)
    (step : (p q : F) (k y : ℕ) → Keeps p → Called g p (k, tt) y q → (y ≡ f k) × Keeps q) where
  -- the words from i on, which the closure made in a state that it keeps
  pub made_from : (p : F) (ys : List ℕ) (i n : ℕ) → Keeps p → IsFromFnResultFrom g p ys i n → (k : ℕ) → i ≤ k → k < i + n → get_or ys k 0 ≡ f k
  made_from p ys i zero s h k low high = absurd (omega arith)
  made_from p ys i (suc n) s h k low high =
      let now = step p h.0 i h.1 s h.3 in
      first_or_later f ys i k (ltb i k) refl low (h.2.1 0 ∙ now.0) (λ later. made_from h.0 ys (i + 1) n now.1 h.4 k (omega arith) (omega arith))
