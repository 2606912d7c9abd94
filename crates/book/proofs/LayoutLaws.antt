-- The test 4 as the code makes it, entry by entry.
use Prim.Native.Nat.{ℕ, suc, ◌+◌, ◌-◌, ◌<◌, ◌≤◌}
use native.Mathlib.Omega.{arith}
use mathlib.Core.Path.{◌≡◌, ◌∙◌}
use mathlib.Core.Bool.{Bool, true, false, ◌&&◌}
use mathlib.Core.List.{List}
use Rattle.rules.specs.Books.{masks_fit}
use Rattle.rules.specs.Reading.{fields_of, reads_at, writes_at, masks_right}

-- the masks of the entries from x on
module _ (s : List ℕ) (n x : ℕ) where
  pub masks_end : n ≤ x → masks_right s (n - x) x ≡ true
  unfolding masks_right
  masks_end h = let e : n - x ≡ 0 = omega arith in rw e

  masks_more : x < n → masks_right s (n - x) x ≡ (masks_fit (fields_of s) (reads_at s x) (writes_at s x) && masks_right s (n - (x + 1)) (x + 1))
  unfolding masks_right
  masks_more h =
      let e : n - x ≡ suc (n - (x + 1)) = omega arith in
      let f : suc x ≡ x + 1 = omega arith in
      rw (e, ← f)

  module _ (t : Bool) (k : ℕ) (ek : k ≡ fields_of s) (h : x < n) (et : t ≡ masks_fit k (reads_at s x) (writes_at s x)) where
    pub masks_step : t ≡ true → masks_right s (n - x) x ≡ masks_right s (n - (x + 1)) (x + 1)
    masks_step q = masks_more h ∙ rw (← ek, ← et, q)

    pub masks_stop : t ≡ false → masks_right s (n - x) x ≡ false
    masks_stop q = masks_more h ∙ rw (← ek, ← et, q)
