-- Words moved from one place of a list to another: what a paste leaves.
use mathlib.Core.Path.{◌≡◌, sym, ap, ◌∙◌}
use mathlib.Core.List.{List, ◌++◌, append_assoc}
use Prim.Native.Nat.{ℕ, ◌+◌, ◌≤◌, ◌<◌}
use native.Mathlib.Omega.{arith}
use lib.ListN.{length, take, drop, get_or, get_or-append}
use lib.Seq.{get_or-append-add, length_paste_head, drop-drop}
use lib.Seq.{get_or-take, get_or-drop, length-take-le, take-add, paste}

module _ {A : Type 0} where
  -- what a paste leaves before and after it
  pub get_or_paste_before : (w : List A) (at : ℕ) (s : List A) (n i : ℕ) (d : A) → at ≤ length w → i < at
      → get_or (paste w at s n) i d ≡ get_or w i d
  get_or_paste_before w at s n i d h l =
      let lt : length (take at w) ≡ at = length-take-le at w h in
      ap (λ (x : List A). get_or x i d) (append_assoc (take at w) (take n s) (drop (at + n) w))
      ∙ get_or-append (take at w) (take n s ++ drop (at + n) w) d i (omega arith)
      ∙ get_or-take at w i d l

  pub get_or_paste_after : (w : List A) (at : ℕ) (s : List A) (n i : ℕ) (d : A) → at ≤ length w → n ≤ length s
      → get_or (paste w at s n) (at + n + i) d ≡ get_or w (at + n + i) d
  get_or_paste_after w at s n i d h l =
      let e : length (take at w ++ take n s) ≡ at + n = length_paste_head w at s n h l in
      ap (λ (k : ℕ). get_or (paste w at s n) (k + i) d) (sym e)
      ∙ get_or-append-add (take at w ++ take n s) (drop (at + n) w) i d
      ∙ get_or-drop (at + n) w i d

  -- a paste past the first S words
  pub paste_shift : (w : List A) (S t : ℕ) (s : List A) (n : ℕ) → paste w (S + t) s n ≡ take S w ++ paste (drop S w) t s n
  paste_shift w S t s n =
      let e : S + t + n ≡ S + (t + n) = omega arith in
      ap (λ (a : List A). a ++ take n s ++ drop (S + t + n) w) (take-add S t w)
      ∙ ap (λ (a : List A). take S w ++ take t (drop S w) ++ take n s ++ a) (ap (λ (k : ℕ). drop k w) e ∙ sym (drop-drop (t + n) S w))
      ∙ simp append_assoc

  -- n words from one place put on another
  abbrev pub moved : List A → ℕ → ℕ → ℕ → List A
  moved w from to n = paste w to (drop from w) n
