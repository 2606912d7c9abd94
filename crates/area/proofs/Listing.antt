-- The list of ready numbers: none, one or two put for one.
use Prim.Native.Nat.{ℕ, suc, ◌+◌, ◌-◌, ◌≤◌, ◌<◌}
use native.Mathlib.Omega.{arith}
use native.Mathlib.Numerals.{add-one, towards_suc}
use mathlib.Core.Path.{◌≡◌, sym, ap, ◌∙◌}
use mathlib.Core.List.{List, [], ◌∷◌, ◌++◌, append_assoc}
use lib.ListN.{length, take, drop, get_or, set, length-drop, length-append}
use lib.Seq.{paste, take-paste, take-take, drop_at, length-take-le, drop-set-add, take-set-lt, set_split, set_at, take-suc}
use Rattle.std.proofs.lemmas.List.{drop-take}
use Rattle.area.proofs.Moves.{paste_shift, moved}
use Rattle.area.specs.Words.{positions, ready_from, free_from, area_words, part, Listed}
use Rattle.area.proofs.Words.{outside_set, outside_paste, outside_then, outside_wider}

-- the list after a move of its words
drop_moved : (w : List ℕ) (t : ℕ) (s : List ℕ) (k : ℕ) → ready_from ≤ length w
    → drop ready_from (paste w (ready_from + t) s k) ≡ paste (drop ready_from w) t s k
drop_moved w t s k h =
    ap (drop ready_from) (paste_shift w ready_from t s k) ∙ drop_at (take ready_from w) (paste (drop ready_from w) t s k) ready_from
    (length-take-le ready_from w h)

module _ (w : List ℕ) (r j : ℕ) (h : j < r) (l : r ≤ positions) (room : length w ≡ area_words) where
  abbrev W : List ℕ
  W = drop ready_from w

  abbrev k : ℕ
  k = ready_from + r - (ready_from + j + 1)

  length_W : length W ≡ length w - ready_from
  length_W = length-drop ready_from w

  front : take j (take r W) ≡ take j W
  front = take-take j r W (omega arith)

  back : drop (j + 1) (take r W) ≡ take k (drop (j + 1) W)
  back = let e : j + 1 + k ≡ r = omega arith in rw e at (drop-take (j + 1) k W)

  rest_is : drop (ready_from + j + 1) w ≡ drop (j + 1) W
  rest_is = let e : ready_from + j + 1 ≡ ready_from + (j + 1) = omega arith in rw e (sym (lib.Seq.drop-drop (j + 1) ready_from w))

  length_rest : length (drop (ready_from + j + 1) w) ≡ length w - (ready_from + j + 1)
  length_rest = length-drop (ready_from + j + 1) w

  pub listed_none : (v : List ℕ) → v ≡ moved w (ready_from + j + 1) (ready_from + j) k → Listed w v r j []
  unfolding part
  listed_none v e = record {
    here =
        let z : r - 1 + 0 ≡ j + k = omega arith in
        rw (z, e, drop_moved w j (drop (ready_from + j + 1) w) k (omega arith))
        (take-paste W j (drop (ready_from + j + 1) w) k (omega (arith, length_W)) (omega (arith, length_rest)) ∙ rw (rest_is, front, back));
    out = rw e (outside_wider ready_from free_from (omega arith) (omega arith)
        (outside_paste w (ready_from + j) (drop (ready_from + j + 1) w) k (omega arith) (omega (arith, length_rest))));
  }

  pub listed_one : (x : ℕ) → Listed w (set w (ready_from + j) x) r j (x ∷ [])
  unfolding part
  listed_one x = record {
    here =
        let z : r - 1 + 1 ≡ r = omega arith in
        let t : length (take r W) ≡ r = length-take-le r W (omega (arith, length_W)) in
        rw (z, drop-set-add ready_from w j x, take-set-lt r W j x h, add-one j) (set_split (take r W) j x (omega arith));
    out = outside_wider ready_from free_from (omega arith) (omega arith) (outside_set w (ready_from + j) x);
  }

  pub listed_two : (v : List ℕ) (x y : ℕ) → r < positions → v ≡ moved w (ready_from + j + 1) (ready_from + j + 2) k
      → Listed w (set (set v (ready_from + j) x) (ready_from + j + 1) y) r j (x ∷ y ∷ [])
  unfolding part
  listed_two v x y g e =
      let s : List ℕ = drop (ready_from + j + 1) w in
      let A : List ℕ = take j W in
      let T : List ℕ = take k (drop (j + 1) W) in
      let la : length A ≡ j = length-take-le j W (omega (arith, length_W)) in
      let e₂ : v ≡ paste w (ready_from + (j + 2)) s k = let z : ready_from + j + 2 ≡ ready_from + (j + 2) = omega arith in rw z at e in
      let d : drop ready_from v ≡ paste W (j + 2) s k = ap (drop ready_from) e₂ ∙ drop_moved w (j + 2) s k (omega arith) in
      let m : take (r + 1) (drop ready_from v) ≡ A ++ (get_or W j 0 ∷ (get_or W (suc j) 0 ∷ T)) =
      let z : r + 1 ≡ j + 2 + k = omega arith in
      ap (take (r + 1)) d ∙ ap (λ (n : ℕ). take n (paste W (j + 2) s k)) z
      ∙ take-paste W (j + 2) s k (omega (arith, length_W)) (omega (arith, length_rest))
      ∙ ap (λ (b : List ℕ). take (j + 2) W ++ take k b) rest_is
      ∙ two_more A j 0 T in
      record {
        here =
            let z : r - 1 + 2 ≡ r + 1 = omega arith in
            let y₁ : ready_from + j + 1 ≡ ready_from + (j + 1) = omega arith in
            rw (
              z,
              y₁,
              drop-set-add ready_from (set v (ready_from + j) x) (j + 1) y,
              drop-set-add ready_from v j x,
              take-set-lt (r + 1) (set (drop ready_from v) j x) (j + 1) y (omega arith),
              take-set-lt (r + 1) (drop ready_from v) j x (omega arith),
              m,
              front,
              back,
              set_at A (get_or W j 0) (get_or W (suc j) 0 ∷ T) x j la,
            )
            (ap (λ (b : List ℕ). set b (j + 1) y) (sym (append_assoc A (x ∷ []) (get_or W (suc j) 0 ∷ T)))
            ∙ set_at (A ++ (x ∷ [])) (get_or W (suc j) 0) T y (j + 1) (length-append A (x ∷ []) ∙ omega arith)
            ∙ append_assoc A (x ∷ []) (y ∷ T));
        out =
            let o₁ = outside_wider ready_from free_from (omega arith) (omega arith)
            (rw (← e) at (outside_paste w (ready_from + j + 2) s k (omega arith) (omega (arith, length_rest)))) in
            let o₂ = outside_wider ready_from free_from (omega arith) (omega arith) (outside_set v (ready_from + j) x) in
            outside_then (outside_then o₁ o₂)
            (outside_wider ready_from free_from (omega arith) (omega arith) (outside_set (set v (ready_from + j) x) (ready_from + j + 1) y));
      }
    where
      two_more : (A : List ℕ) (i d : ℕ) (T : List ℕ) → take (j + 2) W ++ T ≡ take j W ++ (get_or W j 0 ∷ (get_or W (suc j) 0 ∷ T))
      two_more A i d T =
          simp towards_suc (rw (take-suc W (suc j) 0 (omega (arith, length_W)), take-suc W j 0 (omega (arith, length_W)))
          (simp append_assoc))
