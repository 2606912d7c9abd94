-- What a write leaves as it was: every word outside its range, and so every header, slot and list that lies outside.
use Prim.Native.Nat.{ℕ, zero, suc, ◌+◌, ◌-◌, ◌*◌, ◌≤◌, ◌<◌}
use native.Mathlib.Omega.{arith}
use native.Mathlib.Numerals.{towards_suc, add-one}
use native.Mathlib.Decide.{dec_lt}
use mathlib.Core.Path.{◌≡◌, refl, sym, ap, ◌∙◌}
use mathlib.Core.Logic.{◌⊎◌, inl, inr, ⊎_elim}
use mathlib.Core.List.{List, [], ◌∷◌, ◌++◌}
use lib.ListN.{length, take, drop, get_or, set, length-set, length-take, length-drop}
use lib.Seq.{paste, sets, length-sets, get_or-set_same, get_or-set_other, get_or-take, get_or-drop, ext_get_or, length-paste, take-suc, take-suc-set}
use lib.Seq.{drop-set-add}
use Rattle.area.proofs.Moves.{get_or_paste_before, get_or_paste_after}
use Rattle.area.specs.declared.headers.Header.{Header}
use Rattle.area.specs.declared.headers.Phase.{Phase}
use Rattle.area.specs.declared.headers.Phase.TheVariants.{Placed, Finished, Waiting, Negated, Entered, Split, Paired}
use Rattle.area.specs.Words.{positions, word_of, phase_at, head_words, slot_words, free_from, slot_from, area_words, header_at, part, free_list, Outside}
use Rattle.area.specs.Words.{Headed}
use Rattle.area.specs.Words.{Given}

-- ---- writes

pub outside_same : (w : List ℕ) (a b : ℕ) → Outside w w a b
outside_same w a b = record { long = refl; before = λ k h. refl; after = λ k h. refl }

pub outside_then : {w v u : List ℕ} {a b : ℕ} → Outside w v a b → Outside v u a b → Outside w u a b
outside_then p q = record {
  long = q.long ∙ p.long;
  before = λ k h. q.before k h ∙ p.before k h;
  after = λ k h. q.after k h ∙ p.after k h;
}

pub outside_wider : {w v : List ℕ} {a b : ℕ} (c d : ℕ) → c ≤ a → b ≤ d → Outside w v a b → Outside w v c d
outside_wider c d h l p = record {
  long = p.long;
  before = λ k g. p.before k (omega arith);
  after = λ k g. p.after k (omega arith);
}

pub outside_set : (w : List ℕ) (i x : ℕ) → Outside w (set w i x) i (i + 1)
outside_set w i x = record {
  long = length-set w i x;
  before = λ k h. get_or-set_other w i k x 0 (λ e. omega arith);
  after = λ k h. get_or-set_other w i k x 0 (λ e. omega arith);
}

pub outside_paste : (w : List ℕ) (at : ℕ) (s : List ℕ) (n : ℕ) → at + n ≤ length w → n ≤ length s → Outside w (paste w at s n) at (at + n)
outside_paste w at s n h l = record {
  long = length-paste w at s n h l;
  before = λ k g. get_or_paste_before w at s n k 0 (omega arith) g;
  after = λ k g. let e : k ≡ at + n + (k - (at + n)) = omega arith in rw e (get_or_paste_after w at s n (k - (at + n)) 0 (omega arith) l);
}

-- a run of stores
sets_before : (vs l : List ℕ) (i k : ℕ) → k < i → get_or (sets l i vs) k 0 ≡ get_or l k 0
sets_before [] l i k h = refl
sets_before (a ∷ vs) l i k h = sets_before vs (set l i a) (suc i) k (omega arith) ∙ get_or-set_other l i k a 0 (λ e. omega arith)

sets_after : (vs l : List ℕ) (i k : ℕ) → i + length vs ≤ k → get_or (sets l i vs) k 0 ≡ get_or l k 0
sets_after [] l i k h = refl
sets_after (a ∷ vs) l i k h = sets_after vs (set l i a) (suc i) k (omega arith) ∙ get_or-set_other l i k a 0 (λ e. omega arith)

sets_here : (vs l : List ℕ) (i k : ℕ) → k < length vs → i + length vs ≤ length l → get_or (sets l i vs) (i + k) 0 ≡ get_or vs k 0
sets_here [] l i k h g = absurd (omega arith)
sets_here (a ∷ vs) l i zero h g =
    let e : i + 0 ≡ i = omega arith in
    rw e (sets_before vs (set l i a) (suc i) i (omega arith) ∙ get_or-set_same l i a 0 (omega arith))
sets_here (a ∷ vs) l i (suc k) h g =
    let e : i + suc k ≡ suc i + k = omega arith in
    rw e (sets_here vs (set l i a) (suc i) k (omega arith) (omega (arith, length-set l i a)))

pub outside_sets : (w : List ℕ) (i : ℕ) (vs : List ℕ) → Outside w (sets w i vs) i (i + length vs)
outside_sets w i vs = record { long = length-sets w i vs; before = sets_before vs w i; after = sets_after vs w i }

-- the six words of a header
abbrev pub six : List ℕ → ℕ → Header → List ℕ
six w b h = set (set (set (set (set (set w b h.place) (b + 1) (word_of h.phase)) (b + 2) h.count) (b + 3) h.up) (b + 4) h.left) (b + 5)
    h.right

abbrev words : Header → List ℕ
words h = h.place ∷ word_of h.phase ∷ h.count ∷ h.up ∷ h.left ∷ h.right ∷ []

six_sets : (w : List ℕ) (b : ℕ) (h : Header) → six w b h ≡ sets w b (words h)
six_sets w b h = simp towards_suc

pub phase_of_word : (p : Phase) → phase_at (word_of p) ≡ p
unfolding phase_at
phase_of_word Placed = refl
phase_of_word Finished = refl
phase_of_word Waiting = refl
phase_of_word Negated = refl
phase_of_word Entered = refl
phase_of_word Split = refl
phase_of_word Paired = refl

pub headed : (w : List ℕ) (i : ℕ) (h : Header) → i * head_words + head_words ≤ length w → Headed w (six w (i * head_words) h) i h
unfolding header_at
headed w i h l =
    let z : i * head_words + 0 ≡ i * head_words = omega arith in
    let at : (k : ℕ) → k < 6 → get_or (sets w (i * head_words) (words h)) (i * head_words + k) 0 ≡ get_or (words h) k 0 =
    λ k g. sets_here (words h) w (i * head_words) k g l in
    rw (six_sets w (i * head_words) h) (record {
      here = rw (
        rw z at (at 0 (omega arith)),
        at 1 (omega arith),
        at 2 (omega arith),
        at 3 (omega arith),
        at 4 (omega arith),
        at 5
            (omega arith),
        phase_of_word h.phase,
      );
      out = outside_sets w (i * head_words) (words h);
    })

-- ---- what lies outside

module _ {w v : List ℕ} {a b : ℕ} (o : Outside w v a b) where
  pub word_out : (k : ℕ) → (k < a) ⊎ (b ≤ k) → get_or v k 0 ≡ get_or w k 0
  word_out k c = ⊎_elim (o.before k) (o.after k) c

  pub head_out : (i : ℕ) → (i * head_words + head_words ≤ a) ⊎ (b ≤ i * head_words) → header_at v i ≡ header_at w i
  unfolding header_at
  head_out i (inl h) = rw (
    o.before (i * head_words) (omega arith),
    o.before (i * head_words + 1) (omega arith),
    o.before (i * head_words + 2) (omega arith),
    o.before (i * head_words + 3) (omega arith),
    o.before (i * head_words + 4) (omega arith),
    o.before (i * head_words + 5) (omega arith),
  )
  head_out i (inr h) = rw (
    o.after (i * head_words) (omega arith),
    o.after (i * head_words + 1) (omega arith),
    o.after (i * head_words + 2) (omega arith),
    o.after (i * head_words + 3) (omega arith),
    o.after (i * head_words + 4) (omega arith),
    o.after (i * head_words + 5) (omega arith),
  )

  pub part_out : (p n : ℕ) → (p + n ≤ a) ⊎ (b ≤ p) → part p n v ≡ part p n w
  unfolding part
  part_out p n c =
      let l = o.long in
      ext_get_or 0 (take n (drop p v)) (take n (drop p w)) (simp (length-take, length-drop) (rw l refl))
      (λ i h.
      let g : i < n = omega (arith, length-take n (drop p v)) in
      get_or-take n (drop p v) i 0 g ∙ get_or-drop p v i 0
      ∙ word_out (p + i) (⊎_elim (λ k. inl (omega arith)) (λ k. inr (omega arith)) c)
      ∙ sym (get_or-take n (drop p w) i 0 g ∙ get_or-drop p w i 0))

  pub past_out : (p : ℕ) → b ≤ p → drop p v ≡ drop p w
  past_out p h =
      let l = o.long in
      ext_get_or 0 (drop p v) (drop p w) (simp length-drop (rw l refl))
      (λ i g. get_or-drop p v i 0 ∙ o.after (p + i) (omega arith) ∙ sym (get_or-drop p w i 0))

-- ---- two numbers apart

pub slots_apart : (i k : ℕ) → (k ≡ i → ⊥) → (slot_from k + slot_words ≤ slot_from i) ⊎ (slot_from i + slot_words ≤ slot_from k)
slots_apart i k n = elim (dec_lt k i) [ yes h ↦ inl (omega arith) | no h ↦ inr (omega arith) ]

pub heads_apart : (i k : ℕ) → (k ≡ i → ⊥) → (k * head_words + head_words ≤ i * head_words) ⊎ (i * head_words + head_words ≤ k * head_words)
heads_apart i k n = elim (dec_lt k i) [ yes h ↦ inl (omega arith) | no h ↦ inr (omega arith) ]

-- ---- the list of free numbers

pub free_top : (w : List ℕ) (n : ℕ) → 0 < n → n ≤ positions → length w ≡ area_words
    → free_list w n ≡ free_list w (n - 1) ++ (get_or w (free_from + n - 1) 0 ∷ [])
unfolding part
free_top w n h l room =
    let z : n ≡ suc (n - 1) = omega arith in
    let k : free_from + n - 1 ≡ free_from + (n - 1) = omega arith in
    let ld : length (drop free_from w) ≡ length w - free_from = length-drop free_from w in
    ap (λ (m : ℕ). take m (drop free_from w)) z ∙ take-suc (drop free_from w) (n - 1) 0 (omega arith)
    ∙ ap (λ (x : ℕ). take (n - 1) (drop free_from w) ++ (x ∷ [])) (get_or-drop free_from w (n - 1) 0 ∙ ap (λ (m : ℕ). get_or w m 0) (sym k))

pub free_push : (w : List ℕ) (n x : ℕ) → n < positions → length w ≡ area_words
    → free_list (set w (free_from + n) x) (n + 1) ≡ free_list w n ++ (x ∷ [])
unfolding part
free_push w n x h room =
    let ld : length (drop free_from w) ≡ length w - free_from = length-drop free_from w in
    rw (drop-set-add free_from w n x, add-one n) (take-suc-set (drop free_from w) n x (omega arith))

-- ---- one law for each function

pub gave : (w : List ℕ) (n p : ℕ) → n < positions → length w ≡ area_words → Given w (set w (free_from + n) p) n p
gave w n p h room = record { here = free_push w n p h room; out = outside_set w (free_from + n) p }
