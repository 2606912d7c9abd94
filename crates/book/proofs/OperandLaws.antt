-- The head and the operands at a place, by what the code compares.
use Prim.Native.Nat.{ℕ, suc, ◌+◌, ◌<◌, ◌≤◌}
use native.Mathlib.Omega.{arith}
use mathlib.Core.Path.{◌≡◌, refl, sym, ap, ◌∙◌}
use mathlib.Core.Bool.{Bool, true, false, cond, ◌&&◌}
use mathlib.Core.Logic.{◌⊎◌, ⊎_elim}
use mathlib.Core.List.{List}
use mathlib.Core.Option as math
use Rattle.std.specs.Prelude.{Option, None, Some, Err, Ok, Result, ℕ}
use lib.Dec.{ltb, leb}
use lib.ListN.{length, get_or, take, drop, get_or-eq_default}
use lib.Pow.{pow_pos}
use borrow.Author.Tests.{lt-ltb, le-ltb, ltb-true, ltb-false}
use Rattle.rules.specs.declared.Head.{Head}
use Rattle.rules.specs.declared.Shape.{Shape}
use Rattle.rules.specs.Codes.{shape_at, operands_of}
use Rattle.rules.specs.Masks.{in_fields}
use Rattle.rules.specs.Reading.{number_at, no_head, head_at, later, field_wrong, masks_wrong, table_wrong, operands_wrong, operands_at}
use Rattle.rules.specs.Reading.{read_operands}
use Rattle.rules.proofs.CodeLaws.{by_code}
use Rattle.rules.proofs.ReadingLaws.{none_there, empty_right, some_there, operands_next, operands_cut, operands_wrong_lem}
use Rattle.book.specs.Operands.{WrongPlace, Within}

-- ---- heads

pub head_none : (s : List ℕ) (at : ℕ) → length s ≤ at → no_head at ≡ head_at s at
unfolding head_at
head_none s at h = rw (le-ltb at (length s) h)

pub head_there : (s : List ℕ) (at f v r : ℕ) (x : Shape) → at < length s → f ≡ get_or s (at + 1) 0 → v ≡ number_at s (at + 2)
    → r ≡ get_or s (at + 2) 0 → x ≡ shape_at (get_or s at 0)
    → ◌≡◌ {A = Head} (record {
      code = get_or s at 0;
      field = f;
      value = v;
      left = f;
      right = r;
      table = f;
      from = at + 1 + x.operands;
    }) (head_at s at)
unfolding head_at
head_there s at f v r x h ef ev er ex = rw (lt-ltb at (length s) h, ef, ev, er, ex)

-- ---- the operands that are there

module _ (s : List ℕ) (k at : ℕ) where
  pub field_absent : length s ≤ at + 1 → WrongPlace s at (field_wrong k (operands_at s 2 at)) None
  unfolding WrongPlace
  field_absent h = rw (none_there s 3 (at + 1) h) refl

  module _ (h : at + 1 < length s) where
    pub field_right : get_or s (at + 1) 0 < k → WrongPlace s at (field_wrong k (operands_at s 2 at)) None
    unfolding WrongPlace
    field_right e = rw (some_there s 2 (at + 1) h, lt-ltb (get_or s (at + 1) 0) k e) refl

    pub field_over : k ≤ get_or s (at + 1) 0 → WrongPlace s at (field_wrong k (operands_at s 2 at)) (Some (at + 1))
    unfolding WrongPlace
    field_over e = rw (some_there s 2 (at + 1) h, le-ltb (get_or s (at + 1) 0) k e) (ap Some (omega arith), omega arith)

module _ (s : List ℕ) (m at : ℕ) where
  pub table_absent : length s ≤ at + 1 → WrongPlace s at (table_wrong m (operands_at s 8 at)) None
  unfolding WrongPlace
  table_absent h = rw (none_there s 1 (at + 1) h) refl

  module _ (h : at + 1 < length s) (b : Bool) (e : b ≡ (leb 1 (get_or s (at + 1) 0) && leb (get_or s (at + 1) 0) m)) where
    pub table_right : b ≡ true → WrongPlace s at (table_wrong m (operands_at s 8 at)) None
    unfolding WrongPlace
    table_right q = rw (some_there s 0 (at + 1) h, ← e, q) refl

    pub table_over : b ≡ false → WrongPlace s at (table_wrong m (operands_at s 8 at)) (Some (at + 1))
    unfolding WrongPlace
    table_over q = rw (some_there s 0 (at + 1) h, ← e, q) (ap Some (omega arith), omega arith)

-- a mask that is not there has no bit
module _ (s : List ℕ) (k : ℕ) where
  pub absent_small : (a : ℕ) → length s ≤ a → in_fields k (get_or s a 0) ≡ true
  absent_small a h = rw (get_or-eq_default s 0 h) (lt-ltb 0 _ (pow_pos k))

  wide_there : (a : ℕ) → in_fields k (get_or s a 0) ≡ false → a < length s
  wide_there a e = go (ltb a (length s)) refl
    where
      go : (b : Bool) → ltb a (length s) ≡ b → a < length s
      go true h = ltb-true a (length s) h
      go false h =
          let z : ◌≡◌ {A = Bool} true false = sym (absent_small a (ltb-false a (length s) h)) ∙ e in
          let n : ◌≡◌ {A = ℕ} 0 1 = cc in absurd (omega arith)

  one_mask : (n a : ℕ) → masks_wrong k (take (suc n) (drop a s))
      ≡ cond (in_fields k (get_or s a 0)) (later (masks_wrong k (take n (drop (a + 1) s)))) (math.some 0)
  one_mask n a = go (ltb a (length s)) refl
    where
      go : (b : Bool) → ltb a (length s) ≡ b → masks_wrong k (take (suc n) (drop a s))
          ≡ cond (in_fields k (get_or s a 0)) (later (masks_wrong k (take n (drop (a + 1) s)))) (math.some 0)
      go true h = rw (some_there s n a (ltb-true a (length s) h))
      go false h =
          let l : length s ≤ a = ltb-false a (length s) h in
          rw (none_there s (suc n) a l, absent_small a l, none_there s n (a + 1) (omega arith))

  two_masks : (a : ℕ) → masks_wrong k (take 2 (drop a s))
      ≡ cond (in_fields k (get_or s a 0)) (later (cond (in_fields k (get_or s (a + 1) 0)) math.none (math.some 0))) (math.some 0)
  two_masks a = one_mask 1 a ∙ rw (one_mask 0 (a + 1))

  module _ (at : ℕ) (h : at < length s) where
    pub masks_first : in_fields k (get_or s (at + 1) 0) ≡ false → WrongPlace s at (masks_wrong k (operands_at s 7 at)) (Some (at + 1))
    unfolding WrongPlace
    masks_first e = rw (two_masks (at + 1), e) (ap Some (omega arith), omega (arith, wide_there (at + 1) e))

    pub masks_second : in_fields k (get_or s (at + 1) 0) ≡ true → in_fields k (get_or s (at + 2) 0) ≡ false
        → WrongPlace s at (masks_wrong k (operands_at s 7 at)) (Some (at + 2))
    unfolding WrongPlace
    masks_second e f =
        let z : at + 1 + 1 ≡ at + 2 = omega arith in
        rw (two_masks (at + 1), e, z, f) (ap Some (omega arith), omega (arith, wide_there (at + 2) f))

    pub masks_small : in_fields k (get_or s (at + 1) 0) ≡ true → in_fields k (get_or s (at + 2) 0) ≡ true
        → WrongPlace s at (masks_wrong k (operands_at s 7 at)) None
    unfolding WrongPlace
    masks_small e f =
        let z : at + 1 + 1 ≡ at + 2 = omega arith in
        rw (two_masks (at + 1), e, z, f) refl

-- ---- by the code

module _ (s : List ℕ) (k m at : ℕ) where
  abbrev Judges : ℕ → Option ℕ → Type 0
  Judges code r = WrongPlace s at (operands_wrong k m code (operands_at s code at)) r

  pub by_field : (r : Option ℕ) (code : ℕ) → 2 ≤ code → code < 4 → WrongPlace s at (field_wrong k (operands_at s 2 at)) r → Judges code r
  unfolding operands_wrong
  by_field r =
      by_code (λ c. 2 ≤ c → c < 4 → WrongPlace s at (field_wrong k (operands_at s 2 at)) r → Judges c r)
      (λ a b w. absurd (omega arith)) (λ a b w. absurd (omega arith)) (λ a b w. w) (λ a b w. w) (λ a b w. absurd (omega arith))
      (λ a b w. absurd (omega arith)) (λ a b w. absurd (omega arith)) (λ a b w. absurd (omega arith)) (λ a b w. absurd (omega arith))
      (λ c a b w. absurd (omega arith))

  pub by_masks : (r : Option ℕ) (code : ℕ) → code ≡ 7 → WrongPlace s at (masks_wrong k (operands_at s 7 at)) r → Judges code r
  unfolding operands_wrong
  by_masks r code e w = rw e w

  pub by_table : (r : Option ℕ) (code : ℕ) → code ≡ 8 → WrongPlace s at (table_wrong m (operands_at s 8 at)) r → Judges code r
  unfolding operands_wrong
  by_table r code e w = rw e w

  pub by_none : (code : ℕ) → (code ≡ 7 → ⊥) → (code ≡ 8 → ⊥) → (code < 2) ⊎ (4 ≤ code) → Judges code None
  unfolding operands_wrong WrongPlace
  by_none =
      by_code (λ c. (c ≡ 7 → ⊥) → (c ≡ 8 → ⊥) → (c < 2) ⊎ (4 ≤ c) → Judges c None) (λ a b w. refl) (λ a b w. refl)
      (λ a b. ⊎_elim (λ h. absurd (omega arith)) (λ h. absurd (omega arith)))
      (λ a b. ⊎_elim (λ h. absurd (omega arith)) (λ h. absurd (omega arith)))
      (λ a b w. refl) (λ a b w. refl) (λ a b w. refl) (λ a b w. absurd (a refl)) (λ a b w. absurd (b refl)) (λ c a b w. refl)

  -- ---- the reading
  module _ (code : ℕ) where
    abbrev Read : Result ℕ ℕ → Type 0
    Read r = record { read : r ≡ read_operands s k m code at; within : Within (length s) r }

    pub read_past : length s ≤ at → Read (Err (length s))
    unfolding Within
    read_past h =
        let none_left : operands_wrong k m code (operands_at s code at) ≡ math.none
        = ap (operands_wrong k m code) (none_there s (operands_of code) (at + 1) (omega arith)) ∙ empty_right k m code in
        record { read = sym (operands_cut s k m code at (omega arith) none_left); within = omega arith }

    pub read_wrong : (p : ℕ) (o : Option ℕ) → o ≡ Some p → Judges code o → Read (Err p)
    unfolding WrongPlace Within
    read_wrong p o eo w = go (operands_wrong k m code (operands_at s code at)) refl w
      where
        go : (i : math.Option ℕ) → operands_wrong k m code (operands_at s code at) ≡ i → WrongPlace s at i o → Read (Err p)
        go math.none e w = let n : None ≡ Some p = sym w ∙ eo in cc
        go (math.some i) e w =
            let n : Some p ≡ Some (at + 1 + i) = sym eo ∙ w.0 in
            let ep : p ≡ at + 1 + i = cc in
            rw ep (record { read = sym (operands_wrong_lem s k m code at i e); within = w.1 })

    module _ (o : Option ℕ) (z : o ≡ None) (w : Judges code o) (x : Shape) (ex : x ≡ shape_at code) where
      none_wrong : operands_wrong k m code (operands_at s code at) ≡ math.none
      unfolding WrongPlace
      none_wrong = go (operands_wrong k m code (operands_at s code at)) refl w
        where
          go : (i : math.Option ℕ) → operands_wrong k m code (operands_at s code at) ≡ i → WrongPlace s at i o
              → operands_wrong k m code (operands_at s code at) ≡ math.none
          go math.none e w = e
          go (math.some i) e w = let n : Some (at + 1 + i) ≡ None = sym w.0 ∙ z in cc

      pub read_cut : length s < at + 1 + x.operands → Read (Err (length s))
      unfolding Within
      read_cut h = record { read = sym (operands_cut s k m code at (rw ex at h) none_wrong); within = omega arith }

      pub read_next : at + 1 + x.operands ≤ length s → Read (Ok (at + 1 + x.operands))
      unfolding Within
      read_next h = rw ex (record { read = sym (operands_next s k m code at (rw ex at h) none_wrong); within = rw ex at h })
