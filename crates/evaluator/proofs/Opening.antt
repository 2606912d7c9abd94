-- Whether a part of the main body names an unpopulated table (9): what each way out of the walk says.
use Prim.Native.Nat.{ℕ, zero, suc, ◌+◌, ◌-◌, ◌<◌, ◌≤◌}
use native.Mathlib.Omega.{arith}
use mathlib.Core.Path.{◌≡◌, refl, sym, ap, ◌∙◌}
use mathlib.Core.Bool.{Bool, true, false, cond, ◌||◌}
use mathlib.Core.Option.{none, some}
use Rattle.std.specs.Prelude.{Option, Some, None}
use mathlib.Core.List.{List}
use lib.Dec.{eqb}
use lib.ListN.{get_or}
use borrow.Author.Tests.{eqb-true, eqb-false, ne_eqb}
use Rattle.rules.specs.declared.Head.{Head}
use Rattle.rules.specs.declared.Shape.{Shape}
use Rattle.rules.specs.Codes.{shape_at, parts_of}
use Rattle.rules.specs.Parts.{Part, Id, Drop, Test, Set, Not, Sum, Seq, Beside, Table, Open, names_open}
use Rattle.rules.specs.Books.{use_of, no_use, most_depth, Scope, Fine, Bytes}
use Rattle.rules.specs.Reading.{skip, after, head, head_at, built, part_at, body_at, use_at, length_at, reads_at, writes_at, body_start, main_of}
use Rattle.rules.proofs.ReadingLaws.{parts_small}
use Rattle.rules.proofs.FineLaws.{OfUses}
use Rattle.rules.proofs.Inside.{main_placed}
use Rattle.evaluator.specs.Work.{Sees, IsAccepted, Populated}
use Rattle.rules.proofs.CodeLaws.{PartThere, stands_zero, stands_head, stands_as}

sees_there : {s : List ℕ} {named : ℕ → Part} {d at n : ℕ} {p : Part} (r : Option ℕ) → PartThere s named d at p n → Sees p n r
    → Sees (part_at s named d at) (after s d at) r
sees_there r k h = rw (k.part, k.next) h

sees_id : (n : ℕ) → Sees Id n (Some n)
unfolding names_open
sees_id n = (refl, refl)

module _ (s : List ℕ) (named : ℕ → Part) (d at : ℕ) where
  pub sees_zero : d ≡ 0 → Sees (part_at s named d at) (after s d at) (Some at)
  sees_zero e = sees_there (Some at) (stands_zero s named d at e) (sees_id at)

-- by how many parts stand below
abbrev over : ℕ → Bool → Bool → Bool
over zero a b = false
over (suc zero) a b = a
over (suc (suc n)) a b = a || b

module _ (h : Head) (named : ℕ → Part) (l r : Part) where
  names_built : (c : ℕ) → (c ≡ 8 → ⊥) → names_open (built h named c l r) ≡ over (parts_of c) (names_open l) (names_open r)
  unfolding built names_open
  names_built zero h = refl
  names_built (suc zero) h = refl
  names_built (suc (suc zero)) h = refl
  names_built (suc (suc (suc zero))) h = refl
  names_built (suc (suc (suc (suc zero)))) h = refl
  names_built (suc (suc (suc (suc (suc zero))))) h = refl
  names_built (suc (suc (suc (suc (suc (suc zero)))))) h = refl
  names_built (suc (suc (suc (suc (suc (suc (suc zero))))))) h = refl
  names_built (suc (suc (suc (suc (suc (suc (suc (suc zero)))))))) h = absurd (h refl)
  names_built (suc (suc (suc (suc (suc (suc (suc (suc (suc c))))))))) h = refl

both : (n : ℕ) (a b : Bool) → a ≡ false → b ≡ false → over n a b ≡ false
both zero a b e f = refl
both (suc zero) a b e f = e
both (suc (suc n)) a b e f = rw (e, f)

first : (n : ℕ) (a b : Bool) → (n ≡ 0 → ⊥) → a ≡ true → over n a b ≡ true
first zero a b z e = absurd (z refl)
first (suc zero) a b z e = e
first (suc (suc n)) a b z e = rw e

-- a table's body names no table
quiet : (s : List ℕ) (at : ℕ) (l r : Part) (c : ℕ) (b : Bool) → eqb c 8 ≡ b → names_open l ≡ false → names_open r ≡ false
    → names_open (built (head s at) no_use c l r) ≡ false
unfolding built names_open
quiet s at l r c true q e f = rw (eqb-true c 8 q)
quiet s at l r c false q e f = names_built (head s at) no_use l r c (eqb-false c 8 q) ∙ both (parts_of c) _ _ e f

never : (s : List ℕ) (d at : ℕ) → names_open (part_at s no_use d at) ≡ false
unfolding part_at names_open
never s zero at = refl
never s (suc d) at = quiet s at _ _ (get_or s at 0) (eqb (get_or s at 0) 8) refl (never s d _) (never s d _)

pub names_use : (s : List ℕ) (x : ℕ) → names_open (use_at s x) ≡ eqb (length_at s x) 0
unfolding use_at body_at names_open
names_use s x = go (eqb (length_at s x) 0)
  where
    go : (b : Bool)
        → names_open (use_of x (reads_at s x) (writes_at s x) (body_start s x)
        (cond b none (some (part_at s no_use most_depth (body_start s x))))) ≡ b
    go true = refl
    go false = never s most_depth (body_start s x)

-- the tables before x are populated
abbrev pub PopulatedTo : List ℕ → ℕ → Type 0
PopulatedTo s x = (y : ℕ) → 0 < y → y < x → length_at s y ≡ 0 → ⊥

pub populated_next : (s : List ℕ) (x : ℕ) → PopulatedTo s x → (length_at s x ≡ 0 → ⊥) → PopulatedTo s (x + 1)
populated_next s x h g y l u e = go (eqb y x) refl
  where
    go : (b : Bool) → eqb y x ≡ b → ⊥
    go true q = g (ap (length_at s) (sym (eqb-true y x q)) ∙ e)
    go false q = h y l (omega (arith, eqb-false y x q)) e

-- where every table is populated, a fine part names none that is not
fine_closed : (c : Scope) (named : ℕ → Part) → OfUses (λ p. names_open p ≡ false) c named
    → (d : ℕ) (pred : Bool) (p : Part) → Fine c named d pred p → names_open p ≡ false
unfolding Fine names_open
fine_closed c named u zero pred p f = absurd f
fine_closed c named u (suc d) pred Id f = refl
fine_closed c named u (suc d) pred Drop f = refl
fine_closed c named u (suc d) pred (Test i v) f = refl
fine_closed c named u (suc d) pred (Set i v) f = refl
fine_closed c named u (suc d) pred (Not p) f = fine_closed c named u d true p f
fine_closed c named u (suc d) pred (Sum p q) f = both 2 _ _ (fine_closed c named u d pred p f.0) (fine_closed c named u d pred q f.1)
fine_closed c named u (suc d) pred (Seq p q) f = both 2 _ _ (fine_closed c named u d pred p f.0) (fine_closed c named u d pred q f.1)
fine_closed c named u (suc d) pred (Beside wp wq p q) f =
    both 2 _ _ (fine_closed c named u d pred p f.3) (fine_closed c named u d pred q f.4)
fine_closed c named u (suc d) pred (Table x r w start p) f = rw f.4 at (u f.1 x f.2 f.3)
fine_closed c named u (suc d) pred (Open x r w) f = rw f.4 at (u f.1 x f.2 f.3)

pub all_closed : (s : List ℕ) → IsAccepted s → Bytes s → Populated s → names_open (main_of s) ≡ false
all_closed s v small h =
    fine_closed _ (use_at s) (λ m x l u. names_use s x ∙ ne_eqb (length_at s x) 0 (h x l u)) most_depth false (main_of s)
    (main_placed s v.0 v.1 small).fine

-- a use of a table that is not populated, and of one that is
module _ (s : List ℕ) (x at : ℕ) where
  pub sees_open : length_at s x ≡ 0 → Sees (use_at s x) at None
  sees_open e = names_use s x ∙ rw e

  pub sees_use : (length_at s x ≡ 0 → ⊥) → Sees (use_at s x) at (Some at)
  sees_use e = (names_use s x ∙ ne_eqb (length_at s x) 0 e, refl)

-- by the head h
module _ (s : List ℕ) (named : ℕ → Part) (d at : ℕ) (hd : d ≡ 0 → ⊥) (h : Head) (eh : h ≡ head_at s at) where
  pub sees_table : (r : Option ℕ) → h.code ≡ 8 → Sees (named h.table) h.from r → Sees (part_at s named d at) (after s d at) r
  unfolding built
  sees_table r e = sees_there r (stands_as s named d at hd h eh 8 e)

  -- a code other than 8, with its row of the table of codes
  module _ (h8 : h.code ≡ 8 → ⊥) (x : Shape) (ex : x ≡ shape_at h.code) where
    below : parts_of h.code ≡ x.parts
    below = rw ex

    names : names_open (part_at s named d at)
        ≡ over x.parts (names_open (part_at s named (d - 1) h.from)) (names_open (part_at s named (d - 1) (after s (d - 1) h.from)))
    names = ap names_open (stands_head s named d at hd h eh).part ∙ names_built h named _ _ h.code h8 ∙ rw below

    place : after s d at ≡ skip x.parts (after s (d - 1)) h.from
    place = (stands_head s named d at hd h eh).next ∙ rw below

    pub sees_none : x.parts ≡ 0 → Sees (part_at s named d at) (after s d at) (Some h.from)
    sees_none e = (names ∙ rw e, sym (place ∙ rw e))

    pub sees_one : (r : Option ℕ) → x.parts ≡ 1 → Sees (part_at s named (d - 1) h.from) (after s (d - 1) h.from) r
        → Sees (part_at s named d at) (after s d at) r
    sees_one None e k = names ∙ rw e k
    sees_one (Some m) e k = (names ∙ rw e k.0, k.1 ∙ sym (place ∙ rw e))

    pub sees_first : (x.parts ≡ 0 → ⊥) → Sees (part_at s named (d - 1) h.from) (after s (d - 1) h.from) None
        → Sees (part_at s named d at) (after s d at) None
    sees_first z k = names ∙ first x.parts _ _ z k

    module _ {m : ℕ} (k : Sees (part_at s named (d - 1) h.from) (after s (d - 1) h.from) (Some m)) (z : x.parts ≡ 0 → ⊥)
        (o : x.parts ≡ 1 → ⊥) where
      two : x.parts ≡ 2
      two = let b : x.parts ≤ 2 = rw ex (parts_small h.code) in omega arith

      pub sees_two : (r : Option ℕ) → Sees (part_at s named (d - 1) m) (after s (d - 1) m) r → Sees (part_at s named d at) (after s d at) r
      sees_two None n = names ∙ rw (two, k.0) (rw k.1 at n)
      sees_two (Some i) n =
          let n' = rw k.1 at n in
          (names ∙ rw (two, k.0) n'.0, n'.1 ∙ sym (place ∙ rw two))
