-- What a well-formed policy's parts keep to: only predicates under "not", fields below k, masks T and M within the k fields.
use Prim.Native.Nat.{ℕ, zero, suc, ◌^◌, ◌<◌, ◌≤◌}
use native.Mathlib.Omega.{arith}
use native.Mathlib.Nat.{mod-eq_of_lt}
use mathlib.Core.Path.{◌≡◌, sym, ap, ◌∙◌}
use mathlib.Core.Bool.{Bool, true, false, false≢true}
use mathlib.Core.List.{List, [], ◌∷◌}
use mathlib.Core.Option.{Option, none, some}
use lib.Bits.{bit_and, bit_or, or_lt, and_mask}
use lib.ListN.{length, get_or}
use lib.Pow.{pow-lt, pow_pos}
use Rattle.rules.specs.Masks.{has, all_fields, Sub}
use Rattle.rules.specs.Parts.{Part, Id, Drop, Test, Set, Not, Sum, Seq, Beside, Table, Open, Predicate, Formed}
use Rattle.rules.specs.Typing.{tested, written}
use Rattle.rules.specs.Books.{most_depth, Entry, Policy, entries, use_of, no_entry, table_of, Scope, scope_of, no_use}
use Rattle.rules.specs.Books.{Fine, masks_fit, OfBody, OfEach, WellFormed}
use Rattle.rules.proofs.MaskLaws.{has_and}
use Rattle.rules.proofs.ReadingLaws.{and_was}
use Rattle.rules.proofs.Whole.{FineBody}
use Rattle.rules.proofs.WrittenBytes.{masks_below}
use Rattle.rules.proofs.FieldsBelow.{FieldsBelow}

-- where code 8 may stand, what each table's number stands for is so
abbrev pub OfUses : (Part → Type 0) → Scope → (ℕ → Part) → Type 0
OfUses C c named = c.main ≡ true → (x : ℕ) → 0 < x → x ≤ c.tables → C (named x)

-- no table stands in a table's body
pub no_uses : (C : Part → Type 0) (k m : ℕ) → OfUses C (scope_of k m false) no_use
no_uses C k m h = absurd (false≢true h)

-- what holds of a use of each table, from what holds of its entry
pub each_at : (D : Entry → Type 0) (es : List Entry) (i : ℕ) → OfEach D es → i < length es → D (get_or es i no_entry)
each_at D [] i h l = absurd (omega arith)
each_at D (e ∷ es) zero h l = h.0
each_at D (e ∷ es) (suc i) h l = each_at D es i h.1 (omega arith)

pub of_tables : (C : Part → Type 0) (D : Entry → Type 0)
    → ((x start : ℕ) (e : Entry) → D e → C (use_of x e.reads e.writes start e.body))
    → (P : Policy) → OfEach D P.tables → OfUses C (scope_of P.fields (length P.tables) true) (table_of P)
unfolding table_of entries
of_tables C D f P h m zero l u = absurd (omega arith)
of_tables C D f P h m (suc i) l u = f (suc i) _ (get_or P.tables i no_entry) (each_at D P.tables i h (omega arith))

-- T and M of a part lie below 2 ^ k
abbrev pub MasksBelow : ℕ → Part → Type 0
MasksBelow k p = (tested p < 2 ^ k) × (written p < 2 ^ k)

both_below : (k a b m n : ℕ) → (a < 2 ^ k) × (m < 2 ^ k) → (b < 2 ^ k) × (n < 2 ^ k) → (bit_or a b < 2 ^ k) × (bit_or m n < 2 ^ k)
both_below k a b m n h g = (or_lt k a b h.0 g.0, or_lt k m n h.1 g.1)

-- ---- only predicates under "not"

module _ (c : Scope) (named : ℕ → Part) where
  fine_predicate : (d : ℕ) (p : Part) → Fine c named d true p → Predicate p
  unfolding Fine
  fine_predicate zero p f = absurd f
  fine_predicate (suc d) Id f = tt
  fine_predicate (suc d) Drop f = tt
  fine_predicate (suc d) (Test i v) f = tt
  fine_predicate (suc d) (Set i v) f = absurd (false≢true (sym f.0))
  fine_predicate (suc d) (Not p) f = fine_predicate d p f
  fine_predicate (suc d) (Sum p q) f = (fine_predicate d p f.0, fine_predicate d q f.1)
  fine_predicate (suc d) (Seq p q) f = (fine_predicate d p f.0, fine_predicate d q f.1)
  fine_predicate (suc d) (Beside wp wq p q) f = absurd (false≢true (sym f.0))
  fine_predicate (suc d) (Table x r w start p) f = absurd (false≢true (sym f.0))
  fine_predicate (suc d) (Open x r w) f = absurd (false≢true (sym f.0))

  fine_formed : OfUses Formed c named → (d : ℕ) (pred : Bool) (p : Part) → Fine c named d pred p → Formed p
  unfolding Fine
  fine_formed u zero pred p f = absurd f
  fine_formed u (suc d) pred Id f = tt
  fine_formed u (suc d) pred Drop f = tt
  fine_formed u (suc d) pred (Test i v) f = tt
  fine_formed u (suc d) pred (Set i v) f = tt
  fine_formed u (suc d) pred (Not p) f = (fine_predicate d p f, fine_formed u d true p f)
  fine_formed u (suc d) pred (Sum p q) f = (fine_formed u d pred p f.0, fine_formed u d pred q f.1)
  fine_formed u (suc d) pred (Seq p q) f = (fine_formed u d pred p f.0, fine_formed u d pred q f.1)
  fine_formed u (suc d) pred (Beside wp wq p q) f = (fine_formed u d pred p f.3, fine_formed u d pred q f.4)
  fine_formed u (suc d) pred (Table x r w start p) f = rw f.4 at (u f.1 x f.2 f.3)
  fine_formed u (suc d) pred (Open x r w) f = tt

  -- ---- fields below k

  fine_below : OfUses (FieldsBelow c.fields) c named → (d : ℕ) (pred : Bool) (p : Part) → Fine c named d pred p
      → FieldsBelow c.fields p
  unfolding Fine
  fine_below u zero pred p f = absurd f
  fine_below u (suc d) pred Id f = tt
  fine_below u (suc d) pred Drop f = tt
  fine_below u (suc d) pred (Test i v) f = f.0
  fine_below u (suc d) pred (Set i v) f = f.1
  fine_below u (suc d) pred (Not p) f = fine_below u d true p f
  fine_below u (suc d) pred (Sum p q) f = (fine_below u d pred p f.0, fine_below u d pred q f.1)
  fine_below u (suc d) pred (Seq p q) f = (fine_below u d pred p f.0, fine_below u d pred q f.1)
  fine_below u (suc d) pred (Beside wp wq p q) f = (fine_below u d pred p f.3, fine_below u d pred q f.4)
  fine_below u (suc d) pred (Table x r w start p) f = rw f.4 at (u f.1 x f.2 f.3)
  fine_below u (suc d) pred (Open x r w) f = tt

  -- ---- T and M below 2 ^ k

  pub fine_masks : OfUses (MasksBelow c.fields) c named → (d : ℕ) (pred : Bool) (p : Part) → Fine c named d pred p
      → MasksBelow c.fields p
  unfolding Fine tested written
  fine_masks u zero pred p f = absurd f
  fine_masks u (suc d) pred Id f = (pow_pos c.fields, pow_pos c.fields)
  fine_masks u (suc d) pred Drop f = (pow_pos c.fields, pow_pos c.fields)
  fine_masks u (suc d) pred (Test i v) f = (pow-lt f.0, pow_pos c.fields)
  fine_masks u (suc d) pred (Set i v) f = (pow_pos c.fields, pow-lt f.1)
  fine_masks u (suc d) pred (Not p) f = fine_masks u d true p f
  fine_masks u (suc d) pred (Sum p q) f =
      both_below c.fields (tested p) (tested q) (written p) (written q) (fine_masks u d pred p f.0) (fine_masks u d pred q f.1)
  fine_masks u (suc d) pred (Seq p q) f =
      both_below c.fields (tested p) (tested q) (written p) (written q) (fine_masks u d pred p f.0) (fine_masks u d pred q f.1)
  fine_masks u (suc d) pred (Beside wp wq p q) f =
      both_below c.fields (tested p) (tested q) wp wq ((fine_masks u d pred p f.3).0, f.1) ((fine_masks u d pred q f.4).0, f.2)
  fine_masks u (suc d) pred (Table x r w start p) f = rw f.4 at (u f.1 x f.2 f.3)
  fine_masks u (suc d) pred (Open x r w) f = rw f.4 at (u f.1 x f.2 f.3)

-- ---- of the main policy of a well-formed one

-- what holds of every body holds of the uses
body_use : (C F : Part → Type 0) → ((x r w : ℕ) → C (Open x r w)) → ((x r w start : ℕ) (p : Part) → F p → C (Table x r w start p))
    → (x start : ℕ) (e : Entry) → OfBody F e.body → C (use_of x e.reads e.writes start e.body)
body_use C F g h x start e = go e.body
  where
    go : (b : Option Part) → OfBody F b → C (use_of x e.reads e.writes start b)
    go none f = g x e.reads e.writes
    go (some p) f = h x e.reads e.writes start p f

pub masks_use : (k x start : ℕ) (e : Entry) → masks_fit k e.reads e.writes ≡ true
    → MasksBelow k (use_of x e.reads e.writes start e.body)
unfolding tested written
masks_use k x start e h = let m = masks_below k e.reads e.writes h in go e.body m.1 m.2
  where
    go : (b : Option Part) → e.reads < 2 ^ k → e.writes < 2 ^ k → MasksBelow k (use_of x e.reads e.writes start b)
    go none r w = (or_lt k e.reads e.writes r w, w)
    go (some p) r w = (or_lt k e.reads e.writes r w, w)

-- a mask below 2 ^ k has only fields below k
sub_all : (k m : ℕ) → m < 2 ^ k → Sub m (all_fields k)
sub_all k m l f h =
    let q : bit_and m (all_fields k) ≡ m = and_mask m k ∙ mod-eq_of_lt l in
    (and_was (has m f) (has (all_fields k) f) (sym (has_and m (all_fields k) f) ∙ ap (λ (x : ℕ). has x f) q ∙ h)).1

module _ (P : Policy) (w : WellFormed P) where
  abbrev k : ℕ
  k = P.fields

  abbrev m : ℕ
  m = length P.tables

  pub main_formed : Formed P.main
  main_formed =
      let body = fine_formed (scope_of k m false) no_use (no_uses Formed k m) most_depth false in
      let on = body_use Formed (FineBody k m) (λ x r w. tt) (λ x r w start. body) in
      let uses = of_tables Formed (λ e. OfBody (FineBody k m) e.body) on P w.bodies in
      fine_formed (scope_of k m true) (table_of P) uses most_depth false P.main w.main

  pub main_below : FieldsBelow P.fields P.main
  main_below =
      let body = fine_below (scope_of k m false) no_use (no_uses (FieldsBelow k) k m) most_depth false in
      let on = body_use (FieldsBelow k) (FineBody k m) (λ x r w. tt) (λ x r w start. body) in
      let uses = of_tables (FieldsBelow k) (λ e. OfBody (FineBody k m) e.body) on P w.bodies in
      fine_below (scope_of k m true) (table_of P) uses most_depth false P.main w.main

  pub main_masks : MasksBelow P.fields P.main
  unfolding entries
  main_masks =
      let uses = of_tables (MasksBelow k) (λ e. masks_fit k e.reads e.writes ≡ true) (masks_use k) P w.masks.1 in
      fine_masks (scope_of k m true) (table_of P) uses most_depth false P.main w.main

  pub main_tested : Sub (tested P.main) (all_fields P.fields)
  main_tested = sub_all k (tested P.main) main_masks.0

  pub main_written : Sub (written P.main) (all_fields P.fields)
  main_written = sub_all k (written P.main) main_masks.1
