-- A table's declared masks count, and not its body: T and M of every part that uses the table, its wrong parts, and the typing of the
-- whole policy stay as they were when the body is replaced (`parts_kept`, `typing_kept`); and the form stays (`replaced_formed`).
use Prim.Native.Nat.{ℕ, zero, suc, ◌+◌, ◌<◌, ◌≤◌}
use native.Mathlib.Omega.{arith}
use mathlib.Core.Path.{◌≡◌, refl, sym, ap, ◌∙◌, subst}
use mathlib.Core.Bool.{Bool, true, false}
use mathlib.Core.Logic.{◌↔◌}
use mathlib.Core.List.{List, [], ◌∷◌}
use mathlib.Core.Option.{Option, none, some}
use lib.Bits.{bit_or}
use lib.ListN.{length, get_or}
use Rattle.rules.specs.Parts.{Part, Id, Drop, Test, Set, Not, Sum, Seq, Beside, Table, Open, write, size}
use Rattle.rules.specs.Typing.{tested, written, fits, wrongs}
use Rattle.rules.specs.Books.{most_bytes, most_depth, Entry, Policy, entries, bytes_of, write_book, first_body, start_in, use_of, no_entry}
use Rattle.rules.specs.Books.{table_of, Scope, scope_of, Fine, masks_fit, OfBody, OfEach, WellFormed, Typed}
use Rattle.rules.specs.Replacing.{declared_reads, declared_writes, body_of, rebound, tables_with, with_tables, replaced_body, TypedFor}
use Rattle.rules.proofs.Decoding.{Named, populated, unpopulated, named_written, named_fine}
use Rattle.rules.proofs.Whole.{use_named, FineBody}
use Rattle.rules.proofs.Faults.{right_wrongs, TypedAs, TypedBody, main_right}

-- T and M of a use: "T = R and W together, M = W, whether populated or not"
use_masks : (x r w start : ℕ) (b : Option Part)
    → (tested (use_of x r w start b) ≡ bit_or r w) × (written (use_of x r w start b) ≡ w)
unfolding tested written
use_masks x r w start none = (refl, refl)
use_masks x r w start (some p) = (refl, refl)

-- ---- one part

-- each use in a part has the masks that are declared for its table
abbrev pub Declared : (reads writes : ℕ → ℕ) → Part → Type 0
Declared reads writes Id = Unit {0}
Declared reads writes Drop = Unit {0}
Declared reads writes (Test f v) = Unit {0}
Declared reads writes (Set f v) = Unit {0}
Declared reads writes (Not p) = Declared reads writes p
Declared reads writes (Sum p q) = Declared reads writes p × Declared reads writes q
Declared reads writes (Seq p q) = Declared reads writes p × Declared reads writes q
Declared reads writes (Beside wp wq p q) = Declared reads writes p × Declared reads writes q
Declared reads writes (Table x r w start p) = (reads x ≡ r) × (writes x ≡ w)
Declared reads writes (Open x r w) = (reads x ≡ r) × (writes x ≡ w)

table_masks : (x r w start : ℕ) (b : Option Part) (r' w' start' : ℕ) (p : Part) → use_of x r w start b ≡ Table x r' w' start' p
    → (r ≡ r') × (w ≡ w')
table_masks x r w start none r' w' start' p e = let z : ◌≡◌ {A = ℕ} 0 1 = cc in absurd (omega arith)
table_masks x r w start (some q) r' w' start' p e = (cc, cc)

open_masks : (x r w start : ℕ) (b : Option Part) (r' w' : ℕ) → use_of x r w start b ≡ Open x r' w' → (r ≡ r') × (w ≡ w')
open_masks x r w start none r' w' e = (cc, cc)
open_masks x r w start (some q) r' w' e = let z : ◌≡◌ {A = ℕ} 0 1 = cc in absurd (omega arith)

-- a use of a table in a policy has the masks that the policy declares for it
pub fine_declared : (P : Policy) (c : Scope) (d : ℕ) (pred : Bool) (p : Part) → Fine c (table_of P) d pred p
    → Declared (declared_reads P) (declared_writes P) p
unfolding Fine table_of
fine_declared P c zero pred p f = absurd f
fine_declared P c (suc d) pred Id f = tt
fine_declared P c (suc d) pred Drop f = tt
fine_declared P c (suc d) pred (Test i v) f = tt
fine_declared P c (suc d) pred (Set i v) f = tt
fine_declared P c (suc d) pred (Not p) f = fine_declared P c d true p f
fine_declared P c (suc d) pred (Sum p q) f = (fine_declared P c d pred p f.0, fine_declared P c d pred q f.1)
fine_declared P c (suc d) pred (Seq p q) f = (fine_declared P c d pred p f.0, fine_declared P c d pred q f.1)
fine_declared P c (suc d) pred (Beside wp wq p q) f = (fine_declared P c d pred p f.3, fine_declared P c d pred q f.4)
fine_declared P c (suc d) pred (Table x r w start p) f =
    table_masks x (declared_reads P x) (declared_writes P x) _ (body_of P x) r w start p f.4
fine_declared P c (suc d) pred (Open x r w) f = open_masks x (declared_reads P x) (declared_writes P x) _ (body_of P x) r w f.4

-- what a part is typed by
abbrev pub SameMasks : Part → Part → Type 0
SameMasks p q = (tested p ≡ tested q) × (written p ≡ written q)

-- bound to the same from 1 on
rebound_same : (c : Scope) (before named named' : ℕ → Part) → ((x : ℕ) → 0 < x → named x ≡ named' x)
    → (d : ℕ) (pred : Bool) (p : Part) → Fine c before d pred p → rebound named p ≡ rebound named' p
unfolding rebound Fine
rebound_same c before n n' e zero pred p f = absurd f
rebound_same c before n n' e (suc d) pred Id f = refl
rebound_same c before n n' e (suc d) pred Drop f = refl
rebound_same c before n n' e (suc d) pred (Test i v) f = refl
rebound_same c before n n' e (suc d) pred (Set i v) f = refl
rebound_same c before n n' e (suc d) pred (Not p) f = rw (rebound_same c before n n' e d true p f)
rebound_same c before n n' e (suc d) pred (Sum p q) f =
    rw (rebound_same c before n n' e d pred p f.0, rebound_same c before n n' e d pred q f.1)
rebound_same c before n n' e (suc d) pred (Seq p q) f =
    rw (rebound_same c before n n' e d pred p f.0, rebound_same c before n n' e d pred q f.1)
rebound_same c before n n' e (suc d) pred (Beside wp wq p q) f =
    rw (rebound_same c before n n' e d pred p f.3, rebound_same c before n n' e d pred q f.4)
rebound_same c before n n' e (suc d) pred (Table x r w start p) f = e x f.2
rebound_same c before n n' e (suc d) pred (Open x r w) f = e x f.2

module _ (named : ℕ → Part) (names : (x : ℕ) → Named x (named x)) where
  -- whatever a use stands for, it is written as the table's number
  pub rebound_written : (p : Part) → write (rebound named p) ≡ write p
  unfolding rebound write
  rebound_written Id = refl
  rebound_written Drop = refl
  rebound_written (Test f v) = refl
  rebound_written (Set f v) = refl
  rebound_written (Not p) = rw (rebound_written p)
  rebound_written (Sum p q) = rw (rebound_written p, rebound_written q)
  rebound_written (Seq p q) = rw (rebound_written p, rebound_written q)
  rebound_written (Beside wp wq p q) = rw (rebound_written p, rebound_written q)
  rebound_written (Table x r w start p) = named_written x (named x) (names x)
  rebound_written (Open x r w) = named_written x (named x) (names x)

  pub rebound_fine : (c : Scope) (before : ℕ → Part) (d : ℕ) (pred : Bool) (p : Part) → Fine c before d pred p
      → Fine c named d pred (rebound named p)
  unfolding rebound Fine
  rebound_fine c before zero pred p f = absurd f
  rebound_fine c before (suc d) pred Id f = tt
  rebound_fine c before (suc d) pred Drop f = tt
  rebound_fine c before (suc d) pred (Test i v) f = f
  rebound_fine c before (suc d) pred (Set i v) f = f
  rebound_fine c before (suc d) pred (Not p) f = rebound_fine c before d true p f
  rebound_fine c before (suc d) pred (Sum p q) f =
      (rebound_fine c before d pred p f.0, rebound_fine c before d pred q f.1)
  rebound_fine c before (suc d) pred (Seq p q) f =
      (rebound_fine c before d pred p f.0, rebound_fine c before d pred q f.1)
  rebound_fine c before (suc d) pred (Beside wp wq p q) f =
      (f.0, f.1, f.2, rebound_fine c before d pred p f.3, rebound_fine c before d pred q f.4)
  rebound_fine c before (suc d) pred (Table x r w start p) f =
      named_fine c named d x pred (named x) refl (names x) f.0 f.1 f.2 f.3
  rebound_fine c before (suc d) pred (Open x r w) f =
      named_fine c named d x pred (named x) refl (names x) f.0 f.1 f.2 f.3

  module _ (reads writes : ℕ → ℕ)
      (kept : (x : ℕ) → (tested (named x) ≡ bit_or (reads x) (writes x)) × (written (named x) ≡ writes x)) where
    kept_use : (x r w : ℕ) → (reads x ≡ r) × (writes x ≡ w) → (tested (named x) ≡ bit_or r w) × (written (named x) ≡ w)
    kept_use x r w h = rw (← h.0, ← h.1) (kept x)

    pub rebound_masks : (p : Part) → Declared reads writes p → SameMasks (rebound named p) p
    unfolding rebound tested written
    rebound_masks Id h = (refl, refl)
    rebound_masks Drop h = (refl, refl)
    rebound_masks (Test f v) h = (refl, refl)
    rebound_masks (Set f v) h = (refl, refl)
    rebound_masks (Not p) h = rebound_masks p h
    rebound_masks (Sum p q) h =
        let a = rebound_masks p h.0 in
        let b = rebound_masks q h.1 in
        (rw (a.0, b.0), rw (a.1, b.1))
    rebound_masks (Seq p q) h =
        let a = rebound_masks p h.0 in
        let b = rebound_masks q h.1 in
        (rw (a.0, b.0), rw (a.1, b.1))
    rebound_masks (Beside wp wq p q) h =
        let a = rebound_masks p h.0 in
        let b = rebound_masks q h.1 in
        (rw (a.0, b.0), refl)
    rebound_masks (Table x r w start p) h = kept_use x r w h
    rebound_masks (Open x r w) h = kept_use x r w h

    named_wrongs : (at x : ℕ) (p : Part) → Named x p → wrongs at p ≡ []
    unfolding wrongs
    named_wrongs at x _ (populated r w start p) = refl
    named_wrongs at x _ (unpopulated r w) = refl

    pub rebound_wrongs : (at : ℕ) (p : Part) → Declared reads writes p → wrongs at (rebound named p) ≡ wrongs at p
    unfolding rebound wrongs
    rebound_wrongs at Id h = refl
    rebound_wrongs at Drop h = refl
    rebound_wrongs at (Test f v) h = refl
    rebound_wrongs at (Set f v) h = refl
    rebound_wrongs at (Not p) h = rebound_wrongs (at + 1) p h
    rebound_wrongs at (Sum p q) h =
        rw (rebound_written p, rebound_wrongs (at + 1) p h.0, rebound_wrongs (at + 1 + size p) q h.1)
    rebound_wrongs at (Seq p q) h =
        rw (rebound_written p, rebound_wrongs (at + 1) p h.0, rebound_wrongs (at + 1 + size p) q h.1)
    rebound_wrongs at (Beside wp wq p q) h =
        let a = rebound_masks p h.0 in
        let b = rebound_masks q h.1 in
        rw (
          rebound_written p,
          a.0,
          a.1,
          b.0,
          b.1,
          rebound_wrongs (at + 3) p h.0,
          rebound_wrongs (at + 3 + size p) q h.1,
        )
    rebound_wrongs at (Table x r w start p) h = named_wrongs at x (named x) (names x)
    rebound_wrongs at (Open x r w) h = named_wrongs at x (named x) (names x)

-- ---- a policy

-- what each number stands for in a policy, and its masks
abbrev policy_names : (P : Policy) (x : ℕ) → Named x (table_of P x)
unfolding table_of
policy_names P x = use_named x (declared_reads P x) (declared_writes P x) _ (body_of P x)

pub policy_masks : (P : Policy) (x : ℕ)
    → (tested (table_of P x) ≡ bit_or (declared_reads P x) (declared_writes P x)) × (written (table_of P x) ≡ declared_writes P x)
unfolding table_of
policy_masks P x = use_masks x (declared_reads P x) (declared_writes P x) _ (body_of P x)

-- the declared masks of these entries
abbrev SameDeclared : Entry → Entry → Type 0
SameDeclared e f = (e.reads ≡ f.reads) × (e.writes ≡ f.writes)

tables_declared : (x : ℕ) (b : Option Part) (es : List Entry) (i : ℕ)
    → SameDeclared (get_or (tables_with x b es) i no_entry) (get_or es i no_entry)
unfolding tables_with
tables_declared zero b es i = (refl, refl)
tables_declared (suc x) b [] i = (refl, refl)
tables_declared (suc zero) b (e ∷ es) zero = (refl, refl)
tables_declared (suc zero) b (e ∷ es) (suc i) = (refl, refl)
tables_declared (suc (suc x)) b (e ∷ es) zero = (refl, refl)
tables_declared (suc (suc x)) b (e ∷ es) (suc i) = tables_declared (suc x) b es i

with_length : (x : ℕ) (b : Option Part) (es : List Entry) → length (tables_with x b es) ≡ length es
unfolding tables_with
with_length zero b es = refl
with_length (suc x) b [] = refl
with_length (suc zero) b (e ∷ es) = refl
with_length (suc (suc x)) b (e ∷ es) = ap suc (with_length (suc x) b es)

with_body : (i : ℕ) (b : Option Part) (es : List Entry) → i < length es → (get_or (tables_with (suc i) b es) i no_entry).body ≡ b
unfolding tables_with
with_body i b [] l = absurd (omega arith)
with_body zero b (e ∷ es) l = refl
with_body (suc i) b (e ∷ es) l = with_body i b es (omega arith)

with_other : (x : ℕ) (b : Option Part) (es : List Entry) (i : ℕ) → (x ≡ suc i → ⊥)
    → get_or (tables_with x b es) i no_entry ≡ get_or es i no_entry
unfolding tables_with
with_other zero b es i h = refl
with_other (suc x) b [] i h = refl
with_other (suc zero) b (e ∷ es) zero h = absurd (h refl)
with_other (suc zero) b (e ∷ es) (suc i) h = refl
with_other (suc (suc x)) b (e ∷ es) zero h = refl
with_other (suc (suc x)) b (e ∷ es) (suc i) h = with_other (suc x) b es i (λ e. h (ap suc e))

-- what holds of every entry, and of an entry with the new body if it held with the old one
each_with : (C : Entry → Type 0) (x : ℕ) (b : Option Part)
    → ((e : Entry) → C e → C (record { reads = e.reads; writes = e.writes; body = b })) → (es : List Entry) → OfEach C es
    → OfEach C (tables_with x b es)
unfolding tables_with
each_with C zero b f es h = h
each_with C (suc x) b f [] h = h
each_with C (suc zero) b f (e ∷ es) h = (f e h.0, h.1)
each_with C (suc (suc x)) b f (e ∷ es) h = (h.0, each_with C (suc x) b f es h.1)

-- the tables stay typed, and were typed
typed_with : (i : ℕ) (b : Option Part) (es : List Entry) → OfEach TypedBody es → TypedAs (get_or es i no_entry) b
    → OfEach TypedBody (tables_with (suc i) b es)
unfolding tables_with
typed_with i b [] h k = tt
typed_with zero b (e ∷ es) h k = (k, h.1)
typed_with (suc i) b (e ∷ es) h k = (h.0, typed_with i b es h.1 k)

typed_without : (i : ℕ) (b : Option Part) (es : List Entry) → OfEach TypedBody (tables_with (suc i) b es)
    → TypedBody (get_or es i no_entry) → OfEach TypedBody es
unfolding tables_with
typed_without i b [] h k = tt
typed_without zero b (e ∷ es) h k = (k, h.1)
typed_without (suc i) b (e ∷ es) h k = (h.0, typed_without i b es h.1 k)

tables_typed : (P : Policy) (x : ℕ) (b : Option Part) → TypedFor P x b → OfEach TypedBody P.tables
    → OfEach TypedBody (tables_with x b P.tables)
unfolding entries tables_with
tables_typed P zero b new t = t
tables_typed P (suc i) b new t = typed_with i b P.tables t new

tables_were : (P : Policy) (x : ℕ) (b : Option Part) → TypedFor P x (body_of P x) → OfEach TypedBody (tables_with x b P.tables)
    → OfEach TypedBody P.tables
unfolding entries tables_with
tables_were P zero b old t = t
tables_were P (suc i) b old t = typed_without i b P.tables t old

typed_main : (P : Policy) → Fine (scope_of P.fields (length P.tables) true) (table_of P) most_depth false P.main
    → OfEach TypedBody P.tables → wrongs 0 P.main ≡ [] → fits P.reads P.writes P.main ≡ true → Typed P
unfolding entries
typed_main P f t e h = ((main_right P f t 0 e, h), t)

body_at : (P : Policy) (x : ℕ) (b : Option Part) → 0 < x → x ≤ length P.tables → body_of (replaced_body P x b) x ≡ b
unfolding replaced_body entries
body_at P zero b l u = absurd (omega arith)
body_at P (suc i) b l u = with_body i b P.tables (omega arith)

module _ (P : Policy) (x : ℕ) (b : Option Part) where
  abbrev Q : Policy
  Q = replaced_body P x b

  -- before the uses in the main policy are bound anew
  abbrev unbound : Policy
  unbound = with_tables P (tables_with x b P.tables) P.main

  tables_count : length Q.tables ≡ length P.tables
  unfolding replaced_body
  tables_count = with_length x b P.tables

  -- the body is replaced, and no other; no declared mask changes
  pub body_replaced : 0 < x → x ≤ length P.tables → body_of Q x ≡ b
  body_replaced = body_at P x b

  pub bodies_kept : (y : ℕ) → 0 < y → (x ≡ y → ⊥) → body_of Q y ≡ body_of P y
  unfolding replaced_body entries
  bodies_kept zero l h = absurd (omega arith)
  bodies_kept (suc i) l h = ap (λ (e : Entry). e.body) (with_other x b P.tables i h)

  pub declared_kept : (y : ℕ) → (declared_reads Q y ≡ declared_reads P y) × (declared_writes Q y ≡ declared_writes P y)
  unfolding replaced_body entries
  declared_kept zero = (refl, refl)
  declared_kept (suc i) = tables_declared x b P.tables i

  pub uses_kept : (y : ℕ) → SameMasks (table_of Q y) (table_of P y)
  uses_kept y =
      let a = policy_masks Q y in
      let m = policy_masks P y in
      let k = declared_kept y in
      (a.0 ∙ rw (k.0, k.1) (sym m.0), a.1 ∙ k.1 ∙ sym m.1)

  -- a use stands for the same before and after the main policy is bound anew, since it takes two bytes whatever it stands for
  bound_same : (y : ℕ) → 0 < y → table_of unbound y ≡ table_of Q y
  unfolding replaced_body table_of entries start_in bytes_of
  bound_same zero l = absurd (omega arith)
  bound_same (suc i) l =
      let es : List Entry = tables_with x b P.tables in
      let e : Entry = get_or es i no_entry in
      ap (λ (s : List ℕ). use_of (suc i) e.reads e.writes (start_in (first_body (length es) + length s) es i) e.body)
      (sym (rebound_written (table_of unbound) (policy_names unbound) P.main))

  -- T and M of every part that uses tables of the policy, and its wrong parts, whatever body is put in
  module _ (c : Scope) (d : ℕ) (pred : Bool) (p : Part) (f : Fine c (table_of P) d pred p) where
    declared : Declared (declared_reads P) (declared_writes P) p
    declared = fine_declared P c d pred p f

    still : (y : ℕ)
        → (tested (table_of Q y) ≡ bit_or (declared_reads P y) (declared_writes P y)) × (written (table_of Q y) ≡ declared_writes P y)
    still y = let k = declared_kept y in rw (← k.0, ← k.1) (policy_masks Q y)

    pub parts_kept : SameMasks (rebound (table_of Q) p) p
    parts_kept = rebound_masks (table_of Q) (policy_names Q) (declared_reads P) (declared_writes P) still p declared

    pub wrongs_kept : (at : ℕ) → wrongs at (rebound (table_of Q) p) ≡ wrongs at p
    wrongs_kept at = rebound_wrongs (table_of Q) (policy_names Q) (declared_reads P) (declared_writes P) still at p declared

  module _ (formed : WellFormed P) where
    abbrev scope : Scope
    scope = scope_of P.fields (length P.tables) true

    -- each use in the new main policy stands for what the new policy says of its table
    pub replaced_main : Q.main ≡ rebound (table_of Q) P.main
    unfolding replaced_body
    replaced_main = rebound_same scope (table_of P) (table_of unbound) (table_of Q) bound_same most_depth false P.main formed.main

    pub main_written : write Q.main ≡ write P.main
    main_written = rw replaced_main (rebound_written (table_of Q) (policy_names Q) P.main)

    main_fine : Fine (scope_of Q.fields (length Q.tables) true) (table_of Q) most_depth false Q.main
    unfolding replaced_body
    main_fine =
        let f = rebound_fine (table_of Q) (policy_names Q) scope (table_of P) most_depth false P.main formed.main in
        let g = subst (λ (p : Part). Fine scope (table_of Q) most_depth false p) (sym replaced_main) f in
        subst (λ (m : ℕ). Fine (scope_of P.fields m true) (table_of Q) most_depth false Q.main) (sym tables_count) g

    -- the main policy's wrong parts, and whether it fits, whatever body is put in
    pub main_wrongs : (at : ℕ) → wrongs at Q.main ≡ wrongs at P.main
    main_wrongs at = rw replaced_main (wrongs_kept scope most_depth false P.main formed.main at)

    pub main_fits : fits Q.reads Q.writes Q.main ≡ fits P.reads P.writes P.main
    unfolding replaced_body
    main_fits =
        let m : SameMasks Q.main P.main = rw replaced_main (parts_kept scope most_depth false P.main formed.main) in
        rw (m.0, m.1)

    -- a typed policy stays typed with a new body that is right and fits, and was typed before if the old body is right and fits
    pub replaced_typed : TypedFor P x b → Typed P → Typed Q
    unfolding replaced_body entries
    replaced_typed new t =
        typed_main Q main_fine (tables_typed P x b new t.1) (main_wrongs 0 ∙ right_wrongs 0 P.main t.0.0) (main_fits ∙ t.0.1)

    pub typed_before : TypedFor P x (body_of P x) → Typed Q → Typed P
    unfolding replaced_body entries
    typed_before old t =
        typed_main P formed.main (tables_were P x b old t.1) (sym (main_wrongs 0) ∙ right_wrongs 0 Q.main t.0.0)
        (sym main_fits ∙ t.0.1)

    pub typing_kept : TypedFor P x (body_of P x) → TypedFor P x b → Typed P ↔ Typed Q
    typing_kept old new = (replaced_typed new, typed_before old)

    -- and the form, where the new body has it and the book does not grow too long
    pub replaced_formed : OfBody (FineBody P.fields (length P.tables)) b → length (write_book Q) ≤ most_bytes → WellFormed Q
    unfolding replaced_body entries
    replaced_formed new bytes = record {
      fields = formed.fields;
      tables = rw tables_count formed.tables;
      bytes = bytes;
      masks = (
        formed.masks.0,
        each_with (λ e. masks_fit P.fields e.reads e.writes ≡ true) x b (λ e h. h) P.tables formed.masks.1,
      );
      main = main_fine;
      bodies =
          let form = FineBody P.fields (length P.tables) in
          rw tables_count (each_with (λ e. OfBody form e.body) x b (λ e h. new) P.tables formed.bodies);
    }
