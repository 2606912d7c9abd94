-- The book level of acceptance: bytes that pass the tests 1 to 5 are the well-formed policy that they decode to, written (`whole_read`);
-- and a well-formed policy, written, passes them and decodes to itself (`whole_reads`).
use Rattle.std.specs.Prelude.{Ok}
use Prim.Native.Nat.{ℕ, zero, suc, ◌+◌, ◌<◌, ◌≤◌}
use native.Mathlib.Omega.{arith}
use native.Mathlib.Nat.{zero-add}
use mathlib.Core.Path.{◌≡◌, refl, sym, subst, ap, ◌∙◌}
use mathlib.Core.Bool.{Bool, true, false, cond, false≢true}
use mathlib.Core.List.{List, [], ◌∷◌, ◌++◌}
use mathlib.Core.Option.{Option, none, some}
use lib.Dec.{eqb}
use lib.ListN.{length, get_or, drop, take}
use borrow.Author.Tests.{eq-eqb, ne_eqb, eqb-true}
use Rattle.rules.specs.Parts.{Part, Id, Drop, Test, Set, Not, Sum, Seq, Beside, Table, Open, size}
use Rattle.rules.specs.Books.{most_fields, most_tables, most_bytes, most_depth, Entry, Policy, entries, bytes_of, Bytes}
use Rattle.rules.specs.Books.{write_book, first_body, start_in, use_of, no_entry, table_of, Scope, scope_of, no_use, Fine}
use Rattle.rules.specs.Books.{masks_fit, OfBody, OfEach, WellFormed}
use Rattle.rules.specs.Reading.{read_body, fields_of, tables_of, length_at, reads_at, writes_at, body_start, read_entry}
use Rattle.rules.specs.Reading.{read_entries, masks_right, part_at, body_at, use_at, main_of, tables_from, policy_of}
use Rattle.rules.proofs.Decoding.{size_positive, Named, populated, unpopulated, Names, then_was}
use Rattle.rules.proofs.ReadingLaws.{and_was}
use Rattle.rules.proofs.Decoding.{body_read, body_reads}
use Rattle.rules.proofs.Standing.{EntryThere, AllThere, start_stands, book_stands, written_stands}

-- the tests 1 to 5
pub record Readable (s : List ℕ) : Type 0 where
  pub bytes : (2 ≤ length s) × (length s ≤ most_bytes)
  pub fields : (1 ≤ fields_of s) × (fields_of s ≤ most_fields)
  pub tables : tables_of s ≤ most_tables
  pub lengths : body_start s (suc (tables_of s)) ≡ length s
  pub masks : masks_right s (suc (tables_of s)) 0 ≡ true
  pub form : (a : ℕ) × (read_entries s (suc (tables_of s)) 0 ≡ Ok a)

-- ---- what a use stands for

pub use_named : (x r w start : ℕ) (b : Option Part) → Named x (use_of x r w start b)
use_named x r w start none = unpopulated r w
use_named x r w start (some p) = populated r w start p

pub names_use : (c : Scope) (s : List ℕ) → Names c (use_at s)
unfolding use_at
names_use c s h x l u = use_named x (reads_at s x) (writes_at s x) (body_start s x) (body_at s x)

pub names_none : (k m : ℕ) (named : ℕ → Part) → Names (scope_of k m false) named
names_none k m named h = absurd (false≢true h)

-- a fine part is fine wherever its tables' numbers stand for the same
pub fine_same : (c : Scope) (named named' : ℕ → Part) → ((x : ℕ) → 0 < x → x ≤ c.tables → named x ≡ named' x)
    → (d : ℕ) (pred : Bool) (p : Part) → Fine c named d pred p → Fine c named' d pred p
unfolding Fine
fine_same c n n' e zero pred p f = f
fine_same c n n' e (suc d) pred Id f = f
fine_same c n n' e (suc d) pred Drop f = f
fine_same c n n' e (suc d) pred (Test i v) f = f
fine_same c n n' e (suc d) pred (Set i v) f = f
fine_same c n n' e (suc d) pred (Not p) f = fine_same c n n' e d true p f
fine_same c n n' e (suc d) pred (Sum p q) f = (fine_same c n n' e d pred p f.0, fine_same c n n' e d pred q f.1)
fine_same c n n' e (suc d) pred (Seq p q) f = (fine_same c n n' e d pred p f.0, fine_same c n n' e d pred q f.1)
fine_same c n n' e (suc d) pred (Beside wp wq p q) f =
    (f.0, f.1, f.2, fine_same c n n' e d pred p f.3, fine_same c n n' e d pred q f.4)
fine_same c n n' e (suc d) pred (Table x r w start p) f = (f.0, f.1, f.2, f.3, sym (e x f.2 f.3) ∙ f.4)
fine_same c n n' e (suc d) pred (Open x r w) f = (f.0, f.1, f.2, f.3, sym (e x f.2 f.3) ∙ f.4)

-- ---- the tables that s says

abbrev pub table_at : List ℕ → ℕ → Entry
table_at s x = record { reads = reads_at s x; writes = writes_at s x; body = body_at s x }

pub tables_length : (s : List ℕ) (n x : ℕ) → length (tables_from s n x) ≡ n
unfolding tables_from
tables_length s zero x = refl
tables_length s (suc n) x = ap suc (tables_length s n (suc x))

tables_get : (s : List ℕ) (n x i : ℕ) → i < n → get_or (tables_from s n x) i no_entry ≡ table_at s (x + i)
unfolding tables_from
tables_get s zero x i l = absurd (omega arith)
tables_get s (suc n) x zero l = let q : x + 0 ≡ x = omega arith in rw q
tables_get s (suc n) x (suc i) l = let q : x + suc i ≡ suc x + i = omega arith in rw q (tables_get s n (suc x) i (omega arith))

-- a policy's tables stand for the same as those of the book where its entries stand
pub use_is : (s : List ℕ) (P : Policy) → AllThere s 0 (entries P) → tables_of s ≡ length P.tables
    → P.tables ≡ tables_from s (length P.tables) 1 → (x : ℕ) → 0 < x → x ≤ length P.tables → table_of P x ≡ use_at s x
unfolding table_of use_at entries body_start
use_is s P h m t zero l u = absurd (omega arith)
use_is s P h m t (suc i) l u =
    let n : ℕ = length P.tables in
    let one : 1 + i ≡ suc i = omega arith in
    let e : get_or P.tables i no_entry ≡ table_at s (suc i)
    = ap (λ (es : List Entry). get_or es i no_entry) t ∙ rw one at (tables_get s n 1 i (omega arith)) in
    let q : start_in (first_body n) (entries P) (suc i) ≡ body_start s (suc i)
    = rw (m, zero-add) at (start_stands s (entries P) 0 (suc i) h (omega arith)) in
    rw (e, q)

-- ---- the masks of entries that stand

module _ (s : List ℕ) where
  masks_read : (es : List Entry) (x : ℕ) → AllThere s x es → masks_right s (length es) x ≡ true
      → OfEach (λ e. masks_fit (fields_of s) e.reads e.writes ≡ true) es
  unfolding masks_right
  masks_read [] x h q = tt
  masks_read (e ∷ es) x h q =
      let w = and_was (masks_fit (fields_of s) (reads_at s x) (writes_at s x)) (masks_right s (length es) (suc x)) q in
      (rw (← h.0.reads, ← h.0.writes) w.0, masks_read es (suc x) h.1 w.1)

  masks_reads : (es : List Entry) (x : ℕ) → AllThere s x es → OfEach (λ e. masks_fit (fields_of s) e.reads e.writes ≡ true) es
      → masks_right s (length es) x ≡ true
  unfolding masks_right
  masks_reads [] x h q = refl
  masks_reads (e ∷ es) x h q = rw (h.0.reads, h.0.writes, q.0) (masks_reads es (suc x) h.1 q.1)

-- ---- what is read was written

starts_rise : (s : List ℕ) (x n : ℕ) → body_start s x ≤ body_start s (x + n)
unfolding body_start
starts_rise s x zero = let q : x + 0 ≡ x = omega arith in rw q (omega arith)
starts_rise s x (suc n) = let q : x + suc n ≡ suc (x + n) = omega arith in rw q (omega (arith, starts_rise s x n))

-- the form of a table's body
abbrev pub FineBody : ℕ → ℕ → Part → Type 0
FineBody k m = Fine (scope_of k m false) no_use most_depth false

-- the form of the bodies of some tables, by what s says of k and m
abbrev pub FineBodies : List ℕ → List Entry → Type 0
FineBodies s = OfEach (λ e. OfBody (FineBody (fields_of s) (tables_of s)) e.body)

module _ (s : List ℕ) (small : Bytes s) where
  abbrev TableRead : ℕ → Entry → Type 0
  TableRead x e = EntryThere s x e × OfBody (FineBody (fields_of s) (tables_of s)) e.body

  table_as : (x : ℕ) (b : Option Part) → body_at s x ≡ b → TableRead x (record { reads = reads_at s x; writes = writes_at s x; body = b })
      → TableRead x (table_at s x)
  table_as x b e h = rw e h

  table_read : (x a : ℕ) → read_entry s (suc x) ≡ Ok a → body_start s (suc (suc x)) ≤ length s → TableRead (suc x) (table_at s (suc x))
  unfolding read_entry body_at bytes_of body_start
  table_read x a q le = go (eqb (length_at s (suc x)) 0) refl q
    where
      c : Scope
      c = scope_of (fields_of s) (tables_of s) false

      p : Part
      p = part_at s no_use most_depth (body_start s (suc x))

      next : ℕ
      next = body_start s (suc (suc x))

      go : (t : Bool) → eqb (length_at s (suc x)) 0 ≡ t
          → cond t (Ok (body_start s (suc x))) (read_body (take next s) c (body_start s (suc x))) ≡ Ok a
          → TableRead (suc x) (table_at s (suc x))
      go true e q =
          let z : length_at s (suc x) ≡ 0 = eqb-true (length_at s (suc x)) 0 e in
          let n : body_start s (suc x) ≡ next = omega arith in
          table_as (suc x) none (rw e)
          (record { reads = refl; writes = refl; size = z; bytes = ap (λ (i : ℕ). drop i s) n }, tt)
      go false e q =
          let w = body_read s small c no_use (names_none (fields_of s) (tables_of s) no_use) (body_start s (suc x)) next a le q in
          table_as (suc x) (some p) (rw e)
          (record { reads = refl; writes = refl; size = omega (arith, w.1); bytes = w.2 }, w.3)

  tables_read : (n x a : ℕ) → read_entries s n (suc x) ≡ Ok a → body_start s (suc x + n) ≤ length s
      → AllThere s (suc x) (tables_from s n (suc x)) × FineBodies s (tables_from s n (suc x))
  unfolding read_entries tables_from
  tables_read zero x a q le = (tt, tt)
  tables_read (suc n) x a q le =
      let w = then_was (read_entry s (suc x)) (λ b. read_entries s n (suc (suc x))) a q in
      let e : suc x + suc n ≡ suc (suc x) + n = omega arith in
      let le' : body_start s (suc (suc x) + n) ≤ length s = rw e at le in
      let t = table_read x w.0 w.1 (omega (arith, starts_rise s (suc (suc x)) n)) in
      let ih = tables_read n (suc x) a w.2 le' in
      ((t.0, ih.0), (t.1, ih.1))

  abbrev main_at : Entry
  main_at = record { reads = reads_at s 0; writes = writes_at s 0; body = some (main_of s) }

  main_read : (a : ℕ) → read_entry s 0 ≡ Ok a → body_start s 1 ≤ length s
      → EntryThere s 0 main_at × Fine (scope_of (fields_of s) (tables_of s) true) (use_at s) most_depth false (main_of s)
  unfolding read_entry bytes_of body_start main_of
  main_read a q le =
      let c : Scope = scope_of (fields_of s) (tables_of s) true in
      let w = body_read s small c (use_at s) (names_use c s) (body_start s 0) (body_start s 1) a le q in
      (record { reads = refl; writes = refl; size = omega (arith, w.1); bytes = w.2 }, w.3)

  module _ (r : Readable s) where
    -- the entries that s says, and their form
    abbrev pub EntriesRead : Type 0
    EntriesRead =
        AllThere s 0 (entries (policy_of s)) × Fine (scope_of (fields_of s) (tables_of s) true) (use_at s) most_depth false (main_of s)
        × FineBodies s (tables_from s (tables_of s) 1)

    pub entries_read : EntriesRead
    unfolding policy_of entries read_entries
    entries_read =
        let m : ℕ = tables_of s in
        let w = then_was (read_entry s 0) (λ b. read_entries s m 1) r.form.0 r.form.1 in
        let e : 1 + m ≡ suc m = omega arith in
        let le : body_start s (1 + m) ≤ length s = rw e (omega (arith, r.lengths)) in
        let t = tables_read m 0 r.form.0 w.2 le in
        let p = main_read w.0 w.1 (omega (arith, starts_rise s 1 m)) in
        ((p.0, t.0), p.1, t.1)

    pub whole_read : WellFormed (policy_of s) × (s ≡ write_book (policy_of s))
    unfolding policy_of entries
    whole_read =
        let m : ℕ = tables_of s in
        let P : Policy = policy_of s in
        let w : EntriesRead = entries_read in
        let len : length P.tables ≡ m = tables_length s m 1 in
        let is : s ≡ write_book P = book_stands P s small r.bytes.0 refl (sym len) w.0 r.lengths in
        let same : (x : ℕ) → 0 < x → x ≤ m → use_at s x ≡ table_of P x
        = λ x l u. sym (use_is s P w.0 (sym len) (ap (λ (n : ℕ). tables_from s n 1) (sym len)) x l (omega arith)) in (
          record {
            fields = r.fields;
            tables = omega (arith, r.tables);
            bytes = rw (← is) r.bytes.1;
            masks = masks_read s (entries P) 0 w.0 (rw len r.masks);
            main = rw len (fine_same (scope_of (fields_of s) m true) (use_at s) (table_of P) same most_depth false (main_of s) w.1);
            bodies = rw len w.2;
          },
          is,
        )

-- ---- what is written is read

module _ (s : List ℕ) where
  table_reads : (x : ℕ) (e : Entry) → EntryThere s (suc x) e → OfBody (FineBody (fields_of s) (tables_of s)) e.body
      → (table_at s (suc x) ≡ e) × ((a : ℕ) × (read_entry s (suc x) ≡ Ok a))
  unfolding read_entry body_at bytes_of body_start
  table_reads x e h f = let w = go e.body h.size h.bytes f in (rw (h.reads, h.writes, w.0), w.1)
    where
      c : Scope
      c = scope_of (fields_of s) (tables_of s) false

      start : ℕ
      start = body_start s (suc x)

      go : (b : Option Part) → length_at s (suc x) ≡ length (bytes_of b) → drop start s ≡ bytes_of b ++ drop (body_start s (suc (suc x))) s
          → OfBody (FineBody (fields_of s) (tables_of s)) b → (body_at s (suc x) ≡ b) × ((a : ℕ) × (read_entry s (suc x) ≡ Ok a))
      go none n w f = let z = eq-eqb (length_at s (suc x)) 0 n in (rw z, (start, rw z))
      go (some p) n w f =
          let z = ne_eqb (length_at s (suc x)) 0 (λ e. omega (arith, size_positive p)) in
          let next : body_start s (suc (suc x)) ≡ start + size p = omega arith in
          let r = body_reads s c no_use start (body_start s (suc (suc x))) p (drop (body_start s (suc (suc x))) s) f w next in
          (rw (z, r.1), (body_start s (suc (suc x)), rw z r.0))

  tables_reads : (es : List Entry) (x : ℕ) → AllThere s (suc x) es → FineBodies s es
      → (tables_from s (length es) (suc x) ≡ es) × (read_entries s (length es) (suc x) ≡ Ok (length s))
  unfolding read_entries tables_from
  tables_reads [] x h f = (refl, refl)
  tables_reads (e ∷ es) x h f =
      let t = table_reads x e h.0 f.0 in
      let ih = tables_reads es (suc x) h.1 f.1 in
      (rw (t.0, ih.0), rw t.1.1 ih.1)

module _ (P : Policy) (w : WellFormed P) where
  -- of any bytes in which the policy's entries stand
  stand_reads : (s : List ℕ) → fields_of s ≡ P.fields → tables_of s ≡ length P.tables → AllThere s 0 (entries P)
      → (policy_of s ≡ P) × (masks_right s (suc (tables_of s)) 0 ≡ true) × (read_entries s (suc (tables_of s)) 0 ≡ Ok (length s))
  unfolding policy_of entries read_entries read_entry main_of bytes_of body_start
  stand_reads s k m h =
      let c : Scope = scope_of (fields_of s) (tables_of s) true in
      let t = tables_reads s P.tables 0 h.1 (rw (k, m) w.bodies) in
      let same : (x : ℕ) → 0 < x → x ≤ tables_of s → table_of P x ≡ use_at s x = λ x l u. use_is s P h m (sym t.0) x l (omega arith) in
      let f : Fine c (table_of P) most_depth false P.main = rw (k, m) w.main in
      let r = body_reads s c (use_at s) (body_start s 0) (body_start s 1) P.main (drop (body_start s 1) s)
      (fine_same c (table_of P) (use_at s) same most_depth false P.main f) h.0.bytes (omega (arith, h.0.size)) in
      let masks : OfEach (λ e. masks_fit (fields_of s) e.reads e.writes ≡ true) (entries P) =
      subst (λ (f : ℕ). OfEach (λ e. masks_fit f e.reads e.writes ≡ true) (entries P)) (sym k) w.masks in (
        rw (h.0.reads, h.0.writes, r.1, m, k, t.0),
        rw m (masks_reads s (entries P) 0 h masks),
        rw (r.0, m) t.1,
      )

  pub whole_reads : Readable (write_book P) × (policy_of (write_book P) ≡ P)
  unfolding write_book
  whole_reads =
      let h = written_stands P in
      let r = stand_reads (write_book P) refl refl h.0 in (
        record {
          bytes = (omega arith, w.bytes);
          fields = w.fields;
          tables = w.tables;
          lengths = h.1;
          masks = r.1;
          form = (length (write_book P), r.2);
        },
        r.0,
      )
