-- An accepted book is readable, its main policy stands where its body starts, and no run of it is stuck.
use Rattle.std.specs.Prelude.{Ok}
use Prim.Native.Nat.{ℕ, zero, suc, ◌+◌, ◌≤◌, ◌<◌}
use native.Mathlib.Omega.{arith}
use mathlib.Core.Path.{◌≡◌, refl, sym, ◌∙◌}
use mathlib.Core.Bool.{Bool, true, false, false≢true}
use mathlib.Core.List.{List, [], ◌++◌}
use mathlib.Core.Option.{some}
use lib.ListN.{drop}
use Rattle.rules.specs.declared.Sizes.{Sizes}
use Rattle.rules.specs.Parts.{Part, Id, Drop, Test, Set, Not, Sum, Seq, Beside, Table, Open, write, names_open}
use Rattle.rules.specs.Books.{most_depth, Entry, entries, bytes_of, Scope, scope_of, no_use, Fine, OfBody, OfEach, Bytes}
use Rattle.rules.specs.Reading.{fields_of, tables_of, body_start, body_at, use_at, main_of, tables_from, policy_of, verdict}
use Rattle.rules.specs.States.{stuck_in}
use Rattle.rules.specs.Answers.{start, start_spot, start_set}
use Rattle.rules.proofs.Decoding.{reads}
use Rattle.rules.proofs.Standing as R
use Rattle.rules.proofs.Whole.{FineBody, table_at, entries_read}
use Rattle.rules.proofs.AcceptedBooks.{accepted_readable, accepted_length, accepted_fields, accepted_right, accepted_tested}
use Rattle.rules.proofs.AcceptedBooks.{accepted_written}
use Rattle.rules.proofs.Stuck.{never_stuck}
use Rattle.steps.specs.Standing.{part_of, Runnable, Readable}

-- where code 8 may not stand, uses of tables do not matter, and none is unpopulated
module _ (c : Scope) (m : c.main ≡ false) (n n' : ℕ → Part) where
  no_main : c.main ≡ true → ⊥
  no_main e = false≢true (sym m ∙ e)

  fine_any : (d : ℕ) (pred : Bool) (p : Part) → Fine c n d pred p → Fine c n' d pred p
  unfolding Fine
  fine_any zero pred p f = f
  fine_any (suc d) pred Id f = f
  fine_any (suc d) pred Drop f = f
  fine_any (suc d) pred (Test i v) f = f
  fine_any (suc d) pred (Set i v) f = f
  fine_any (suc d) pred (Not p) f = fine_any d true p f
  fine_any (suc d) pred (Sum p q) f = (fine_any d pred p f.0, fine_any d pred q f.1)
  fine_any (suc d) pred (Seq p q) f = (fine_any d pred p f.0, fine_any d pred q f.1)
  fine_any (suc d) pred (Beside wp wq p q) f = (f.0, f.1, f.2, fine_any d pred p f.3, fine_any d pred q f.4)
  fine_any (suc d) pred (Table x r w start p) f = absurd (no_main f.1)
  fine_any (suc d) pred (Open x r w) f = absurd (no_main f.1)

  fine_closed : (d : ℕ) (pred : Bool) (p : Part) → Fine c n d pred p → names_open p ≡ false
  unfolding Fine names_open
  fine_closed zero pred p f = absurd f
  fine_closed (suc d) pred Id f = refl
  fine_closed (suc d) pred Drop f = refl
  fine_closed (suc d) pred (Test i v) f = refl
  fine_closed (suc d) pred (Set i v) f = refl
  fine_closed (suc d) pred (Not p) f = fine_closed d true p f
  fine_closed (suc d) pred (Sum p q) f = rw (fine_closed d pred p f.0, fine_closed d pred q f.1)
  fine_closed (suc d) pred (Seq p q) f = rw (fine_closed d pred p f.0, fine_closed d pred q f.1)
  fine_closed (suc d) pred (Beside wp wq p q) f = rw (fine_closed d pred p f.3, fine_closed d pred q f.4)
  fine_closed (suc d) pred (Table x r w start p) f = absurd (no_main f.1)
  fine_closed (suc d) pred (Open x r w) f = absurd (no_main f.1)

-- the entry of a table among those that s says
tables_at : (s : List ℕ) (F : Entry → Type 0) (n x i : ℕ) → R.AllThere s x (tables_from s n x) → OfEach F (tables_from s n x) → i < n
    → R.EntryThere s (x + i) (table_at s (x + i)) × F (table_at s (x + i))
unfolding tables_from
tables_at s F zero x i a f l = absurd (omega arith)
tables_at s F (suc n) x zero a f l = let e : x + 0 ≡ x = omega arith in rw e (a.0, f.0)
tables_at s F (suc n) x (suc i) a f l =
    let e : x + suc i ≡ suc x + i = omega arith in rw e (tables_at s F n (suc x) i a.1 f.1 (omega arith))

module _ (s : List ℕ) (z : Sizes) (v : verdict s ≡ Ok z) (small : Bytes s) where
  abbrev table : Scope
  table = scope_of (fields_of s) (tables_of s) false

  -- a table's body stands where it starts
  body_there : (x : ℕ) (p : Part) → body_at s x ≡ some p
      → R.EntryThere s x (table_at s x) × OfBody (FineBody (fields_of s) (tables_of s)) (body_at s x)
      → (part_of s (body_start s x) ≡ p) × Runnable s (body_start s x)
  unfolding bytes_of part_of
  body_there x p e h =
      let f : FineBody (fields_of s) (tables_of s) p = rw e at h.1 in
      let w : drop (body_start s x) s ≡ write p ++ drop (body_start s (suc x)) s = rw e at h.0.bytes in
      let g = fine_any table refl no_use (use_at s) most_depth false p f in
      let r = reads s table (use_at s) most_depth false (body_start s x) p (drop (body_start s (suc x)) s) g w in (
        r.1,
        record {
          main = false;
          pred = false;
          rest = drop (body_start s (suc x)) s;
          fine = rw r.1 g;
          written = rw r.1 w;
          closed = rw r.1 (fine_closed table refl no_use no_use most_depth false p f);
        },
      )

  pub accepted_reads : Readable s
  unfolding policy_of entries
  accepted_reads =
      let r = entries_read s small (accepted_readable s z v) in
      record {
        fields = (accepted_fields s z v).1;
        short = accepted_length s z v;
        bodies = λ x p l u e. go x p l u e (tables_at s (λ y. OfBody (FineBody (fields_of s) (tables_of s)) y.body) (tables_of s) 1)
            r.0.1 r.2;
      }
    where
      F : Entry → Type 0
      F y = OfBody (FineBody (fields_of s) (tables_of s)) y.body

      go : (x : ℕ) (p : Part) → 0 < x → x ≤ tables_of s → body_at s x ≡ some p
          → ((i : ℕ) → R.AllThere s 1 (tables_from s (tables_of s) 1) → OfEach F (tables_from s (tables_of s) 1) → i < tables_of s
          → R.EntryThere s (1 + i) (table_at s (1 + i)) × F (table_at s (1 + i)))
          → R.AllThere s 1 (tables_from s (tables_of s) 1) → OfEach F (tables_from s (tables_of s) 1)
          → (part_of s (body_start s x) ≡ p) × Runnable s (body_start s x)
      go zero p l u e t a f = absurd (omega arith)
      go (suc i) p l u e t a f =
          let k : 1 + i ≡ suc i = omega arith in
          body_there (suc i) p e (rw k at (t i a f (omega arith)))

  pub accepted_stands : names_open (main_of s) ≡ false → Runnable s (body_start s 0)
  unfolding policy_of entries bytes_of main_of part_of
  accepted_stands o =
      let r = entries_read s small (accepted_readable s z v) in
      record { main = true; pred = false; rest = drop (body_start s 1) s; fine = r.1; written = r.0.0.bytes; closed = o }

  -- 13 is never given
  pub accepted_goes : (packet schedule : List ℕ) → stuck_in (start s packet) schedule ≡ []
  unfolding start
  accepted_goes packet schedule =
      (never_stuck (start_spot s) (main_of s) (accepted_right s z v small) (accepted_tested s z v small) (accepted_written s z v small)
      (start_set packet) schedule).1
