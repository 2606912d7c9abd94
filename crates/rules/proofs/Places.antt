-- Each part that stands or waits at a position of a state that a run of an accepted book reaches is written in the book from its place
-- on: a position's place is that of its part's code byte.
use Rattle.std.specs.Prelude.{Ok}
use Prim.Native.Nat.{ℕ, zero, suc, ◌+◌}
use native.Mathlib.Omega.{arith}
use native.Mathlib.Nat.{zero-add}
use mathlib.Core.Path.{◌≡◌, sym, ap, ◌∙◌}
use mathlib.Core.Bool.{Bool, true, false}
use mathlib.Core.List.{List, ◌++◌, append_assoc}
use mathlib.Core.Option.{Option, none, some}
use lib.ListN.{length, get_or, drop}
use lib.Seq.{drop-drop, drop-append_seam}
use Rattle.rules.specs.declared.Sizes.{Sizes}
use Rattle.rules.specs.Parts.{Part, Id, Drop, Test, Set, Not, Sum, Seq, Beside, Table, Open, write, size}
use Rattle.rules.specs.Books.{most_depth, Entry, Policy, entries, bytes_of, write_book, first_body, start_in, use_of, no_entry, table_of}
use Rattle.rules.specs.Books.{Scope, scope_of, no_use, Fine, OfBody, WellFormed, Bytes}
use Rattle.rules.specs.Reading.{body_start, main_of, policy_of, verdict}
use Rattle.rules.specs.States.{Spot, run}
use Rattle.rules.specs.Answers.{start_set, start_spot, start}
use Rattle.rules.specs.Places.{Everywhere, WrittenAt, BodiesAt, InPlace}
use Rattle.rules.proofs.Decoding.{drop_head}
use Rattle.rules.proofs.Standing.{EntryThere, entry_stands, start_stands, written_stands}
use Rattle.rules.proofs.Whole.{FineBody}
use Rattle.rules.proofs.FineLaws.{OfUses, no_uses, each_at}
use Rattle.rules.proofs.Acceptance.{accepted}
use Rattle.rules.proofs.Everywhere.{Inherited, run_everywhere}

-- ---- parts below a part in its place are in theirs

module _ (s : List ℕ) where
  two_written : (at before : ℕ) (p q : Part) (rest : List ℕ) → drop (at + before) s ≡ (write p ++ write q) ++ rest
      → WrittenAt s (at + before) p × WrittenAt s (at + (before + size p)) q
  two_written at before p q rest e =
      let f : drop (at + before) s ≡ write p ++ (write q ++ rest) = e ∙ append_assoc (write p) (write q) rest in
      let n : at + (before + size p) ≡ at + before + size p = omega arith in (
        (write q ++ rest, f),
        (
          rest,
          rw n (sym (drop-drop (size p) (at + before) s) ∙ ap (drop (size p)) f
              ∙ drop-append_seam (write p) (write q ++ rest)),
        ),
      )

  in_place_below : Inherited (InPlace s)
  unfolding write
  in_place_below = record {
    under = λ {o} {p} h. ((h.0.0, (drop_head s o.at 4 (write p ++ h.0.0) h.0.1).2), h.1);
    summands = λ {o} {p} {q} h.
        let w = two_written o.at 1 p q h.0.0 (drop_head s o.at 5 _ h.0.1).2 in ((w.0, h.1.0), (w.1, h.1.1));
    sequence = λ {o} {p} {q} h.
        let w = two_written o.at 1 p q h.0.0 (drop_head s o.at 6 _ h.0.1).2 in ((w.0, h.1.0), (w.1, h.1.1));
    sides = λ {o} {wp} {wq} {p} {q} h.
        let n : o.at + 1 + 1 + 1 ≡ o.at + 3 = omega arith in
        let masks = (drop_head s (o.at + 1) wp _ (drop_head s o.at 7 _ h.0.1).2).2 in
        let w = two_written o.at 3 p q h.0.0 (rw n at (drop_head s (o.at + 1 + 1) wq _ masks).2) in
        ((w.0, h.1.0), (w.1, h.1.1));
    body = λ h. h.1;
  }

-- ---- a well-formed policy, in the book that it is written as

module _ (s : List ℕ) where
  fine_bodies : (c : Scope) (named : ℕ → Part) → OfUses (BodiesAt s) c named → (d : ℕ) (pred : Bool) (p : Part) → Fine c named d pred p
      → BodiesAt s p
  unfolding Fine
  fine_bodies c named u zero pred p f = absurd f
  fine_bodies c named u (suc d) pred Id f = tt
  fine_bodies c named u (suc d) pred Drop f = tt
  fine_bodies c named u (suc d) pred (Test i v) f = tt
  fine_bodies c named u (suc d) pred (Set i v) f = tt
  fine_bodies c named u (suc d) pred (Not p) f = fine_bodies c named u d true p f
  fine_bodies c named u (suc d) pred (Sum p q) f = (fine_bodies c named u d pred p f.0, fine_bodies c named u d pred q f.1)
  fine_bodies c named u (suc d) pred (Seq p q) f = (fine_bodies c named u d pred p f.0, fine_bodies c named u d pred q f.1)
  fine_bodies c named u (suc d) pred (Beside wp wq p q) f =
      (fine_bodies c named u d pred p f.3, fine_bodies c named u d pred q f.4)
  fine_bodies c named u (suc d) pred (Table x r w start p) f = rw f.4 at (u f.1 x f.2 f.3)
  fine_bodies c named u (suc d) pred (Open x r w) f = tt

  use_written : (k m x r w start : ℕ) (b : Option Part) (rest : List ℕ) → drop start s ≡ bytes_of b ++ rest → OfBody (FineBody k m) b
      → BodiesAt s (use_of x r w start b)
  unfolding bytes_of
  use_written k m x r w start none rest e f = tt
  use_written k m x r w start (some p) rest e f =
      ((rest, e), fine_bodies (scope_of k m false) no_use (no_uses (BodiesAt s) k m) most_depth false p f)

module _ (P : Policy) (w : WellFormed P) where
  abbrev s : List ℕ
  s = write_book P

  abbrev k : ℕ
  k = P.fields

  abbrev m : ℕ
  m = length P.tables

  uses_written : OfUses (BodiesAt s) (scope_of k m true) (table_of P)
  unfolding table_of entries body_start write_book
  uses_written main zero l u = absurd (omega arith)
  uses_written main (suc i) l u =
      let h = (written_stands P).0 in
      let e : Entry = get_or P.tables i no_entry in
      let st : EntryThere s (suc i) e = rw zero-add at (entry_stands s (entries P) 0 (suc i) h (omega arith)) in
      let q : start_in (first_body m) (entries P) (suc i) ≡ body_start s (suc i)
      = rw zero-add at (start_stands s (entries P) 0 (suc i) h (omega arith)) in
      let f = each_at (λ e. OfBody (FineBody k m) e.body) P.tables i w.bodies (omega arith) in
      use_written s k m (suc i) e.reads e.writes _ e.body (drop (body_start s (suc (suc i))) s) (rw q st.bytes) f

  main_in_place : (o : Spot) → o.at ≡ body_start s 0 → InPlace s o P.main
  unfolding entries bytes_of
  main_in_place o e = (
    (drop (body_start s 1) s, rw e (written_stands P).0.0.bytes),
    fine_bodies s (scope_of k m true) (table_of P) uses_written most_depth false P.main w.main,
  )

-- ---- an accepted book

pub in_place : (book packet schedule : List ℕ) (z : Sizes) → verdict book ≡ Ok z → Bytes book
    → Everywhere (InPlace book) (run (start book packet) schedule)
unfolding start policy_of
in_place book packet schedule z v small =
    let a = accepted book small z v in
    let m : InPlace book (start_spot book) (main_of book)
    = rw (← a.1) at (main_in_place (policy_of book) a.0.formed (start_spot book) (ap (λ (l : List ℕ). body_start l 0) a.1)) in
    run_everywhere (InPlace book) (in_place_below book) (start_spot book) (main_of book) (start_set packet) schedule m
