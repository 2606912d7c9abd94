-- The part that stands at a place of a readable book, code by code: its operands, and that the parts below it stand too.
use Prim.Native.Nat.{ℕ, zero, suc, ◌+◌, ◌≤◌, ◌<◌}
use native.Mathlib.Omega.{arith}
use native.Mathlib.Decide.{dec_le}
use mathlib.Core.Path.{◌≡◌, refl, sym, ap, ◌∙◌}
use mathlib.Core.Bool.{Bool, true, false, ◌||◌, false≢true}
use mathlib.Core.List.{List}
use mathlib.Core.Option.{Option, none, some}
use mathlib.Core.Logic.{◌⊎◌, inl, inr}
use lib.ListN.{length, get_or, length-drop, length-append, get_or-eq_default}
use Rattle.rules.specs.Parts.{Part, Id, Drop, Test, Set, Not, Sum, Seq, Beside, Table, Open, write, size, names_open}
use Rattle.rules.specs.Books.{most_depth, Scope, scope_of, use_of, Fine}
use Rattle.rules.specs.Reading.{fields_of, tables_of, reads_at, writes_at, number_at, body_start, below, after, head, built, part_at, body_at}
use Rattle.rules.specs.Reading.{use_at}
use Rattle.rules.specs.Packets.{Packets}
use Rattle.rules.specs.States.{Spot, placed, place}
use Rattle.rules.proofs.Decoding.{reads, drop_head, size_positive}
use Rattle.rules.proofs.CodeLaws.{part_suc}
use Rattle.rules.proofs.Inside.{Placed, placed_not, placed_sum, placed_seq, placed_beside}
use Rattle.steps.specs.Standing.{part_of, Runnable, Readable}

-- a fine part may stand one deeper
fine_deeper : (c : Scope) (n : ℕ → Part) (d : ℕ) (pred : Bool) (p : Part) → Fine c n d pred p → Fine c n (suc d) pred p
unfolding Fine
fine_deeper c n zero pred p f = absurd f
fine_deeper c n (suc d) pred Id f = f
fine_deeper c n (suc d) pred Drop f = f
fine_deeper c n (suc d) pred (Test i v) f = f
fine_deeper c n (suc d) pred (Set i v) f = f
fine_deeper c n (suc d) pred (Not p) f = fine_deeper c n d true p f
fine_deeper c n (suc d) pred (Sum p q) f = (fine_deeper c n d pred p f.0, fine_deeper c n d pred q f.1)
fine_deeper c n (suc d) pred (Seq p q) f = (fine_deeper c n d pred p f.0, fine_deeper c n d pred q f.1)
fine_deeper c n (suc d) pred (Beside wp wq p q) f =
    (f.0, f.1, f.2, fine_deeper c n d pred p f.3, fine_deeper c n d pred q f.4)
fine_deeper c n (suc d) pred (Table x r w start p) f = f
fine_deeper c n (suc d) pred (Open x r w) f = f

abbrev scope : List ℕ → Bool → Scope
scope s main = scope_of (fields_of s) (tables_of s) main

-- what a fine part says of its operands
module _ (c : Scope) (n : ℕ → Part) (d : ℕ) (pred : Bool) where
  fine_table : (x r w start : ℕ) (p : Part) → Fine c n (suc d) pred (Table x r w start p)
      → (0 < x) × (x ≤ c.tables) × (n x ≡ Table x r w start p)
  unfolding Fine
  fine_table x r w start p h = (h.2, h.3, h.4)

-- a fine part that is written at a place is the part there, and ends its size after it
pub record Found (s : List ℕ) (at : ℕ) (p : Part) : Type 0 where
  pub same : part_of s at ≡ p
  pub stands : Runnable s at
  pub ends : after s most_depth at ≡ at + size p

found : {s : List ℕ} {at : ℕ} {main pred : Bool} {p : Part} → Placed s (scope s main) (use_at s) 31 pred at p → names_open p ≡ false
    → Found s at p
unfolding part_of
found {s} {at} {main} {pred} {p} h o =
    let g = fine_deeper (scope s main) (use_at s) 31 pred p h.fine in
    let r = reads s (scope s main) (use_at s) most_depth pred at p h.rest g h.bytes in
    record {
      same = r.1;
      stands = record {
        main = main;
        pred = pred;
        rest = h.rest;
        fine = rw r.1 g;
        written = rw r.1 h.bytes;
        closed = rw r.1 o;
      };
      ends = r.2;
    }

-- what stands does so inside the book
pub inside : {s : List ℕ} {at : ℕ} → Runnable s at → at < length s
inside {s} {at} h =
    omega (arith, size_positive (part_of s at), ap length h.written, length-append (write (part_of s at)) h.rest, length-drop at s)

-- and ends its size after its place
pub ends_at : {s : List ℕ} {at : ℕ} → Runnable s at → after s most_depth at ≡ at + size (part_of s at)
ends_at {s} {at} h = (reads s (scope s h.main) (use_at s) most_depth h.pred at (part_of s at) h.rest h.fine h.written).2

or_false : (a b : Bool) → (a || b) ≡ false → (a ≡ false) × (b ≡ false)
or_false true b e = absurd (false≢true (sym e))
or_false false b e = (refl, e)

-- two parts one after the other
pub record Pair (s : List ℕ) (at : ℕ) (p q : Part) : Type 0 where
  pub first : Found s at p
  pub second : Found s (at + size p) q

pair : {s : List ℕ} {at : ℕ} {main pred : Bool} {p q : Part}
    → Placed s (scope s main) (use_at s) 31 pred at p × Placed s (scope s main) (use_at s) 31 pred (at + size p) q
    → (names_open p || names_open q) ≡ false → Pair s at p q
pair {p = p} {q = q} h o =
    let b = or_false (names_open p) (names_open q) o in
    record { first = found h.0 b.0; second = found h.1 b.1 }

-- ---- the parts below a part that stands, by what the part is

module _ {s : List ℕ} {at : ℕ} (h : Runnable s at) where
  fine_as : (p : Part) → part_of s at ≡ p → Fine (scope s h.main) (use_at s) most_depth h.pred p
  fine_as p e = rw e at h.fine

  placed_as : (p : Part) → part_of s at ≡ p → Placed s (scope s h.main) (use_at s) most_depth h.pred at p
  placed_as p e = record { fine = fine_as p e; rest = h.rest; bytes = rw e at h.written }

  closed_as : (p : Part) → part_of s at ≡ p → names_open p ≡ false
  closed_as p e = rw e at h.closed

  pub below_not : (p : Part) → part_of s at ≡ Not p → Found s (at + 1) p
  unfolding names_open
  below_not p e =
      found (placed_not s (scope s h.main) (use_at s) 31 h.pred at p (placed_as (Not p) e)) (closed_as (Not p) e)

  pub below_sum : (p q : Part) → part_of s at ≡ Sum p q → Pair s (at + 1) p q
  unfolding names_open
  below_sum p q e =
      pair (placed_sum s (scope s h.main) (use_at s) 31 h.pred at p q (placed_as (Sum p q) e)) (closed_as (Sum p q) e)

  pub below_seq : (p q : Part) → part_of s at ≡ Seq p q → Pair s (at + 1) p q
  unfolding names_open
  below_seq p q e =
      pair (placed_seq s (scope s h.main) (use_at s) 31 h.pred at p q (placed_as (Seq p q) e)) (closed_as (Seq p q) e)

  pub below_beside : (wp wq : ℕ) (p q : Part) → part_of s at ≡ Beside wp wq p q → Pair s (at + 3) p q
  unfolding names_open
  below_beside wp wq p q e =
      let k = placed_as (Beside wp wq p q) e in
      pair (placed_beside s (scope s h.main) (use_at s) 31 h.pred at p q wp wq k) (closed_as (Beside wp wq p q) e)

  -- a use of a table: its body
  pub below_table : Readable s → (x r w start : ℕ) (p : Part) → part_of s at ≡ Table x r w start p
      → (start ≡ body_start s x) × (part_of s start ≡ p) × Runnable s start
  unfolding use_at
  below_table b x r w start p e =
      let f = fine_table (scope s h.main) (use_at s) 31 h.pred x r w start p (fine_as (Table x r w start p) e) in
      go f.0 f.1 (body_at s x) refl f.2
    where
      go : 0 < x → x ≤ tables_of s → (o : Option Part) → body_at s x ≡ o
          → use_of x (reads_at s x) (writes_at s x) (body_start s x) o ≡ Table x r w start p
          → (start ≡ body_start s x) × (part_of s start ≡ p) × Runnable s start
      go l u none e q = let z : ◌≡◌ {A = ℕ} 0 1 = cc in absurd (omega arith)
      go l u (some p') e q =
          let a : start ≡ body_start s x = cc in
          let c : p' ≡ p = cc in
          let k = b.bodies x p' l u e in
          (a, rw a (k.0 ∙ c), rw a k.1)

-- ---- what the part at a place is, by its code byte

module _ (s : List ℕ) (at : ℕ) where
  abbrev first : Part
  first = part_at s (use_at s) 31 (below s at)

  abbrev second : Part
  second = part_at s (use_at s) 31 (after s 31 (below s at))

  part_built : (code : ℕ) → get_or s at 0 ≡ code → part_of s at ≡ built (head s at) (use_at s) code first second
  unfolding part_of
  part_built code e = part_suc s (use_at s) most_depth at (λ z. omega arith) ∙ ap (λ (c : ℕ). built (head s at) (use_at s) c first second) e

  pub part_drop : get_or s at 0 ≡ 1 → part_of s at ≡ Drop
  unfolding built
  part_drop e = part_built 1 e

  pub part_test : get_or s at 0 ≡ 2 → part_of s at ≡ Test (get_or s (at + 1) 0) (number_at s (at + 2))
  unfolding built
  part_test e = part_built 2 e

  pub part_set : get_or s at 0 ≡ 3 → part_of s at ≡ Set (get_or s (at + 1) 0) (number_at s (at + 2))
  unfolding built
  part_set e = part_built 3 e

  part_not : get_or s at 0 ≡ 4 → part_of s at ≡ Not first
  unfolding built
  part_not e = part_built 4 e

  part_sum : get_or s at 0 ≡ 5 → part_of s at ≡ Sum first second
  unfolding built
  part_sum e = part_built 5 e

  part_seq : get_or s at 0 ≡ 6 → part_of s at ≡ Seq first second
  unfolding built
  part_seq e = part_built 6 e

  part_beside : get_or s at 0 ≡ 7 → part_of s at ≡ Beside (get_or s (at + 1) 0) (get_or s (at + 2) 0) first second
  unfolding built
  part_beside e = part_built 7 e

  part_table : get_or s at 0 ≡ 8 → part_of s at ≡ use_at s (get_or s (at + 1) 0)
  unfolding built
  part_table e = part_built 8 e

  -- code 0, and no code
  pub part_id : (get_or s at 0 ≡ 0) ⊎ (8 < get_or s at 0) → part_of s at ≡ Id
  unfolding built
  part_id (inl e) = part_built 0 e
  part_id (inr l) = part_built (get_or s at 0) refl ∙ rw get_or-eq_default

  -- any other but id and a sequence rests where it is placed
  use_rests : (o : Spot) (S : Packets) (x r w start : ℕ) (b : Option Part)
      → place o (use_of x r w start b) S ≡ placed o (use_of x r w start b) S
  unfolding place
  use_rests o S x r w start none = refl
  use_rests o S x r w start (some p) = refl

  built_rests : (o : Spot) (S : Packets) (l r : Part) (code : ℕ) → code ≤ 8 → (code ≡ 0 → ⊥) → (code ≡ 6 → ⊥)
      → place o (built (head s at) (use_at s) code l r) S ≡ placed o (built (head s at) (use_at s) code l r) S
  unfolding built place use_at
  built_rests o S l r zero h a b = absurd (a refl)
  built_rests o S l r (suc zero) h a b = refl
  built_rests o S l r (suc (suc zero)) h a b = refl
  built_rests o S l r (suc (suc (suc zero))) h a b = refl
  built_rests o S l r (suc (suc (suc (suc zero)))) h a b = refl
  built_rests o S l r (suc (suc (suc (suc (suc zero))))) h a b = refl
  built_rests o S l r (suc (suc (suc (suc (suc (suc zero)))))) h a b = absurd (b refl)
  built_rests o S l r (suc (suc (suc (suc (suc (suc (suc zero))))))) h a b = refl
  built_rests o S l r (suc (suc (suc (suc (suc (suc (suc (suc zero)))))))) h a b =
      let x : ℕ = get_or s (at + 1) 0 in use_rests o S x (reads_at s x) (writes_at s x) (body_start s x) (body_at s x)
  built_rests o S l r (suc (suc (suc (suc (suc (suc (suc (suc (suc c))))))))) h a b = absurd (omega arith)

  pub part_rests : (o : Spot) (S : Packets) → get_or s at 0 ≤ 8 → (get_or s at 0 ≡ 0 → ⊥) → (get_or s at 0 ≡ 6 → ⊥)
      → place o (part_of s at) S ≡ placed o (part_of s at) S
  part_rests o S h a b = rw (part_built (get_or s at 0) refl) (built_rests o S first second (get_or s at 0) h a b)

-- what stands has one of the nine codes
pub code_small : {s : List ℕ} {at : ℕ} → Runnable s at → get_or s at 0 ≤ 8
unfolding write
code_small {s} {at} h =
    elim (dec_le (get_or s at 0) 8) [
      | yes l ↦ l
      | no l ↦
          let e : part_of s at ≡ Id = part_id s at (inr (omega arith)) in
          let k = drop_head s at 0 h.rest (rw e at h.written) in
          absurd (omega (arith, k.1))
    ]

-- ---- the parts below a part that stands, by its code byte: what the code that walks the book needs

module _ {s : List ℕ} {at : ℕ} (h : Runnable s at) where
  pub not_below : get_or s at 0 ≡ 4 → (part_of s at ≡ Not (part_of s (at + 1))) × Runnable s (at + 1)
  not_below e =
      let p = part_not s at e in
      let f = below_not h (first s at) p in
      (p ∙ ap Not (sym f.same), f.stands)

open_not : (x r w : ℕ) → names_open (Open x r w) ≡ false → ⊥
unfolding names_open
open_not x r w e = false≢true (sym e)

-- two parts, the first at a place and the second where the code finds it
pub record Two (s : List ℕ) (at : ℕ) : Type 0 where
  pub left : Runnable s at
  pub right : Runnable s (after s most_depth at)
  pub ends : after s most_depth at ≡ at + size (part_of s at)

two_of : (s : List ℕ) (at : ℕ) (p q : Part) → Pair s at p q → (part_of s at ≡ p) × (part_of s (after s most_depth at) ≡ q) × Two s at
two_of s at p q h =
    let e = h.first.ends in (
      h.first.same,
      rw e h.second.same,
      record { left = h.first.stands; right = rw e h.second.stands; ends = rw h.first.same e },
    )

module _ {s : List ℕ} {at : ℕ} (h : Runnable s at) where
  pub sum_below : get_or s at 0 ≡ 5 → (part_of s at ≡ Sum (part_of s (at + 1)) (part_of s (after s most_depth (at + 1)))) × Two s (at + 1)
  sum_below e =
      let p = part_sum s at e in
      let f = two_of s (at + 1) (first s at) (second s at) (below_sum h (first s at) (second s at) p) in
      (p ∙ rw (f.0, f.1), f.2)

  pub seq_below : get_or s at 0 ≡ 6 → (part_of s at ≡ Seq (part_of s (at + 1)) (part_of s (after s most_depth (at + 1)))) × Two s (at + 1)
  seq_below e =
      let p = part_seq s at e in
      let f = two_of s (at + 1) (first s at) (second s at) (below_seq h (first s at) (second s at) p) in
      (p ∙ rw (f.0, f.1), f.2)

  pub beside_below : get_or s at 0 ≡ 7
      → (part_of s at ≡ Beside (get_or s (at + 1) 0) (get_or s (at + 2) 0) (part_of s (at + 3)) (part_of s (after s most_depth (at + 3))))
      × Two s (at + 3)
  beside_below e =
      let p = part_beside s at e in
      let f = two_of s (at + 3) (first s at) (second s at)
      (below_beside h (get_or s (at + 1) 0) (get_or s (at + 2) 0) (first s at) (second s at) p) in
      (p ∙ rw (f.0, f.1), f.2)

  pub table_below : Readable s → get_or s at 0 ≡ 8 → (r w : ℕ) × (part_of s at
      ≡ Table (get_or s (at + 1) 0) r w (body_start s (get_or s (at + 1) 0)) (part_of s (body_start s (get_or s (at + 1) 0))))
      × Runnable s (body_start s (get_or s (at + 1) 0))
  unfolding use_at
  table_below b e = go (body_at s (get_or s (at + 1) 0)) (part_table s at e)
    where
      x : ℕ
      x = get_or s (at + 1) 0

      go : (o : Option Part) → part_of s at ≡ use_of x (reads_at s x) (writes_at s x) (body_start s x) o
          → (r w : ℕ) × (part_of s at ≡ Table x r w (body_start s x) (part_of s (body_start s x))) × Runnable s (body_start s x)
      go none e = absurd (open_not x (reads_at s x) (writes_at s x) (closed_as h (Open x (reads_at s x) (writes_at s x)) e))
      go (some p) e =
          let k = below_table h b x (reads_at s x) (writes_at s x) (body_start s x) p e in
          (reads_at s x, writes_at s x, e ∙ ap (Table x (reads_at s x) (writes_at s x) (body_start s x)) (sym k.1), k.2)
