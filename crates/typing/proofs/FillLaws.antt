-- The main body with its tables' bodies has the masks, the size and the wrong parts of the body alone; and what the uses are.
use Prim.Native.Nat.{ℕ, zero, suc, ◌+◌, ◌<◌, ◌≤◌}
use native.Mathlib.Omega.{arith}
use mathlib.Core.Path.{◌≡◌, refl, sym, ap, ◌∙◌}
use mathlib.Core.Bool.{Bool, true, false, false≢true}
use mathlib.Core.List.{List}
use mathlib.Core.Option.{Option, none, some}
use lib.Dec.{eqb}
use lib.ListN.{length, get_or, length-append}
use borrow.Author.Tests.{eqb-true, eqb-false}
use Rattle.rules.specs.Parts.{Part, Id, Drop, Test, Set, Not, Sum, Seq, Beside, Table, Open, write, size, deep}
use Rattle.rules.specs.Typing.{tested, written, wrongs}
use Rattle.rules.specs.Books.{Scope, scope_of, Fine, use_of}
use Rattle.rules.specs.Reading.{reads_at, writes_at, body_start, body_at, use_at}
use Rattle.typing.specs.declared.Use.{Use}
use Rattle.typing.specs.Walking.{shut, noted, unused, note_use}
use Rattle.typing.proofs.TallyLaws.{use_same, use_other, noted_room}
use Rattle.typing.proofs.CountLaws.{filled, Shut}

abbrev pub Like : Part → Part → Type 0
Like q p = (tested q ≡ tested p) × (written q ≡ written p) × (size q ≡ size p) × ((at : ℕ) → wrongs at q ≡ wrongs at p)

use_like : (x r w start : ℕ) (b : Option Part) → Like (use_of x r w start b) (Open x r w)
unfolding tested written write wrongs
use_like x r w start none = (refl, refl, refl, λ at. refl)
use_like x r w start (some p) = (refl, refl, refl, λ at. refl)

open_like : (s : List ℕ) (x : ℕ) → Like (use_at s x) (shut s x)
unfolding use_at shut
open_like s x = use_like x (reads_at s x) (writes_at s x) (body_start s x) (body_at s x)

pub fill_like : (s : List ℕ) (c : Scope) (d : ℕ) (pred : Bool) (p : Part) → Fine c (shut s) d pred p → Like (filled (use_at s) p) p
unfolding Fine filled tested written write wrongs
fill_like s c zero pred p f = absurd f
fill_like s c (suc d) pred Id f = (refl, refl, refl, λ at. refl)
fill_like s c (suc d) pred Drop f = (refl, refl, refl, λ at. refl)
fill_like s c (suc d) pred (Test i v) f = (refl, refl, refl, λ at. refl)
fill_like s c (suc d) pred (Set i v) f = (refl, refl, refl, λ at. refl)
fill_like s c (suc d) pred (Not p) f =
    let h = fill_like s c d true p f in
    (h.0, h.1, ap suc h.2, λ at. h.3 (at + 1))
fill_like s c (suc d) pred (Sum p q) f =
    let g = use_at s in
    let l = fill_like s c d pred p f.0 in
    let r = fill_like s c d pred q f.1 in
    let a = length-append (write (filled g p)) (write (filled g q)) in
    let b = length-append (write p) (write q) in
    (rw (l.0, r.0), rw (l.1, r.1), ap suc (a ∙ rw (l.2, r.2) (sym b)), λ at. rw (l.2, l.3 (at + 1), r.3 (at + 1 + size p)))
fill_like s c (suc d) pred (Seq p q) f =
    let g = use_at s in
    let l = fill_like s c d pred p f.0 in
    let r = fill_like s c d pred q f.1 in
    let a = length-append (write (filled g p)) (write (filled g q)) in
    let b = length-append (write p) (write q) in
    (rw (l.0, r.0), rw (l.1, r.1), ap suc (a ∙ rw (l.2, r.2) (sym b)), λ at. rw (l.2, l.3 (at + 1), r.3 (at + 1 + size p)))
fill_like s c (suc d) pred (Beside wp wq p q) f =
    let g = use_at s in
    let l = fill_like s c d pred p f.3 in
    let r = fill_like s c d pred q f.4 in
    let a = length-append (write (filled g p)) (write (filled g q)) in
    let b = length-append (write p) (write q) in (
      rw (l.0, r.0),
      refl,
      ap (λ (i : ℕ). suc (suc (suc i))) (a ∙ rw (l.2, r.2) (sym b)),
      λ at. rw (l.0, l.1, r.0, r.1, l.2, l.3 (at + 3), r.3 (at + 3 + size p)),
    )
fill_like s c (suc d) pred (Table x r w start p) f =
    let o = open_like s x in
    let e : shut s x ≡ Table x r w start p = f.4 in
    (o.0 ∙ ap tested e, o.1 ∙ ap written e, o.2 ∙ ap size e, λ at. o.3 at ∙ ap (wrongs at) e)
fill_like s c (suc d) pred (Open x r w) f =
    let o = open_like s x in
    let e : shut s x ≡ Open x r w = f.4 in
    (o.0 ∙ ap tested e, o.1 ∙ ap written e, o.2 ∙ ap size e, λ at. o.3 at ∙ ap (wrongs at) e)

-- in a table's body nothing is used
pub none_noted : (k m : ℕ) (n : ℕ → Part) (d : ℕ) (pred : Bool) (p : Part) (o : ℕ) (l : List Use) → Fine (scope_of k m false) n d pred p
    → noted p o l ≡ l
unfolding Fine noted
none_noted k m n zero pred p o l f = absurd f
none_noted k m n (suc d) pred Id o l f = refl
none_noted k m n (suc d) pred Drop o l f = refl
none_noted k m n (suc d) pred (Test i v) o l f = refl
none_noted k m n (suc d) pred (Set i v) o l f = refl
none_noted k m n (suc d) pred (Not p) o l f = none_noted k m n d true p o l f
none_noted k m n (suc d) pred (Sum p q) o l f = rw (none_noted k m n d pred p o l f.0) (none_noted k m n d pred q o l f.1)
none_noted k m n (suc d) pred (Seq p q) o l f = rw (none_noted k m n d pred p o l f.0) (none_noted k m n d pred q o l f.1)
none_noted k m n (suc d) pred (Beside wp wq p q) o l f =
    rw (none_noted k m n d pred p (o + 1) l f.3) (none_noted k m n d pred q (o + 1) l f.4)
none_noted k m n (suc d) pred (Table x r w start p) o l f = absurd (false≢true f.1)
none_noted k m n (suc d) pred (Open x r w) o l f = absurd (false≢true f.1)

-- table 0 is never used
pub zero_noted : (s : List ℕ) (c : Scope) (d : ℕ) (pred : Bool) (p : Part) (o : ℕ) (l : List Use) → Fine c (shut s) d pred p
    → get_or (noted p o l) 0 unused ≡ get_or l 0 unused
unfolding Fine noted
zero_noted s c zero pred p o l f = absurd f
zero_noted s c (suc d) pred Id o l f = refl
zero_noted s c (suc d) pred Drop o l f = refl
zero_noted s c (suc d) pred (Test i v) o l f = refl
zero_noted s c (suc d) pred (Set i v) o l f = refl
zero_noted s c (suc d) pred (Not p) o l f = zero_noted s c d true p o l f
zero_noted s c (suc d) pred (Sum p q) o l f = zero_noted s c d pred q o (noted p o l) f.1 ∙ zero_noted s c d pred p o l f.0
zero_noted s c (suc d) pred (Seq p q) o l f = zero_noted s c d pred q o (noted p o l) f.1 ∙ zero_noted s c d pred p o l f.0
zero_noted s c (suc d) pred (Beside wp wq p q) o l f =
    zero_noted s c d pred q (o + 1) (noted p (o + 1) l) f.4 ∙ zero_noted s c d pred p (o + 1) l f.3
zero_noted s c (suc d) pred (Table x r w start p) o l f = use_other l x o 0 (λ z. omega (arith, f.2))
zero_noted s c (suc d) pred (Open x r w) o l f = use_other l x o 0 (λ z. omega (arith, f.2))

-- no use is deeper than the body
module _ (b n : ℕ) (h : n ≤ 16) where
  abbrev Below : List Use → Type 0
  Below l = (y : ℕ) → y < 16 → (get_or l y unused).level ≤ b

  use_below : (x o : ℕ) (l : List Use) → length l ≡ 16 → x < n → o ≤ b → Below l → Below (note_use x o l)
  use_below x o l k z w i y u = go (eqb y x) refl
    where
      go : (t : Bool) → eqb y x ≡ t → (get_or (note_use x o l) y unused).level ≤ b
      go true q =
          let e : y ≡ x = eqb-true y x q in
          rw (e, use_same l x o (omega arith)) (omega (arith, i x (omega arith)))
      go false q = rw (use_other l x o y (eqb-false y x q)) (i y u)

  pub below_noted : (p : Part) (o : ℕ) (l : List Use) → length l ≡ 16 → Shut n p → o + deep p ≤ b → Below l → Below (noted p o l)
  unfolding noted deep
  below_noted Id o l k z w i = i
  below_noted Drop o l k z w i = i
  below_noted (Test f v) o l k z w i = i
  below_noted (Set f v) o l k z w i = i
  below_noted (Not p) o l k z w i = below_noted p o l k z w i
  below_noted (Sum p q) o l k z w i =
      below_noted q o (noted p o l) (noted_room p o l ∙ k) z.1 (omega arith) (below_noted p o l k z.0 (omega arith) i)
  below_noted (Seq p q) o l k z w i =
      below_noted q o (noted p o l) (noted_room p o l ∙ k) z.1 (omega arith) (below_noted p o l k z.0 (omega arith) i)
  below_noted (Beside wp wq p q) o l k z w i =
      below_noted q (o + 1) (noted p (o + 1) l) (noted_room p (o + 1) l ∙ k) z.1 (omega arith)
      (below_noted p (o + 1) l k z.0 (omega arith) i)
  below_noted (Table x r w start p) o l k z u i = absurd z
  below_noted (Open x r w) o l k z u i = use_below x o l k z (omega arith) i
