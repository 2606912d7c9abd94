-- What the parts below a part add, one after the other.
use Prim.Native.Nat.{ℕ, zero, suc, max, ◌+◌, ◌/◌, ◌%◌, ◌<◌, ◌≤◌}
use native.Mathlib.Omega.{arith}
use mathlib.Core.Path.{◌≡◌, refl, sym, ap, ◌∙◌}
use mathlib.Core.Bool.{Bool, true, false, cond}
use mathlib.Core.List.{List, [], ◌∷◌, ◌++◌}
use lib.Bits.{bit_or, or_step, or_zero_l}
use lib.Dec.{eqb, ltb}
use borrow.Author.Tests.{eqb-true, eqb-false, ltb-true, ltb-false}
use lib.ListN.{length, get_or, length-append, length-set, get_or-eq_default}
use lib.Seq.{get_or-set_same, get_or-set_other}
use Rattle.std.specs.Option.{option_or}
use Rattle.rules.specs.Parts.{Part, Id, Drop, Test, Set, Not, Sum, Seq, Beside, Table, Open, write, size, parts, deep}
use Rattle.rules.specs.Typing.{tested, written, right_beside, right_masks, wrongs}
use Rattle.std.specs.Prelude.{Option, None, Some}
use Rattle.typing.specs.declared.Use.{Use}
use Rattle.typing.specs.Walking.{Tally, told, mark, noted, unused, one_more_use, note_use, fault_after}

or_half : (b c : ℕ) → (bit_or b c / 2 ≡ bit_or (b / 2) (c / 2)) × (bit_or b c % 2 ≡ max (b % 2) (c % 2))
or_half b c = (omega (arith, or_step b c), omega (arith, or_step b c))

max_assoc : (a b c : ℕ) → max a (max b c) ≡ max (max a b) c
max_assoc a b c = omega arith

or_assoc_to : (n a b c : ℕ) → a ≤ n → bit_or a (bit_or b c) ≡ bit_or (bit_or a b) c
or_assoc_to zero a b c h =
    let e : a ≡ 0 = omega arith in
    rw (e, or_zero_l (bit_or b c), or_zero_l b)
or_assoc_to (suc n) a b c h =
    let l : a / 2 ≤ n = omega arith in
    let p = or_half b c in
    let q = or_half a b in
    or_step a (bit_or b c)
    ∙ rw (p.0, p.1, or_assoc_to n (a / 2) (b / 2) (c / 2) l, max_assoc (a % 2) (b % 2) (c % 2), ← q.0, ← q.1)
    (sym (or_step (bit_or a b) c))

pub or_assoc : (a b c : ℕ) → bit_or a (bit_or b c) ≡ bit_or (bit_or a b) c
or_assoc a b c = or_assoc_to a a b c (omega arith)

pub same_tally : (t u : Tally) → t.at ≡ u.at → t.parts ≡ u.parts → t.tests ≡ u.tests → t.writes ≡ u.writes → t.fault ≡ u.fault
    → t.deep ≡ u.deep → t.uses ≡ u.uses → t ≡ u
same_tally t u a b c d e f g = go a b c d e f g
  where
    tally : ℕ → ℕ → ℕ → ℕ → Option ℕ → ℕ → List Use → Tally
    tally a b c d e f g = record { at = a; parts = b; tests = c; writes = d; fault = e; deep = f; uses = g }

    go : t.at ≡ u.at → t.parts ≡ u.parts → t.tests ≡ u.tests → t.writes ≡ u.writes → t.fault ≡ u.fault
        → t.deep ≡ u.deep → t.uses ≡ u.uses
        → tally t.at t.parts t.tests t.writes t.fault t.deep t.uses
        ≡ tally u.at u.parts u.tests u.writes u.fault u.deep u.uses
    go a b c d e f g = rw (a, b, c, d, e, f, g)

pub mark_append : (l r : List ℕ) → mark (l ++ r) ≡ option_or (mark l) (mark r)
mark_append [] r = refl
mark_append (a ∷ l) r = refl

pub first_assoc : (a b c : Option ℕ) → option_or a (option_or b c) ≡ option_or (option_or a b) c
first_assoc None b c = refl
first_assoc (Some a) b c = refl

pub first_none : (a : Option ℕ) → option_or a None ≡ a
first_none None = refl
first_none (Some a) = refl

-- past a code and n operand bytes, with one part more
abbrev pub stepped : ℕ → Tally → Tally
stepped n t = record {
  at = t.at + 1 + n;
  parts = t.parts + 1;
  tests = t.tests;
  writes = t.writes;
  fault = t.fault;
  deep = t.deep;
  uses = t.uses;
}

pub told_not : (p : Part) (o : ℕ) (t : Tally) → told (Not p) o t ≡ told p o (stepped 0 t)
unfolding write parts tested written wrongs deep noted
told_not p o t =
    let e : t.at + 1 + 0 ≡ t.at + 1 = omega arith in
    same_tally (told (Not p) o t) (told p o (stepped 0 t)) (omega arith) (omega arith) refl refl (rw e) refl refl

two_fault : (f : Option ℕ) (at n : ℕ) (p q : Part)
    → option_or f (mark (wrongs (at + 1) p ++ wrongs (at + 1 + size p) q))
    ≡ option_or (option_or f (mark (wrongs (at + 1 + 0) p))) (mark (wrongs (at + 1 + 0 + size p) q))
two_fault f at n p q =
    let e : at + 1 + 0 ≡ at + 1 = omega arith in
    rw e (ap (option_or f) (mark_append (wrongs (at + 1) p) (wrongs (at + 1 + size p) q))
    ∙ first_assoc f (mark (wrongs (at + 1) p)) (mark (wrongs (at + 1 + size p) q)))

two_deep : (k o a b : ℕ) → max k (o + max a b) ≡ max (max k (o + a)) (o + b)
two_deep k o a b = omega arith

pub told_sum : (p q : Part) (o : ℕ) (t : Tally) → told (Sum p q) o t ≡ told q o (told p o (stepped 0 t))
unfolding write parts tested written wrongs deep noted
told_sum p q o t =
    same_tally (told (Sum p q) o t) (told q o (told p o (stepped 0 t))) (omega (arith, length-append (write p) (write q))) (omega arith)
    (or_assoc t.tests (tested p) (tested q)) (or_assoc t.writes (written p) (written q)) (two_fault t.fault t.at 0 p q)
    (two_deep t.deep o (deep p) (deep q)) refl

pub told_seq : (p q : Part) (o : ℕ) (t : Tally) → told (Seq p q) o t ≡ told q o (told p o (stepped 0 t))
unfolding write parts tested written wrongs deep noted
told_seq p q o t =
    same_tally (told (Seq p q) o t) (told q o (told p o (stepped 0 t))) (omega (arith, length-append (write p) (write q))) (omega arith)
    (or_assoc t.tests (tested p) (tested q)) (or_assoc t.writes (written p) (written q)) (two_fault t.fault t.at 0 p q)
    (two_deep t.deep o (deep p) (deep q)) refl

-- a concurrent part: what its sides begin with, and what stands after both
abbrev pub entered : ℕ → Tally → Tally
entered o t = record {
  at = t.at + 1 + 2;
  parts = t.parts + 1;
  tests = 0;
  writes = 0;
  fault = t.fault;
  deep = max t.deep (o + 1);
  uses = t.uses;
}

abbrev pub bared : Tally → Tally
bared t = record {
  at = t.at;
  parts = t.parts;
  tests = 0;
  writes = 0;
  fault = t.fault;
  deep = t.deep;
  uses = t.uses;
}

abbrev pub met : ℕ → ℕ → Tally → Tally → Tally → Tally
met wp wq t l r = record {
  at = r.at;
  parts = r.parts;
  tests = bit_or t.tests (bit_or l.tests r.tests);
  writes = bit_or t.writes (bit_or wp wq);
  fault = fault_after t.fault (right_masks wp wq l.tests l.writes r.tests r.writes) t.at r.fault;
  deep = r.deep;
  uses = r.uses;
}

beside_fault : (f : Option ℕ) (at : ℕ) (right : Bool) (l r : List ℕ)
    → option_or f (mark (cond right [] (at ∷ []) ++ (l ++ r))) ≡ fault_after f right at (option_or (option_or f (mark l)) (mark r))
beside_fault None at true l r = mark_append l r
beside_fault None at false l r = refl
beside_fault (Some f) at right l r = refl

beside_deep : (k o a b : ℕ) → max k (o + suc (max a b)) ≡ max (max (max k (o + 1)) (o + 1 + a)) (o + 1 + b)
beside_deep k o a b = omega arith

pub told_beside : (wp wq : ℕ) (p q : Part) (o : ℕ) (t : Tally)
    → told (Beside wp wq p q) o t
    ≡ met wp wq t (told p (o + 1) (entered o t)) (told q (o + 1) (bared (told p (o + 1) (entered o t))))
unfolding write parts tested written wrongs deep noted
told_beside wp wq p q o t =
    let l = told p (o + 1) (entered o t) in
    let r = told q (o + 1) (bared l) in
    let three : t.at + 1 + 2 ≡ t.at + 3 = omega arith in
    let ep : bit_or 0 (tested p) ≡ tested p = or_zero_l (tested p) in
    let eq : bit_or 0 (tested q) ≡ tested q = or_zero_l (tested q) in
    let fp : bit_or 0 (written p) ≡ written p = or_zero_l (written p) in
    let fq : bit_or 0 (written q) ≡ written q = or_zero_l (written q) in
    same_tally (told (Beside wp wq p q) o t) (met wp wq t l r) (omega (arith, length-append (write p) (write q))) (omega arith)
    (rw (ep, eq)) refl
    (rw (three, ep, eq, fp, fq)
    (beside_fault t.fault t.at (right_beside wp wq p q) (wrongs (t.at + 3) p) (wrongs (t.at + 3 + size p) q)))
    (beside_deep t.deep o (deep p) (deep q)) refl

-- a use adds one to one count, and its level to one depth
pub use_room : (l : List Use) (x o : ℕ) → length (note_use x o l) ≡ length l
unfolding note_use
use_room l x o = simp length-set

pub use_same : (l : List Use) (x o : ℕ) → x < length l → get_or (note_use x o l) x unused ≡ one_more_use o (get_or l x unused)
unfolding note_use
use_same l x o h = get_or-set_same l x (one_more_use o (get_or l x unused)) unused h

pub use_other : (l : List Use) (x o y : ℕ) → (y ≡ x → ⊥) → get_or (note_use x o l) y unused ≡ get_or l y unused
unfolding note_use
use_other l x o y h = get_or-set_other l x y (one_more_use o (get_or l x unused)) unused h

use_few : (l : List Use) (x o y : ℕ) → (get_or (note_use x o l) y unused).count ≤ (get_or l y unused).count + 1
use_few l x o y = go (eqb y x) refl (ltb x (length l)) refl
  where
    go : (b : Bool) → eqb y x ≡ b → (c : Bool) → ltb x (length l) ≡ c
        → (get_or (note_use x o l) y unused).count ≤ (get_or l y unused).count + 1
    go true q true h = let e : y ≡ x = eqb-true y x q in rw (e, use_same l x o (ltb-true x (length l) h)) (omega arith)
    go true q false h =
        let e : y ≡ x = eqb-true y x q in
        let k : length (note_use x o l) ≤ y = omega (arith, use_room l x o, ltb-false x (length l) h) in
        rw (get_or-eq_default (note_use x o l) unused k) (omega arith)
    go false q c h = rw (use_other l x o y (eqb-false y x q)) (omega arith)

-- the uses that a part notes are no more than its bytes
pub noted_few : (p : Part) (o : ℕ) (l : List Use) (y : ℕ) → (get_or (noted p o l) y unused).count ≤ (get_or l y unused).count + size p
unfolding write noted
noted_few Id o l y = omega arith
noted_few Drop o l y = omega arith
noted_few (Test f v) o l y = omega arith
noted_few (Set f v) o l y = omega arith
noted_few (Not p) o l y = omega (arith, noted_few p o l y)
noted_few (Sum p q) o l y =
    omega (arith, noted_few q o (noted p o l) y, noted_few p o l y, length-append (write p) (write q))
noted_few (Seq p q) o l y =
    omega (arith, noted_few q o (noted p o l) y, noted_few p o l y, length-append (write p) (write q))
noted_few (Beside wp wq p q) o l y =
    omega (arith, noted_few q (o + 1) (noted p (o + 1) l) y, noted_few p (o + 1) l y, length-append (write p) (write q))
noted_few (Table x r w start p) o l y = omega (arith, use_few l x o y)
noted_few (Open x r w) o l y = omega (arith, use_few l x o y)

pub noted_room : (p : Part) (o : ℕ) (l : List Use) → length (noted p o l) ≡ length l
unfolding noted
noted_room Id o l = refl
noted_room Drop o l = refl
noted_room (Test f v) o l = refl
noted_room (Set f v) o l = refl
noted_room (Not p) o l = noted_room p o l
noted_room (Sum p q) o l = noted_room q o (noted p o l) ∙ noted_room p o l
noted_room (Seq p q) o l = noted_room q o (noted p o l) ∙ noted_room p o l
noted_room (Beside wp wq p q) o l = noted_room q (o + 1) (noted p (o + 1) l) ∙ noted_room p (o + 1) l
noted_room (Table x r w start p) o l = use_room l x o
noted_room (Open x r w) o l = use_room l x o
