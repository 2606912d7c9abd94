-- The walk of a part by its code: each answer from the walks below it.
use Prim.Native.Nat.{ℕ, zero, suc, ◌+◌, ◌-◌, ◌<◌, ◌≤◌}
use native.Mathlib.Omega.{arith}
use mathlib.Core.Path.{◌≡◌, refl, sym, ap, ◌∙◌}
use mathlib.Core.Bool.{Bool, true, false, not}
use mathlib.Core.Logic.{inr}
use mathlib.Core.List.{List}
use lib.Dec.{eqb}
use lib.ListN.{length, get_or}
use Rattle.rules.specs.Codes.{operands_of, parts_of}
use Rattle.rules.specs.Parts.{Part, Id, Not, Sum, Seq, Beside, size}
use Rattle.rules.specs.Books.{Scope, Bytes}
use Rattle.rules.specs.Reading.{and_then, stands, read_times, read_operands, head, read_part, after, part_at, built, below}
use Rattle.rules.specs.Reading.{fields_of, tables_of, reads_at, writes_at}
use Rattle.rules.proofs.ReadingLaws.{operands_none, byte_short, byte_next, part_wrong, part_deep, then_next, stands_known, stands_37}
use Rattle.rules.proofs.Decoding.{unpopulated, Names, read, read_end}
use Rattle.rules.proofs.CodeLaws.{by_code}
use Rattle.std.specs.Prelude.{Result, Ok, Err}
use Rattle.typing.specs.declared.Way.{Way}
use Rattle.typing.specs.Walking.{Tally, told, way_of, and_on, walked, shut, scope_at, Sound}
use Rattle.typing.specs.Walking.{leaf_read, leaf_at}
use Rattle.typing.proofs.LeafLaws.{leaf_read_lem, leaf_stop}
use Rattle.typing.proofs.TallyLaws.{stepped, told_not, told_sum, told_seq, told_beside, entered, bared, met}

pub deeper : (d : ℕ) → (d ≡ 0 → ⊥) → d ≡ suc (d - 1)
deeper zero h = absurd (h refl)
deeper (suc d) h = omega arith

same_leaf : (s : List ℕ) (at : ℕ) (l r l' r' : Part) (c : ℕ) → parts_of c ≡ 0
    → built (head s at) (shut s) c l r ≡ built (head s at) (shut s) c l' r'
unfolding built
same_leaf s at l r l' r' =
    by_code (λ c. parts_of c ≡ 0 → built (head s at) (shut s) c l r ≡ built (head s at) (shut s) c l' r') (λ e. refl) (λ e. refl) (λ e. refl)
    (λ e. refl) (λ e. absurd (omega arith)) (λ e. absurd (omega arith)) (λ e. absurd (omega arith)) (λ e. absurd (omega arith))
    (λ e. refl) (λ c e. refl)

-- the part that a code with no operands builds
two_part : (s : List ℕ) (named : ℕ → Part) (d at code : ℕ) → get_or s at 0 ≡ code → operands_of code ≡ 0
    → part_at s named (suc d) at ≡ built (head s at) named code (part_at s named d (at + 1 + 0)) (part_at s named d (after s d (at + 1 + 0)))
unfolding part_at
two_part s named d at code e n = rw (e, n)

leaf_part : (s : List ℕ) (d at : ℕ) → parts_of (get_or s at 0) ≡ 0 → part_at s (shut s) (suc d) at ≡ leaf_at s at
unfolding part_at
leaf_part s d at z = same_leaf s at (part_at s (shut s) d (below s at)) (part_at s (shut s) d (after s d (below s at))) Id Id (get_or s at 0) z

-- the way to what stands below a negation, and to the sides of a concurrent part
abbrev pub only_predicates : Way → Way
only_predicates w = record { in_table = w.in_table; predicate = true; level = w.level }

abbrev pub inner : Way → Way
inner w = record { in_table = w.in_table; predicate = w.predicate; level = w.level + 1 }

module _ (s : List ℕ) (way : Way) where
  pub walk_short : (d : ℕ) (t : Tally) → length s ≤ t.at → walked s way d t ≡ Err (length s)
  unfolding walked
  walk_short d t h =
      rw (part_wrong s (scope_at s way) d way.predicate t.at (length s) (sym (byte_short s (stands (not way.in_table) way.predicate) t.at h)))

  pub walk_stop : (d : ℕ) (t : Tally) → t.at < length s → stands (not way.in_table) way.predicate (get_or s t.at 0) ≡ false
      → walked s way d t ≡ Err t.at
  unfolding walked
  walk_stop d t h e = rw (leaf_stop s (scope_at s way) d way.predicate t.at h e)

  pub walk_deep : (d : ℕ) (t : Tally) → t.at < length s → d ≡ 0 → walked s way d t ≡ Err t.at
  unfolding walked
  walk_deep d t h z = go (stands (not way.in_table) way.predicate (get_or s t.at 0)) refl
    where
      go : (b : Bool) → stands (not way.in_table) way.predicate (get_or s t.at 0) ≡ b
          → way_of (read_part s (scope_at s way) d way.predicate t.at) (told (part_at s (shut s) d t.at) way.level t) ≡ Err t.at
      go false e = rw (leaf_stop s (scope_at s way) d way.predicate t.at h e)
      go true e =
          rw (part_deep s (scope_at s way) d way.predicate t.at (t.at + 1)
          (sym (byte_next s (stands (not way.in_table) way.predicate) t.at h e)) z)

  -- ---- a code with no parts below it
  pub leaf_any : (d at : ℕ) → at < length s → parts_of (get_or s at 0) ≡ 0
      → (read_part s (scope_at s way) (suc d) way.predicate at ≡ leaf_read s way at) × (part_at s (shut s) (suc d) at ≡ leaf_at s at)
  leaf_any d at h z = (go (stands (not way.in_table) way.predicate (get_or s at 0)) refl, leaf_part s d at z)
    where
      go : (b : Bool) → stands (not way.in_table) way.predicate (get_or s at 0) ≡ b
          → read_part s (scope_at s way) (suc d) way.predicate at ≡ leaf_read s way at
      go false e =
          leaf_stop s (scope_at s way) (suc d) way.predicate at h e ∙ sym (leaf_stop s (scope_at s way) 1 way.predicate at h e)
      go true e =
          leaf_read_lem s (scope_at s way) d way.predicate at (get_or s at 0) refl h e z
          ∙ sym (leaf_read_lem s (scope_at s way) 0 way.predicate at (get_or s at 0) refl h e z)

  -- ---- a negation
  not_read : (d at : ℕ) → at < length s → get_or s at 0 ≡ 4
      → read_part s (scope_at s way) (suc d) way.predicate at ≡ read_part s (scope_at s way) d true (at + 1)
  unfolding read_part
  not_read d at h e =
      let st : stands (not way.in_table) way.predicate (get_or s at 0) ≡ true
      = stands_known (not way.in_table) way.predicate (get_or s at 0) (omega arith) (λ q. omega arith) in
      rw (← byte_next s (stands (not way.in_table) way.predicate) at h st, e, operands_none s (fields_of s) (tables_of s) 4 at refl h)
      (then_next (read_part s (scope_at s way) d true (at + 1)))

  not_part : (d at : ℕ) → get_or s at 0 ≡ 4 → part_at s (shut s) (suc d) at ≡ Not (part_at s (shut s) d (at + 1))
  unfolding built
  not_part d at e =
      let z : at + 1 + 0 ≡ at + 1 = omega arith in
      rw z at (two_part s (shut s) d at 4 e refl)

  pub walk_not : (d : ℕ) (t : Tally) → t.at < length s → get_or s t.at 0 ≡ 4
      → walked s way (suc d) t ≡ walked s (only_predicates way) d (stepped 0 t)
  unfolding walked
  walk_not d t h e =
      let z : t.at + 1 ≡ t.at + 1 + 0 = omega arith in
      let f : ℕ → Result Tally ℕ = λ x. way_of (read_part s (scope_at s way) d true x) (told (part_at s (shut s) d x) way.level (stepped 0 t)) in
      rw (not_read d t.at h e, not_part d t.at e, told_not (part_at s (shut s) d (t.at + 1)) way.level t) (ap f z)

-- ---- a sum or a sequence
module _ (s : List ℕ) (sound : Sound s) (way : Way) where
  pub bytes : Bytes s
  bytes i = omega (arith, sound.bytes i)

  pub names : Names (scope_at s way) (shut s)
  unfolding shut
  names h x l u = unpopulated (reads_at s x) (writes_at s x)

  then_same : (f : ℕ → Result ℕ ℕ) (r : Result ℕ ℕ) → and_then r (read_times 1 f) ≡ and_then r f
  then_same f (Ok m) = then_next (f m)
  then_same f (Err a) = refl

  two_read : (d at code : ℕ) → get_or s at 0 ≡ code → operands_of code ≡ 0 → parts_of code ≡ 2 → eqb code 4 ≡ false
      → stands (not way.in_table) way.predicate code ≡ true → at < length s
      → read_part s (scope_at s way) (suc d) way.predicate at
      ≡ and_then (read_part s (scope_at s way) d way.predicate (at + 1 + 0)) (read_part s (scope_at s way) d way.predicate)
  unfolding read_part
  two_read d at code e n0 np n4 st h =
      let z : at + 1 + 0 ≡ at + 1 = omega arith in
      let ops = operands_none s (fields_of s) (tables_of s) code at n0 h in
      rw (← byte_next s (stands (not way.in_table) way.predicate) at h (rw e st), e, ops, np, n4, z)
      (then_same (read_part s (scope_at s way) d way.predicate) (read_part s (scope_at s way) d way.predicate (at + 1)))

  -- g is what the code builds of its two parts
  walk_two : (d code : ℕ) (g : Part → Part → Part) (t : Tally) → get_or s t.at 0 ≡ code → operands_of code ≡ 0 → parts_of code ≡ 2
      → eqb code 4 ≡ false → stands (not way.in_table) way.predicate code ≡ true → t.at < length s
      → ((l r : Part) → built (head s t.at) (shut s) code l r ≡ g l r)
      → ((p q : Part) → told (g p q) way.level t ≡ told q way.level (told p way.level (stepped 0 t)))
      → walked s way (suc d) t ≡ and_on (walked s way d (stepped 0 t)) (walked s way d)
  unfolding walked
  walk_two d code g t e n0 np n4 st h bg tg =
      rw (two_read d t.at code e n0 np n4 st h, part, tg p q) (go (read_part s (scope_at s way) d way.predicate (t.at + 1 + 0)) refl)
    where
      c : Scope
      c = scope_at s way

      p : Part
      p = part_at s (shut s) d (t.at + 1 + 0)

      q : Part
      q = part_at s (shut s) d (after s d (t.at + 1 + 0))

      o : ℕ
      o = way.level

      part : part_at s (shut s) (suc d) t.at ≡ g p q
      part = two_part s (shut s) d t.at code e n0 ∙ bg p q

      go : (r : Result ℕ ℕ) → read_part s c d way.predicate (t.at + 1 + 0) ≡ r
          → way_of (and_then r (read_part s c d way.predicate)) (told q o (told p o (stepped 0 t)))
          ≡ and_on (way_of r (told p o (stepped 0 t)))
          (λ u. way_of (read_part s c d way.predicate u.at) (told (part_at s (shut s) d u.at) way.level u))
      go (Err a) w = refl
      go (Ok m) w =
          let g = read s bytes c (shut s) names d way.predicate (t.at + 1 + 0) m w in
          let n : t.at + 1 + 0 + size p ≡ m = sym (read_end s c (shut s) d way.predicate (t.at + 1 + 0) m g) in
          rw (n, g.0)

  pub walk_sum : (d : ℕ) (t : Tally) → get_or s t.at 0 ≡ 5 → t.at < length s
      → walked s way (suc d) t ≡ and_on (walked s way d (stepped 0 t)) (walked s way d)
  unfolding built
  walk_sum d t e h =
      walk_two d 5 Sum t e refl refl refl (stands_known (not way.in_table) way.predicate 5 (omega arith) (λ q. omega arith)) h (λ l r. refl)
      (λ p q. told_sum p q way.level t)

  pub walk_seq : (d : ℕ) (t : Tally) → get_or s t.at 0 ≡ 6 → t.at < length s
      → walked s way (suc d) t ≡ and_on (walked s way d (stepped 0 t)) (walked s way d)
  unfolding built
  walk_seq d t e h =
      walk_two d 6 Seq t e refl refl refl (stands_known (not way.in_table) way.predicate 6 (omega arith) (λ q. omega arith)) h (λ l r. refl)
      (λ p q. told_seq p q way.level t)

  -- ---- a concurrent part
  beside_read : (d at : ℕ) → get_or s at 0 ≡ 7 → way.predicate ≡ false → at < length s
      → read_part s (scope_at s way) (suc d) way.predicate at
      ≡ and_then (read_operands s (fields_of s) (tables_of s) 7 at)
      (read_times 2 (read_part s (scope_at s way) d way.predicate))
  unfolding read_part
  beside_read d at e ep h =
      let st : stands (not way.in_table) way.predicate (get_or s at 0) ≡ true
      = stands_37 (not way.in_table) way.predicate (get_or s at 0) (inr e) ∙ rw ep in
      rw (← byte_next s (stands (not way.in_table) way.predicate) at h st, e)

  pub beside_stop : (d a : ℕ) (t : Tally) → get_or s t.at 0 ≡ 7 → way.predicate ≡ false → t.at < length s
      → read_operands s (fields_of s) (tables_of s) 7 t.at ≡ Err a → walked s way (suc d) t ≡ Err a
  unfolding walked
  beside_stop d a t e ep h w = rw (beside_read d t.at e ep h, w)

  beside_part_is : (d at : ℕ) → get_or s at 0 ≡ 7
      → part_at s (shut s) (suc d) at
      ≡ Beside (head s at).left (head s at).right (part_at s (shut s) d (at + 1 + operands_of 7))
      (part_at s (shut s) d (after s d (at + 1 + operands_of 7)))
  unfolding part_at built
  beside_part_is d at e = rw e

  pub walk_beside : (d e : ℕ) (t : Tally) → get_or s t.at 0 ≡ 7 → way.predicate ≡ false → t.at < length s
      → read_operands s (fields_of s) (tables_of s) 7 t.at ≡ Ok e → e ≡ t.at + 1 + operands_of 7
      → walked s way (suc d) t
      ≡ and_on (walked s (inner way) d (entered way.level t)) (λ l. and_on (walked s (inner way) d (bared l))
      (λ r. Ok (met (head s t.at).left (head s t.at).right t l r)))
  unfolding walked
  walk_beside d e t ec ep h w z =
      rw (beside_read d t.at ec ep h, w, z, beside_part_is d t.at ec, told_beside wp wq p q way.level t)
      (go (read_part s c d way.predicate (t.at + 1 + operands_of 7)) refl)
    where
      c : Scope
      c = scope_at s way

      f : ℕ → Result ℕ ℕ
      f = read_part s c d way.predicate

      wp : ℕ
      wp = (head s t.at).left

      wq : ℕ
      wq = (head s t.at).right

      p : Part
      p = part_at s (shut s) d (t.at + 1 + operands_of 7)

      q : Part
      q = part_at s (shut s) d (after s d (t.at + 1 + operands_of 7))

      o : ℕ
      o = way.level

      l : Tally
      l = told p (o + 1) (entered o t)

      all : Tally
      all = met wp wq t l (told q (o + 1) (bared l))

      second : (m : ℕ) (r : Result ℕ ℕ)
          → way_of (and_then r (λ x. Ok x)) all ≡ and_on (way_of r (told q (o + 1) (bared l))) (λ u. Ok (met wp wq t l u))
      second m (Err a) = refl
      second m (Ok a) = refl

      go : (r : Result ℕ ℕ) → f (t.at + 1 + operands_of 7) ≡ r
          → way_of (and_then r (read_times 1 f)) all
          ≡ and_on (way_of r l) (λ u. and_on (way_of (f u.at) (told (part_at s (shut s) d u.at) (o + 1) (bared u)))
          (λ v. Ok (met wp wq t u v)))
      go (Err a) w = refl
      go (Ok m) w =
          let g = read s bytes c (shut s) names d way.predicate (t.at + 1 + operands_of 7) m w in
          let n : m ≡ l.at = read_end s c (shut s) d way.predicate (t.at + 1 + operands_of 7) m g in
          let k : after s d (t.at + 1 + operands_of 7) ≡ l.at = g.0 ∙ n in
          ap (λ (x : ℕ). way_of (and_then (f x) (λ y. Ok y)) all) n ∙ second m (f l.at)
          ∙ ap (λ (x : ℕ). and_on (way_of (f l.at) (told (part_at s (shut s) d x) (o + 1) (bared l))) (λ v. Ok (met wp wq t l v))) k
