-- n of the whole policy from the parts of its bodies, each walked once: the main body's own parts, and for each table
-- the parts of its body as often as it is used.
use Prim.Native.Nat.{ℕ, zero, suc, max, ◌+◌, ◌*◌, ◌<◌, ◌≤◌}
use native.Mathlib.Omega.{arith}
use native.Mathlib.Nat.{add-mul, one-mul, zero-add}
use Rattle.rules.specs.Books.{Scope, Fine}
use mathlib.Core.Path.{◌≡◌, refl, sym, ap, ◌∙◌}
use mathlib.Core.Bool.{Bool, true, false, cond}
use mathlib.Core.List.{List}
use lib.Dec.{eqb}
use borrow.Author.Tests.{eqb-true, eqb-false, ne_eqb}
use lib.ListN.{length, get_or}
use Rattle.rules.specs.Parts.{Part, Id, Drop, Test, Set, Not, Sum, Seq, Beside, Table, Open, parts, deep}
use Rattle.rules.specs.Reading.{part_at, head, built, after, below}
use Rattle.rules.proofs.CodeLaws.{by_code}
use Rattle.typing.specs.declared.Use.{Use}
use Rattle.typing.specs.Walking.{shut, noted, unused, one_more_use, note_use}
use Rattle.typing.specs.Summing.{total, reach, top}
use Rattle.typing.proofs.TallyLaws.{use_same, use_other, noted_room}

-- each use of a table filled with what it stands for
unfoldable pub filled : (ℕ → Part) → Part → Part
filled g Id = Id
filled g Drop = Drop
filled g (Test f v) = Test f v
filled g (Set f v) = Set f v
filled g (Not p) = Not (filled g p)
filled g (Sum p q) = Sum (filled g p) (filled g q)
filled g (Seq p q) = Seq (filled g p) (filled g q)
filled g (Beside wp wq p q) = Beside wp wq (filled g p) (filled g q)
filled g (Table x r w start p) = g x
filled g (Open x r w) = g x

-- every use is one without a body, of a table below n
abbrev pub Shut : ℕ → Part → Type 0
Shut n Id = Unit {0}
Shut n Drop = Unit {0}
Shut n (Test f v) = Unit {0}
Shut n (Set f v) = Unit {0}
Shut n (Not p) = Shut n p
Shut n (Sum p q) = Shut n p × Shut n q
Shut n (Seq p q) = Shut n p × Shut n q
Shut n (Beside wp wq p q) = Shut n p × Shut n q
Shut n (Table x r w start p) = ⊥
Shut n (Open x r w) = x < n

fill_code : (s : List ℕ) (named : ℕ → Part) (at : ℕ) (l r : Part) (c : ℕ)
    → built (head s at) named c (filled named l) (filled named r) ≡ filled named (built (head s at) (shut s) c l r)
unfolding built filled shut
fill_code s named at l r =
    by_code (λ c. built (head s at) named c (filled named l) (filled named r) ≡ filled named (built (head s at) (shut s) c l r))
    refl refl refl refl refl
    refl refl refl refl (λ c. refl)

-- the decoder with the bodies is the decoder without them, filled
pub part_filled : (s : List ℕ) (named : ℕ → Part) (d at : ℕ) → part_at s named d at ≡ filled named (part_at s (shut s) d at)
unfolding part_at filled
part_filled s named zero at = refl
part_filled s named (suc d) at =
    rw (part_filled s named d (below s at), part_filled s named d (after s d (below s at)))
    (fill_code s named at (part_at s (shut s) d (below s at)) (part_at s (shut s) d (after s d (below s at))) (get_or s at 0))

-- what the uses add, if a use of table x adds e x
unfoldable pub more : (ℕ → ℕ) → Part → ℕ
more e Id = 0
more e Drop = 0
more e (Test f v) = 0
more e (Set f v) = 0
more e (Not p) = more e p
more e (Sum p q) = more e p + more e q
more e (Seq p q) = more e p + more e q
more e (Beside wp wq p q) = more e p + more e q
more e (Table x r w start p) = e x
more e (Open x r w) = e x

pub parts_filled : (e : ℕ → ℕ) (g : ℕ → Part) → ((x : ℕ) → parts (g x) ≡ 1 + e x) → (n : ℕ) (p : Part) → Shut n p
    → parts (filled g p) ≡ parts p + more e p
unfolding parts filled more
parts_filled e g h n Id z = refl
parts_filled e g h n Drop z = refl
parts_filled e g h n (Test f v) z = refl
parts_filled e g h n (Set f v) z = refl
parts_filled e g h n (Not p) z = omega (arith, parts_filled e g h n p z)
parts_filled e g h n (Sum p q) z = omega (arith, parts_filled e g h n p z.0, parts_filled e g h n q z.1)
parts_filled e g h n (Seq p q) z = omega (arith, parts_filled e g h n p z.0, parts_filled e g h n q z.1)
parts_filled e g h n (Beside wp wq p q) z = omega (arith, parts_filled e g h n p z.0, parts_filled e g h n q z.1)
parts_filled e g h n (Table x r w start p) z = absurd z
parts_filled e g h n (Open x r w) z = h x

once : (a b : ℕ) → (a + 1) * b ≡ a * b + b
once a b = add-mul a 1 b ∙ ap (λ (i : ℕ). a * b + i) (one-mul b)

module _ (e : ℕ → ℕ) (l : List Use) (x o : ℕ) (len : length l ≡ 16) where
  use_is : x < 16 → get_or (note_use x o l) x unused ≡ one_more_use o (get_or l x unused)
  use_is h = use_same l x o (omega arith)

  total_low : (n : ℕ) → n ≤ 16 → n ≤ x → total e (note_use x o l) n ≡ total e l n
  unfolding total
  total_low zero a b = refl
  total_low (suc n) a b = rw (total_low n (omega arith) (omega arith), use_other l x o n (λ z. omega arith))

  total_use : (n : ℕ) → n ≤ 16 → x < n → total e (note_use x o l) n ≡ total e l n + e x
  unfolding total
  total_use zero a b = absurd (omega arith)
  total_use (suc n) a b = go (λ h. total_use n (omega arith) h) (eqb n x) refl
    where
      go : (x < n → total e (note_use x o l) n ≡ total e l n + e x) → (t : Bool) → eqb n x ≡ t
          → total e (note_use x o l) n + (get_or (note_use x o l) n unused).count * e n ≡ total e l n + (get_or l n unused).count * e n + e x
      go ih true q =
          let z : n ≡ x = eqb-true n x q in
          rw (z, total_low x (omega arith) (omega arith), use_is (omega arith), once (get_or l x unused).count (e x)) (omega arith)
      go ih false q =
          let z = eqb-false n x q in
          rw (ih (omega (arith, z)), use_other l x o n z) (omega arith)

-- the counts that the walk notes are the uses
pub total_noted : (e : ℕ → ℕ) (n : ℕ) → n ≤ 16 → (p : Part) (o : ℕ) (l : List Use) → Shut n p → length l ≡ 16
    → total e (noted p o l) n ≡ total e l n + more e p
unfolding noted more
total_noted e n h Id o l z k = omega arith
total_noted e n h Drop o l z k = omega arith
total_noted e n h (Test f v) o l z k = omega arith
total_noted e n h (Set f v) o l z k = omega arith
total_noted e n h (Not p) o l z k = total_noted e n h p o l z k
total_noted e n h (Sum p q) o l z k =
    omega (arith, total_noted e n h p o l z.0 k, total_noted e n h q o (noted p o l) z.1 (noted_room p o l ∙ k))
total_noted e n h (Seq p q) o l z k =
    omega (arith, total_noted e n h p o l z.0 k, total_noted e n h q o (noted p o l) z.1 (noted_room p o l ∙ k))
total_noted e n h (Beside wp wq p q) o l z k =
    omega (
      arith,
      total_noted e n h p (o + 1) l z.0 k,
      total_noted e n h q (o + 1) (noted p (o + 1) l) z.1 (noted_room p (o + 1) l ∙ k),
    )
total_noted e n h (Table x r w start p) o l z k = absurd z
total_noted e n h (Open x r w) o l z k = total_use e l x o k n h z

-- n of the whole policy: its own parts, and for each table its uses times what a use of it adds
pub whole_parts : (s : List ℕ) (named : ℕ → Part) (e : ℕ → ℕ) (n d at : ℕ) (l : List Use) → ((x : ℕ) → parts (named x) ≡ 1 + e x) → n ≤ 16
    → Shut n (part_at s (shut s) d at) → length l ≡ 16 → total e l n ≡ 0
    → parts (part_at s named d at) ≡ parts (part_at s (shut s) d at) + total e (noted (part_at s (shut s) d at) 0 l) n
whole_parts s named e n d at l h k z len empty =
    let p = part_at s (shut s) d at in
    rw (part_filled s named d at)
    (omega (arith, parts_filled e named h n p z, total_noted e n k p 0 l z len))

-- ---- D: the deepest use, where a use of table x goes e x deeper

unfoldable pub far : (ℕ → ℕ) → ℕ → Part → ℕ
far e o Id = 0
far e o Drop = 0
far e o (Test f v) = 0
far e o (Set f v) = 0
far e o (Not p) = far e o p
far e o (Sum p q) = max (far e o p) (far e o q)
far e o (Seq p q) = max (far e o p) (far e o q)
far e o (Beside wp wq p q) = max (far e (o + 1) p) (far e (o + 1) q)
far e o (Table x r w start p) = o + e x
far e o (Open x r w) = o + e x

two_far : (o a b c d f g : ℕ) → o + a ≡ max (o + c) f → o + b ≡ max (o + d) g → o + max a b ≡ max (o + max c d) (max f g)
two_far o a b c d f g h k = le_both o a b ∙ ap (λ (i : ℕ). max i (o + b)) h ∙ ap (λ (i : ℕ). max (max (o + c) f) i) k ∙ mixed o c d f g
  where
    le_both : (o a b : ℕ) → o + max a b ≡ max (o + a) (o + b)
    le_both o a b = omega arith

    mixed : (o c d f g : ℕ) → max (max (o + c) f) (max (o + d) g) ≡ max (o + max c d) (max f g)
    mixed o c d f g = omega arith

pub deep_filled : (e : ℕ → ℕ) (g : ℕ → Part) → ((x : ℕ) → deep (g x) ≡ e x) → (n o : ℕ) (p : Part) → Shut n p
    → o + deep (filled g p) ≡ max (o + deep p) (far e o p)
unfolding deep filled far
deep_filled e g h n o Id z = omega arith
deep_filled e g h n o Drop z = omega arith
deep_filled e g h n o (Test f v) z = omega arith
deep_filled e g h n o (Set f v) z = omega arith
deep_filled e g h n o (Not p) z = deep_filled e g h n o p z
deep_filled e g h n o (Sum p q) z =
    two_far o (deep (filled g p)) (deep (filled g q)) (deep p) (deep q) (far e o p) (far e o q) (deep_filled e g h n o p z.0)
    (deep_filled e g h n o q z.1)
deep_filled e g h n o (Seq p q) z =
    two_far o (deep (filled g p)) (deep (filled g q)) (deep p) (deep q) (far e o p) (far e o q) (deep_filled e g h n o p z.0)
    (deep_filled e g h n o q z.1)
deep_filled e g h n o (Beside wp wq p q) z =
    let a : o + suc (max (deep (filled g p)) (deep (filled g q))) ≡ o + 1 + max (deep (filled g p)) (deep (filled g q)) = omega arith in
    let b : o + suc (max (deep p) (deep q)) ≡ o + 1 + max (deep p) (deep q) = omega arith in
    a ∙ two_far (o + 1) (deep (filled g p)) (deep (filled g q)) (deep p) (deep q) (far e (o + 1) p) (far e (o + 1) q)
    (deep_filled e g h n (o + 1) p z.0) (deep_filled e g h n (o + 1) q z.1)
    ∙ ap (λ (i : ℕ). max i (max (far e (o + 1) p) (far e (o + 1) q))) (sym b)
deep_filled e g h n o (Table x r w start p) z = absurd z
deep_filled e g h n o (Open x r w) z = omega (arith, h x)

-- a table that was not used was used nowhere deep
abbrev pub Fresh : List Use → Type 0
Fresh l = (x : ℕ) → x < 16 → (get_or l x unused).count ≡ 0 → (get_or l x unused).level ≡ 0

module _ (e : ℕ → ℕ) (l : List Use) (x o : ℕ) (len : length l ≡ 16) (hx : x < 16) where
  fresh_use : Fresh l → Fresh (note_use x o l)
  fresh_use f y h = go (eqb y x) refl
    where
      go : (t : Bool) → eqb y x ≡ t → (get_or (note_use x o l) y unused).count ≡ 0 → (get_or (note_use x o l) y unused).level ≡ 0
      go true q k =
          let z : y ≡ x = eqb-true y x q in
          let c : (get_or (note_use x o l) x unused).count ≡ 0 = rw z at k in
          let d : (get_or l x unused).count + 1 ≡ 0 = rw (use_is e l x o len hx) at c in
          absurd (omega arith)
      go false q k =
          let z = use_other l x o y (eqb-false y x q) in
          let c : (get_or l y unused).count ≡ 0 = rw z at k in
          rw z (f y h c)

  reach_same : Fresh l → reach e (note_use x o l) x ≡ max (reach e l x) (o + e x)
  reach_same f =
      rw (use_is e l x o len hx, ne_eqb ((get_or l x unused).count + 1) 0 (λ z. omega arith))
      (go (eqb (get_or l x unused).count 0) refl)
    where
      go : (t : Bool) → eqb (get_or l x unused).count 0 ≡ t
          → max (get_or l x unused).level o + e x ≡ max (cond t 0 ((get_or l x unused).level + e x)) (o + e x)
      go true q = let z = f x hx (eqb-true (get_or l x unused).count 0 q) in omega (arith, z)
      go false q = omega arith

  reach_other : (y : ℕ) → (y ≡ x → ⊥) → reach e (note_use x o l) y ≡ reach e l y
  reach_other y q = rw (use_other l x o y q)

  top_low : (n : ℕ) → n ≤ 16 → n ≤ x → top e (note_use x o l) n ≡ top e l n
  unfolding top
  top_low zero a b = refl
  top_low (suc n) a b = rw (top_low n (omega arith) (omega arith), reach_other n (λ z. omega arith))

  top_use : Fresh l → (n : ℕ) → n ≤ 16 → x < n → top e (note_use x o l) n ≡ max (top e l n) (o + e x)
  unfolding top
  top_use f zero a b = absurd (omega arith)
  top_use f (suc n) a b = go (λ h. top_use f n (omega arith) h) (eqb n x) refl
    where
      swap : (a b c : ℕ) → max (max a c) b ≡ max (max a b) c
      swap a b c = omega arith

      keep : (a b c : ℕ) → max a (max b c) ≡ max (max a b) c
      keep a b c = omega arith

      go : (x < n → top e (note_use x o l) n ≡ max (top e l n) (o + e x)) → (t : Bool) → eqb n x ≡ t
          → max (top e (note_use x o l) n) (reach e (note_use x o l) n) ≡ max (max (top e l n) (reach e l n)) (o + e x)
      go ih true q =
          let z : n ≡ x = eqb-true n x q in
          rw (z, top_low x (omega arith) (omega arith), reach_same f) (keep (top e l x) (reach e l x) (o + e x))
      go ih false q =
          let z = eqb-false n x q in
          rw (ih (omega (arith, z)), reach_other n z) (swap (top e l n) (reach e l n) (o + e x))

fresh_noted : (e : ℕ → ℕ) (n : ℕ) → n ≤ 16 → (p : Part) (o : ℕ) (l : List Use) → Shut n p → length l ≡ 16 → Fresh l → Fresh (noted p o l)
unfolding noted
fresh_noted e n h Id o l z k f = f
fresh_noted e n h Drop o l z k f = f
fresh_noted e n h (Test i v) o l z k f = f
fresh_noted e n h (Set i v) o l z k f = f
fresh_noted e n h (Not p) o l z k f = fresh_noted e n h p o l z k f
fresh_noted e n h (Sum p q) o l z k f =
    fresh_noted e n h q o (noted p o l) z.1 (noted_room p o l ∙ k) (fresh_noted e n h p o l z.0 k f)
fresh_noted e n h (Seq p q) o l z k f =
    fresh_noted e n h q o (noted p o l) z.1 (noted_room p o l ∙ k) (fresh_noted e n h p o l z.0 k f)
fresh_noted e n h (Beside wp wq p q) o l z k f =
    fresh_noted e n h q (o + 1) (noted p (o + 1) l) z.1 (noted_room p (o + 1) l ∙ k) (fresh_noted e n h p (o + 1) l z.0 k f)
fresh_noted e n h (Table x r w start p) o l z k f = absurd z
fresh_noted e n h (Open x r w) o l z k f = fresh_use e l x o k (omega arith) f

max_assoc : (a b c : ℕ) → max (max a b) c ≡ max a (max b c)
max_assoc a b c = omega arith

max_zero : (a : ℕ) → a ≡ max a 0
max_zero a = omega arith

two_top : (a b c d f : ℕ) → a ≡ max b c → d ≡ max a f → d ≡ max b (max c f)
two_top a b c d f h k = k ∙ ap (λ (i : ℕ). max i f) h ∙ max_assoc b c f

-- the depths that the walk notes are those of the uses
pub top_noted : (e : ℕ → ℕ) (n : ℕ) → n ≤ 16 → (p : Part) (o : ℕ) (l : List Use) → Shut n p → length l ≡ 16 → Fresh l
    → top e (noted p o l) n ≡ max (top e l n) (far e o p)
unfolding noted far
top_noted e n h Id o l z k f = max_zero (top e l n)
top_noted e n h Drop o l z k f = max_zero (top e l n)
top_noted e n h (Test i v) o l z k f = max_zero (top e l n)
top_noted e n h (Set i v) o l z k f = max_zero (top e l n)
top_noted e n h (Not p) o l z k f = top_noted e n h p o l z k f
top_noted e n h (Sum p q) o l z k f =
    two_top (top e (noted p o l) n) (top e l n) (far e o p) (top e (noted q o (noted p o l)) n) (far e o q)
    (top_noted e n h p o l z.0 k f)
    (top_noted e n h q o (noted p o l) z.1 (noted_room p o l ∙ k) (fresh_noted e n h p o l z.0 k f))
top_noted e n h (Seq p q) o l z k f =
    two_top (top e (noted p o l) n) (top e l n) (far e o p) (top e (noted q o (noted p o l)) n) (far e o q)
    (top_noted e n h p o l z.0 k f)
    (top_noted e n h q o (noted p o l) z.1 (noted_room p o l ∙ k) (fresh_noted e n h p o l z.0 k f))
top_noted e n h (Beside wp wq p q) o l z k f =
    two_top (top e (noted p (o + 1) l) n) (top e l n) (far e (o + 1) p) (top e (noted q (o + 1) (noted p (o + 1) l)) n) (far e (o + 1) q)
    (top_noted e n h p (o + 1) l z.0 k f)
    (top_noted e n h q (o + 1) (noted p (o + 1) l) z.1 (noted_room p (o + 1) l ∙ k) (fresh_noted e n h p (o + 1) l z.0 k f))
top_noted e n h (Table x r w start p) o l z k f = absurd z
top_noted e n h (Open x r w) o l z k f = top_use e l x o k (omega arith) f n h z

-- D of the whole policy: its own depth, or that of the deepest use with the table's body below it
pub whole_deep : (s : List ℕ) (named : ℕ → Part) (e : ℕ → ℕ) (n d at : ℕ) (l : List Use) → ((x : ℕ) → deep (named x) ≡ e x) → n ≤ 16
    → Shut n (part_at s (shut s) d at) → length l ≡ 16 → Fresh l → top e l n ≡ 0
    → deep (part_at s named d at) ≡ max (deep (part_at s (shut s) d at)) (top e (noted (part_at s (shut s) d at) 0 l) n)
whole_deep s named e n d at l h k z len f empty =
    let p = part_at s (shut s) d at in
    let a : 0 + deep (filled named p) ≡ max (0 + deep p) (far e 0 p) = deep_filled e named h n 0 p z in
    let b : top e (noted p 0 l) n ≡ max (top e l n) (far e 0 p) = top_noted e n k p 0 l z len f in
    let c : far e 0 p ≡ top e (noted p 0 l) n = omega (arith, b, empty) in
    rw (part_filled s named d at) (rw (zero-add (deep (filled named p)), zero-add (deep p), c) at a)

-- a fine part of a book with fewer than n tables has only such uses
pub fine_shut : (s : List ℕ) (c : Scope) (n : ℕ) → c.tables < n → (d : ℕ) (pred : Bool) (p : Part) → Fine c (shut s) d pred p → Shut n p
unfolding Fine shut
fine_shut s c n h zero pred p f = absurd f
fine_shut s c n h (suc d) pred Id f = tt
fine_shut s c n h (suc d) pred Drop f = tt
fine_shut s c n h (suc d) pred (Test i v) f = tt
fine_shut s c n h (suc d) pred (Set i v) f = tt
fine_shut s c n h (suc d) pred (Not p) f = fine_shut s c n h d true p f
fine_shut s c n h (suc d) pred (Sum p q) f = (fine_shut s c n h d pred p f.0, fine_shut s c n h d pred q f.1)
fine_shut s c n h (suc d) pred (Seq p q) f = (fine_shut s c n h d pred p f.0, fine_shut s c n h d pred q f.1)
fine_shut s c n h (suc d) pred (Beside wp wq p q) f = (fine_shut s c n h d pred p f.3, fine_shut s c n h d pred q f.4)
fine_shut s c n h (suc d) pred (Table x r w start p) f =
    let z : ◌≡◌ {A = ℕ} 0 1 = cc f.4 in absurd (omega arith)
fine_shut s c n h (suc d) pred (Open x r w) f = omega (arith, f.3)
