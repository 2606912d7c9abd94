-- What stands below a part, by paths down: D is the most concurrent parts on any path, and a policy names an unpopulated table exactly
-- if one stands at the end of a path.
use Prim.Native.Nat.{ℕ, ◌+◌, ◌≤◌, max}
use native.Mathlib.Decide.{dec_le}
use native.Mathlib.Omega.{arith}
use mathlib.Core.Path.{◌≡◌, refl, subst}
use mathlib.Core.Bool.{Bool, true, false, false≢true, ◌||◌}
use mathlib.Core.Logic.{◌↔◌}
use Rattle.rules.specs.Parts.{Part, Id, Drop, Test, Set, Not, Sum, Seq, Beside, Table, Open, deep, names_open}

-- the parts directly below a part, and 1 if it is concurrent; the body of a populated table stands below each use of it
pub data Child : Part → Part → ℕ → Type 0 where
  under : {p : Part} → Child (Not p) p 0
  sum_left : {p q : Part} → Child (Sum p q) p 0
  sum_right : {p q : Part} → Child (Sum p q) q 0
  first : {p q : Part} → Child (Seq p q) p 0
  second : {p q : Part} → Child (Seq p q) q 0
  left : {wp wq : ℕ} {p q : Part} → Child (Beside wp wq p q) p 1
  right : {wp wq : ℕ} {p q : Part} → Child (Beside wp wq p q) q 1
  body : {x r w start : ℕ} {p : Part} → Child (Table x r w start p) p 0

-- a path from p down to r that goes into n concurrent parts
pub data Down : Part → Part → ℕ → Type 0 where
  here : {p : Part} → Down p p 0
  down : {p q r : Part} {m n : ℕ} → Child p q m → Down q r n → Down p r (m + n)

-- ---- D

child_deep : {p q : Part} {n : ℕ} → Child p q n → n + deep q ≤ deep p
unfolding deep
child_deep under = omega arith
child_deep sum_left = omega arith
child_deep sum_right = omega arith
child_deep first = omega arith
child_deep second = omega arith
child_deep left = omega arith
child_deep right = omega arith
child_deep body = omega arith

pub deep_most : {p r : Part} {n : ℕ} → Down p r n → n ≤ deep p
deep_most here = omega arith
deep_most (down c h) = omega (arith, child_deep c, deep_most h)

abbrev Path : Part → ℕ → Type 0
Path p n = (r : Part) × Down p r n

along : {t p : Part} {i n k : ℕ} → Child t p i → i + n ≡ k → Path p n → Path t k
along {t} c e a = (a.0, subst (Down t a.0) e (down c a.1))

-- into the deeper of two
deeper : {t p q : Part} {i k m n : ℕ} → Child t p i → Child t q i → k ≡ i + max m n → Dec (n ≤ m) → Path p m → Path q n → Path t k
deeper c d e (yes h) a b = along c (omega (arith, e, h)) a
deeper c d e (no h) a b = along d (omega (arith, e, h)) b

pub deep_reached : (p : Part) → (r : Part) × Down p r (deep p)
unfolding deep
deep_reached Id = (Id, here)
deep_reached Drop = (Drop, here)
deep_reached (Test f v) = (Test f v, here)
deep_reached (Set f v) = (Set f v, here)
deep_reached (Not p) = along under (omega arith) (deep_reached p)
deep_reached (Sum p q) = deeper sum_left sum_right (omega arith) (dec_le (deep q) (deep p)) (deep_reached p) (deep_reached q)
deep_reached (Seq p q) = deeper first second (omega arith) (dec_le (deep q) (deep p)) (deep_reached p) (deep_reached q)
deep_reached (Beside wp wq p q) = deeper left right (omega arith) (dec_le (deep q) (deep p)) (deep_reached p) (deep_reached q)
deep_reached (Table x r w start p) = along body (omega arith) (deep_reached p)
deep_reached (Open x r w) = (Open x r w, here)

-- ---- unpopulated tables

-- an unpopulated table at the end of a path
pub data Opens (p : Part) : Type 0 where
  opens : {x r w n : ℕ} → Down p (Open x r w) n → Opens p

or_left : (a b : Bool) → a ≡ true → (a || b) ≡ true
or_left a b h = rw h

or_right : (a b : Bool) → b ≡ true → (a || b) ≡ true
or_right true b h = refl
or_right false b h = h

child_open : {p q : Part} {n : ℕ} → Child p q n → names_open q ≡ true → names_open p ≡ true
unfolding names_open
child_open under h = h
child_open (sum_left {p} {q}) h = or_left (names_open p) (names_open q) h
child_open (sum_right {p} {q}) h = or_right (names_open p) (names_open q) h
child_open (first {p} {q}) h = or_left (names_open p) (names_open q) h
child_open (second {p} {q}) h = or_right (names_open p) (names_open q) h
child_open (left {p = p} {q}) h = or_left (names_open p) (names_open q) h
child_open (right {p = p} {q}) h = or_right (names_open p) (names_open q) h
child_open body h = h

open_above : {p q : Part} {n x r w : ℕ} → Down p q n → q ≡ Open x r w → names_open p ≡ true
unfolding names_open
open_above here e = rw e
open_above (down c h) e = child_open c (open_above h e)

opens_named : {p : Part} → Opens p → names_open p ≡ true
opens_named (opens h) = open_above h refl

opens_below : {t p : Part} {n : ℕ} → Child t p n → Opens p → Opens t
opens_below c (opens h) = opens (down c h)

either : {t p q : Part} {i : ℕ} (a b : Bool) → Child t p i → Child t q i → (a ≡ true → Opens p) → (b ≡ true → Opens q)
    → (a || b) ≡ true → Opens t
either true b c d f g h = opens_below c (f refl)
either false b c d f g h = opens_below d (g h)

named_opens : (p : Part) → names_open p ≡ true → Opens p
unfolding names_open
named_opens Id h = absurd (false≢true h)
named_opens Drop h = absurd (false≢true h)
named_opens (Test f v) h = absurd (false≢true h)
named_opens (Set f v) h = absurd (false≢true h)
named_opens (Not p) h = opens_below under (named_opens p h)
named_opens (Sum p q) h = either (names_open p) (names_open q) sum_left sum_right (named_opens p) (named_opens q) h
named_opens (Seq p q) h = either (names_open p) (names_open q) first second (named_opens p) (named_opens q) h
named_opens (Beside wp wq p q) h = either (names_open p) (names_open q) left right (named_opens p) (named_opens q) h
named_opens (Table x r w start p) h = opens_below body (named_opens p h)
named_opens (Open x r w) h = opens here

pub open_exactly : (p : Part) → (names_open p ≡ true) ↔ Opens p
open_exactly p = (named_opens p, opens_named)
