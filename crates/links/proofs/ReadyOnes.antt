-- The ready positions of a net with a filled hole; every ready position is one whose own step is the next.
use Prim.Native.Nat.{ℕ, zero, suc, ◌+◌, ◌-◌, ◌≤◌, ◌<◌}
use native.Mathlib.Omega.{arith}
use native.Mathlib.Decide.{dec_le}
use mathlib.Core.Path.{◌≡◌, refl, sym, ◌∙◌}
use mathlib.Core.Bool.{Bool, true, false, cond, ◌&&◌}
use mathlib.Core.List.{List, [], ◌∷◌, ◌++◌, append_assoc, append-nil}
use lib.ListN.{length, length-append}
use Rattle.rules.specs.Packets.{Packets}
use Rattle.rules.specs.States.{Join}
use Rattle.links.specs.Nets.{Hold, Net, rest, over, one, two, foot, is_over, ready_of, Frame, under, left, right, fill, plug}
use Rattle.links.specs.Nets.{lefts, rights, risen, news, Prime, rests, single, double}

pub going_fill : (f : Frame) (x : Net) → is_over (fill f x) ≡ false
unfolding is_over fill
going_fill (under i h) x = refl
going_fill (left i j m) x = refl
going_fill (right i j n) x = refl

and_false : (b : Bool) → b && false ≡ false
and_false true = refl
and_false false = refl

ready_fill : (f : Frame) (c : List Frame) (x : Net) → is_over x ≡ false
    → lefts c ++ (ready_of (fill f x) ++ rights c) ≡ lefts (f ∷ c) ++ (ready_of x ++ rights (f ∷ c))
unfolding ready_of fill lefts rights
ready_fill (under i h) c x e = rw e
ready_fill (left i j m) c x e = rw e (rw append_assoc)
ready_fill (right i j n) c x e = rw (e, and_false (is_over n)) (simp append_assoc)

pub ready_plug : (c : List Frame) (x : Net) → is_over x ≡ false → ready_of (plug c x) ≡ lefts c ++ (ready_of x ++ rights c)
unfolding plug lefts rights
ready_plug [] x e = sym (append-nil (ready_of x))
ready_plug (f ∷ c) x e = ready_plug c (fill f x) (going_fill f x) ∙ ready_fill f c x e

-- what a step leaves: the ready ones of what fills the hole now, or, where that is finished, the position above it if it may go on
rise : (f : Frame) (c : List Frame) (i : ℕ) (s : Packets)
    → lefts c ++ (ready_of (fill f (over i s)) ++ rights c) ≡ lefts (f ∷ c) ++ (risen (f ∷ c) ++ rights (f ∷ c))
unfolding ready_of fill is_over lefts rights risen
rise (under k h) c i s = refl
rise (left k j (rest a o p r)) c i s = refl
rise (left k j (over a r)) c i s = refl
rise (left k j (one a h n)) c i s = rw append_assoc
rise (left k j (two a h n m)) c i s = rw append_assoc
rise (right k j (rest a o p r)) c i s = simp append_assoc
rise (right k j (over a r)) c i s = simp append_assoc
rise (right k j (one a h n)) c i s = simp append_assoc
rise (right k j (two a h n m)) c i s = simp append_assoc

over_plug : (c : List Frame) (i : ℕ) (s : Packets) → ready_of (plug c (over i s)) ≡ lefts c ++ (risen c ++ rights c)
unfolding plug ready_of lefts rights risen
over_plug [] i s = refl
over_plug (f ∷ c) i s = ready_plug c (fill f (over i s)) (going_fill f (over i s)) ∙ rise f c i s

pub ready_after : (c : List Frame) (x : Net) → ready_of (plug c x) ≡ lefts c ++ (news c x ++ rights c)
unfolding news is_over
ready_after c (rest i o p s) = ready_plug c (rest i o p s) refl
ready_after c (over i s) = over_plug c i s
ready_after c (one i h n) = ready_plug c (one i h n) refl
ready_after c (two i j n m) = ready_plug c (two i j n m) refl

-- ---- the j-th ready position

-- the net d is a prime one in a hole with j ready positions left of it
pub record Found (d : Net) (j : ℕ) : Type 0 where
  pub around : List Frame
  pub prime : Net
  pub whole : d ≡ plug around prime
  pub first : length (lefts around) ≡ j
  pub own : Prime prime

-- finished, or not
pub data View : Net → Type 0 where
  ended : (i : ℕ) (s : Packets) → View (over i s)
  going : (x : Net) → is_over x ≡ false → View x

pub view : (x : Net) → View x
unfolding is_over
view (rest i o p s) = going (rest i o p s) refl
view (over i s) = ended i s
view (one i h n) = going (one i h n) refl
view (two i j n m) = going (two i j n m) refl

found_as : {d : Net} {j k : ℕ} → j ≡ k → Found d j → Found d k
found_as e f = record { around = f.around; prime = f.prime; whole = f.whole; first = f.first ∙ e; own = f.own }

abbrev pub Finds : Net → Type 0
Finds x = (c : List Frame) (j : ℕ) → j < length (ready_of x) → Found (plug c x) (length (lefts c) + j)

find_one : (i : ℕ) (h : Hold) {n : Net} → View n → Finds n → Finds (one i h n)
unfolding ready_of plug fill lefts is_over
find_one i h (going n e) f c j l = f (under i h ∷ c) j (rw e at l)
find_one i h (ended k s) f c zero l =
    record { around = c; prime = one i h (over k s); whole = refl; first = omega arith; own = single }
find_one i h (ended k s) f c (suc j) l = absurd (omega arith)

-- left or right of the two below
find_side : (i : ℕ) (k : Join) (n m : Net) → Finds n → Finds m → (c : List Frame) (j : ℕ) → j < length (ready_of n ++ ready_of m)
    → Found (plug c (two i k n m)) (length (lefts c) + j)
unfolding plug fill lefts
find_side i k n m f g c j l =
    let q = length-append (ready_of n) (ready_of m) in
    elim (dec_le (suc j) (length (ready_of n))) [
      | yes h ↦ f (left i k m ∷ c) j h
      | no h ↦ found_as (omega (arith, length-append (lefts c) (ready_of n))) (g (right i k n ∷ c) (j - length (ready_of n)) (omega arith))
    ]

find_two : (i : ℕ) (k : Join) {n m : Net} → View n → View m → Finds n → Finds m → Finds (two i k n m)
unfolding ready_of is_over
find_two i k (going n e) v f g c j l = find_side i k n _ f g c j (rw e at l)
find_two i k (ended a s) (going m e) f g c j l = find_side i k (over a s) m f g c j (rw e at l)
find_two i k (ended a s) (ended b r) f g c zero l =
    record { around = c; prime = two i k (over a s) (over b r); whole = refl; first = omega arith; own = double }
find_two i k (ended a s) (ended b r) f g c (suc j) l = absurd (omega arith)

pub find : (x : Net) → Finds x
unfolding ready_of
find (rest i o p s) c zero l = record { around = c; prime = rest i o p s; whole = refl; first = omega arith; own = rests }
find (rest i o p s) c (suc j) l = absurd (omega arith)
find (over i s) c j l = absurd (omega arith)
find (one i h n) c j l = find_one i h (view n) (find n) c j l
find (two i k n m) c j l = find_two i k (view n) (view m) (find n) (find m) c j l

-- there are no more ready positions than positions
pub ready_few : (x : Net) → length (ready_of x) ≤ length (foot x)
unfolding ready_of foot
ready_few (rest i o p s) = omega arith
ready_few (over i s) = omega arith
ready_few (one i h n) = few_one i n (is_over n) (ready_few n)
  where
    few_one : (i : ℕ) (n : Net) (b : Bool) → length (ready_of n) ≤ length (foot n)
        → length (cond b (i ∷ []) (ready_of n)) ≤ suc (length (foot n))
    few_one i n true h = omega arith
    few_one i n false h = omega arith
ready_few (two i j n m) = few_two i n m (is_over n && is_over m) (ready_few n) (ready_few m)
  where
    few_two : (i : ℕ) (n m : Net) (b : Bool) → length (ready_of n) ≤ length (foot n) → length (ready_of m) ≤ length (foot m)
        → length (cond b (i ∷ []) (ready_of n ++ ready_of m)) ≤ suc (length (foot n ++ foot m))
    few_two i n m true h k = omega arith
    few_two i n m false h k = omega (arith, length-append (ready_of n) (ready_of m), length-append (foot n) (foot m))
