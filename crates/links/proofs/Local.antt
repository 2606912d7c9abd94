-- A step inside one subtree is the rules' step at its ready position.
use Prim.Native.Nat.{ℕ, ◌+◌, ◌-◌, ◌<◌}
use native.Mathlib.Omega.{arith}
use mathlib.Core.Path.{◌≡◌, refl, sym, ◌∙◌}
use mathlib.Core.Bool.{false, cond, false≢true}
use mathlib.Core.List.{List, [], ◌∷◌}
use lib.Dec.{ltb}
use borrow.Author.Tests.{lt-ltb, le-ltb}
use lib.ListN.{length, length-append}
use Rattle.rules.specs.Packets.{Packets, keep, lacks}
use Rattle.rules.specs.Parts.{Part}
use Rattle.rules.specs.States.{Spot, Join, join, Tree, done, both, finish, place, enter}
use Rattle.rules.proofs.Choose.{own_or, own_or₂, own_step, own_step₂, readies, step_at}
use Rattle.links.specs.Nets.{Hold, waits, keeps, Net, rest, over, one, two, above, bare, is_over, ready_of, Frame, under, left, right}
use Rattle.links.specs.Nets.{fill, plug, lefts, Prime, rests, single, double}
use Rattle.links.proofs.ReadyOnes.{View, ended, going, view, going_fill}

pub finish_going : (x : Net) → is_over x ≡ false → finish (bare x) ≡ []
unfolding is_over bare finish above
finish_going (rest i o p s) e = refl
finish_going (over i s) e = absurd (false≢true (sym e))
finish_going (one i (waits o q) n) e = refl
finish_going (one i (keeps k) n) e = refl
finish_going (two i j n m) e = refl

-- as many as the rules say
count_one : (i : ℕ) (h : Hold) {n : Net} → View n → length (ready_of n) ≡ readies (bare n)
    → length (ready_of (one i h n)) ≡ readies (bare (one i h n))
unfolding ready_of readies bare above is_over finish own_or
count_one i (waits o q) (going n e) h = rw (e, finish_going n e) h
count_one i (keeps k) (going n e) h = rw (e, finish_going n e) h
count_one i (waits o q) (ended k s) h = refl
count_one i (keeps r) (ended k s) h = refl

count_two : (i : ℕ) (j : Join) {n m : Net} → View n → View m → length (ready_of n) ≡ readies (bare n) → length (ready_of m) ≡ readies (bare m)
    → length (ready_of (two i j n m)) ≡ readies (bare (two i j n m))
unfolding ready_of readies bare is_over finish own_or own_or₂
count_two i j {m = m} (going n e) v h k = rw (e, finish_going n e) (length-append (ready_of n) (ready_of m) ∙ omega arith)
count_two i j (ended a s) (going m e) h k = rw (e, finish_going m e) (omega arith)
count_two i j (ended a s) (ended b r) h k = refl

pub ready_length : (x : Net) → length (ready_of x) ≡ readies (bare x)
unfolding ready_of readies bare
ready_length (rest i o p s) = refl
ready_length (over i s) = refl
ready_length (one i h n) = count_one i h (view n) (ready_length n)
ready_length (two i j n m) = count_two i j (view n) (view m) (ready_length n) (ready_length m)

-- a step below goes through one frame
record Goes (f : Frame) (c : List Frame) (x y : Net) (j : ℕ) : Type 0 where
  pub k : ℕ
  pub index : length (lefts c) + k ≡ length (lefts (f ∷ c)) + j
  pub below : k < readies (bare (fill f x))
  pub step : step_at (bare (fill f x)) k ≡ bare (fill f y)

goes_under : (i : ℕ) (h : Hold) (c : List Frame) (x y : Net) (j : ℕ) → is_over x ≡ false → j < readies (bare x) → step_at (bare x) j ≡ bare y
    → Goes (under i h) c x y j
unfolding lefts fill bare above readies step_at own_or own_step
goes_under i (waits o q) c x y j e l s =
    record { k = j; index = refl; below = rw (finish_going x e) l; step = rw (finish_going x e, s) }
goes_under i (keeps r) c x y j e l s =
    record { k = j; index = refl; below = rw (finish_going x e) l; step = rw (finish_going x e, s) }

goes_left : (i : ℕ) (v : Join) (m : Net) (c : List Frame) (x y : Net) (j : ℕ) → is_over x ≡ false → j < readies (bare x)
    → step_at (bare x) j ≡ bare y → Goes (left i v m) c x y j
unfolding lefts fill bare readies step_at own_or₂ own_step₂
goes_left i v m c x y j e l s = record {
  k = j;
  index = refl;
  below = rw (finish_going x e) (omega arith);
  step = rw (finish_going x e, lt-ltb j (readies (bare x)) l, s);
}

-- those on the left are passed over
passed : (v : Join) (n : Tree) (x y : Net) (j : ℕ) → step_at (bare x) j ≡ bare y
    → cond (ltb (readies n + j) (readies n)) (both v (step_at n (readies n + j)) (bare x))
    (both v n (step_at (bare x) (readies n + j - readies n)))
    ≡ both v n (bare y)
passed v n x y j s =
    let e : readies n + j - readies n ≡ j = omega arith in
    rw (le-ltb (readies n + j) (readies n) (omega arith), e, s)

goes_right : (i : ℕ) (v : Join) {n : Net} → View n → (c : List Frame) (x y : Net) (j : ℕ) → is_over x ≡ false → j < readies (bare x)
    → step_at (bare x) j ≡ bare y → Goes (right i v n) c x y j
unfolding lefts fill bare readies finish step_at own_or own_or₂ own_step own_step₂
goes_right i v (going n d) c x y j e l s = record {
  k = readies (bare n) + j;
  index = omega (arith, length-append (lefts c) (ready_of n), ready_length n);
  below = rw (finish_going n d) (omega arith);
  step = rw (finish_going n d) (passed v (bare n) x y j s);
}
goes_right i v (ended a r) c x y j e l s = record {
  k = readies (bare (over a r)) + j;
  index = omega (arith, length-append (lefts c) (ready_of (over a r)), ready_length (over a r));
  below = rw (finish_going x e) (omega arith);
  step = rw (finish_going x e) (passed v (bare (over a r)) x y j s);
}

goes : (f : Frame) (c : List Frame) (x y : Net) (j : ℕ) → is_over x ≡ false → j < readies (bare x) → step_at (bare x) j ≡ bare y
    → Goes f c x y j
goes (under i h) = goes_under i h
goes (left i v m) = goes_left i v m
goes (right i v n) = goes_right i v (view n)

pub step_plug : (c : List Frame) (x y : Net) (j : ℕ) → is_over x ≡ false → j < readies (bare x) → step_at (bare x) j ≡ bare y
    → step_at (bare (plug c x)) (length (lefts c) + j) ≡ bare (plug c y)
unfolding plug lefts
step_plug [] x y j e l s = let z : 0 + j ≡ j = omega arith in rw (z, s)
step_plug (f ∷ c) x y j e l s =
    let g = goes f c x y j e l s in
    rw (← g.index) (step_plug c (fill f x) (fill f y) g.k (going_fill f x) g.below g.step)

-- ---- the own step of a prime position

pub prime_going : {x : Net} → Prime x → (is_over x ≡ false) × (readies (bare x) ≡ 1)
unfolding is_over readies bare above finish own_or own_or₂
prime_going rests = (refl, refl)
prime_going (single {h = waits o q}) = (refl, refl)
prime_going (single {h = keeps k}) = (refl, refl)
prime_going double = (refl, refl)

pub data Own : Net → Tree → Type 0 where
  enters : {i : ℕ} {o : Spot} {p : Part} {s : Packets} → Own (rest i o p s) (enter o p s)
  takes : {i k : ℕ} {o : Spot} {q : Part} {s : Packets} → Own (one i (waits o q) (over k s)) (place o q s)
  lacks_it : {i k : ℕ} {r s : Packets} → Own (one i (keeps r) (over k s)) (done (keep (lacks s) r))
  joins : {i k l : ℕ} {j : Join} {s t : Packets} → Own (two i j (over k s) (over l t)) (done (join j s t))

pub own_prime : {x : Net} {t : Tree} → Own x t → Prime x
own_prime enters = rests
own_prime takes = single
own_prime lacks_it = single
own_prime joins = double

pub own_step_lem : {x : Net} {t : Tree} → Own x t → step_at (bare x) 0 ≡ t
unfolding step_at bare above finish own_step own_step₂
own_step_lem enters = refl
own_step_lem takes = refl
own_step_lem lacks_it = refl
own_step_lem joins = refl

-- the step at the j-th ready position of the whole is the own step of the prime net that stands there
pub local_step : (c : List Frame) {x : Net} {t : Tree} (y : Net) → Own x t → bare y ≡ t
    → step_at (bare (plug c x)) (length (lefts c)) ≡ bare (plug c y)
local_step c {x} y o e =
    let p = prime_going (own_prime o) in
    let z : length (lefts c) + 0 ≡ length (lefts c) = omega arith in
    rw z at (step_plug c x y 0 p.0 (omega arith) (own_step_lem o ∙ sym e))
