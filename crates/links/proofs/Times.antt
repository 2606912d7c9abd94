-- How often a number stands in a list, and how many numbers a net uses.
use Prim.Native.Nat.{ℕ, ◌+◌, ◌≤◌}
use native.Mathlib.Omega.{arith}
use mathlib.Core.Path.{◌≡◌, refl, ◌∙◌}
use mathlib.Core.List.{List, [], ◌∷◌, ◌++◌}
use lib.ListN.{length, length-append}
use borrow.Author.Tests.{eq-eqb, ne_eqb}
use Rattle.rules.specs.States.{Tree, live}
use Rattle.links.specs.Nets.{Hold, waits, keeps, Net, rest, over, one, two, above, bare, root, foot, Frame, under, left, right}
use Rattle.links.specs.Nets.{fill, plug, foot_in, same, times}

pub same_self : (k : ℕ) → same k k ≡ 1
unfolding same
same_self k = rw (eq-eqb k k refl)

pub same_other : (k x : ℕ) → (k ≡ x → ⊥) → same k x ≡ 0
unfolding same
same_other k x n = rw (ne_eqb k x n)

pub times_append : (k : ℕ) (a b : List ℕ) → times k (a ++ b) ≡ times k a + times k b
unfolding times
times_append k [] b = omega arith
times_append k (x ∷ a) b = omega (arith, times_append k a b)

pub times_root : (x : Net) → 1 ≤ times (root x) (foot x)
unfolding times foot root
times_root (rest i o p s) = omega (arith, same_self i)
times_root (over i s) = omega (arith, same_self i)
times_root (one i h n) = omega (arith, same_self i)
times_root (two i j n m) = omega (arith, same_self i)

-- the numbers of a filled net are those around the hole and those that fill it
times_fill : (k : ℕ) (f : Frame) (c : List Frame) (x : Net)
    → times k (foot_in c) + times k (foot (fill f x)) ≡ times k (foot_in (f ∷ c)) + times k (foot x)
unfolding times foot foot_in fill
times_fill k (under i h) c x = omega arith
times_fill k (left i j m) c x = omega (arith, times_append k (foot x) (foot m), times_append k (foot m) (foot_in c))
times_fill k (right i j n) c x = omega (arith, times_append k (foot n) (foot x), times_append k (foot n) (foot_in c))

pub times_plug : (k : ℕ) (c : List Frame) (x : Net) → times k (foot (plug c x)) ≡ times k (foot_in c) + times k (foot x)
unfolding plug times foot_in
times_plug k [] x = omega arith
times_plug k (f ∷ c) x = times_plug k c (fill f x) ∙ times_fill k f c x

length_fill : (f : Frame) (c : List Frame) (x : Net)
    → length (foot_in c) + length (foot (fill f x)) ≡ length (foot_in (f ∷ c)) + length (foot x)
unfolding foot foot_in fill
length_fill (under i h) c x = omega arith
length_fill (left i j m) c x = omega (arith, length-append (foot x) (foot m), length-append (foot m) (foot_in c))
length_fill (right i j n) c x = omega (arith, length-append (foot n) (foot x), length-append (foot n) (foot_in c))

pub length_plug : (c : List Frame) (x : Net) → length (foot (plug c x)) ≡ length (foot_in c) + length (foot x)
unfolding plug foot_in
length_plug [] x = omega arith
length_plug (f ∷ c) x = length_plug c (fill f x) ∙ length_fill f c x

-- as many as the state has positions
live_above : (h : Hold) (t : Tree) → live (above h t) ≡ 1 + live t
unfolding above live
live_above (waits o q) t = refl
live_above (keeps k) t = refl

pub live_foot : (x : Net) → length (foot x) ≡ live (bare x)
unfolding foot bare live
live_foot (rest i o p s) = refl
live_foot (over i s) = refl
live_foot (one i h n) = omega (arith, live_above h (bare n), live_foot n)
live_foot (two i j n m) = omega (arith, length-append (foot n) (foot m), live_foot n, live_foot m)
