-- The width is the largest set that a run holds: no schedule holds a larger one (`held_width`), and some schedule holds one as large.
use Prim.Native.Nat.{ℕ, ◌≤◌, ◌<◌, max}
use native.Mathlib.Decide.{dec_le}
use native.Mathlib.Omega.{arith}
use mathlib.Core.Path.{◌≡◌}
use mathlib.Core.Logic.{◌↔◌}
use mathlib.Core.List.{List, [], ◌∷◌}
use lib.ListN.{length}
use Rattle.rules.specs.Packets.{Packet, Packets, without}
use Rattle.rules.specs.Parts.{Part, Id, Drop, Test, Set, Not, Sum, Seq, Beside, Table, Open}
use Rattle.rules.specs.Working.{out, room, own, widest, width}
use Rattle.rules.specs.States.{Spot, on, Join, entered, split, paired, Tree, waiting, negated, both, place, enter, run, held}
use Rattle.rules.specs.Lists.{All}
use Rattle.rules.proofs.Bounds.{width_one, width_more}
use Rattle.rules.proofs.Schedules.{held_width}
use Rattle.rules.proofs.Ways.{Reaches, reach_here, reach_as, reach_out, reach_enter, reach_first, reach_second}
use Rattle.rules.proofs.Ways.{reach_not, reach_both}
use Rattle.rules.proofs.Rooms.{reached}

-- ---- a way to a state that holds n packets or more in one position

abbrev Wide : Tree → ℕ → Type 0
Wide t n = Reaches t (λ u. n ≤ held u)

by_larger : {t : Tree} (k m n : ℕ) → k ≤ max m n → Dec (n ≤ m) → Wide t m → Wide t n → Wide t k
by_larger k m n l (yes h) a b = reach_as (λ u g. omega (arith, l, g)) a
by_larger k m n l (no h) a b = reach_as (λ u g. omega (arith, l, g)) b

larger : {t : Tree} {k m n : ℕ} → Wide t m → Wide t n → k ≤ max m n → Wide t k
larger {t} {k} {m} {n} a b l = by_larger k m n l (dec_le n m) a b

-- what a part is handed it holds as soon as it is placed, and what it gives it holds when it is finished
place_held : (o : Spot) (p : Part) (s : Packets) → held (place o p s) ≡ length s
unfolding held place
place_held o Id s = omega arith
place_held o Drop s = omega arith
place_held o (Test f v) s = omega arith
place_held o (Set f v) s = omega arith
place_held o (Not p) s = omega arith
place_held o (Sum p q) s = omega arith
place_held o (Seq p q) s = place_held (on 1 o) p s
place_held o (Beside wp wq p q) s = omega arith
place_held o (Table x r w start p) s = omega arith
place_held o (Open x r w) s = omega arith

wide_own : (o : Spot) (p : Part) (s : Packets) → Wide (place o p s) (own p s)
unfolding own held
wide_own o p s =
    larger {m = length s} {n = length (out p s)} (reach_here (place o p s) (omega (arith, place_held o p s)))
    (reach_out o p s (omega arith)) (omega arith)

-- ---- what a position below holds

wide_first : {t : Tree} {n : ℕ} (o : Spot) (q : Part) → Wide t n → Wide (waiting t o q) n
unfolding held
wide_first o q a = reach_first o q (λ u h. h) a

wide_not : {t : Tree} {n : ℕ} (k : Packets) → Wide t n → Wide (negated k t) n
unfolding held
wide_not k a = reach_not k (λ u h. omega (arith, h)) a

wide_both : {t u : Tree} {m n : ℕ} (j : Join) → Wide t m → Wide u n → Wide (both j t u) (max m n)
unfolding held
wide_both j a b = reach_both j (λ x y h k. omega (arith, h, k)) a b

-- a concurrent part, packet by packet; f and g are the ways of its sides
module _ (o : Spot) (wp wq : ℕ) (p q : Part) (f : (o : Spot) (s : Packets) → Wide (place o p s) (width p s))
    (g : (o : Spot) (s : Packets) → Wide (place o q s) (width q s)) where
  wide_one : (x : Packet) → Wide (place o (Beside wp wq p q) (x ∷ [])) (width (Beside wp wq p q) (x ∷ []))
  unfolding place enter
  wide_one x =
      larger (wide_own o (Beside wp wq p q) (x ∷ []))
      (reach_enter o (Beside wp wq p q) (x ∷ []) (wide_both (paired wp wq) (f _ (without wq x ∷ [])) (g _ (without wp x ∷ []))))
      (omega (arith, width_one wp wq p q x))

  wide_beside : (s : Packets) → Wide (place o (Beside wp wq p q) s) (width (Beside wp wq p q) s)
  unfolding place enter width widest
  wide_beside [] = wide_own o (Beside wp wq p q) []
  wide_beside (x ∷ []) = wide_one x
  wide_beside (x ∷ (y ∷ s)) =
      larger (wide_own o (Beside wp wq p q) (x ∷ (y ∷ s)))
      (reach_enter o (Beside wp wq p q) (x ∷ (y ∷ s)) (wide_both split (wide_one x) (wide_beside (y ∷ s))))
      (omega (arith, width_more wp wq p q x (y ∷ s)))

wide : (p : Part) (o : Spot) (s : Packets) → Wide (place o p s) (width p s)
unfolding place enter width
wide Id o s = wide_own o Id s
wide Drop o s = wide_own o Drop s
wide (Test f v) o s = wide_own o (Test f v) s
wide (Set f v) o s = wide_own o (Set f v) s
wide (Not p) o s = larger (wide_own o (Not p) s) (reach_enter o (Not p) s (wide_not s (wide p _ s))) (omega arith)
wide (Sum p q) o s =
    larger (wide_own o (Sum p q) s) (reach_enter o (Sum p q) s (wide_both entered (wide p _ s) (wide q _ s))) (omega arith)
wide (Seq p q) o s =
    larger (wide_own o (Seq p q) s)
    (larger {k = max (width p s) (width q (out p s))} (wide_first _ q (wide p _ s)) (reach_second _ p _ q s (wide q _ (out p s)))
    (omega arith)) (omega arith)
wide (Beside wp wq p q) o s = wide_beside o wp wq p q (wide p) (wide q) s
wide (Table x r w start p) o s =
    larger (wide_own o (Table x r w start p) s) (reach_enter o (Table x r w start p) s (wide p _ s)) (omega arith)
wide (Open x r w) o s = wide_own o (Open x r w) s

-- with n 256: by a schedule of bytes; with the room itself: by some schedule, whatever the room
pub width_reached : (o : Spot) (p : Part) (s : Packets) (n : ℕ) → room p s ≤ n
    → (bs : List ℕ) × All (λ b. b < n) bs × (held (run (place o p s) bs) ≡ width p s)
width_reached o p s n h =
    let r = reached (λ u. width p s ≤ held u) o p s n h (wide p o s) in
    (r.0, r.1, omega (arith, r.2, held_width o p s r.0))

-- so the width is over n exactly if some schedule comes to hold more than n packets in one position
pub width_over : (o : Spot) (p : Part) (s : Packets) (n : ℕ)
    → (n < width p s) ↔ ((bs : List ℕ) × (n < held (run (place o p s) bs)))
width_over o p s n = (
  λ h. let r = width_reached o p s (room p s) (omega arith) in (r.0, omega (arith, h, r.2)),
  λ r. omega (arith, r.1, held_width o p s r.0),
)
