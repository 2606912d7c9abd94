-- Widths: packets handed and given are within the width. Where no set on the way has more than 16 packets the steps of a part are at
-- most 4 · n · 16^D; the room is at most one more than the steps.
use Prim.Native.Nat.{ℕ, suc, ◌+◌, ◌*◌, ◌^◌, ◌≤◌, max}
use native.Mathlib.Nat.{mul_assoc, mul_comm, add-mul, mul-le-mul, mul-le-mul_left, mul-le-mul_right, pow-le-pow_right}
use native.Mathlib.Nat.{pow-succ', one-le-pow}
use native.Mathlib.Omega.{arith}
use mathlib.Core.Path.{◌≡◌, refl, ap}
use mathlib.Core.List.{[], ◌∷◌}
use lib.ListN.{length}
use Rattle.rules.specs.Packets.{Packet, Packets, without}
use Rattle.rules.specs.Parts.{Part, Id, Drop, Test, Set, Not, Sum, Seq, Beside, Table, Open, parts, deep}
use Rattle.rules.specs.Working.{each, out, steps, room, own, widest, width}

-- ---- the width

widest_own : (f : Packet → ℕ) (o : Packets → ℕ) (s : Packets) → o s ≤ widest f o s
unfolding widest
widest_own f o [] = omega arith
widest_own f o (x ∷ s) = omega arith

pub width_own : (p : Part) (s : Packets) → own p s ≤ width p s
unfolding width
width_own Id s = omega arith
width_own Drop s = omega arith
width_own (Test f v) s = omega arith
width_own (Set f v) s = omega arith
width_own (Not p) s = omega arith
width_own (Sum p q) s = omega arith
width_own (Seq p q) s = omega arith
width_own (Beside wp wq p q) s = widest_own _ (own (Beside wp wq p q)) s
width_own (Table x r w start p) s = omega arith
width_own (Open x r w) s = omega arith

-- the packets that a part is handed, and those that it gives
pub handed : (p : Part) (s : Packets) → length s ≤ width p s
unfolding own
handed p s = omega (arith, width_own p s)

pub given : (p : Part) (s : Packets) → length (out p s) ≤ width p s
unfolding own
given p s = omega (arith, width_own p s)

-- a concurrent part on one packet, and on more
again : (o f n : ℕ) → n ≡ 0 → max o f ≡ max o (max (max o f) n)
again o f n e = omega arith

module _ (wp wq : ℕ) (p q : Part) where
  own_none : own (Beside wp wq p q) [] ≡ 0
  unfolding own out each
  own_none = refl

  pub width_one : (x : Packet)
      → width (Beside wp wq p q) (x ∷ [])
      ≡ max (own (Beside wp wq p q) (x ∷ [])) (max (width p (without wq x ∷ [])) (width q (without wp x ∷ [])))
  unfolding width widest
  width_one x = omega (arith, own_none)

  pub width_more : (x : Packet) (s : Packets)
      → width (Beside wp wq p q) (x ∷ s)
      ≡ max (own (Beside wp wq p q) (x ∷ s)) (max (width (Beside wp wq p q) (x ∷ [])) (width (Beside wp wq p q) s))
  unfolding width widest
  width_more x s =
      ap (λ (z : ℕ). max (own (Beside wp wq p q) (x ∷ s)) (max z (width (Beside wp wq p q) s)))
      (again _ (max (width p (without wq x ∷ [])) (width q (without wp x ∷ []))) _ own_none)

-- ---- the steps

-- n · 16^d
load : Part → ℕ → ℕ
load p d = parts p * 16 ^ d

load_up : (p : Part) (d e : ℕ) → d ≤ e → load p d ≤ load p e
unfolding load
load_up p d e h = mul-le-mul_left (parts p) (pow-le-pow_right (omega arith) h)

power : (d : ℕ) → 1 ≤ 16 ^ d
power d = one-le-pow d 16 (omega arith)

spread : (a b c : ℕ) → (1 + (a + b)) * c ≡ c + (a * c + b * c)
spread a b c = omega (arith, add-mul 1 (a + b) c, add-mul a b c)

two : (p q : Part) (x y : ℕ) → x ≤ 4 * load p (deep p) → y ≤ 4 * load q (deep q)
    → x + y + 4 ≤ 4 * ((1 + (parts p + parts q)) * 16 ^ max (deep p) (deep q))
unfolding load
two p q x y h k =
    let d = max (deep p) (deep q) in
    omega (arith, load_up p (deep p) d (omega arith), load_up q (deep q) d (omega arith), spread (parts p) (parts q) (16 ^ d), power d)

one : (p : Part) (x : ℕ) → x ≤ 4 * load p (deep p) → x + 4 ≤ 4 * ((1 + parts p) * 16 ^ deep p)
unfolding load
one p x h = omega (arith, add-mul 1 (parts p) (16 ^ deep p), power (deep p))

-- packet by packet
each_steps : (f w : Packet → ℕ) (o : Packets → ℕ) (c : ℕ) → ((x : Packet) → w x ≤ 16 → f x + 4 ≤ c)
    → (x : Packet) (s : Packets) → widest w o (x ∷ s) ≤ 16
    → each 1 (λ x. f x + 2) (λ m n. m + n + 2) (x ∷ s) + 2 ≤ length (x ∷ s) * c
unfolding each widest
each_steps f w o c h x [] k = omega (arith, h x (omega arith))
each_steps f w o c h x (y ∷ s) k =
    omega (arith, h x (omega arith), each_steps f w o c h y s (omega arith), add-mul 1 (length (y ∷ s)) c)

times : (n c e k : ℕ) → n ≤ 16 → c ≤ 4 * (k * e) → n * c ≤ 4 * (k * (16 * e))
times n c e k h g = omega (arith, mul-le-mul_right c h, mul_assoc k 16 e, mul_comm k 16, mul_assoc 16 k e)

bound : (p : Part) (s : Packets) → width p s ≤ 16 → steps p s ≤ 4 * load p (deep p)
unfolding steps parts deep width load each
bound Id s h = omega arith
bound Drop s h = omega arith
bound (Test f v) s h = omega arith
bound (Set f v) s h = omega arith
bound (Not p) s h = omega (arith, one p (steps p s) (bound p s (omega arith)))
bound (Sum p q) s h = omega (arith, two p q (steps p s) (steps q s) (bound p s (omega arith)) (bound q s (omega arith)))
bound (Seq p q) s h =
    omega (arith, two p q (steps p s) (steps q (out p s)) (bound p s (omega arith)) (bound q (out p s) (omega arith)))
bound (Beside wp wq p q) [] h =
    let d = suc (max (deep p) (deep q)) in
    omega (arith, spread (parts p) (parts q) (16 ^ d), power d)
bound (Beside wp wq p q) (x ∷ s) h =
    let d = max (deep p) (deep q) in
    let n = 1 + (parts p + parts q) in
    let f : Packet → ℕ = λ y. steps p (without wq y ∷ []) + steps q (without wp y ∷ []) in
    let w : Packet → ℕ = λ y. max (width p (without wq y ∷ [])) (width q (without wp y ∷ [])) in
    let e = each_steps f w (own (Beside wp wq p q)) (4 * (n * 16 ^ d))
    (λ y k. two p q _ _ (bound p (without wq y ∷ []) (omega arith)) (bound q (without wp y ∷ []) (omega arith))) x s h in
    let few : length (x ∷ s) ≤ 16 = omega (arith, handed (Beside wp wq p q) (x ∷ s)) in
    omega (arith, e, times (length (x ∷ s)) (4 * (n * 16 ^ d)) (16 ^ d) n few (omega arith), ap (λ (z : ℕ). n * z) (pow-succ' 16 d))
bound (Table x r w start p) s h = omega (arith, one p (steps p s) (bound p s (omega arith)))
bound (Open x r w) s h = omega arith

pub steps_bound : (p : Part) (s : Packets) → width p s ≤ 16 → steps p s ≤ 4 * parts p * 16 ^ deep p
unfolding load
steps_bound p s h = omega (arith, bound p s h, mul_assoc 4 (parts p) (16 ^ deep p))

-- within the limits of a book the steps are few: 4 · 1023 · 16^4
pub limit : (p : Part) (s : Packets) → parts p ≤ 1023 → deep p ≤ 4 → width p s ≤ 16 → steps p s ≤ 268173312
unfolding load
limit p s n d h =
    let e : 16 ^ deep p ≤ 16 ^ 4 = pow-le-pow_right (omega arith) d in
    omega (arith, bound p s h, mul-le-mul n e)

-- ---- the room is at most the steps and one

each_room : (f g : Packet → ℕ) → ((x : Packet) → f x ≤ g x + 2) → (s : Packets)
    → each 1 (λ x. 1 + f x) (λ m n. 1 + (m + n)) s ≤ each 1 (λ x. g x + 2) (λ m n. m + n + 2) s + 1
unfolding each
each_room f g h [] = omega arith
each_room f g h (x ∷ []) = omega (arith, h x)
each_room f g h (x ∷ (y ∷ s)) = omega (arith, h x, each_room f g h (y ∷ s))

pub room_steps : (p : Part) (s : Packets) → room p s ≤ steps p s + 1
unfolding steps room
room_steps Id s = omega arith
room_steps Drop s = omega arith
room_steps (Test f v) s = omega arith
room_steps (Set f v) s = omega arith
room_steps (Not p) s = omega (arith, room_steps p s)
room_steps (Sum p q) s = omega (arith, room_steps p s, room_steps q s)
room_steps (Seq p q) s = omega (arith, room_steps p s, room_steps q (out p s))
room_steps (Beside wp wq p q) s =
    each_room (λ x. room p (without wq x ∷ []) + room q (without wp x ∷ [])) _
    (λ x. omega (arith, room_steps p (without wq x ∷ []), room_steps q (without wp x ∷ []))) s
room_steps (Table x r w start p) s = omega (arith, room_steps p s)
room_steps (Open x r w) s = omega arith
