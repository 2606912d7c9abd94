-- What the helpers that change an array of rows say: where a packet goes, the rows after it moved up, and the whole.
use Rattle.std.specs.Prelude.{ℕ, ◌+◌, ◌-◌, ◌≤◌, ◌<◌, ◌≡◌, List, [], ◌∷◌, ◌++◌, map, length, take, drop, replicate, Option, Some, None}
use Rattle.std.proofs.Math.Seq.{slice}
use Rattle.std.specs.declared.cmp.Ordering.{Ordering}
use Rattle.std.specs.declared.cmp.Ordering.TheVariants.{Less, Greater}
use Rattle.rules.specs.Packets.{Packet, Packets, most_packets, order_of, Ascending, insert, union}
use Rattle.rows.specs.Chunks.{rows_of, blank, Array, Held}

-- before which packet of s p goes; nowhere, where it is there
abbrev pub Placed : Packet → Packets → Option ℕ → Type 0
Placed p s (Some i) = (i ≤ length s) × (insert p s ≡ take i s ++ p ∷ drop i s)
Placed p s None = insert p s ≡ s

-- w has the first k rows of w₀ with p in its place, n of them, and the rows after row k as they were
pub record Put (r : ℕ) (w w₀ : List ℕ) (k : ℕ) (p : Packet) (n : ℕ) : Type 0 where
  pub array : Array r w
  pub room : n ≤ most_packets
  pub count : n ≡ length (insert p (take k (rows_of r w₀)))
  pub made : take n (rows_of r w) ≡ insert p (take k (rows_of r w₀))
  pub rest : drop (k + 1) (rows_of r w) ≡ drop (k + 1) (rows_of r w₀)
  pub there : n ≡ k → w ≡ w₀

-- the same with the count that there is; or, where they would be more than 16, there is none, and w is w₀
abbrev pub Inserted : ℕ → List ℕ → List ℕ → ℕ → Packet → Option ℕ → Type 0
Inserted r w w₀ k p (Some n) = Put r w w₀ k p n
Inserted r w w₀ k p None = (most_packets < length (insert p (take k (rows_of r w₀)))) × (w ≡ w₀)

-- w holds the first k rows of w₀ with all of t in their places, so many; or, where they are more than 16, there is no count
abbrev pub Joined : ℕ → List ℕ → List ℕ → ℕ → Packets → Option ℕ → Type 0
Joined r w w₀ k t (Some n) = Held r w n (union (take k (rows_of r w₀)) t)
Joined r w w₀ k t None = (most_packets < length (union (take k (rows_of r w₀)) t)) × Array r w

-- w is w₀ with each of the first n rows changed by g
pub record Changed (r : ℕ) (w w₀ : List ℕ) (n : ℕ) (g : Packet → Packet) : Type 0 where
  pub array : Array r w
  pub same : take n (rows_of r w) ≡ map g (take n (rows_of r w₀))
  pub tail : drop n (rows_of r w) ≡ drop n (rows_of r w₀)

-- an array of n rows in whatever order, and zeros after them
pub record Zeroed (r : ℕ) (v : List ℕ) (n : ℕ) : Type 0 where
  pub array : Array r v
  pub room : n ≤ most_packets
  pub zeros : drop n (rows_of r v) ≡ replicate (most_packets - n) (blank r)

-- w is w₀ with rows i to n - 1 h places up; those below row i + h are as they were
pub record Raised (r : ℕ) (w w₀ : List ℕ) (i n h : ℕ) : Type 0 where
  pub array : Array r w
  pub low : take (i + h) (rows_of r w) ≡ take (i + h) (rows_of r w₀)
  pub high : drop (i + h) (rows_of r w) ≡ slice i n (rows_of r w₀) ++ drop (n + h) (rows_of r w₀)

-- w is w₀ with rows i to e - 1 moved down to row k, and zeros up to e; they end at c
pub record Lowered (r : ℕ) (w w₀ : List ℕ) (k i e c : ℕ) : Type 0 where
  pub array : Array r w
  pub count : c ≡ k + (e - i)
  pub rows : take c (rows_of r w) ≡ take k (rows_of r w₀) ++ slice i e (rows_of r w₀)
  pub zeros : drop c (rows_of r w) ≡ replicate (e - c) (blank r) ++ drop e (rows_of r w₀)

-- packets that stand from row h to row e of v, with room for m more packets before them, or for as many as make 16; zeros after them
pub record Apart (r : ℕ) (v : List ℕ) (h e m : ℕ) : Type 0 where
  pub array : Array r v
  pub low : h ≤ e
  pub top : e ≤ most_packets
  pub room : e < most_packets → m ≤ h
  pub order : Ascending (slice h e (rows_of r v))
  pub zeros : drop e (rows_of r v) ≡ replicate (most_packets - e) (blank r)

-- how the first of some lies to a packet; after it, where there is none
abbrev pub from_first : Packets → Packet → Ordering
from_first [] y = Greater
from_first (x ∷ s) y = order_of x y

-- how a packet lies to the first of some; before it, where there is none
abbrev pub to_first : Packet → Packets → Ordering
to_first x [] = Less
to_first x (y ∷ s) = order_of x y
