-- A loop over all pairings of two sets.
use Prim.Native.Nat.{ℕ, ◌+◌, ◌≤◌, ◌<◌}
use mathlib.Core.Path.{◌≡◌, ap}
use mathlib.Core.List.{List, [], ◌∷◌, map}
use native.Mathlib.Omega.{arith}
use lib.ListN.{length, take, get_or, drop_of_length-le}
use lib.Seq.{slice, take-suc}
use Rattle.rules.specs.Packets.{Packet, Packets, mix, insert, union, pairs_into, pairs}
use Rattle.rules.proofs.Sets.{length_pairs_into_le}
use Rattle.rows.specs.Chunks.{rows_of, Packed, Held, Fits, Cleared}
use Rattle.rows.proofs.Clearing.{cleared_all}
use Rattle.rows.proofs.Chunks.{length_rows_lem}
use Rattle.std.specs.Prelude.{Some, None}
use Rattle.sets.specs.Lists.{Inserted, Joined}
use Rattle.sets.proofs.Rows.{slice_at, slice_end}
use Rattle.sets.proofs.Inserting.{Gathering, gathering_count}

-- packet j of an array comes next, each changed by g
pub gather_at : (g : Packet → Packet) {r : ℕ} (y : List ℕ) (m j : ℕ) {w : List ℕ} {k : ℕ} {whole : Packets}
    → Gathering r w k (map g (slice j m (rows_of r y))) whole → j < m → m ≤ 16
    → Gathering r w k (g (get_or (rows_of r y) j []) ∷ map g (slice (j + 1) m (rows_of r y))) whole
gather_at g {r} y m j a h l = rw (slice_at (rows_of r y) j m h (omega (arith, length_rows_lem r y))) at a

-- ---- one packet paired with the first m of y

module _ (g : Packet → Packet) {r : ℕ} (y w₀ : List ℕ) {w : List ℕ} {k : ℕ} (m k₀ j : ℕ)
    (a : Gathering r w k (map g (slice j m (rows_of r y))) (union (take k₀ (rows_of r w₀)) (map g (take m (rows_of r y))))) where
  pub pairing_over : {w' : List ℕ} → j < m → m ≤ 16 → Inserted r w' w k (g (get_or (rows_of r y) j [])) None
      → Joined r w' w₀ k₀ (map g (take m (rows_of r y))) None
  pairing_over h l i = (omega (arith, i.0, gathering_count (gather_at g y m j a h l)), rw i.1 a.packed.array)

  pub pairing_end : m ≤ j → Joined r w w₀ k₀ (map g (take m (rows_of r y))) (Some k)
  unfolding union
  pairing_end h = record { packed = a.packed; same = rw (slice_end (rows_of r y) j m h) at a.same }

-- ---- all pairings

-- the packets of v, with the pairings of those that are left, are all
pub record Pairing (r w : ℕ) (v : List ℕ) (k : ℕ) (left t whole : Packets) : Type 0 where
  pub packed : Packed r v k
  pub same : pairs_into w (take k (rows_of r v)) left t ≡ whole

module _ {r w : ℕ} {v : List ℕ} (x : List ℕ) {k : ℕ} (n i : ℕ) (t : Packets) {whole : Packets} (q : Packed r x n)
    (a : Pairing r w v k (slice i n (rows_of r x)) t whole) where
  here : i < n → pairs_into w (take k (rows_of r v)) (get_or (rows_of r x) i [] ∷ slice (i + 1) n (rows_of r x)) t ≡ whole
  here h = rw (slice_at (rows_of r x) i n h (omega (arith, length_rows_lem r x, q.room))) at a.same

  pub pairing_next : {v' : List ℕ} {c : ℕ} → i < n → Joined r v' v k (map (mix w (get_or (rows_of r x) i [])) t) (Some c)
      → Pairing r w v' c (slice (i + 1) n (rows_of r x)) t whole
  unfolding pairs_into
  pairing_next h j = record { packed = j.packed; same = rw j.same (here h) }

  pub pairing_many : {v' : List ℕ} → i < n → Joined r v' v k (map (mix w (get_or (rows_of r x) i [])) t) None → 16 < length whole
  unfolding pairs_into
  pairing_many h j =
      omega (
        arith,
        j.0,
        ap length (here h),
        length_pairs_into_le w (union (take k (rows_of r v)) (map (mix w (get_or (rows_of r x) i [])) t)) (slice (i + 1) n (rows_of r x)) t,
      )

  pub pairing_done : n ≤ i → Held r v k whole
  unfolding pairs_into
  pairing_done h = record { packed = a.packed; same = rw (slice_end (rows_of r x) i n h) at a.same }

-- one packet and one
pub pairs_one : (w : ℕ) {r : ℕ} {v : List ℕ} (a b : List ℕ) → Held r v 1 (mix w (get_or (rows_of r a) 0 []) (get_or (rows_of r b) 0 []) ∷ [])
    → Fits r v (Some 1) (pairs w (take 1 (rows_of r a)) (take 1 (rows_of r b)))
unfolding pairs_into union insert
pairs_one w {r} a b k =
    let x = take-suc (rows_of r a) 0 [] (omega (arith, length_rows_lem r a)) in
    let y = take-suc (rows_of r b) 0 [] (omega (arith, length_rows_lem r b)) in
    rw (x, y) k

pub cleared_whole : {r : ℕ} {w w₀ : List ℕ} → Cleared r w w₀ 0 16 → Held r w 0 []
cleared_whole {r} {w} {w₀} c = cleared_all c (omega arith) (drop_of_length-le (rows_of r w₀) {i = 16} (omega (arith, length_rows_lem r w₀)))
