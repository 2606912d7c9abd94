-- What is known of an array that holds packets, the array of zeros, and rows put or copied into it.
use Prim.Native.Nat.{ℕ, suc, ◌*◌, ◌-◌, ◌%◌, ◌≤◌, ◌<◌, ◌+◌}
use mathlib.Core.Path.{◌≡◌, refl, sym, ap, ◌∙◌}
use mathlib.Core.List.{List, [], ◌∷◌, ◌++◌}
use native.Mathlib.Omega.{arith}
use native.Mathlib.Numerals.{add-one}
use lib.ListN.{length, take, drop, get_or, set, replicate, length-replicate}
use lib.Seq.{drop-cons, set_at, take_at, drop_at, take-suc, append_snoc, length-take-le}
use Rattle.std.specs.Prelude.{Option, Some, None}
use Rattle.rules.specs.Packets.{Packet, Packets, Ascending}
use Rattle.rows.specs.Chunks.{rows_of, blank, Array, Packed, Held, Fits, Stored, Copied}
use Rattle.rows.proofs.Chunks.{length_rows_lem, chunks_zeros, drop_replicate}

-- ---- what is known of an array

pub held_self : {r : ℕ} {v : List ℕ} {n : ℕ} → Packed r v n → Held r v n (take n (rows_of r v))
held_self q = record { packed = q; same = refl }

pub held_as : {r : ℕ} {v : List ℕ} {n : ℕ} {s s' : Packets} → Held r v n s → s ≡ s' → Held r v n s'
held_as k e = record { packed = k.packed; same = k.same ∙ e }

pub length_packets : (r : ℕ) (v : List ℕ) (n : ℕ) → n ≤ 16 → length (take n (rows_of r v)) ≡ n
length_packets r v n h = length-take-le n (rows_of r v) (omega (arith, length_rows_lem r v))

pub held_count : {r : ℕ} {v : List ℕ} {n : ℕ} {s : Packets} → Held r v n s → n ≡ length s
held_count {r} {v} {n} k = sym (length_packets r v n k.packed.room) ∙ ap length k.same

pub held_few : {r : ℕ} {v : List ℕ} {n : ℕ} {s : Packets} → Held r v n s → length s ≤ 16
held_few k = omega (arith, held_count k, k.packed.room)

-- ---- the answer of a function that may find too many

-- there is a count, where they are 16 or fewer
pub fits_some : (r : ℕ) (v : List ℕ) (o : Option ℕ) (s : Packets) → Fits r v o s → length s ≤ 16 → (n : ℕ) × (o ≡ Some n)
fits_some r v (Some n) s f h = (n, refl)
fits_some r v None s f h = absurd (omega (arith, f.0))

-- ---- the array of zeros

pub zeros_held : (r : ℕ) → 8 ≤ r → r ≤ 16 → r % 4 ≡ 0 → Held r (replicate (16 * r) 0) 0 []
zeros_held r h l f = record {
  packed = record {
    array = record { least = h; most = l; fours = f; size = length-replicate (16 * r) 0 };
    room = omega arith;
    zeros = chunks_zeros r 16;
    order = tt;
  };
  same = refl;
}

-- ---- rows put into an array of zeros

-- the array of w₀ with other rows in front: its packets
fronted : {r : ℕ} {w w₀ : List ℕ} (n : ℕ) (s : Packets) → Array r w → Held r w₀ 0 [] → n ≤ 16 → length s ≡ n
    → rows_of r w ≡ s ++ drop n (rows_of r w₀) → Ascending s → Held r w n s
fronted {r} {w} {w₀} n s a k h l e asc =
    let m : 16 ≡ n + (16 - n) = omega arith in
    let z : drop n (rows_of r w₀) ≡ replicate (16 - n) (blank r) =
    ap (λ (x : Packets). drop n x) (k.packed.zeros ∙ ap (λ (i : ℕ). replicate i (blank r)) m) ∙ drop_replicate n (16 - n) (blank r) in
    let t : take n (rows_of r w) ≡ s = rw e (take_at s (drop n (rows_of r w₀)) n l) in
    record {
      packed = record {
        array = a;
        room = h;
        zeros = rw e (drop_at s (drop n (rows_of r w₀)) n l) ∙ z;
        order = rw t asc;
      };
      same = t;
    }

pub held_one : {r : ℕ} {w w₀ : List ℕ} {x : Packet} → Held r w₀ 0 [] → Stored r w w₀ 0 x → Held r w 1 (x ∷ [])
held_one {r} {w} {w₀} {x} k s =
    let c = drop-cons (rows_of r w₀) 0 [] (omega (arith, length_rows_lem r w₀)) in
    let e : rows_of r w ≡ x ∷ drop 1 (rows_of r w₀) =
    s.rows ∙ ap (λ (l : Packets). set l 0 x) c in
    fronted 1 (x ∷ []) s.array k (omega arith) refl e (tt, tt)

pub copied_next : {r : ℕ} {w' w w₀ v : List ℕ} (i : ℕ) → i < 16 → Copied r w w₀ v i → Stored r w' w i (get_or (rows_of r v) i [])
    → Copied r w' w₀ v (i + 1)
copied_next {r} {w'} {w} {w₀} {v} i h c s =
    let rows-v = rows_of r v in
    let rows-w = rows_of r w₀ in
    let lv = length_rows_lem r v in
    let lw = length_rows_lem r w₀ in
    let n : length (take i rows-v) ≡ i = length-take-le i rows-v (omega arith) in
    let e : rows_of r w ≡ take i rows-v ++ get_or rows-w i [] ∷ drop (suc i) rows-w = c.rows ∙ rw (drop-cons rows-w i [] (omega arith)) in
    let t : take (i + 1) rows-v ++ drop (i + 1) rows-w ≡ take i rows-v ++ get_or rows-v i [] ∷ drop (suc i) rows-w =
    rw (add-one, take-suc rows-v i [] (omega arith)) (append_snoc (take i rows-v) (get_or rows-v i []) (drop (suc i) rows-w)) in
    record {
      array = s.array;
      rows = s.rows ∙ ap (λ (l : Packets). set l i (get_or rows-v i [])) e
          ∙ set_at (take i rows-v) (get_or rows-w i []) (drop (suc i) rows-w) (get_or rows-v i []) i n ∙ sym t;
    }

pub copied_held : {r : ℕ} {w w₀ v : List ℕ} {n : ℕ} → Held r w₀ 0 [] → n ≤ 16 → Ascending (take n (rows_of r v)) → Copied r w w₀ v n
    → Held r w n (take n (rows_of r v))
copied_held {r} {v = v} {n} k h a c =
    fronted n _ c.array k h (length_packets r v n h) c.rows a
