-- Rows written over at once, as zeros or as those of another array, and the zeros after the last packet of an array.
use Prim.Native.Nat.{ℕ, ◌+◌, ◌*◌, ◌-◌, ◌≤◌}
use mathlib.Core.Path.{◌≡◌, refl, sym, ap, ap₂, ◌∙◌}
use mathlib.Core.List.{List, [], ◌++◌}
use native.Mathlib.Omega.{arith}
use native.Mathlib.Nat.{add-mul, add_comm, mul-le-mul_right}
use lib.ListN.{length, take, drop, replicate, length-append, length-take, length-drop, length-replicate}
use lib.ListN.{replicate-append-replicate}
use lib.Seq.{take_at, drop_at, drop-drop, length-take-le}
use borrow.Rule.Slice.PartMut.{put_mid}
use Rattle.rules.specs.Packets.{Packets, Ascending}
use Rattle.rows.specs.Chunks.{chunks, rows_of, blank, Array, Held, Cleared}
use Rattle.rows.proofs.Chunks.{length_chunks, chunks_add, chunks_append, chunks_front, chunks_zeros, length_rows_lem}

-- ---- rows k to n - 1 written over at once

front_rows : (r k m : ℕ) (v : List ℕ) → take k (chunks r (k + m) v) ≡ chunks r k v
front_rows r k m v = rw (chunks_add r k m v) (take_at (chunks r k v) _ k (length_chunks r k v))

back_rows : (r k m : ℕ) (v : List ℕ) → drop k (chunks r (k + m) v) ≡ chunks r m (drop (k * r) v)
back_rows r k m v = rw (chunks_add r k m v) (drop_at (chunks r k v) _ k (length_chunks r k v))

-- k rows, the d rows of x, and the m rows after them
over_chunks : (r k d m : ℕ) (v x : List ℕ) → (k + (d + m)) * r ≤ length v → length x ≡ d * r
    → chunks r (k + (d + m)) (take (k * r) v ++ (x ++ drop ((k + d) * r) v))
    ≡ chunks r k v ++ (chunks r d x ++ chunks r m (drop ((k + d) * r) v))
over_chunks r k d m v x h l =
    let a = k * r in
    let e = (k + d) * r in
    let all : (k + (d + m)) * r ≡ k * r + (d * r + m * r) = add-mul k (d + m) r ∙ ap (λ (y : ℕ). k * r + y) (add-mul d m r) in
    let fit : e ≡ a + d * r = add-mul k d r in
    let front : length (take a v) ≡ a = length-take-le a v (omega arith) in
    let some : a ≤ length (take a v) = omega arith in
    let tail = x ++ drop e v in
    let more : d * r ≤ length x = omega arith in
    let low : chunks r k (take a v ++ tail) ≡ chunks r k v =
    chunks_append r k (take a v) tail some ∙ sym (chunks_front r k v (omega arith)) in
    rw (
      chunks_add r k (d + m) (take a v ++ tail),
      low,
      drop_at (take a v) tail a front,
      chunks_add r d m tail,
      chunks_append r d x (drop e v) more,
    )
    (ap (λ (y : List ℕ). chunks r k v ++ (chunks r d x ++ chunks r m y)) (drop_at x (drop e v) (d * r) l))

module _ {r : ℕ} {w v : List ℕ} (k n : ℕ) (x : List ℕ) (h : k ≤ n) (l : n ≤ 16) (a : Array r v) (f : length x ≡ (n - k) * r)
    (e : w ≡ take (k * r) v ++ (x ++ drop (n * r) v)) where
  words : (n - k) * r + k * r ≡ n * r
  words = let i : n - k + k ≡ n = omega arith in sym (add-mul (n - k) k r) ∙ ap (λ (y : ℕ). y * r) i

  over_array : Array r w
  over_array = record {
    least = a.least;
    most = a.most;
    fours = a.fours;
    size =
        let m : n * r ≤ 16 * r = mul-le-mul_right r l in
        ap length e ∙ simp (length-append, length-take, length-drop) (omega (arith, a.size, words));
  }

  over_rows : rows_of r w ≡ take k (rows_of r v) ++ (chunks r (n - k) x ++ drop n (rows_of r v))
  over_rows =
      let i : n ≡ k + (n - k) = omega arith in
      let j : 16 ≡ k + ((n - k) + (16 - n)) = omega arith in
      let j' : 16 ≡ n + (16 - n) = omega arith in
      let all : (k + ((n - k) + (16 - n))) * r ≤ length v = rw (← j) (omega (arith, a.size)) in
      let moved : rows_of r w ≡ chunks r (k + ((n - k) + (16 - n))) (take (k * r) v ++ (x ++ drop ((k + (n - k)) * r) v)) =
      ap (λ (y : List ℕ). rows_of r y) e ∙ ap₂ (λ (y z : ℕ). chunks r y (take (k * r) v ++ (x ++ drop (z * r) v))) j i in
      let low : take k (rows_of r v) ≡ chunks r k v = ap (λ (y : ℕ). take k (chunks r y v)) j ∙ front_rows r k ((n - k) + (16 - n)) v in
      let high : drop n (rows_of r v) ≡ chunks r (16 - n) (drop ((k + (n - k)) * r) v) =
      ap (λ (y : ℕ). drop n (chunks r y v)) j' ∙ back_rows r n (16 - n) v ∙ ap (λ (y : ℕ). chunks r (16 - n) (drop (y * r) v)) i in
      moved ∙ over_chunks r k (n - k) (16 - n) v x all f
      ∙ ap₂ (λ (y z : Packets). y ++ (chunks r (n - k) x ++ z)) (sym low) (sym high)

pub cleared_rows : {r : ℕ} {w v : List ℕ} (k n : ℕ) (x : List ℕ) → k ≤ n → n ≤ 16 → Array r v → x ≡ replicate (length (take (n * r - k * r) (drop (k * r) v))) 0
    → w ≡ put_mid (k * r) (n * r - k * r) v x → Cleared r w v k n
cleared_rows {r} {w} {v} k n x h l a z e =
    let o : k * r ≤ n * r = mul-le-mul_right r h in
    let i : n - k + k ≡ n = omega arith in
    let m : n * r - k * r ≡ (n - k) * r = omega (arith, add-mul (n - k) k r, ap (λ (y : ℕ). y * r) i) in
    let d : n * r - k * r + k * r ≡ n * r = omega arith in
    let t : n * r ≤ 16 * r = mul-le-mul_right r l in
    let y : length (take (n * r - k * r) (drop (k * r) v)) ≡ (n - k) * r = simp (length-take, length-drop) (omega (arith, m, a.size)) in
    let f : length x ≡ (n - k) * r = rw (z, y) (length-replicate ((n - k) * r) 0) in
    let e' : w ≡ take (k * r) v ++ (x ++ drop (n * r) v) = e ∙ rw drop-drop (rw (add_comm (k * r) (n * r - k * r), d) refl) in
    record {
      array = over_array k n x h l a f e';
      rows = over_rows k n x h l a f e' ∙ rw (z, y, chunks_zeros r (n - k)) refl;
    }

-- ---- the first k rows, where those up to n are cleared and all after them were zero

pub trimmed : {r : ℕ} {w w₀ : List ℕ} {k n : ℕ} {s : Packets} → Cleared r w w₀ k n → k ≤ n → n ≤ 16
    → drop n (rows_of r w₀) ≡ replicate (16 - n) (blank r) → take k (rows_of r w₀) ≡ s → Ascending s → Held r w k s
trimmed {r} {w} {w₀} {k} {n} {s} c h l z e a =
    let R = rows_of r w₀ in
    let tail = replicate (n - k) (blank r) ++ drop n R in
    let front : length (take k R) ≡ k = length-take-le k R (omega (arith, length_rows_lem r w₀)) in
    let all : (n - k) + (16 - n) ≡ 16 - k = omega arith in
    let t : tail ≡ replicate (16 - k) (blank r) = rw z (replicate-append-replicate (n - k) (16 - n) (blank r) ∙ rw all) in
    let f : take k (rows_of r w) ≡ s = rw (c.rows, take_at (take k R) tail k front) e in
    record {
      packed = record {
        array = c.array;
        room = omega arith;
        zeros = rw (c.rows, drop_at (take k R) tail k front) t;
        order = rw f a;
      };
      same = f;
    }

-- all cleared, whatever was there up to n
pub cleared_all : {r : ℕ} {w w₀ : List ℕ} {n : ℕ} → Cleared r w w₀ 0 n → n ≤ 16 → drop n (rows_of r w₀) ≡ replicate (16 - n) (blank r)
    → Held r w 0 []
cleared_all c l z = trimmed c (omega arith) l z refl tt
