-- The rows fix an array to the last word, and the values of rows written one row after the other.
use Prim.Native.Nat.{ℕ, zero, suc, ◌+◌, ◌*◌, ◌-◌, ◌≤◌, ◌<◌, min}
use mathlib.Core.Path.{◌≡◌, refl, sym, ap, ap₂, ◌∙◌}
use mathlib.Core.Bool.{true, false}
use mathlib.Core.List.{List, [], ◌∷◌, ◌++◌, append-nil, append_assoc}
use native.Mathlib.Omega.{arith}
use native.Mathlib.Numerals.{add-one}
use native.Mathlib.Nat.{suc-mul, zero-mul}
use borrow.Author.Tests.{le-leb, lt-leb}
use lib.ListN.{length, take, drop, get_or, replicate, length-append, length-take, take-append-drop}
use lib.Seq.{take_all, take_at, drop_at, drop-drop, take-add, take-suc, length-take-le, get_or-take}
use native.Mathlib.Decide.{dec_lt}
use borrow.Rule.Slice.PartMut.{put_mid}
use Rattle.rules.specs.Packets.{Packet, Packets, values_of}
use Rattle.rows.specs.Chunks.{chunks, rows_of, blank, Array, Held}
use Rattle.rows.specs.Arrays.{Emitted}
use Rattle.rows.proofs.Chunks.{length_rows_lem, length_row, row_at}
use Rattle.rows.proofs.Holding.{held_count}

-- ---- the words of an array are its rows

values_chunks : (r n : ℕ) (v : List ℕ) → values_of r (chunks r n v) ≡ take (n * r) v
unfolding values_of chunks
values_chunks r zero v = rw (zero-mul r)
values_chunks r (suc n) v =
    let l : length (take r v) ≤ r = simp length-take (omega arith) in
    let e : suc n * r ≡ r + n * r = omega (arith, suc-mul n r) in
    rw (take_all r (take r v) l, values_chunks r n (drop r v), e) (sym (take-add r (n * r) v))

pub words_of : {r : ℕ} {v : List ℕ} → Array r v → v ≡ values_of r (rows_of r v)
words_of {r} {v} a = sym (values_chunks r 16 v ∙ take_all (16 * r) v (omega (arith, a.size)))

pub one_words : {r : ℕ} {v v' : List ℕ} → Array r v → Array r v' → rows_of r v ≡ rows_of r v' → v ≡ v'
one_words {r} a b e = words_of a ∙ ap (λ (s : Packets). values_of r s) e ∙ sym (words_of b)

held_rows : {r : ℕ} {v : List ℕ} {n : ℕ} {s : Packets} → Held r v n s → rows_of r v ≡ s ++ replicate (16 - length s) (blank r)
held_rows {r} {v} {n} k = sym (take-append-drop n (rows_of r v)) ∙ rw (k.same, k.packed.zeros, held_count k)

-- the packets fix the count and every word
pub one_array : {r : ℕ} {v v' : List ℕ} {n n' : ℕ} {s : Packets} → Held r v n s → Held r v' n' s → (v ≡ v') × (n ≡ n')
one_array k l =
    (one_words k.packed.array l.packed.array (held_rows k ∙ sym (held_rows l)), held_count k ∙ sym (held_count l))

-- ---- the first k values of each row

values_cut : (r k : ℕ) (s : Packets) → r ≤ k → ((i : ℕ) → i < length s → length (get_or s i []) ≤ r) → values_of r s ≡ values_of k s
unfolding values_of
values_cut r k [] h l = refl
values_cut r k (x ∷ s) h l =
    let m : length x ≤ r = l 0 (omega arith) in
    let m' : length x ≤ k = omega arith in
    ap₂ (λ (y z : List ℕ). y ++ z) (take_all r x m ∙ sym (take_all k x m')) (values_cut r k s h (λ i o. l (suc i) (omega arith)))

row_short : (r n : ℕ) (v : List ℕ) (i : ℕ) → i < length (take n (rows_of r v)) → length (get_or (take n (rows_of r v)) i []) ≤ r
row_short r n v i h =
    let m : (i < n) × (i < 16) = (omega (arith, length-take n (rows_of r v)), omega (arith, length-take n (rows_of r v), length_rows_lem r v)) in
    rw (get_or-take n (rows_of r v) i [] m.0, row_at r v i m.1) (simp length-take (omega arith))

-- a row has r values
values_all : (k r n : ℕ) (v : List ℕ) → r ≤ k → values_of r (take n (rows_of r v)) ≡ values_of k (take n (rows_of r v))
values_all k r n v h = values_cut r k (take n (rows_of r v)) h (row_short r n v)

-- so the first k of a row are its first k or all r
pub values_min : (k r n : ℕ) (v : List ℕ) → values_of (min k r) (take n (rows_of r v)) ≡ values_of k (take n (rows_of r v))
values_min k r n v =
    elim (dec_lt k r) [
      | yes l ↦ let e : min k r ≡ k = omega arith in rw e refl
      | no l ↦ let e : min k r ≡ r = omega arith in rw e (values_all k r n v (omega arith))
    ]

values_snoc : (k : ℕ) (s : Packets) (x : Packet) → values_of k (s ++ x ∷ []) ≡ values_of k s ++ take k x
unfolding values_of
values_snoc k [] x = append-nil (take k x)
values_snoc k (y ∷ s) x = rw (values_snoc k s x) (sym (append_assoc (take k y) (values_of k s) (take k x)))

length_values : (k : ℕ) (s : Packets) → ((i : ℕ) → i < length s → k ≤ length (get_or s i [])) → length (values_of k s) ≡ length s * k
unfolding values_of
length_values k [] h = sym (zero-mul k)
length_values k (x ∷ s) h =
    let t : length (take k x) ≡ k = length-take-le k x (h 0 (omega arith)) in
    rw (length-append, t, length_values k s (λ i l. h (suc i) (omega arith)), suc-mul) (omega arith)

pub values_long : {r : ℕ} {v : List ℕ} (k n : ℕ) → k ≤ r → n ≤ 16 → Array r v → length (values_of k (take n (rows_of r v))) ≡ n * k
values_long {r} {v} k n h l a =
    let S = take n (rows_of r v) in
    let m : length S ≡ n = length-take-le n (rows_of r v) (omega (arith, length_rows_lem r v)) in
    rw m at (length_values k S (λ i o.
    rw (get_or-take n (rows_of r v) i [] (omega arith)) (omega (arith, length_row i a (omega arith)))))

-- row i written after those before it
pub emit_next : {r : ℕ} {v : List ℕ} (k i : ℕ) (o p x : List ℕ) → k ≤ r → i < 16 → Array r v
    → p ≡ values_of k (take i (rows_of r v)) ++ drop (i * k) o → x ≡ take k (get_or (rows_of r v) i [])
    → put_mid (i * k) (i * k + k - i * k) p x ≡ values_of k (take (i + 1) (rows_of r v)) ++ drop ((i + 1) * k) o
emit_next {r} {v} k i o p x h l a e f =
    let at = i * k in
    let y = values_of k (take i (rows_of r v)) in
    let n : length y ≡ at = values_long k i h (omega arith) a in
    let m : at + k - at ≡ k = omega arith in
    let z : (i + 1) * k ≡ at + k = omega (arith, ap (λ (j : ℕ). j * k) (add-one i), suc-mul i k) in
    let s : take (i + 1) (rows_of r v) ≡ take i (rows_of r v) ++ get_or (rows_of r v) i [] ∷ [] =
    rw add-one (take-suc (rows_of r v) i [] (omega (arith, length_rows_lem r v))) in
    let w : values_of k (take (i + 1) (rows_of r v)) ≡ y ++ x = rw (s, f) (values_snoc k (take i (rows_of r v)) (get_or (rows_of r v) i [])) in
    rw (e, m, take_at y (drop at o) at n, drop_at y (drop at o) at n, drop-drop k at o, z, w)
    (sym (append_assoc y x (drop (at + k) o)))

-- ---- the answer, where c is as many values as are written of a row

module _ {r : ℕ} {v : List ℕ} (c n : ℕ) (o u : List ℕ) (h : c ≤ r) (l : n ≤ 16) (a : Array r v) (e : values_of c (take n (rows_of r v)) ≡ u)
  where
    length_all : length u ≡ n * c
    length_all = rw e at (values_long c n h l a)

    pub emitted_none : length o < n * c → Emitted false u o o
    emitted_none m = record { fits = sym (lt-leb (length u) (length o) (omega (arith, length_all))); words = refl }

    pub emitted_all : (p : List ℕ) → n * c ≤ length o → p ≡ values_of c (take n (rows_of r v)) ++ drop (n * c) o → Emitted true u o p
    emitted_all p m w = record {
      fits = sym (le-leb (length u) (length o) (omega (arith, length_all)));
      words = w ∙ rw (e, ← length_all);
    }
