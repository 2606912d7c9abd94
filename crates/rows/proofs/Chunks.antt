-- An array as the list of its rows, r values each: what a row or a value put into the array does to the list.
use Prim.Native.Nat.{ℕ, zero, suc, ◌+◌, ◌*◌, ◌-◌, ◌/◌, ◌≤◌, ◌<◌}
use mathlib.Core.Path.{◌≡◌, refl, sym, ap, ap₂, ◌∙◌}
use mathlib.Core.List.{List, [], ◌∷◌, ◌++◌, append_assoc}
use native.Mathlib.Omega.{arith}
use native.Mathlib.Nat.{suc-mul, zero-mul, add_comm, zero-add, suc-add, mul-le-mul_right, div-eq_of_eq-mul_left}
use lib.ListN.{length, take, drop, get_or, set, replicate, length-take, length-drop, length-set, take-append-drop, get_or-eq_default}
use lib.Seq.{drop-drop, take_all, take-append-le, drop-append-le, take-take, set_at}
use lib.Seq.{length-take-le, take_at, drop_at, paste, length-paste}
use lib.Seq.{take-set-le, take-set-lt, drop-set-lt, drop-set-add}
use borrow.Author.Tests.{ltb-true, ltb-false}
use denote.Bor.{Bor}
use Rattle.std.specs.Prelude.{Option, Some, None, unwrap_or, option_copied}
use Rattle.std.specs.Slice.{IsItemAt}
use Rattle.std.proofs.lemmas.Grind.{get_or_default_zero}
use Rattle.std.specs.Simd.{first_chunks}
use Rattle.rules.specs.Packets.{Packet, Packets}
use Rattle.rows.specs.Chunks.{chunks, rows_of, blank, Array, Stored}

-- ---- the rows of an array

pub length_chunks : (r n : ℕ) (v : List ℕ) → length (chunks r n v) ≡ n
unfolding chunks
length_chunks r zero v = refl
length_chunks r (suc n) v = ap suc (length_chunks r n (drop r v))

pub get_or_chunks : (r n i : ℕ) (v : List ℕ) → i < n → get_or (chunks r n v) i [] ≡ take r (drop (i * r) v)
unfolding chunks
get_or_chunks r zero i v h = absurd (omega arith)
get_or_chunks r (suc n) zero v h = rw (zero-mul r)
get_or_chunks r (suc n) (suc i) v h =
    get_or_chunks r n i (drop r v) (omega arith) ∙ rw (drop-drop (i * r) r v, suc-mul, add_comm r (i * r))

pub chunks_add : (r i m : ℕ) (v : List ℕ) → chunks r (i + m) v ≡ chunks r i v ++ chunks r m (drop (i * r) v)
unfolding chunks
chunks_add r zero m v = rw (zero-mul r) (ap (λ (n : ℕ). chunks r n v) (zero-add m))
chunks_add r (suc i) m v =
    ap (λ (n : ℕ). chunks r n v) (suc-add i m)
    ∙ ap (λ (s : Packets). take r v ∷ s) (chunks_add r i m (drop r v) ∙ rw (drop-drop (i * r) r v, suc-mul, add_comm r (i * r)))

pub chunks_append : (r n : ℕ) (xs ys : List ℕ) → n * r ≤ length xs → chunks r n (xs ++ ys) ≡ chunks r n xs
unfolding chunks
chunks_append r zero xs ys h = refl
chunks_append r (suc n) xs ys h =
    let e : r ≤ length xs = omega (arith, suc-mul n r) in
    let k : n * r ≤ length (drop r xs) = simp length-drop (omega (arith, suc-mul n r)) in
    ap₂ (λ (x : Packet) (s : Packets). x ∷ s) (take-append-le r xs ys e)
    (ap (λ (l : List ℕ). chunks r n l) (drop-append-le r xs ys e) ∙ chunks_append r n (drop r xs) ys k)

-- the first n rows are those of the first n * r values
pub chunks_front : (r n : ℕ) (v : List ℕ) → n * r ≤ length v → chunks r n v ≡ chunks r n (take (n * r) v)
chunks_front r n v h =
    let k : n * r ≤ length (take (n * r) v) = rw (length-take-le (n * r) v h) (omega arith) in
    rw take-append-drop at (chunks_append r n (take (n * r) v) (drop (n * r) v) k)

-- a row put at row k
module _ (r n k : ℕ) (w x : List ℕ) (h : k < n) (l : n * r ≤ length w) (m : r ≤ length x) where
  fits : k * r + r ≤ length w
  fits = omega (arith, suc-mul k r, mul-le-mul_right r h)

  abbrev new : List ℕ
  new = paste w (k * r) x r

  low : chunks r k new ≡ chunks r k w
  low =
      let front : length (take (k * r) w) ≡ k * r = length-take-le (k * r) w (omega (arith, fits)) in
      let tail = take r x ++ drop (k * r + r) w in
      let f : k * r ≤ length (take (k * r) w) = rw front (omega arith) in
      ap (λ (z : List ℕ). chunks r k z) (append_assoc (take (k * r) w) (take r x) (drop (k * r + r) w))
      ∙ chunks_append r k (take (k * r) w) tail f ∙ sym (chunks_front r k w (omega (arith, fits)))

  at_row : drop (k * r) new ≡ take r x ++ drop (k * r + r) w
  at_row =
      rw (append_assoc (take (k * r) w) (take r x) (drop (k * r + r) w))
      (drop_at (take (k * r) w) (take r x ++ drop (k * r + r) w) (k * r) (length-take-le (k * r) w (omega (arith, fits))))

  pub chunks_paste : chunks r n new ≡ set (chunks r n w) k (take r x)
  unfolding chunks
  chunks_paste =
      let d : n ≡ k + suc (n - suc k) = omega arith in
      let t : length (take r x) ≡ r = length-take-le r x m in
      let rest : drop r (drop (k * r) w) ≡ drop (k * r + r) w = drop-drop r (k * r) w in
      let a : chunks r n new ≡ chunks r k w ++ take r x ∷ chunks r (n - suc k) (drop (k * r + r) w) =
      ap (λ (z : ℕ). chunks r z new) d ∙ chunks_add r k (suc (n - suc k)) new
      ∙ rw (low, at_row, take_at (take r x) (drop (k * r + r) w) r t, drop_at (take r x) (drop (k * r + r) w) r t) in
      let b : chunks r n w ≡ chunks r k w ++ take r (drop (k * r) w) ∷ chunks r (n - suc k) (drop (k * r + r) w) =
      ap (λ (z : ℕ). chunks r z w) d ∙ chunks_add r k (suc (n - suc k)) w ∙ rw rest in
      a ∙ rw b (sym (set_at (chunks r k w) _ _ (take r x) k (length_chunks r k w)))

-- ---- an array of sixteen rows

pub row_fits : (i r : ℕ) → i < 16 → i * r + r ≤ 16 * r
row_fits i r h = rw suc-mul at (mul-le-mul_right r h)

-- the rows as the library cuts them
cut_chunks : (r n : ℕ) (v : List ℕ) → first_chunks r n v ≡ chunks r n v
unfolding chunks
cut_chunks r zero v = refl
cut_chunks r (suc n) v = ap (λ (s : Packets). take r v ∷ s) (cut_chunks r n (drop r v))

pub sixteen : {r : ℕ} {v : List ℕ} → Array r v → length v / r ≡ 16
sixteen {r} a = div-eq_of_eq-mul_left (omega (arith, a.least)) a.size

pub cut_rows : {r : ℕ} {v : List ℕ} → Array r v → first_chunks r (length v / r) v ≡ rows_of r v
cut_rows {r} {v} a = rw (sixteen a) (cut_chunks r 16 v)

pub row_at : (r : ℕ) (v : List ℕ) (i : ℕ) → i < 16 → get_or (rows_of r v) i [] ≡ take r (drop (i * r) v)
row_at r v i h = get_or_chunks r 16 i v h

pub length_rows_lem : (r : ℕ) (v : List ℕ) → length (rows_of r v) ≡ 16
length_rows_lem r v = length_chunks r 16 v

pub length_row : {r : ℕ} {v : List ℕ} (i : ℕ) → Array r v → i < 16 → length (get_or (rows_of r v) i []) ≡ r
length_row {r} {v} i a h =
    rw (row_at r v i h) (let m = row_fits i r h in simp (length-take, length-drop) (omega (arith, a.size)))

pub stored : {r : ℕ} {w : List ℕ} (k : ℕ) (x w' : List ℕ) → Array r w → k < 16 → r ≤ length x → w' ≡ paste w (k * r) x r
    → Stored r w' w k (take r x)
stored {r} {w} k x w' a h m e =
    let l : 16 * r ≤ length w = omega (arith, a.size) in
    let z : length w' ≡ length w = ap length e ∙ length-paste w (k * r) x r (omega (arith, row_fits k r h)) m in
    record {
      array = record { least = a.least; most = a.most; fours = a.fours; size = z ∙ a.size };
      rows = ap (λ (y : List ℕ). rows_of r y) e ∙ chunks_paste r 16 k w x h l m;
    }

-- a row by itself put at row k
pub stored_row : {r : ℕ} {w : List ℕ} (k : ℕ) (x w' : List ℕ) → Array r w → k < 16 → length x ≡ r → w' ≡ paste w (k * r) x r
    → Stored r w' w k x
stored_row {r} {w} k x w' a h l e =
    let few : length x ≤ r = omega arith in
    rw take_all at (stored k x w' a h (omega arith) e)

pub take_zeros : (n m : ℕ) → n ≤ m → take n (replicate m 0) ≡ replicate {A = ℕ} n 0
take_zeros zero m h = refl
take_zeros (suc n) zero h = absurd (omega arith)
take_zeros (suc n) (suc m) h = ap (λ (z : List ℕ). 0 ∷ z) (take_zeros n m (omega arith))

pub drop_replicate : {A : Type 0} (k m : ℕ) (x : A) → drop k (replicate (k + m) x) ≡ replicate m x
drop_replicate zero m x = ap (λ (n : ℕ). replicate n x) (zero-add m)
drop_replicate (suc k) m x = ap (λ (n : ℕ). drop (suc k) (replicate n x)) (suc-add k m) ∙ drop_replicate k m x

pub chunks_zeros : (r n : ℕ) → chunks r n (replicate (n * r) 0) ≡ replicate n (blank r)
unfolding chunks
chunks_zeros r zero = refl
chunks_zeros r (suc n) =
    let e : suc n * r ≡ r + n * r = omega (arith, suc-mul n r) in
    rw (e, take_zeros r (r + n * r) (omega arith), drop_replicate {A = ℕ} r (n * r) 0, chunks_zeros r n)

-- ---- one value

set_pasted : (v : List ℕ) (a f r x : ℕ) → f < r → set v (a + f) x ≡ paste v a (set (take r (drop a v)) f x) r
set_pasted v a f r x h =
    let u = set v (a + f) x in
    let lo : take a u ≡ take a v = take-set-le a v (a + f) x (omega arith) in
    let d : drop a u ≡ set (drop a v) f x = drop-set-add a v f x in
    let t : take r (set (take r (drop a v)) f x) ≡ take r (drop a u) =
    take-set-lt r (take r (drop a v)) f x h ∙ ap (λ (z : List ℕ). set z f x) (take-take r r (drop a v) (omega arith))
    ∙ sym (take-set-lt r (drop a v) f x h) ∙ ap (λ (z : List ℕ). take r z) (sym d) in
    let b : drop (a + r) u ≡ drop (a + r) v = drop-set-lt (a + r) v (a + f) x (omega arith) in
    let c : drop (a + r) u ≡ drop r (drop a u) = sym (drop-drop r a u) in
    sym (take-append-drop a u) ∙ ap₂ (λ (y z : List ℕ). y ++ z) lo (sym (take-append-drop r (drop a u)))
    ∙ rw (t, ← b, c) (sym (append_assoc (take a v) (take r (drop a u)) (drop r (drop a u))))

pub stored_value : {r : ℕ} {v : List ℕ} (i f x : ℕ) → Array r v → i < 16 → f < r
    → Stored r (set v (i * r + f) x) v i (set (get_or (rows_of r v) i []) f x)
stored_value {r} {v} i f x a h l =
    let e = row_at r v i h in
    let n : length (set (take r (drop (i * r) v)) f x) ≡ r = length-set (take r (drop (i * r) v)) f x ∙ rw e at (length_row i a h) in
    let s = stored i (set (take r (drop (i * r) v)) f x) (set v (i * r + f) x) a h (omega arith) (set_pasted v (i * r) f r x l) in
    rw (e, ← take_all r (set (take r (drop (i * r) v)) f x) (omega arith)) s

-- what `get` lends, or 0
pub got_or : (p : List ℕ) (f : ℕ) (r : Option (Bor ℕ)) → IsItemAt p f r → unwrap_or (option_copied r) 0 ≡ get_or p f 0
got_or p f None h = sym (get_or-eq_default p 0 {n = f} (ltb-false f (length p) (sym h.0)))
got_or p f (Some x) h = h.1 ∙ get_or_default_zero p f x.now (ltb-true f (length p) (sym h.0))
