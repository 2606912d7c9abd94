-- A list of rows with one row changed, and a loop that moves rows of an array to the front, past those that fall away.
use Prim.Native.Nat.{ℕ, zero, suc, ◌+◌, ◌-◌, ◌≤◌, ◌<◌}
use mathlib.Core.Path.{◌≡◌, sym, ap, ◌∙◌}
use mathlib.Core.Bool.{Bool, true, false}
use mathlib.Core.List.{List, [], ◌∷◌, ◌++◌, append-nil}
use native.Mathlib.Omega.{arith}
use native.Mathlib.Numerals.{add-one}
use lib.ListN.{length, take, drop, get_or, set, replicate, length-take, length-set, drop_of_length-le, replicate-append-replicate}
use lib.Seq.{slice, slice-cons, append_snoc, drop-cons, drop-drop, get_or-drop, take-suc-set, take-set-lt, drop-set-lt, get_or-set_same}
use Rattle.rules.specs.Packets.{Packet, Packets, Ascending, keep}
use Rattle.rows.specs.Chunks.{rows_of, Array, Packed, Held, Stored, Cleared}
use Rattle.rows.proofs.Chunks.{length_rows_lem}
use Rattle.rows.proofs.Clearing.{trimmed}

-- ---- one row changed

module _ (R : Packets) (k : ℕ) (x : Packet) (h : k < length R) where
  pub set_take : take (k + 1) (set R k x) ≡ take k R ++ x ∷ []
  set_take = rw add-one (take-suc-set R k x h)

  pub set_drop : (j : ℕ) → k < j → drop j (set R k x) ≡ drop j R
  set_drop j l = drop-set-lt j R k x l

  pub set_slice : (i e : ℕ) → k < i → k < e → slice i e (set R k x) ≡ slice i e R
  set_slice i e l m = ap (λ (z : Packets). drop i z) (take-set-lt e R k x m) ∙ drop-set-lt i (take e R) k x l

-- the rows from i on, up to e
pub slice_at : (R : Packets) (i e : ℕ) → i < e → e ≤ length R → slice i e R ≡ get_or R i [] ∷ slice (i + 1) e R
slice_at R i e h l = rw add-one (slice-cons i e R [] h l)

pub slice_end : (R : Packets) (i e : ℕ) → e ≤ i → slice i e R ≡ []
slice_end R i e h = drop_of_length-le (take e R) {i = i} (simp length-take (omega arith))

-- ---- rows moved to the front

-- the first k rows of w, with the packets that are left, are the whole; from row j on w is still x
pub record Sliding (r : ℕ) (w x : List ℕ) (j k : ℕ) (left whole : Packets) : Type 0 where
  pub array : Array r w
  pub tail : drop j (rows_of r w) ≡ drop j (rows_of r x)
  pub same : take k (rows_of r w) ++ left ≡ whole

module _ {r : ℕ} {w x : List ℕ} {j k : ℕ} {left whole : Packets} (a : Sliding r w x j k left whole) where
  pub sliding_row : j < 16 → get_or (rows_of r w) j [] ≡ get_or (rows_of r x) j []
  sliding_row h =
      let z : j + 0 ≡ j = omega arith in
      let f = get_or-drop j (rows_of r w) 0 [] in
      let g = get_or-drop j (rows_of r x) 0 [] in
      rw z at (sym f ∙ ap (λ (l : Packets). get_or l 0 []) a.tail ∙ g)

  next_tail : drop (j + 1) (rows_of r w) ≡ drop (j + 1) (rows_of r x)
  next_tail = rw (← drop-drop 1 j (rows_of r w), ← drop-drop 1 j (rows_of r x), a.tail)

  pub sliding_skip : (left' : Packets) → left ≡ left' → Sliding r w x (j + 1) k left' whole
  sliding_skip left' e = record { array = a.array; tail = next_tail; same = rw (← e) a.same }

  pub sliding_put : {w' : List ℕ} (p : Packet) (left' : Packets) → left ≡ p ∷ left' → k ≤ j → j < 16 → Stored r w' w k p
      → Sliding r w' x (j + 1) (k + 1) left' whole
  sliding_put {w'} p left' e h l s =
      let f : k < length (rows_of r w) = omega (arith, length_rows_lem r w) in
      record {
        array = s.array;
        tail = rw s.rows (set_drop (rows_of r w) k p f (j + 1) (omega arith) ∙ next_tail);
        same = rw (s.rows, set_take (rows_of r w) k p f) (append_snoc (take k (rows_of r w)) p left' ∙ rw (← e) a.same);
      }

  -- no packet is left: zeros after the first k
  pub sliding_end : {w' : List ℕ} (n : ℕ) → Packed r x n → j ≡ n → k ≤ n → left ≡ [] → Ascending whole → Cleared r w' w k n
      → Held r w' k whole
  sliding_end n q e h f asc c =
      trimmed c h q.room (rw e at a.tail ∙ q.zeros) (rw (f, append-nil) at a.same) asc

-- ---- the packets of an array that pass, packet j next

module _ (g : Packet → Bool) {r : ℕ} {x : List ℕ} (n j : ℕ) {w : List ℕ} {k : ℕ} {whole : Packets}
    (a : Sliding r w x j k (keep g (slice j n (rows_of r x))) whole) (q : Packed r x n) where
  pub keep_yes : {w' : List ℕ} → j < n → k ≤ j → g (get_or (rows_of r x) j []) ≡ true → Stored r w' w k (get_or (rows_of r x) j [])
      → Sliding r w' x (j + 1) (k + 1) (keep g (slice (j + 1) n (rows_of r x))) whole
  unfolding keep
  keep_yes h l e s =
      sliding_put a (get_or (rows_of r x) j []) _ (rw (slice_at (rows_of r x) j n h (omega (arith, length_rows_lem r x, q.room)), e)) l
      (omega (arith, q.room)) s

  pub keep_no : j < n → g (get_or (rows_of r x) j []) ≡ false → Sliding r w x (j + 1) k (keep g (slice (j + 1) n (rows_of r x))) whole
  unfolding keep
  keep_no h e = sliding_skip a _ (rw (slice_at (rows_of r x) j n h (omega (arith, length_rows_lem r x, q.room)), e))

  pub keep_end : {w' : List ℕ} → n ≤ j → j ≤ n → k ≤ j → Ascending whole → Cleared r w' w k n → Held r w' k whole
  unfolding keep
  keep_end h h' l asc c = sliding_end a n q (omega arith) (omega arith) (rw (slice_end (rows_of r x) j n h)) asc c

-- ---- a row and those after it

pub set_from : (R : Packets) (k : ℕ) (x : Packet) → k < length R → drop k (set R k x) ≡ x ∷ drop (k + 1) R
set_from R k x h =
    let l : k < length (set R k x) = rw length-set h in
    rw add-one (drop-cons (set R k x) k [] l ∙ rw (get_or-set_same R k x [] h, drop-set-lt (suc k) R k x (omega arith)))

pub zeros_more : (k n : ℕ) (x : Packet) → k ≤ n → n ≤ 16 → replicate (n - k) x ++ replicate (16 - n) x ≡ replicate (16 - k) x
zeros_more k n x h l = let e : (n - k) + (16 - n) ≡ 16 - k = omega arith in replicate-append-replicate (n - k) (16 - n) x ∙ rw e

-- ---- a part of an ascending list

pub ascending_drop : (i : ℕ) (s : Packets) → Ascending s → Ascending (drop i s)
ascending_drop zero s h = h
ascending_drop (suc i) [] h = tt
ascending_drop (suc i) (x ∷ s) h = ascending_drop i s h.1
