-- A packet put into an array of ascending packets: where it goes, the rows after it moved up, and loops that gather packets so.
use Prim.Native.Nat.{ℕ, zero, suc, ◌+◌, ◌-◌, ◌≤◌, ◌<◌}
use mathlib.Core.Path.{◌≡◌, refl, sym, ap, ap₂, ◌∙◌}
use mathlib.Core.List.{List, [], ◌∷◌, ◌++◌, map, map-append, append_assoc}
use native.Mathlib.Omega.{arith}
use native.Mathlib.Numerals.{add-one}
use native.Mathlib.Decide.{dec_lt}
use lib.ListN.{length, take, drop, get_or, set, replicate, length-append, length-take, take-append-drop}
use lib.Seq.{slice, length-slice, drop-cons, take_at, drop_at, drop-drop, take-take, take-suc, take-set-le, get_or-take, get_or-drop}
use lib.Seq.{set_out}
use Rattle.std.specs.Bool.{then_some}
use Rattle.std.specs.declared.cmp.Ordering.{Ordering}
use Rattle.std.specs.declared.cmp.Ordering.TheVariants.{Less, Equal, Greater}
use mathlib.Core.Bool.{Bool, true, false, false≢true}
use mathlib.Core.Logic.{inl, inr}
use Rattle.rules.specs.Packets.{Packet, Packets, order_of, Before, AllAfter, Ascending, ◌∈◌, put_by, put, insert, member, union, gathered}
use Rattle.rules.proofs.Orders.{order_refl, order_same, order_turned, before_trans, after_trans}
use Rattle.rules.proofs.Sets.{after_out, member_in, member_out, insert_ascending, length_insert_le, length_insert_more, length_union_le, gathered_same}
use Rattle.rows.specs.Chunks.{rows_of, blank, Array, Packed, Held, Stored, Cleared}
use Rattle.rows.proofs.Chunks.{length_rows_lem, length_row, drop_replicate}
use Rattle.rows.proofs.Clearing.{trimmed}
use Rattle.rows.proofs.Holding.{length_packets, held_self, held_as}
use Rattle.std.specs.Prelude.{Option, Some, None, IsSome}
use Rattle.sets.specs.Lists.{Placed, Raised, Put, Inserted, Changed, Zeroed}
use Rattle.sets.proofs.Rows.{set_take, set_drop, set_from, slice_at, slice_end}

-- ---- where a packet goes in an ascending list

after_at : (x : Packet) (s : Packets) (i : ℕ) → AllAfter x s → i < length s → Before x (get_or s i [])
after_at x [] i h l = absurd (omega arith)
after_at x (y ∷ s) zero h l = h.0
after_at x (y ∷ s) (suc i) h l = after_at x s i h.1 (omega arith)

-- past packet i, if p is after it
insert_past : (p : Packet) (s : Packets) (i : ℕ) → Ascending s → i < length s → order_of p (get_or s i []) ≡ Greater
    → insert p s ≡ take (suc i) s ++ insert p (drop (suc i) s)
unfolding insert
insert_past p [] i h l e = absurd (omega arith)
insert_past p (x ∷ s) zero h l e = rw e
insert_past p (x ∷ s) (suc i) h l e =
    let b = before_trans x (get_or s i []) p (after_at x s i h.0 (omega arith)) (order_turned p (get_or s i []) Greater e) in
    rw (order_turned x p Less b) (ap (λ (r : Packets). x ∷ r) (insert_past p s i h.1 (omega arith) e))

-- nowhere, if it is there
insert_there : (p : Packet) (s : Packets) (i : ℕ) → Ascending s → i < length s → p ≡ get_or s i [] → insert p s ≡ s
unfolding insert
insert_there p [] i h l e = absurd (omega arith)
insert_there p (x ∷ s) zero h l e = rw (e, order_refl x)
insert_there p (x ∷ s) (suc i) h l e =
    let b : Before x p = rw e (after_at x s i h.0 (omega arith)) in
    rw (order_turned x p Less b) (ap (λ (r : Packets). x ∷ r) (insert_there p s i h.1 (omega arith) e))

-- before packet i, if p is before it
insert_before : (p : Packet) (s : Packets) (i : ℕ) → i < length s → order_of p (get_or s i []) ≡ Less → insert p (drop i s) ≡ p ∷ drop i s
unfolding insert
insert_before p s i h e = rw (drop-cons s i [], insert, e)

-- what row i - 1 says of where p goes among the first k, if p goes before all from place i on
module _ (R : Packets) (p : Packet) (k i : ℕ) (hk : k ≤ length R) (q : Ascending (take k R)) (h : 0 < i) (l : i ≤ k) where
  in_rows : i - 1 < length (take k R)
  in_rows = simp length-take (omega arith)

  row_before : get_or (take k R) (i - 1) [] ≡ get_or R (i - 1) []
  row_before = get_or-take k R (i - 1) [] (omega arith)

  pub placed_here : order_of p (get_or R (i - 1) []) ≡ Greater → insert p (drop i (take k R)) ≡ p ∷ drop i (take k R) → Placed p (take k R) (Some i)
  placed_here e f =
      let d : suc (i - 1) ≡ i = omega arith in
      let z = insert_past p (take k R) (i - 1) q in_rows (rw row_before e) in
      (simp length-take (omega arith), rw (d, f) at z)

  pub placed_there : order_of p (get_or R (i - 1) []) ≡ Equal → Placed p (take k R) None
  placed_there e = insert_there p (take k R) (i - 1) q in_rows (rw row_before (order_same _ _ e))

  pub placed_on : order_of p (get_or R (i - 1) []) ≡ Less → insert p (drop (i - 1) (take k R)) ≡ p ∷ drop (i - 1) (take k R)
  placed_on e = insert_before p (take k R) (i - 1) in_rows (rw row_before e)

pub placed_start : (R : Packets) (p : Packet) (k : ℕ) → insert p (drop k (take k R)) ≡ p ∷ drop k (take k R)
unfolding insert
placed_start R p k = rw (slice_end R k k (omega arith))

-- ---- a packet put in the gap

module _ {r : ℕ} {w' w w₀ : List ℕ} (p : Packet) (i k : ℕ) (h : i ≤ k) (f : k < 16) (a : Raised r w w₀ i k 1) (s : Stored r w' w i p) where
  abbrev front : Packets
  front = take i (take k (rows_of r w₀)) ++ p ∷ slice i k (rows_of r w₀)

  length_front : length front ≡ k + 1
  length_front =
      let n = length_rows_lem r w₀ in
      let m = length-slice i k (rows_of r w₀) (omega arith) in
      simp (length-append, length-take) (omega arith)

  gap : rows_of r w' ≡ front ++ drop (k + 1) (rows_of r w₀)
  gap =
      let R = rows_of r w in
      let R₀ = rows_of r w₀ in
      let d : i ≤ i + 1 = omega arith in
      let lo : take i (set R i p) ≡ take i (take k R₀) =
      take-set-le i R i p (omega arith) ∙ sym (take-take i (i + 1) R d) ∙ ap (λ (z : Packets). take i z) a.low
      ∙ take-take i (i + 1) R₀ d ∙ sym (take-take i k R₀ h) in
      let hi : drop i (set R i p) ≡ p ∷ (slice i k R₀ ++ drop (k + 1) R₀) = rw (set_from R i p (omega (arith, length_rows_lem r w)), a.high) in
      s.rows ∙ sym (take-append-drop i (set R i p)) ∙ ap₂ (λ (x y : Packets). x ++ y) lo hi
      ∙ sym (append_assoc (take i (take k R₀)) (p ∷ slice i k R₀) (drop (k + 1) R₀))

  pub inserted : insert p (take k (rows_of r w₀)) ≡ take i (take k (rows_of r w₀)) ++ p ∷ drop i (take k (rows_of r w₀))
      → Put r w' w₀ k p (k + 1)
  inserted c =
      let t : take (k + 1) (rows_of r w') ≡ insert p (take k (rows_of r w₀)) =
      rw (gap, take_at front (drop (k + 1) (rows_of r w₀)) (k + 1) length_front) (sym c) in
      record {
        array = s.array;
        room = omega arith;
        count = sym length_front ∙ ap length (sym c);
        made = t;
        rest = rw (gap, drop_at front (drop (k + 1) (rows_of r w₀)) (k + 1) length_front);
        there = λ o. absurd (omega arith);
      }

pub inserted_there : {r : ℕ} {w₀ : List ℕ} (p : Packet) (k : ℕ) → k ≤ 16 → Array r w₀
    → insert p (take k (rows_of r w₀)) ≡ take k (rows_of r w₀)
    → Put r w₀ w₀ k p k
inserted_there {r} {w₀} p k h a e = record {
  array = a;
  room = h;
  count = sym (length_packets r w₀ k h) ∙ ap length (sym e);
  made = sym e;
  rest = refl;
  there = λ _. refl;
}

-- an ascending list stays as it is, if it has the packet
insert_member : (p : Packet) (s : Packets) → Ascending s → p ∈ s → insert p s ≡ s
unfolding insert
insert_member p [] h m = absurd m
insert_member p (x ∷ s) h (inl e) = rw (e, order_refl x)
insert_member p (x ∷ s) h (inr m) =
    rw (order_turned x p Less (after_out x p s h.0 m)) (ap (λ (r : Packets). x ∷ r) (insert_member p s h.1 m))

-- and has it among the others, one more, if it has not
insert_more : (p : Packet) (s : Packets) → (p ∈ s → ⊥) → (i : ℕ) × (insert p s ≡ take i s ++ p ∷ drop i s)
unfolding insert
insert_more p [] n = (0, refl)
insert_more p (x ∷ s) n = go (order_of p x) refl (insert_more p s (λ m. n (inr m)))
  where
    go : (o : Ordering) → order_of p x ≡ o → (i : ℕ) × (insert p s ≡ take i s ++ p ∷ drop i s)
        → (i : ℕ) × (put_by o p x s (insert p s) ≡ take i (x ∷ s) ++ p ∷ drop i (x ∷ s))
    go Less e k = (0, refl)
    go Equal e k = absurd (n (inl (order_same p x e)))
    go Greater e k = (suc k.0, ap (λ (r : Packets). x ∷ r) k.1)

-- one too many
pub inserted_not : (r : ℕ) (w₀ : List ℕ) (p : Packet) (i k : ℕ) → k ≡ 16
    → insert p (take k (rows_of r w₀)) ≡ take i (take k (rows_of r w₀)) ++ p ∷ drop i (take k (rows_of r w₀)) → Inserted r w₀ w₀ k p None
inserted_not r w₀ p i k h e =
    let s = take k (rows_of r w₀) in
    let n : length (take i s) + length (drop i s) ≡ length s =
    sym (length-append (take i s) (drop i s)) ∙ ap length (take-append-drop i s) in
    let m : length (insert p s) ≡ length (take i s) + suc (length (drop i s)) = ap length e ∙ length-append (take i s) (p ∷ drop i s) in
    (omega (arith, length_packets r w₀ k (omega arith)), refl)

-- no room: it is there, or is one too many
pub inserted_full : {r : ℕ} {w₀ : List ℕ} (p : Packet) (k : ℕ) (b : Bool) → k ≡ 16 → Array r w₀ → Ascending (take k (rows_of r w₀))
    → b ≡ member p (take k (rows_of r w₀)) → Inserted r w₀ w₀ k p (then_some b k)
inserted_full {r} {w₀} p k true h a q e = inserted_there p k (omega arith) a (insert_member p _ q (member_out p _ (sym e)))
inserted_full {r} {w₀} p k false h a q e =
    let n = insert_more p (take k (rows_of r w₀)) (λ m. false≢true (e ∙ member_in p _ m)) in
    inserted_not r w₀ p n.0 k h n.1

-- where fewer than 16 are, there is room
pub inserted_some : (r : ℕ) (w w₀ : List ℕ) (k : ℕ) (p : Packet) (o : Option ℕ) → k < 16 → Inserted r w w₀ k p o → IsSome o
inserted_some r w w₀ k p (Some n) h i = refl
inserted_some r w w₀ k p None h i =
    absurd (omega (arith, i.0, length_insert_more p (take k (rows_of r w₀)), length_packets r w₀ k (omega arith)))

-- ---- rows put in their places where they stand

-- the first k rows of w ascend, and with rows j to n - 1 of x make the whole; from row j on w is still x
pub record Sorting (r : ℕ) (w x : List ℕ) (j n k : ℕ) (whole : Packets) : Type 0 where
  pub array : Array r w
  pub below : k ≤ j
  pub order : Ascending (take k (rows_of r w))
  pub tail : drop j (rows_of r w) ≡ drop j (rows_of r x)
  pub same : union (take k (rows_of r w)) (slice j n (rows_of r x)) ≡ whole

row_kept : (R X : Packets) (j : ℕ) → drop j R ≡ drop j X → get_or R j [] ≡ get_or X j []
row_kept R X j e =
    let z : j + 0 ≡ j = omega arith in
    let f = sym (get_or-drop j R 0 []) ∙ ap (λ (l : Packets). get_or l 0 []) e ∙ get_or-drop j X 0 [] in
    rw z at f

module _ {r : ℕ} {w x : List ℕ} {k : ℕ} {whole : Packets} (j n : ℕ) (a : Sorting r w x j n k whole) where
  pub sorting_next : {w' p : List ℕ} (c : ℕ) → j < n → n ≤ 16 → p ≡ get_or (rows_of r w) j [] → Put r w' w k p c
      → Sorting r w' x (j + 1) n c whole
  unfolding union
  sorting_next {w'} {p} c h l e i =
      let S = take k (rows_of r w) in
      let few : c ≤ k + 1 = omega (arith, i.count, length_insert_more p S, length_packets r w k (omega (arith, a.below))) in
      let b : k ≤ j = a.below in
      let y : p ≡ get_or (rows_of r x) j [] = e ∙ row_kept (rows_of r w) (rows_of r x) j a.tail in
      let d : j + 1 ≡ k + 1 + (j - k) = omega arith in
      let t : drop (j + 1) (rows_of r w') ≡ drop (j + 1) (rows_of r w) =
      rw (d, ← drop-drop (j - k) (k + 1) (rows_of r w'), i.rest) (drop-drop (j - k) (k + 1) (rows_of r w)) in
      record {
        array = i.array;
        below = omega arith;
        order = rw i.made (insert_ascending p S a.order);
        tail = t ∙ rw (← drop-drop 1 j (rows_of r w), ← drop-drop 1 j (rows_of r x), a.tail);
        same = rw (i.made, y) (rw (slice_at (rows_of r x) j n h (omega (arith, length_rows_lem r x))) at a.same);
      }

  pub sorting_end : {w' : List ℕ} → j ≡ n → Zeroed r x n → Cleared r w' w k n → Held r w' k whole
  unfolding union
  sorting_end {w'} e z c =
      let s : take k (rows_of r w) ≡ whole = rw (slice_end (rows_of r x) j n (omega arith)) at a.same in
      trimmed c (omega (arith, a.below)) z.room (rw e at a.tail ∙ z.zeros) s (rw s at a.order)

-- ---- packets put one by one among those of an array

-- the packets of w, with those that are left, make the whole
pub record Gathering (r : ℕ) (w : List ℕ) (k : ℕ) (left whole : Packets) : Type 0 where
  pub packed : Packed r w k
  pub same : union (take k (rows_of r w)) left ≡ whole

pub inserted_packed : {r : ℕ} {w w₀ : List ℕ} {p : Packet} {k n : ℕ} → Packed r w₀ k → Put r w w₀ k p n → Packed r w n
inserted_packed {r} {w} {w₀} {p} {k} {n} q i =
    let S = take k (rows_of r w₀) in
    let l = length_packets r w₀ k q.room in
    let more : n ≤ k + 1 = omega (arith, i.count, length_insert_more p S) in
    let less : k ≤ n = omega (arith, i.count, length_insert_le p S) in
    let asc : Ascending (take n (rows_of r w)) = rw i.made (insert_ascending p S q.order) in
    elim (dec_lt k n) [
      | yes o ↦
          let e : n ≡ k + 1 = omega arith in
          let m : 16 - k ≡ 1 + (16 - n) = omega arith in
          let g : drop k (rows_of r w₀) ≡ replicate (1 + (16 - n)) (blank r) = q.zeros ∙ rw m in
          let z : drop (k + 1) (rows_of r w₀) ≡ replicate (16 - n) (blank r) =
          sym (drop-drop 1 k (rows_of r w₀)) ∙ ap (λ (y : Packets). drop 1 y) g ∙ drop_replicate 1 (16 - n) (blank r) in
          record { array = i.array; room = i.room; zeros = rw e (i.rest ∙ rw e at z); order = asc }
      | no o ↦
          let e : n ≡ k = omega arith in
          let s = i.there e in
          record { array = i.array; room = i.room; zeros = rw (e, s) q.zeros; order = asc }
    ]

module _ {r : ℕ} {w : List ℕ} {p : Packet} {k : ℕ} {left whole : Packets} (a : Gathering r w k (p ∷ left) whole) where
  pub gathering_next : {w' : List ℕ} {n : ℕ} → Put r w' w k p n → Gathering r w' n left whole
  unfolding union
  gathering_next i = record { packed = inserted_packed a.packed i; same = rw i.made a.same }

  pub gathering_count : length (insert p (take k (rows_of r w))) ≤ length whole
  unfolding union
  gathering_count = omega (arith, ap length a.same, length_union_le (insert p (take k (rows_of r w))) left)

-- ---- a value written to a field of every row

pub changed_next : {r : ℕ} {w' w w₀ : List ℕ} (i : ℕ) (g : Packet → Packet) → i < 16 → Changed r w w₀ i g
    → Stored r w' w i (g (get_or (rows_of r w) i [])) → Changed r w' w₀ (i + 1) g
changed_next {r} {w'} {w} {w₀} i g h a s =
    let R = rows_of r w in
    let R₀ = rows_of r w₀ in
    let e = row_kept R R₀ i a.tail in
    let f : i < length R = omega (arith, length_rows_lem r w) in
    let f₀ : i < length R₀ = omega (arith, length_rows_lem r w₀) in
    let t : take (i + 1) R₀ ≡ take i R₀ ++ get_or R₀ i [] ∷ [] = rw add-one (take-suc R₀ i [] f₀) in
    record {
      array = s.array;
      same = rw (s.rows, set_take R i (g (get_or R i [])) f, a.same, e, t) (sym (map-append g (take i R₀) (get_or R₀ i [] ∷ [])));
      tail = rw (s.rows, set_drop R i (g (get_or R i [])) f (i + 1) (omega arith), ← drop-drop 1 i R, ← drop-drop 1 i R₀, a.tail);
    }

module _ {r : ℕ} {w w₀ : List ℕ} {n : ℕ} {g : Packet → Packet} (a : Changed r w w₀ n g) (q : Packed r w₀ n) where
  -- they still ascend
  pub changed_held : Ascending (take n (rows_of r w)) → Held r w n (gathered (map g (take n (rows_of r w₀))))
  changed_held h = record {
    packed = record { array = a.array; room = q.room; zeros = a.tail ∙ q.zeros; order = h };
    same = sym (gathered_same (take n (rows_of r w)) h) ∙ ap gathered a.same;
  }

-- there is no such field
put_out : (f x : ℕ) (p : Packet) → length p ≤ f → put f x p ≡ p
unfolding put
put_out f x p h = set_out p f x h

put_all : (f x : ℕ) (s : Packets) → ((i : ℕ) → i < length s → length (get_or s i []) ≤ f) → map (put f x) s ≡ s
put_all f x [] h = refl
put_all f x (p ∷ s) h = ap₂ (λ (y : Packet) (t : Packets). y ∷ t) (put_out f x p (h 0 (omega arith)))
    (put_all f x s (λ i l. h (suc i) (omega arith)))

pub none_put : {r : ℕ} {v : List ℕ} {n : ℕ} (f x : ℕ) → r ≤ f → Packed r v n → Held r v n (gathered (map (put f x) (take n (rows_of r v))))
none_put {r} {v} {n} f x h q =
    let S = take n (rows_of r v) in
    let m = length_packets r v n q.room in
    let e : map (put f x) S ≡ S = put_all f x S (λ i l.
    rw (get_or-take n (rows_of r v) i [] (omega arith)) (omega (arith, length_row i q.array (omega (arith, q.room))))) in
    held_as (held_self q) (sym (ap gathered e ∙ gathered_same S q.order))

-- ---- rows found to ascend from the last on

pub ascends_last : (R : Packets) (n : ℕ) → n ≤ length R → Ascending (slice (n - 1) n R)
ascends_last R zero l = tt
ascends_last R (suc n) l =
    let z : suc n - 1 ≡ n = omega arith in
    let e : n + 1 ≡ suc n = omega arith in
    rw (z, slice_at R n (suc n) (omega arith) l, e, slice_end R (suc n) (suc n) (omega arith)) (tt, tt)

pub ascends_next : (R : Packets) (n i : ℕ) → 1 < i → i ≤ n → n ≤ length R → Ascending (slice (i - 1) n R)
    → order_of (get_or R (i - 1 - 1) []) (get_or R (i - 1) []) ≡ Less → Ascending (slice (i - 1 - 1) n R)
ascends_next R n i h l m a e =
    let f : i - 1 - 1 + 1 ≡ i - 1 = omega arith in
    let u = slice_at R (i - 1) n (omega arith) m in
    let b = rw u at a in
    rw (slice_at R (i - 1 - 1) n (omega arith) m, f, u)
    ((e, after_trans (get_or R (i - 1 - 1) []) (get_or R (i - 1) []) (slice (i - 1 + 1) n R) e b.0), b)
