-- Two ascending sets merged in one array: the rows raised, one turn of the merge, and the rest lowered.
use Rattle.std.specs.declared.cmp.Ordering.TheVariants.{Less, Equal, Greater}
use Prim.Native.Nat.{ℕ, zero, suc, ◌+◌, ◌-◌, ◌≤◌, ◌<◌}
use mathlib.Core.Path.{◌≡◌, refl, sym, ap, ◌∙◌}
use mathlib.Core.List.{List, [], ◌∷◌, ◌++◌, append-nil}
use native.Mathlib.Omega.{arith}
use lib.ListN.{length, take, drop, get_or, replicate, length-append, take-append-drop}
use lib.Arith.{lt_of_le-ne}
use native.Mathlib.Decide.{dec_lt}
use lib.Seq.{slice, length-slice, get_or-take, take-add, take-nil, append_snoc, drop-drop, take_at, drop_at, take-take, take-set-le}
use lib.Seq.{length-take-le}
use Rattle.rules.specs.Packets.{Packet, Packets, Ascending, insert, union}
use Rattle.rules.proofs.Orders.{order_same, order_turned, after_trans}
use Rattle.rules.proofs.Sets.{union_after, union_nil, length_union_le, length_union_more}
use Rattle.rows.specs.Chunks.{rows_of, blank, Array, Packed, Held, Stored, Cleared}
use Rattle.rows.proofs.Chunks.{length_rows_lem, drop_replicate}
use Rattle.sets.specs.Lists.{Raised, Lowered, Apart, from_first}
use Rattle.sets.proofs.Rows.{set_take, set_drop, set_slice, set_from, slice_at, slice_end, zeros_more, Sliding, sliding_put}
use Rattle.sets.proofs.Rows.{sliding_row, ascending_drop}

-- ---- the first packet of a union

module _ (y : Packet) (t : Packets) (ht : Ascending (y ∷ t)) where
  pub union_less : (s : Packets) → from_first s y ≡ Less → (0 < length s) × (union s (y ∷ t) ≡ get_or s 0 [] ∷ union (drop 1 s) (y ∷ t))
  union_less [] e = let z : ◌≡◌ {A = ℕ} 0 1 = cc in absurd (omega arith)
  union_less (x ∷ s) e = (omega arith, union_after x s (y ∷ t) (e, after_trans x y t e ht.0))

  pub union_same : (s : Packets) → from_first s y ≡ Equal → (0 < length s) × (union s (y ∷ t) ≡ get_or s 0 [] ∷ union (drop 1 s) t)
  unfolding union insert
  union_same [] e = let z : ◌≡◌ {A = ℕ} 0 1 = cc in absurd (omega arith)
  union_same (x ∷ s) e = (omega arith, rw (order_turned x y Equal e) (union_after x s t (rw (order_same x y e) ht.0)))

  pub union_more : (s : Packets) → from_first s y ≡ Greater → union s (y ∷ t) ≡ y ∷ union s t
  unfolding union insert
  union_more [] e = union_after y [] t ht.0
  union_more (x ∷ s) e = rw (order_turned x y Greater e) (union_after y (x ∷ s) t ht.0)

-- ---- rows raised, from the last on

pub raised_next : {r : ℕ} {w' w w₀ : List ℕ} (j b n h : ℕ) → j ≡ b + 1 → j ≤ n → n + h ≤ 16 → Raised r w w₀ j n h
    → Stored r w' w (b + h) (get_or (rows_of r w) b []) → Raised r w' w₀ b n h
raised_next {r} {w'} {w} {w₀} j b n h e l m a s =
    let R = rows_of r w in
    let R₀ = rows_of r w₀ in
    let d : b + h ≤ j + h = omega arith in
    let low : take (b + h) R ≡ take (b + h) R₀ =
    sym (take-take (b + h) (j + h) R d) ∙ ap (λ (z : Packets). take (b + h) z) a.low ∙ take-take (b + h) (j + h) R₀ d in
    let x : get_or R b [] ≡ get_or R₀ b [] =
    sym (get_or-take (j + h) R b [] (omega arith)) ∙ ap (λ (z : Packets). get_or z b []) a.low ∙ get_or-take (j + h) R₀ b [] (omega arith) in
    let n1 : b + h + 1 ≡ j + h = omega arith in
    let in_R : b + h < length R = omega (arith, length_rows_lem r w) in
    record {
      array = s.array;
      low = rw s.rows (take-set-le (b + h) R (b + h) (get_or R b []) (omega arith) ∙ low);
      high =
          rw (
            s.rows,
            set_from R (b + h) (get_or R b []) in_R,
            n1,
            a.high,
            x,
            slice_at R₀ b n (omega arith) (omega (arith, length_rows_lem r w₀)),
            ← e,
          );
    }

cut : (R : Packets) (h n : ℕ) → drop h (take h R ++ take n (drop h R)) ≡ take n (drop h R)
cut R zero n = refl
cut [] (suc h) n = rw (take-nil n)
cut (x ∷ R) (suc h) n = cut R h n

slice_drop : (R : Packets) (h n : ℕ) → slice h (h + n) R ≡ take n (drop h R)
slice_drop R h n = ap (λ (y : Packets). drop h y) (take-add h n R) ∙ cut R h n

-- a set raised has its packets from row h to row e
pub raised_apart : {r : ℕ} {w w₀ : List ℕ} (n m h e : ℕ) → e ≡ h + n → e ≤ 16 → (e < 16 → e ≡ n + m) → Packed r w₀ n → Raised r w w₀ 0 n h
    → Apart r w h e m × (slice h e (rows_of r w) ≡ take n (rows_of r w₀))
raised_apart {r} {w} {w₀} n m h e d l f q a =
    let R₀ = rows_of r w₀ in
    let k : length (take n R₀) ≡ n = length-take-le n R₀ (omega (arith, length_rows_lem r w₀)) in
    let z : 0 + h ≡ h = omega arith in
    let c : n + h ≡ h + n = omega arith in
    let high : drop h (rows_of r w) ≡ take n R₀ ++ drop (h + n) R₀ = rw (z, c) at a.high in
    let s : slice h (h + n) (rows_of r w) ≡ take n R₀ =
    slice_drop (rows_of r w) h n ∙ rw high (take_at (take n R₀) (drop (h + n) R₀) n k) in
    let t : drop (h + n) (rows_of r w) ≡ drop (h + n) R₀ =
    sym (drop-drop n h (rows_of r w)) ∙ rw high (drop_at (take n R₀) (drop (h + n) R₀) n k) in
    let u : drop (h + n) R₀ ≡ replicate (16 - (h + n)) (blank r) =
    let n1 : h + n ≡ n + h = omega arith in
    let n2 : 16 - n ≡ h + (16 - (h + n)) = omega arith in
    rw n1 (sym (drop-drop h n R₀)) ∙ ap (λ (z : Packets). drop h z) (q.zeros ∙ rw n2) ∙ drop_replicate h (16 - (h + n)) (blank r) in (
      record {
        array = a.array;
        low = omega arith;
        top = l;
        room = λ o. omega (arith, f o);
        order = rw (d, s) q.order;
        zeros = rw d (t ∙ u);
      },
      rw d s,
    )

-- ---- the rest lowered

pub lowering_next : {r : ℕ} {w' w x : List ℕ} {c : ℕ} {whole : Packets} (a e : ℕ) → Sliding r w x a c (slice a e (rows_of r x)) whole
    → a < e → e ≤ 16 → c ≤ a
    → Stored r w' w c (get_or (rows_of r w) a []) → Sliding r w' x (a + 1) (c + 1) (slice (a + 1) e (rows_of r x)) whole
lowering_next {r} {w'} {w} {x} a e g h l m s =
    sliding_put g (get_or (rows_of r x) a []) _ (slice_at (rows_of r x) a e h (omega (arith, length_rows_lem r x))) m (omega arith)
    (rw (sliding_row g (omega arith)) at s)

pub lowered : {r : ℕ} {w' w x : List ℕ} (k i e a c : ℕ)
    → Sliding r w x a c (slice a e (rows_of r x)) (take k (rows_of r x) ++ slice i e (rows_of r x))
    → a ≡ e → e ≤ 16 → k ≤ i → i ≤ e → c ≡ k + (e - i) → Cleared r w' w c e → Lowered r w' x k i e c
lowered {r} {w'} {w} {x} k i e a c g ae l h m f d =
    let R = rows_of r w in
    let front : length (take c R) ≡ c = length-take-le c R (omega (arith, length_rows_lem r w)) in
    let all : take c R ≡ take k (rows_of r x) ++ slice i e (rows_of r x) =
    rw (slice_end (rows_of r x) a e (omega arith), append-nil) at g.same in
    let tail = replicate (e - c) (blank r) ++ drop e R in
    record {
      array = d.array;
      count = f;
      rows = rw (d.rows, take_at (take c R) tail c front) all;
      zeros = rw (d.rows, drop_at (take c R) tail c front, rw ae at g.tail);
    }

pub lowered_same : {r : ℕ} {v : List ℕ} (k i e : ℕ) → k ≡ i → i ≤ e → Array r v → Lowered r v v k i e e
lowered_same {r} {v} k i e h l a =
    let R = rows_of r v in
    let z : e - e ≡ 0 = omega arith in
    record {
      array = a;
      count = omega arith;
      rows = rw h (sym (take-append-drop i (take e R)) ∙ rw (take-take i e R l));
      zeros = rw z;
    }

-- ---- the merge

-- the first k rows of w, with the union of those from i to e and the packets that are left, are the whole; zeros from e on
pub record Merging (r : ℕ) (w : List ℕ) (i e k : ℕ) (left whole : Packets) : Type 0 where
  pub array : Array r w
  pub below : k ≤ i
  pub upto : i ≤ e
  pub zeros : drop e (rows_of r w) ≡ replicate (16 - e) (blank r)
  pub same : take k (rows_of r w) ++ union (slice i e (rows_of r w)) left ≡ whole

first_less : (s : Packets) (y : Packet) → from_first s y ≡ Less → 0 < length s
first_less [] y e = let z : ◌≡◌ {A = ℕ} 0 1 = cc in absurd (omega arith)
first_less (x ∷ s) y e = omega arith

first_same : (s : Packets) (y : Packet) → from_first s y ≡ Equal → 0 < length s
first_same [] y e = let z : ◌≡◌ {A = ℕ} 0 1 = cc in absurd (omega arith)
first_same (x ∷ s) y e = omega arith

module _ {r : ℕ} {w : List ℕ} (i e k : ℕ) {left whole : Packets} (l : e ≤ 16) (a : Merging r w i e k left whole) where
  in_rows : e ≤ length (rows_of r w)
  in_rows = omega (arith, length_rows_lem r w)

  pub less_some : (y : Packet) → from_first (slice i e (rows_of r w)) y ≡ Less → i < e
  less_some y o = omega (arith, first_less (slice i e (rows_of r w)) y o, length-slice i e (rows_of r w) in_rows)

  pub same_some : (y : Packet) → from_first (slice i e (rows_of r w)) y ≡ Equal → i < e
  same_some y o = omega (arith, first_same (slice i e (rows_of r w)) y o, length-slice i e (rows_of r w) in_rows)

  -- packet x comes next, and then a's rows from i' on and the packets left' are left
  next : {w' : List ℕ} (x : Packet) (i' : ℕ) (left' : Packets) → k < i' → i ≤ i' → i' ≤ e → Stored r w' w k x
      → union (slice i e (rows_of r w)) left ≡ x ∷ union (slice i' e (rows_of r w)) left' → Merging r w' i' e (k + 1) left' whole
  next {w'} x i' left' h h' h'' s u =
      let R = rows_of r w in
      let f : k < length R = omega (arith, in_rows) in
      record {
        array = s.array;
        below = omega arith;
        upto = h'';
        zeros = rw s.rows (set_drop R k x f e (omega arith) ∙ a.zeros);
        same = rw (s.rows, set_take R k x f, set_slice R k x f i' e h (omega arith))
            (append_snoc (take k R) x (union (slice i' e R) left') ∙ rw (← u) a.same);
      }

  module _ (y : Packet) (t : Packets) (d : left ≡ y ∷ t) (ht : Ascending (y ∷ t)) where
    pub merging_less : {w' : List ℕ} → from_first (slice i e (rows_of r w)) y ≡ Less → Stored r w' w k (get_or (rows_of r w) i [])
        → Merging r w' (i + 1) e (k + 1) left whole
    merging_less o s =
        let h = less_some y o in
        let u = (union_less y t ht (slice i e (rows_of r w)) o).1 in
        next (get_or (rows_of r w) i []) (i + 1) left (omega (arith, a.below)) (omega arith) (omega arith) s
        (let z = slice_at (rows_of r w) i e h in_rows in rw (d, z) (rw z at u))

    pub merging_same : {w' : List ℕ} → from_first (slice i e (rows_of r w)) y ≡ Equal → Stored r w' w k (get_or (rows_of r w) i [])
        → Merging r w' (i + 1) e (k + 1) t whole
    merging_same o s =
        let h = same_some y o in
        let u = (union_same y t ht (slice i e (rows_of r w)) o).1 in
        next (get_or (rows_of r w) i []) (i + 1) t (omega (arith, a.below)) (omega arith) (omega arith) s
        (let z = slice_at (rows_of r w) i e h in_rows in rw (d, z) (rw z at u))

    pub merging_more : {w' : List ℕ} → from_first (slice i e (rows_of r w)) y ≡ Greater → (k ≡ i → ⊥) → Stored r w' w k y
        → Merging r w' i e (k + 1) t whole
    merging_more o n s =
        next y i t (lt_of_le-ne a.below n) (omega arith) a.upto s (rw d (union_more y t ht (slice i e (rows_of r w)) o))

    -- what is merged has reached what is still to be merged
    pub merging_over : (h m : ℕ) → from_first (slice i e (rows_of r w)) y ≡ Greater → k ≡ i → h ≤ e → length whole ≤ (e - h) + m
        → (e < 16 → m ≤ h)
        → 16 < length whole
    merging_over h m o n hl few room =
        let R = rows_of r w in
        let u : union (slice i e R) left ≡ y ∷ union (slice i e R) t = rw d (union_more y t ht (slice i e R) o) in
        let q : take k R ++ y ∷ union (slice i e R) t ≡ whole = rw (← u) a.same in
        let c : k + suc (length (union (slice i e R) t)) ≡ length whole =
        let f : length (take k R) ≡ k = length-take-le k R (omega (arith, in_rows, a.below, a.upto)) in
        ap (λ (z : ℕ). z + suc (length (union (slice i e R) t))) (sym f)
        ∙ sym (length-append (take k R) (y ∷ union (slice i e R) t)) ∙ ap length q in
        let big : e < length whole = omega (arith, length_union_le (slice i e R) t, length-slice i e R in_rows, a.upto) in
        elim (dec_lt e 16) [ yes p ↦ absurd (omega (arith, room p)) | no p ↦ omega arith ]

  pub merging_end : {w' : List ℕ} (c : ℕ) → left ≡ [] → Lowered r w' w k i e c → Ascending whole → Held r w' c whole
  merging_end {w'} c d f asc =
      let s : take c (rows_of r w') ≡ whole = f.rows ∙ rw (d, union_nil) at a.same in
      record {
        packed = record {
          array = f.array;
          room = omega (arith, f.count, a.below, a.upto);
          zeros = f.zeros ∙ rw a.zeros (zeros_more c e (blank r) (omega (arith, f.count, a.below, a.upto)) l);
          order = rw s asc;
        };
        same = s;
      }

-- the packets of an array from j on ascend
pub ascending_at : {r : ℕ} {b : List ℕ} (m j : ℕ) → Packed r b m → j < m → Ascending (get_or (rows_of r b) j [] ∷ slice (j + 1) m (rows_of r b))
ascending_at {r} {b} m j q h =
    rw (slice_at (rows_of r b) j m h (omega (arith, length_rows_lem r b, q.room))) at (ascending_drop j (take m (rows_of r b)) q.order)

pub length_joined : {r : ℕ} {v b : List ℕ} {h e m : ℕ} → Apart r v h e m → Packed r b m
    → length (union (slice h e (rows_of r v)) (take m (rows_of r b))) ≤ (e - h) + m
length_joined {r} {v} {b} {h} {e} {m} a q =
    omega (
      arith,
      length_union_more (slice h e (rows_of r v)) (take m (rows_of r b)),
      length-slice h e (rows_of r v) (omega (arith, length_rows_lem r v, a.top)),
      length-take-le m (rows_of r b) (omega (arith, length_rows_lem r b, q.room)),
    )
