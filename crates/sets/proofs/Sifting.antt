-- The packets of one ascending list that another lacks, packet by packet from the front: one turn.
use Rattle.std.specs.declared.cmp.Ordering.TheVariants.{Less, Equal, Greater}
use Prim.Native.Nat.{ℕ, ◌+◌, ◌≤◌, ◌<◌}
use mathlib.Core.Path.{◌≡◌, refl, ap, ap₂}
use mathlib.Core.Bool.{Bool, true}
use mathlib.Core.Logic.{inl, inr}
use mathlib.Core.List.{List, [], ◌∷◌}
use native.Mathlib.Omega.{arith}
use lib.ListN.{length, take, drop, get_or}
use lib.Seq.{slice, length-slice, drop-drop}
use Rattle.rules.specs.Packets.{Packet, Packets, order_of, Before, Ascending, ◌∈◌, cons_if, keep, member, lacks}
use Rattle.rules.proofs.Orders.{order_same, order_turned, after_trans}
use Rattle.rules.proofs.Sets.{after_out, after_not_in, lacks_in}
use Rattle.rows.specs.Chunks.{rows_of, Packed, Stored}
use Rattle.rows.proofs.Chunks.{length_rows_lem}
use Rattle.sets.specs.Lists.{to_first}
use Rattle.sets.proofs.Rows.{Sliding, sliding_put, sliding_skip, slice_at, ascending_drop}
use Rattle.sets.proofs.Merging.{ascending_at}

-- tests that agree on the packets keep the same ones
keep_cong : (g h : Packet → Bool) (s : Packets) → ((b : Packet) → b ∈ s → g b ≡ h b) → keep g s ≡ keep h s
unfolding keep
keep_cong g h [] e = refl
keep_cong g h (x ∷ s) e =
    ap₂ (λ (o : Bool) (r : Packets). cons_if o x r) (e x (inl refl)) (keep_cong g h s (λ b m. e b (inr m)))

-- y is no matter to a packet after it
lacks_past : (y b : Packet) (t : Packets) → Before y b → lacks (y ∷ t) b ≡ lacks t b
unfolding member
lacks_past y b t e = rw (order_turned y b Less e)

module _ (x y : Packet) (s t : Packets) (hs : Ascending (x ∷ s)) (ht : Ascending (y ∷ t)) where
  sift_less : order_of x y ≡ Less → keep (lacks (y ∷ t)) (x ∷ s) ≡ x ∷ keep (lacks (y ∷ t)) s
  unfolding keep
  sift_less e =
      let n : lacks (y ∷ t) x ≡ true = lacks_in x (y ∷ t) (λ m. after_not_in x (y ∷ t) (e, after_trans x y t e ht.0) m) in
      ap (λ (o : Bool). cons_if o x (keep (lacks (y ∷ t)) s)) n

  sift_same : order_of x y ≡ Equal → keep (lacks (y ∷ t)) (x ∷ s) ≡ keep (lacks t) s
  unfolding keep member
  sift_same e =
      rw e (keep_cong (lacks (y ∷ t)) (lacks t) s (λ b m. lacks_past y b t (rw (order_same x y e) at (after_out x b s hs.0 m))))

  sift_more : order_of x y ≡ Greater → keep (lacks (y ∷ t)) (x ∷ s) ≡ keep (lacks t) (x ∷ s)
  sift_more e =
      let l = order_turned x y Greater e in
      keep_cong (lacks (y ∷ t)) (lacks t) (x ∷ s) (λ b m. lacks_past y b t (after_out y b (x ∷ s) (l, after_trans y x s l hs.0) m))

-- the same of any ascending list, by how x lies to its first packet
first_less : (x : Packet) (s t : Packets) → Ascending (x ∷ s) → Ascending t → to_first x t ≡ Less
    → keep (lacks t) (x ∷ s) ≡ x ∷ keep (lacks t) s
unfolding keep member
first_less x s [] hs ht e = refl
first_less x s (y ∷ t) hs ht e = sift_less x y s t hs ht e

first_same : (x : Packet) (s t : Packets) → Ascending (x ∷ s) → Ascending t → to_first x t ≡ Equal
    → (0 < length t) × (keep (lacks t) (x ∷ s) ≡ keep (lacks (drop 1 t)) s)
first_same x s [] hs ht e = let z : ◌≡◌ {A = ℕ} 0 1 = cc in absurd (omega arith)
first_same x s (y ∷ t) hs ht e = (omega arith, sift_same x y s t hs ht e)

first_more : (x : Packet) (s t : Packets) → Ascending (x ∷ s) → Ascending t → to_first x t ≡ Greater
    → (0 < length t) × (keep (lacks t) (x ∷ s) ≡ keep (lacks (drop 1 t)) (x ∷ s))
first_more x s [] hs ht e = let z : ◌≡◌ {A = ℕ} 0 1 = cc in absurd (omega arith)
first_more x s (y ∷ t) hs ht e = (omega arith, sift_more x y s t hs ht e)

-- ---- in the loop, packet i of x against what is left of the first m of b

module _ {r : ℕ} {w x b : List ℕ} {n m k : ℕ} (i j : ℕ) {whole : Packets} (qx : Packed r x n) (qb : Packed r b m) (hi : i < n)
    (a : Sliding r w x i k (keep (lacks (slice j m (rows_of r b))) (slice i n (rows_of r x))) whole) where
  left : Ascending (slice j m (rows_of r b))
  left = ascending_drop j (take m (rows_of r b)) qb.order

  next : drop 1 (slice j m (rows_of r b)) ≡ slice (j + 1) m (rows_of r b)
  next = drop-drop 1 j (take m (rows_of r b))

  some : 0 < length (slice j m (rows_of r b)) → j < m
  some h = omega (arith, length-slice j m (rows_of r b) (omega (arith, length_rows_lem r b, qb.room)))

  here : slice i n (rows_of r x) ≡ get_or (rows_of r x) i [] ∷ slice (i + 1) n (rows_of r x)
  here = slice_at (rows_of r x) i n hi (omega (arith, length_rows_lem r x, qx.room))

  pub sifted_less : {w' : List ℕ} → k ≤ i → to_first (get_or (rows_of r x) i []) (slice j m (rows_of r b)) ≡ Less
      → Stored r w' w k (get_or (rows_of r x) i [])
      → Sliding r w' x (i + 1) (k + 1) (keep (lacks (slice j m (rows_of r b))) (slice (i + 1) n (rows_of r x))) whole
  sifted_less l e s =
      sliding_put a (get_or (rows_of r x) i []) _ (rw here (first_less _ _ _ (ascending_at n i qx hi) left e)) l (omega (arith, qx.room)) s

  pub sifted_same : to_first (get_or (rows_of r x) i []) (slice j m (rows_of r b)) ≡ Equal
      → (j < m) × Sliding r w x (i + 1) k (keep (lacks (slice (j + 1) m (rows_of r b))) (slice (i + 1) n (rows_of r x))) whole
  sifted_same e =
      let f = first_same _ _ _ (ascending_at n i qx hi) left e in
      (some f.0, sliding_skip a _ (rw (here, ← next) f.1))

  pub sifted_more : to_first (get_or (rows_of r x) i []) (slice j m (rows_of r b)) ≡ Greater
      → (j < m) × Sliding r w x i k (keep (lacks (slice (j + 1) m (rows_of r b))) (slice i n (rows_of r x))) whole
  sifted_more e =
      let f = first_more _ _ _ (ascending_at n i qx hi) left e in
      let g : keep (lacks (slice j m (rows_of r b))) (slice i n (rows_of r x)) ≡ keep (lacks (slice (j + 1) m (rows_of r b)))
      (slice i n (rows_of r x)) =
      rw (here, ← next) f.1 in
      (some f.0, record { array = a.array; tail = a.tail; same = rw (← g) a.same })
