-- Two sets in slots made one: copied out row by row, merged into a third slot, paired.
use Rattle.std.specs.declared.cmp.Ordering.TheVariants.{Less, Equal, Greater}
use Prim.Native.Nat.{ℕ, ◌+◌, ◌≤◌, ◌<◌}
use native.Mathlib.Omega.{arith}
use native.Mathlib.Numerals.{add-one}
use mathlib.Core.Path.{◌≡◌, refl, sym, ap, ◌∙◌}
use mathlib.Core.Logic.{inl, inr, ⊎_elim}
use mathlib.Core.List.{List, [], ◌∷◌, ◌++◌, append-nil, append_assoc}
use lib.ListN.{length, take, drop, replicate, length-append, drop_of_length-le}
use lib.Seq.{drop-cons}
use Rattle.rules.specs.Packets.{Packet, Packets, order_of, Ascending, insert, union, mix, pairs_into, pairs, most_packets}
use Rattle.std.specs.Prelude.{Option, Some, IsSome}
use Rattle.rows.specs.Chunks.{chunks, rows_of, Held, Fits, Copied}
use Rattle.rows.proofs.Holding.{fits_some, copied_held, held_as}
use Rattle.rows.proofs.Chunks.{length_chunks}
use Rattle.sets.proofs.Rows.{ascending_drop}
use Rattle.sets.proofs.Merging.{union_less, union_same, union_more}
use Rattle.sets.proofs.Whole.{none_held}
use Rattle.area.specs.declared.joins.Next.{Next}
use Rattle.std.specs.declared.ops.Range.{Range}
use Rattle.area.specs.Words.{positions, row_words, slot_words, slot_from, slot_range, slot_at, rows_at, packet_at, OutsideSlot, Rowed}
use Rattle.area.specs.Words.{Filled}
use Rattle.area.specs.Words.{HasSet, Three, Tidied}
use Rattle.area.specs.Joins.{Leads}
use Rattle.area.proofs.Words.{outside_same, outside_then, part_out, slots_apart}
use Rattle.area.proofs.Lending.{lent, lent_slot, front_rows, filled, Back, packet_at_lem}

-- ---- a set copied out

-- the first n rows of slot i in an array of zeros
pub copied_out : {w u : List ℕ} {i n : ℕ} {at : Range ℕ} → at ≡ slot_range i → HasSet w i n → Copied row_words u (replicate slot_words 0) (lent w at) n
    → Held row_words u n (rows_at w i n)
copied_out {w} {u} {i} {n} {at} s h c =
    let e : take n (rows_of row_words (lent w at)) ≡ rows_at w i n =
    ap (λ (v : List ℕ). take n (rows_of row_words v)) (lent_slot i s w) ∙ front_rows (slot_at w i) n h.slim in
    held_as (copied_held none_held h.slim (rw e h.rises) c) e

pub no_packets : (w : List ℕ) (i : ℕ) → i < positions → HasSet w i 0
unfolding chunks
no_packets w i h = record { there = h; slim = omega arith; rises = tt }

-- ---- the next packet of a union

-- the packets of slot i from x on
rest_at : {w : List ℕ} {i a : ℕ} (x : ℕ) → HasSet w i a → x < a → drop x (rows_at w i a) ≡ packet_at w i x ∷ drop (x + 1) (rows_at w i a)
rest_at {w} {i} {a} x h l =
    let z : 0 + x ≡ x = omega arith in
    drop-cons (rows_at w i a) x [] (omega (arith, length_chunks row_words a (slot_at w i)))
    ∙ rw (rw z at (packet_at_lem w i 0 a x h.slim (omega arith)), add-one x) refl

none_at : (w : List ℕ) (i a x : ℕ) → a ≤ x → drop x (rows_at w i a) ≡ []
none_at w i a x h = drop_of_length-le (rows_at w i a) {i = x} (omega (arith, length_chunks row_words a (slot_at w i)))

module _ {w : List ℕ} {l r a b : ℕ} (x y : ℕ) (L : HasSet w l a) (R : HasSet w r b) where
  abbrev S : Packets
  S = rows_at w l a

  abbrev T : Packets
  T = rows_at w r b

  rises : (h : y < b) → Ascending (packet_at w r y ∷ drop (y + 1) T)
  rises h = rw (rest_at y R h) at (ascending_drop y T R.rises)

  pub lead_left : x < a → b ≤ y → y ≤ b → Leads w l r a b x y (record { slot = l; row = x; x = x + 1; y = y })
  unfolding union
  lead_left h k g = record {
    slot = inl refl;
    row = omega (arith, L.slim);
    more = omega arith;
    left = omega arith;
    right = g;
    same = rw (none_at w r b y k) (rest_at x L h);
  }

  pub lead_right : a ≤ x → x ≤ a → y < b → Leads w l r a b x y (record { slot = r; row = y; x = x; y = y + 1 })
  lead_right h k g = record {
    slot = inr refl;
    row = omega (arith, R.slim);
    more = omega arith;
    left = k;
    right = omega arith;
    same = rw (rest_at y R g, none_at w l a x h) (union_more (packet_at w r y) (drop (y + 1) T) (rises g) [] refl);
  }

  module _ (h : x < a) (g : y < b) where
    pub lead_less : order_of (packet_at w l x) (packet_at w r y) ≡ Less → Leads w l r a b x y (record { slot = l; row = x; x = x + 1; y = y })
    lead_less e = record {
      slot = inl refl;
      row = omega (arith, L.slim);
      more = omega arith;
      left = omega arith;
      right = omega arith;
      same = rw (rest_at x L h, rest_at y R g)
          (union_less (packet_at w r y) (drop (y + 1) T) (rises g) (packet_at w l x ∷ drop (x + 1) S) e).1;
    }

    pub lead_same : order_of (packet_at w l x) (packet_at w r y) ≡ Equal
        → Leads w l r a b x y (record { slot = l; row = x; x = x + 1; y = y + 1 })
    lead_same e = record {
      slot = inl refl;
      row = omega (arith, L.slim);
      more = omega arith;
      left = omega arith;
      right = omega arith;
      same = rw (rest_at x L h, rest_at y R g)
          (union_same (packet_at w r y) (drop (y + 1) T) (rises g) (packet_at w l x ∷ drop (x + 1) S) e).1;
    }

    pub lead_more : order_of (packet_at w l x) (packet_at w r y) ≡ Greater → Leads w l r a b x y (record { slot = r; row = y; x = x; y = y + 1 })
    lead_more e = record {
      slot = inr refl;
      row = omega (arith, R.slim);
      more = omega arith;
      left = omega arith;
      right = omega arith;
      same = rw (rest_at x L h, rest_at y R g)
          (union_more (packet_at w r y) (drop (y + 1) T) (rises g) (packet_at w l x ∷ drop (x + 1) S) e);
    }

-- ---- the loop of a union

-- the first k packets of slot i, with the union of what is left, are the whole union
pub record Merging (w : List ℕ) (i l r a b : ℕ) (v : List ℕ) (x y k : ℕ) : Type 0 where
  pub left : x ≤ a
  pub right : y ≤ b
  pub out : OutsideSlot w v i
  pub same : rows_at v i k ++ union (drop x (rows_at w l a)) (drop y (rows_at w r b)) ≡ union (rows_at w l a) (rows_at w r b)

-- a set in another slot stays
pub kept_set : {w v : List ℕ} {i l a : ℕ} → (l ≡ i → ⊥) → OutsideSlot w v i → HasSet w l a → HasSet v l a
kept_set {i = i} {l} d o h =
    let e = part_out o (slot_from l) slot_words (slots_apart i l d) in
    record { there = h.there; slim = h.slim; rises = rw e h.rises }

pub merging_start : (w : List ℕ) (i l r a b : ℕ) → Merging w i l r a b w 0 0 0
unfolding chunks
merging_start w i l r a b = record { left = omega arith; right = omega arith; out = outside_same w _ _; same = refl }

module _ {w v : List ℕ} {i l r a b x y k : ℕ} (g : Three w i l r a b) (m : Merging w i l r a b v x y k) where
  left_kept : slot_at v l ≡ slot_at w l
  left_kept = part_out m.out (slot_from l) slot_words (slots_apart i l g.left)

  right_kept : slot_at v r ≡ slot_at w r
  right_kept = part_out m.out (slot_from r) slot_words (slots_apart i r g.right)

  pub merging_sets : HasSet v l a × HasSet v r b
  merging_sets = (kept_set g.left m.out g.first, kept_set g.right m.out g.second)

  module _ {t : Next} (e : Leads v l r a b x y t) where
    next_is : union (drop x (rows_at w l a)) (drop y (rows_at w r b))
        ≡ packet_at v t.slot t.row ∷ union (drop t.x (rows_at w l a)) (drop t.y (rows_at w r b))
    next_is = rw (← left_kept, ← right_kept) e.same

    pub merging_room : length (union (rows_at w l a) (rows_at w r b)) ≤ most_packets → k < most_packets
    merging_room few =
        omega (
          arith,
          ap length m.same,
          length-append (rows_at v i k) (union (drop x (rows_at w l a)) (drop y (rows_at w r b))),
          length_chunks row_words k (slot_at v i),
          ap length next_is,
        )

    pub next_there : t.slot < positions
    next_there = ⊎_elim (λ z. omega (arith, g.first.there)) (λ z. omega (arith, g.second.there)) e.slot

    pub merging_next : {u : List ℕ} → Rowed v u i k (packet_at v t.slot t.row) → Merging w i l r a b u t.x t.y (k + 1)
    merging_next o =
        let p : Packet = packet_at v t.slot t.row in
        record {
          left = e.left;
          right = e.right;
          out = outside_then m.out o.out;
          same = rw o.here (append_assoc (rows_at v i k) (p ∷ []) (union (drop t.x (rows_at w l a)) (drop t.y (rows_at w r b)))
              ∙ ap (λ (z : Packets). rows_at v i k ++ z) (sym next_is) ∙ m.same);
        }

  pub merging_end : length (union (rows_at w l a) (rows_at w r b)) ≤ most_packets → a + b ≤ x + y
      → Filled w v i k (union (rows_at w l a) (rows_at w r b))
  unfolding union
  merging_end few h =
      let n : union (drop x (rows_at w l a)) (drop y (rows_at w r b)) ≡ [] =
      rw (none_at w l a x (omega (arith, m.left, m.right)), none_at w r b y (omega (arith, m.left, m.right))) in
      let e : rows_at v i k ≡ union (rows_at w l a) (rows_at w r b) =
      sym (append-nil (rows_at v i k)) ∙ ap (λ (z : Packets). rows_at v i k ++ z) (sym n) ∙ m.same in
      let c : k ≡ length (union (rows_at w l a) (rows_at w r b)) = sym (length_chunks row_words k (slot_at v i)) ∙ ap length e in
      record { slotted = record { here = rw (← c) e; out = m.out }; count = c; slim = omega arith }

-- ---- pairings

pub paired_one : {w v : List ℕ} {i : ℕ} (l r m : ℕ) → Rowed w v i 0 (mix m (packet_at w l 0) (packet_at w r 0))
    → Filled w v i 1 (pairs m (rows_at w l 1) (rows_at w r 1))
unfolding pairs_into union insert chunks
paired_one l r m o = record { slotted = record { here = o.here; out = o.out }; count = refl; slim = omega arith }

pub lent_empty : {w v : List ℕ} {i : ℕ} {at : Range ℕ} → at ≡ slot_range i → Tidied w v i 0 → Held row_words (lent v at) 0 []
unfolding chunks
lent_empty {v = v} {i} s t = rw (lent_slot i s v) t.held

pub paired : {w v u ys p q : List ℕ} {i a b k : ℕ} {at : Range ℕ} (l r m : ℕ) → at ≡ slot_range i → Held row_words p a (rows_at w l a) → Held row_words q b (rows_at w r b)
    → Tidied w v i 0
    → Back v u i ys
    → Fits row_words ys (Some k) (pairs m (take a (rows_of row_words p)) (take b (rows_of row_words q)))
    → Filled w u i k (pairs m (rows_at w l a) (rows_at w r b))
paired l r m s hp hq t b f =
    filled (record { here = b.here; out = outside_then t.out b.out }) (rw (hp.same, hq.same) at f)

-- where they are 16 or fewer, there is a count
pub pairs_some : (w : List ℕ) {p q : List ℕ} {a b : ℕ} (l r m : ℕ) (ys : List ℕ) (o : Option ℕ) → Held row_words p a (rows_at w l a)
    → Held row_words q b (rows_at w r b) → length (pairs m (rows_at w l a) (rows_at w r b)) ≤ most_packets
    → Fits row_words ys o (pairs m (take a (rows_of row_words p)) (take b (rows_of row_words q))) → IsSome o
pairs_some w l r m ys o hp hq few f = rw (fits_some row_words ys o _ (rw (hp.same, hq.same) at f) few).1 refl
