-- A slot lent as an array of rows and given back: what it holds then, and that all other words stay.
use Prim.Native.Nat.{ℕ, ◌+◌, ◌-◌, ◌*◌, ◌≤◌, ◌<◌}
use native.Mathlib.Omega.{arith}
use native.Mathlib.Numerals.{add-one}
use mathlib.Core.Path.{◌≡◌, refl, sym, ap, ◌∙◌}
use mathlib.Core.Bool.{true, false}
use mathlib.Core.List.{List, [], ◌∷◌, ◌++◌, map, append_assoc}
use lib.ListN.{length, take, drop, get_or, replicate, length-take, length-drop, drop_of_length-le}
use lib.Seq.{take-suc, paste, drop-drop, take_at, drop_at, take_all, get_or-drop, length-take-le, set_out}
use Rattle.rules.specs.Packets.{Packet, Packets, passes, put, insert, union, keep, gathered, most_packets}
use Rattle.rows.specs.Chunks.{chunks, rows_of, blank, Packed, Held, Stored, Cleared}
use Rattle.rows.proofs.Chunks.{length_chunks, length_rows_lem, get_or_chunks, chunks_add}
use Rattle.rows.proofs.Clearing.{trimmed}
use Rattle.rows.proofs.Holding.{held_count}
use Rattle.sets.proofs.Rows.{set_take}
use Rattle.std.specs.declared.ops.Range.{Range}
use Rattle.area.specs.Words.{positions, row_words, slot_words, slot_from, slot_range, area_words, part, slot_at, rows_at, packet_at, OutsideSlot}
use Rattle.area.specs.Words.{Slotted}
use Rattle.area.specs.Words.{Rowed, Filled, HasSet, Tidied}
use Rattle.area.proofs.Words.{outside_same, outside_then, outside_paste, part_out, slots_apart}

-- ---- the words lent, and given back as ys

abbrev pub lent : List ℕ → Range ℕ → List ℕ
lent w p = take (p.end - p.start) (drop p.start w)

abbrev given : List ℕ → Range ℕ → List ℕ → List ℕ
given w p ys = take p.start w ++ (ys ++ drop (p.end - p.start) (drop p.start w))

pub slot_size : (w : List ℕ) (i : ℕ) → i < positions → length w ≡ area_words → length (slot_at w i) ≡ slot_words
unfolding part
slot_size w i h room = length-take-le slot_words (drop (slot_from i) w) (omega (arith, length-drop (slot_from i) w))

pub record Back (w v : List ℕ) (i : ℕ) (ys : List ℕ) : Type 0 where
  pub here : slot_at v i ≡ ys
  pub out : OutsideSlot w v i

size : (i : ℕ) → slot_from i + slot_words - slot_from i ≡ slot_words
size i = omega arith

module _ (i : ℕ) {p : Range ℕ} (e : p ≡ slot_range i) where
  pub lent_slot : (w : List ℕ) → lent w p ≡ slot_at w i
  unfolding part
  lent_slot w = rw (e, size i) refl

  pub lent_packet : (w : List ℕ) (k : ℕ) → get_or (rows_of row_words (lent w p)) k [] ≡ packet_at w i k
  lent_packet w k = ap (λ (z : List ℕ). get_or (rows_of row_words z) k []) (lent_slot w)

  module _ (w ys : List ℕ) (h : i < positions) (room : length w ≡ area_words) (l : length ys ≡ length (lent w p)) where
    same_size : length ys ≡ slot_words
    same_size = l ∙ ap length (lent_slot w) ∙ slot_size w i h room

    back_paste : given w p ys ≡ paste w (slot_from i) ys slot_words
    back_paste = rw (e, size i, drop-drop slot_words (slot_from i) w, take_all slot_words ys (omega (arith, same_size)))
        (sym (append_assoc (take (slot_from i) w) ys (drop (slot_from i + slot_words) w)))

    pub back : Back w (given w p ys) i ys
    unfolding part
    back =
        let f : length (take (slot_from i) w) ≡ slot_from i = length-take-le (slot_from i) w (omega arith) in
        let rest : List ℕ = drop slot_words (drop (slot_from i) w) in
        record {
          here = rw (e, size i, drop_at (take (slot_from i) w) (ys ++ rest) (slot_from i) f) (take_at ys rest slot_words same_size);
          out = rw back_paste (outside_paste w (slot_from i) ys slot_words (omega arith) (omega (arith, same_size)));
        }

-- ---- the rows of a slot

pub front_rows : (v : List ℕ) (n : ℕ) → n ≤ most_packets → take n (rows_of row_words v) ≡ chunks row_words n v
front_rows v n h =
    let e : 16 ≡ n + (16 - n) = omega arith in
    ap (λ (m : ℕ). take n (chunks row_words m v)) e ∙ ap (take n) (chunks_add row_words n (16 - n) v)
    ∙ take_at (chunks row_words n v) (chunks row_words (16 - n) (drop (n * row_words) v)) n (length_chunks row_words n v)

-- slot i has become an array that holds x
module _ {w v ys : List ℕ} {i : ℕ} (b : Back w v i ys) where
  pub filled : {k : ℕ} {x : Packets} → Held row_words ys k x → Filled w v i k x
  filled {k} {x} g =
      let e = held_count g in
      record {
        slotted = record { here = rw (← e, b.here) (sym (front_rows ys k g.packed.room) ∙ g.same); out = b.out };
        count = e;
        slim = g.packed.room;
      }

  -- row k of it is another
  pub rowed : {k : ℕ} {p q : Packet} {at : Range ℕ} → at ≡ slot_range i → k < most_packets → q ≡ p → Stored row_words ys (lent w at) k q → Rowed w v i k p
  rowed {k} {p} {q} {at} s l e g =
      let R : Packets = rows_of row_words (lent w at) in
      record {
        here = rw b.here (sym (front_rows ys (k + 1) (omega arith)) ∙ ap (take (k + 1)) g.rows
            ∙ set_take R k q (omega (arith, length_rows_lem row_words (lent w at)))
            ∙ rw (e, front_rows (lent w at) k (omega arith), lent_slot i s w) refl);
        out = b.out;
      }

  -- its rows from n on are zeros
  pub tidied : {n : ℕ} {at : Range ℕ} → at ≡ slot_range i → HasSet w i n → Cleared row_words ys (lent w at) n most_packets → Tidied w v i n
  tidied {n} {at} s h c =
      let R : Packets = rows_of row_words (lent w at) in
      let z : drop 16 R ≡ replicate (16 - 16) (blank row_words) =
      drop_of_length-le R {i = 16} (omega (arith, length_rows_lem row_words (lent w at))) in
      let f : take n R ≡ rows_at w i n = front_rows (lent w at) n h.slim ∙ ap (chunks row_words n) (lent_slot i s w) in
      record { held = rw b.here (trimmed c h.slim (omega arith) z f h.rises); out = b.out }

pub lent_packed : {w v : List ℕ} {i n : ℕ} {at : Range ℕ} → at ≡ slot_range i → Tidied w v i n → Packed row_words (lent v at) n
lent_packed {v = v} {i} s t = rw (lent_slot i s v) t.held.packed

-- what is made of a set that is tidied first
pub tidied_then : {w v u ys : List ℕ} {i n k : ℕ} {at : Range ℕ} (F : Packets → Packets) → at ≡ slot_range i → Tidied w v i n → Back v u i ys
    → Held row_words ys k (F (take n (rows_of row_words (lent v at)))) → Filled w u i k (F (rows_at w i n))
tidied_then {w} {v} {i = i} {n} {at = at} F s t b g =
    let e : take n (rows_of row_words (lent v at)) ≡ rows_at w i n =
    ap (λ (z : List ℕ). take n (rows_of row_words z)) (lent_slot i s v) ∙ t.held.same in
    filled (record { here = b.here; out = outside_then t.out b.out }) (rw e at g)

-- ---- one packet

pub one_packet : (w : List ℕ) (i : ℕ) → rows_at w i 1 ≡ packet_at w i 0 ∷ []
unfolding chunks
one_packet w i = refl

pub emptied : (w : List ℕ) (i : ℕ) → Filled w w i 0 []
unfolding chunks
emptied w i = record { slotted = record { here = refl; out = outside_same w _ _ }; count = refl; slim = omega arith }

pub kept_one : (w : List ℕ) (i f x : ℕ) → passes f x (packet_at w i 0) ≡ true → Filled w w i 1 (keep (passes f x) (rows_at w i 1))
unfolding keep
kept_one w i f x e = rw (one_packet w i, e)
    (record { slotted = record { here = one_packet w i; out = outside_same w _ _ }; count = refl; slim = omega arith })

pub dropped_one : (w : List ℕ) (i f x : ℕ) → passes f x (packet_at w i 0) ≡ false → Filled w w i 0 (keep (passes f x) (rows_at w i 1))
unfolding keep chunks
dropped_one w i f x e = rw e (emptied w i)

pub set_one : {w v : List ℕ} {i : ℕ} (f x : ℕ) → Rowed w v i 0 (put f x (packet_at w i 0))
    → Filled w v i 1 (gathered (map (put f x) (rows_at w i 1)))
unfolding union insert chunks
set_one f x r = record { slotted = record { here = r.here; out = r.out }; count = refl; slim = omega arith }

pub set_none : (w : List ℕ) (i f x : ℕ) → row_words ≤ f → Rowed w w i 0 (put f x (packet_at w i 0))
unfolding put chunks
set_none w i f x h =
    let l : length (packet_at w i 0) ≤ f = omega (arith, length-take row_words (slot_at w i)) in
    record { here = rw (set_out (packet_at w i 0) f x l) refl; out = outside_same w _ _ }

-- ---- packets copied one by one

-- the first k packets of slot j are those of slot i from m on
pub record Copying (w : List ℕ) (i m j n : ℕ) (v : List ℕ) (k : ℕ) : Type 0 where
  pub here : rows_at v j k ≡ take k (drop m (rows_at w i n))
  pub out : OutsideSlot w v j

pub packet_at_lem : (w : List ℕ) (i m n k : ℕ) → n ≤ most_packets → m + k < n → get_or (drop m (rows_at w i n)) k [] ≡ packet_at w i (m + k)
packet_at_lem w i m n k h l =
    get_or-drop m (rows_at w i n) k [] ∙ get_or_chunks row_words n (m + k) (slot_at w i) l ∙ sym
    (get_or_chunks row_words 16 (m + k) (slot_at w i) (omega arith))

length_rest : (w : List ℕ) (i m n : ℕ) → length (drop m (rows_at w i n)) ≡ n - m
length_rest w i m n = length-drop m (rows_at w i n) ∙ rw (length_chunks row_words n (slot_at w i)) refl

pub copying_start : (w : List ℕ) (i m j n : ℕ) → Copying w i m j n w 0
unfolding chunks
copying_start w i m j n = record { here = refl; out = outside_same w _ _ }

pub copying_next : {w v u : List ℕ} {i m j n k : ℕ} → (i ≡ j → ⊥) → n ≤ most_packets → m + k < n → Copying w i m j n v k
    → Rowed v u j k (packet_at v i (m + k)) → Copying w i m j n u (k + 1)
copying_next {w} {v} {u} {i} {m} {j} {n} {k} d f l c r =
    let e : slot_at v i ≡ slot_at w i = part_out c.out (slot_from i) slot_words (slots_apart j i d) in
    record {
      here = r.here ∙ rw (c.here, e, ← (packet_at_lem w i m n k f l), add-one k)
          (sym (take-suc (drop m (rows_at w i n)) k [] (omega (arith, length_rest w i m n))));
      out = outside_then c.out r.out;
    }

pub copying_end : {w v : List ℕ} {i m j n : ℕ} → Copying w i m j n v (n - m) → Slotted w v j (drop m (rows_at w i n))
copying_end {w} {v} {i} {m} {j} {n} c =
    let e : length (drop m (rows_at w i n)) ≡ n - m = length_rest w i m n in
    record { here = rw e (c.here ∙ take_all (n - m) (drop m (rows_at w i n)) (omega arith)); out = c.out }

-- ---- nothing to copy

pub slotted_same : (w : List ℕ) (i n : ℕ) → Slotted w w i (rows_at w i n)
slotted_same w i n = record { here = rw (length_chunks row_words n (slot_at w i)) refl; out = outside_same w _ _ }
