-- A part laid out: a leaf in one position, a sequence in a position above its first part.
use Prim.Native.Nat.{ℕ, ◌+◌, ◌-◌, ◌≤◌, ◌<◌}
use native.Mathlib.Omega.{arith}
use mathlib.Core.Path.{◌≡◌, refl, sym, ap, ◌∙◌}
use mathlib.Core.Logic.{inl}
use mathlib.Core.List.{List, [], ◌∷◌, ◌++◌}
use lib.ListN.{get_or}
use Rattle.rules.specs.Packets.{Packets}
use Rattle.rules.specs.Parts.{size}
use Rattle.rules.specs.Books.{most_depth}
use Rattle.rules.specs.Reading.{after}
use Rattle.rules.specs.States.{Spot, Tree, placed, done, waiting, negated, both, place, live}
use Rattle.rows.specs.Chunks.{chunks}
use Rattle.rows.proofs.Chunks.{length_chunks}
use Rattle.steps.specs.Standing.{part_of, Runnable}
use Rattle.steps.proofs.Standing.{code_small, part_id, part_rests, seq_below}
use Rattle.links.specs.Nets.{Hold, waits, Net, rest, over, one, above, bare, root, foot, is_over, ready_of}
use Rattle.links.specs.Nets.{node_of, AllShow, times}
use Rattle.links.proofs.Times.{same_self, times_append}
use Rattle.steps.proofs.Changes.{below_one, below_small, times_one, headed_slots, headed_spares, headed_free, headed_ready}
use Rattle.steps.proofs.Changes.{spares_then, spares_wider, in_none}
use Rattle.area.specs.declared.headers.Header.{Header}
use Rattle.std.specs.Option.{option_or}
use Rattle.std.specs.Prelude.{Option, Some, None}
use Rattle.area.specs.declared.headers.Phase.TheVariants.{Placed, Finished, Waiting}
use Rattle.area.specs.Words.{positions, row_words, header_at, slot_at, rows_at, free_list}
use Rattle.area.specs.Words.{Headed}
use Rattle.steps.specs.State.{shown_by, shown, Showing, below, Becomes, Offers, ended, offers, Laying, Laid}

-- what a position shows, from its header and its packets
pub shows : (s w : List ℕ) (i up : ℕ) (h : Header) (x : Packets) → header_at w i ≡ h → rows_at w i h.count ≡ x → h.up ≡ up
    → Showing s w i up (shown s h x)
shows s w i up h x e r u = record { node = rw (e, r); above = rw (e, u) }

abbrev spot : ℕ → ℕ → Spot
spot at f = record { at = at; fields = f }

pub live_some : (t : Tree) → 1 ≤ live t
unfolding live
live_some (placed o p s) = omega arith
live_some (done s) = omega arith
live_some (waiting t o q) = omega arith
live_some (negated k t) = omega arith
live_some (both j t u) = omega arith

-- the part is finished at once
module _ (s w v : List ℕ) (n i up at src count f : ℕ) where
  rows_there : {h : Header} → h.count ≡ count → Becomes w v i h (rows_at w src count) → rows_at v i h.count ≡ rows_at w src count
  rows_there e b = rw e (rw (length_chunks row_words count (slot_at w src)) at b.rows)

  pub laid_id : get_or s at 0 ≡ 0 → n ≤ positions
      → Becomes w v i (record { place = at; phase = Finished; count = count; up = up; left = 0; right = 0 }) (rows_at w src count)
      → Laid s w v n n i up at src count None f
  unfolding place bare root AllShow foot is_over shown_by
  laid_id z l b = record {
    makes = record {
      net = over i (rows_at w src count);
      bare = rw (part_id s at (inl z));
      root = refl;
      held = shows s v i up _ (rows_at w src count) b.head (rows_there refl b) refl;
      count = λ k. rw (b.free n l);
      size = refl;
      else = spares_wider ((i ∷ []) ++ free_list w n) (λ k z. (in_none k (i ∷ []) (free_list w n) z).0) b.spares;
      ready = b.ready;
    };
    offer = ended refl refl;
  }

  -- it rests there
  pub laid_rest : Runnable s at → (get_or s at 0 ≡ 0 → ⊥) → (get_or s at 0 ≡ 6 → ⊥) → i < positions → n ≤ positions
      → Becomes w v i (record { place = at; phase = Placed; count = count; up = up; left = 0; right = 0 }) (rows_at w src count)
      → Laid s w v n n i up at src count (Some i) f
  unfolding bare root AllShow foot is_over ready_of shown_by
  laid_rest h n0 n6 li l b = record {
    makes = record {
      net = rest i (spot at f) (part_of s at) (rows_at w src count);
      bare = sym (part_rests s at (spot at f) (rows_at w src count) (code_small h) n0 n6);
      root = refl;
      held = shows s v i up _ (rows_at w src count) b.head (rows_there refl b) refl;
      count = λ k. rw (b.free n l);
      size = refl;
      else = spares_wider ((i ∷ []) ++ free_list w n) (λ k z. (in_none k (i ∷ []) (free_list w n) z).0) b.spares;
      ready = b.ready;
    };
    offer = offers i refl refl li refl;
  }

-- a position above one other is ready where that is finished
pub above_offer : (i : ℕ) (o : Hold) (x : Net) (r r' : Option ℕ) → i < positions → Offers x r → r' ≡ option_or r (Some i)
    → Offers (one i o x) r'
unfolding is_over ready_of
above_offer i o x r r' li (ended e n) d = offers i refl (rw e) li (rw n at d)
above_offer i o x r r' li (offers a e z l k) d = offers a refl (rw e z) l (rw k at d)

-- a sequence
module _ (s w : List ℕ) (n i at src count : ℕ) (h : Laying s w n i at src count) (six : get_or s at 0 ≡ 6) where
  seq_place : (f : ℕ) (x : Packets) → place (spot at f) (part_of s at) x
      ≡ waiting (place (spot (at + 1) f) (part_of s (at + 1)) x) (spot (after s most_depth (at + 1)) f)
      (part_of s (after s most_depth (at + 1)))
  unfolding place
  seq_place f x =
      let b = seq_below h.stands six in
      let e : at + (1 + size (part_of s (at + 1))) ≡ after s most_depth (at + 1) = omega (arith, b.1.ends) in
      rw (b.0, e)

  pub seq_room : 0 < n
  unfolding live
  seq_room =
      omega (
        arith,
        h.room,
        ap live (seq_place 0 (rows_at w src count)),
        live_some
            (place (spot (at + 1) 0) (part_of s (at + 1)) (rows_at w src count)),
      )

-- its first part stands in the book
pub seq_first : {s w : List ℕ} {n i at src count : ℕ} → Laying s w n i at src count → get_or s at 0 ≡ 6 → Runnable s (at + 1)
seq_first h six = (seq_below h.stands six).1.left

-- number c is taken for its first part
module _ (s w v : List ℕ) (n i up at src count c q : ℕ) (h : Laying s w n i at src count) (six : get_or s at 0 ≡ 6)
    (top : free_list w n ≡ free_list w (n - 1) ++ (c ∷ []))
    (next : q ≡ after s most_depth (at + 1))
    (head : Headed w v i (record { place = q; phase = Waiting; count = 0; up = up; left = c; right = 0 })) where
  room : 0 < n
  room = seq_room s w n i at src count h six

  rows_kept : rows_at v src count ≡ rows_at w src count
  rows_kept = ap (chunks row_words count) (headed_slots h.there head src)

  -- how often a number stands among the free ones
  free_times : (k : ℕ) → times k (free_list w n) ≡ times k (free_list w (n - 1)) + times k (c ∷ [])
  free_times k = ap (times k) top ∙ times_append k (free_list w (n - 1)) (c ∷ [])

  child : (k : ℕ) → times k (c ∷ []) + times k (free_list w (n - 1)) ≤ below k
  child k = omega (arith, free_times k, h.once k)

  own_apart : times i ((c ∷ []) ++ free_list v (n - 1)) ≡ 0
  own_apart =
      omega (
        arith,
        times_append i (c ∷ []) (free_list v (n - 1)),
        free_times i,
        h.once i,
        below_one i,
        times_one i i,
        same_self i,
        ap (times i) (headed_free h.there head (n - 1)),
      )

  pub child_small : c < positions
  child_small = below_small c (omega (arith, child c, times_one c c, same_self c))

  pub seq_next : Laying s v (n - 1) c (at + 1) src count
  unfolding live
  seq_next = record {
    stands = seq_first h six;
    there = child_small;
    few = omega (arith, h.few);
    once = λ k. rw (headed_free h.there head (n - 1)) (child k);
    room = rw rows_kept (omega (arith, room, h.room, ap live (seq_place s w n i at src count h six 0 (rows_at w src count))));
    source = h.source;
    slim = h.slim;
  }

  pub laid_seq : (u : List ℕ) (m : ℕ) (r r' : Option ℕ) (f : ℕ) → Laid s v u (n - 1) m c i (at + 1) src count r f
      → r' ≡ option_or r (Some i)
      → Laid s w u n m i up at src count r' f
  unfolding bare above root AllShow foot node_of times shown_by
  laid_seq u m r r' f d e =
      let M = d.makes in
      let x : Net = M.net in
      let fv = headed_free h.there head (n - 1) in
      let hd : header_at u i ≡ header_at v i = M.else.heads i h.there own_apart in
      record {
        makes = record {
          net = one i (waits (spot q f) (part_of s q)) x;
          bare = ap (λ (t : Tree). waiting t (spot q f) (part_of s q)) (M.bare ∙ ap (place (spot (at + 1) f) (part_of s (at + 1))) rows_kept)
              ∙ rw next (sym (seq_place s w n i at src count h six f (rows_at w src count)));
          root = refl;
          held = (rw M.root (shows s u i up _ (rows_at u i 0) (hd ∙ head.here) refl refl), M.held);
          count = λ k. omega (arith, M.count k, free_times k, ap (times k) fv);
          size = omega (arith, M.size, room);
          else = spares_then ((i ∷ []) ++ free_list w n)
              (λ k y. let g = in_none k (i ∷ []) (free_list w n) y in
              (g.0, omega (arith, times_append k (c ∷ []) (free_list v (n - 1)), free_times k, ap (times k) fv, g.1)))
              (headed_spares h.there head) M.else;
          ready = M.ready ∙ headed_ready h.there head;
        };
        offer = above_offer i (waits (spot q f) (part_of s q)) x r r' h.there d.offer e;
      }
