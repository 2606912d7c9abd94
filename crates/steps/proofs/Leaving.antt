-- The step of a position whose positions below are finished: what its function asks of those that it calls, and that the words then hold
-- what the rules' step makes.
use Prim.Native.Nat.{ℕ, ◌+◌, ◌≤◌, ◌<◌}
use native.Mathlib.Omega.{arith}
use mathlib.Core.Path.{◌≡◌, refl, ap, ◌∙◌}
use mathlib.Core.List.{List, [], ◌∷◌}
use lib.ListN.{length}
use Rattle.rules.specs.Packets.{Packets, keep, lacks, union, pairs, most_packets}
use Rattle.rules.specs.States.{done, join, place}
use Rattle.rows.specs.Chunks.{chunks}
use Rattle.links.specs.Nets.{same, times}
use Rattle.links.proofs.Times.{same_self, times_append}
use Rattle.std.specs.Prelude.{Option}
use Rattle.area.specs.declared.headers.Phase.{Phase}
use Rattle.area.specs.declared.headers.Phase.TheVariants.{Placed, Finished, Waiting, Negated, Entered, Split, Paired}
use Rattle.area.specs.declared.lists.Ready.TheVariants.{Nobody}
use Rattle.area.specs.Ready.{ready_of}
use Rattle.area.specs.Words.{positions, row_words, header_at, finished_head, slot_at, rows_at}
use Rattle.area.specs.Words.{free_list}
use Rattle.area.specs.Words.{Headed, Given, Filled, HasSet, Three}
use Rattle.rules.specs.Reading.{head}
use Rattle.steps.specs.Standing.{join_of}
use Rattle.steps.specs.State.{Makes, Laying, Laid, spot_at, part_at, set_at, Turned, Taking, joining, Joining, lacking, Lacking}
use Rattle.steps.proofs.Changes.{becomes, below_one, below_small, given_spares}
use Rattle.steps.proofs.Making.{rebase, after_given, over_made, over_turned, one_offer}

-- ---- p ; q where p is finished

module _ {s w : List ℕ} {n i c : ℕ} (h : Taking s w n i c) where
  pub next_small : (i < positions) × (c < positions)
  unfolding times
  next_small =
      (below_small i (omega (arith, h.once i, same_self i)), below_small c (omega (arith, h.once c, same_self c)))

  module _ {v : List ℕ} (g : Given w v n (header_at w i).left) where
    next_rows : rows_at v c (header_at w c).count ≡ set_at w c
    unfolding times
    next_rows = ap (chunks row_words (header_at w c).count) ((given_spares h.few g).slots c next_small.1 refl)

    pub next_lays : Laying s v (n + 1) i (header_at w i).place c (header_at w c).count
    unfolding times
    next_lays = record {
      stands = h.stands;
      there = next_small.0;
      few = omega (arith, h.few);
      once = λ k. rw (g.here, h.below) (omega (arith, times_append k (free_list w n) (c ∷ []), h.once k));
      room = rw next_rows (omega (arith, h.room));
      source = next_small.1;
      slim = h.slim;
    }

    pub next_turned : {u : List ℕ} {m : ℕ} {r : Option ℕ}
        → ((f : ℕ) → Laid s v u (n + 1) m i (header_at w i).up (header_at w i).place c (header_at w c).count r f)
        → (f : ℕ) → Turned s w u n m (i ∷ c ∷ []) (header_at w i).up i (place (spot_at w i f) (part_at s w i) (set_at w c)) (ready_of r)
    unfolding times after_given rebase
    next_turned {u} {m} {r} d f =
        let T : Turned s w u n m (i ∷ c ∷ []) (header_at w i).up i
        (place (spot_at w i f) (part_at s w i) (rows_at v c (header_at w c).count)) (ready_of r) =
        record { makes = after_given h.few g (d f).makes (λ k. rw h.below (omega arith)) refl; offer = one_offer (d f).offer } in
        rw next_rows at T

-- ---- a position finished with a set, after numbers were given back

finished : {s w v u : List ℕ} {n i up k : ℕ} {x : Packets} → i < positions → n ≤ positions → Filled w v i k x
    → Headed v u i (finished_head up k)
    → Makes s w u n n (i ∷ []) up i (done x)
finished {s} {w} {v} {u} {n} {i} {up} {k} {x} l m g b = over_made s w u n i up _ x m refl g.count refl (becomes l g.slotted b)

-- ---- not a where a is finished

module _ {w : List ℕ} {n i c : ℕ} (h : Lacking w n i c) where
  pub lack_small : (i < positions) × (c < positions)
  unfolding times
  lack_small =
      (below_small i (omega (arith, h.once i, same_self i)), below_small c (omega (arith, h.once c, same_self c)))

  module _ {v : List ℕ} (g : Given w v n (header_at w i).left) where
    still_own : slot_at v i ≡ slot_at w i
    unfolding times
    still_own = (given_spares h.few g).slots i lack_small.0 refl

    still_below : slot_at v c ≡ slot_at w c
    unfolding times
    still_below = (given_spares h.few g).slots c lack_small.1 refl

    pub lack_sets : HasSet v i (header_at w i).count × HasSet v c (header_at w c).count
    lack_sets = (
      record { there = lack_small.0; slim = h.slim_own; rises = rw still_own h.rises_own },
      record { there = lack_small.1; slim = h.slim_below; rises = rw still_below h.rises_below },
    )

    pub lack_turned : {v₁ u : List ℕ} {k : ℕ}
        → Filled v v₁ i k (keep (lacks (rows_at v c (header_at w c).count)) (rows_at v i (header_at w i).count))
        → Headed v₁ u i (finished_head (header_at w i).up k)
        → (s : List ℕ) → Turned s w u n (n + 1) (i ∷ c ∷ []) (header_at w i).up i (done (lacking w i c)) Nobody
    unfolding times
    lack_turned {v₁} {u} {k} f b s =
        let f' : Filled v v₁ i k (lacking w i c) = rw (still_own, still_below) at f in
        over_turned (after_given {a = i ∷ []} h.few g (finished lack_small.0 (omega (arith, h.few)) f' b)
        (λ z. rw h.below (omega arith)) refl)

-- ---- two finished positions joined

pub join_paired : (s : List ℕ) (at : ℕ) (S T : Packets) → join (join_of s Paired at) S T ≡ pairs (head s at).right S T
unfolding join join_of
join_paired s at S T = refl

pub join_other : (s : List ℕ) (phase : Phase) (at : ℕ) (S T : Packets) → (phase ≡ Paired → ⊥) → join (join_of s phase at) S T ≡ union S T
unfolding join join_of
join_other s Placed at S T n = refl
join_other s Finished at S T n = refl
join_other s Waiting at S T n = refl
join_other s Negated at S T n = refl
join_other s Entered at S T n = refl
join_other s Split at S T n = refl
join_other s Paired at S T n = absurd (n refl)

module _ {s w : List ℕ} {n i l r : ℕ} (h : Joining s w n i l r) where
  pub both_small : (i < positions) × (l < positions) × (r < positions)
  unfolding times
  both_small = (
    below_small i (omega (arith, h.once i, same_self i)),
    below_small l (omega (arith, h.once l, same_self l)),
    below_small r (omega (arith, h.once r, same_self r)),
  )

  -- once the two numbers are given back
  module _ {v₁ v₂ : List ℕ} (g₁ : Given w v₁ n (header_at w i).left) (g₂ : Given v₁ v₂ (n + 1) (header_at w i).right) where
    both_slots : (k : ℕ) → k < positions → slot_at v₂ k ≡ slot_at w k
    unfolding times
    both_slots k d =
        (given_spares (omega (arith, h.few)) g₂).slots k d refl ∙ (given_spares (omega (arith, h.few)) g₁).slots k d refl

    left_set : rows_at v₂ l (header_at w l).count ≡ set_at w l
    left_set = ap (chunks row_words (header_at w l).count) (both_slots l both_small.1)

    right_set : rows_at v₂ r (header_at w r).count ≡ set_at w r
    right_set = ap (chunks row_words (header_at w r).count) (both_slots r both_small.2)

    pub both_three : Three v₂ i l r (header_at w l).count (header_at w r).count
    unfolding times
    both_three =
        record {
          first = record { there = both_small.1; slim = h.slim_first; rises = rw left_set h.rises_first };
          second = record { there = both_small.2; slim = h.slim_second; rises = rw right_set h.rises_second };
          there = both_small.0;
          left = λ z. omega (arith, h.once i, below_one i, same_self i, ap (same i) z);
          right = λ z. omega (arith, h.once i, below_one i, same_self i, ap (same i) z);
        }

    abbrev joined : Packets
    joined = join (join_of s (header_at w i).phase (header_at w i).place) (rows_at v₂ l (header_at w l).count)
        (rows_at v₂ r (header_at w r).count)

    both_joins : joined ≡ joining s w i l r
    both_joins = rw (left_set, right_set)

    pub both_slim : length joined ≤ most_packets
    both_slim = rw both_joins h.slim

    module _ {v₃ : List ℕ} {c : ℕ} (f : Filled v₂ v₃ i c joined) where
      pub both_turned : {v₄ : List ℕ} → Headed v₃ v₄ i (finished_head (header_at w i).up c)
          → Turned s w v₄ n (n + 2) (i ∷ l ∷ r ∷ []) (header_at w i).up i (done (joining s w i l r)) Nobody
      unfolding times
      both_turned {v₄} k =
          let z : n + 1 + 1 ≡ n + 2 = omega arith in
          let M : Makes s v₂ v₄ (n + 2) (n + 2) (i ∷ []) (header_at w i).up i (done joined) = finished both_small.0 h.few f k in
          let M₂ : Makes s v₁ v₄ (n + 1) (n + 2) (i ∷ r ∷ []) (header_at w i).up i (done joined) =
          after_given {a = i ∷ []} (omega (arith, h.few)) g₂ (rw z M) (λ k. rw h.second (omega arith)) refl in
          let M₁ : Makes s w v₄ n (n + 2) (i ∷ l ∷ r ∷ []) (header_at w i).up i (done joined) =
          after_given {a = i ∷ r ∷ []} (omega (arith, h.few)) g₁ M₂ (λ k. rw h.first (omega arith)) refl in
          rw both_joins at (over_turned M₁)
