-- The step of a placed part: what its function asks of those that it calls, and that the words then hold what the rules' step makes.
use Prim.Native.Nat.{ℕ, zero, suc, ◌+◌, ◌-◌, ◌≤◌, ◌<◌}
use native.Mathlib.Omega.{arith}
use mathlib.Core.Path.{◌≡◌, refl, sym, ap, ◌∙◌}
use mathlib.Core.List.{List, [], ◌∷◌, ◌++◌, map}
use lib.ListN.{get_or}
use Rattle.rules.specs.Packets.{Packets, passes, put, keep, gathered}
use Rattle.rules.specs.Parts.{Part, Not, size}
use Rattle.rules.specs.Books.{most_depth}
use Rattle.rules.specs.declared.Head.{Head}
use Rattle.rules.specs.Codes.{operands_of}
use Rattle.rules.specs.Reading as reading
use Rattle.rules.specs.Reading.{head, after, body_start}
use Rattle.rules.specs.Working.{out}
use Rattle.rules.specs.States.{Spot, entered, done, both, negated, place, enter, live}
use Rattle.rows.specs.Chunks.{chunks}
use Rattle.links.specs.Nets.{times}
use Rattle.links.proofs.Times.{same_self, times_append, live_foot}
use Rattle.area.specs.declared.headers.Header.{Header}
use Rattle.std.specs.Option.{option_or}
use Rattle.std.specs.Prelude.{Option, Some}
use Rattle.area.specs.declared.headers.Phase.TheVariants.{Negated, Entered}
use Rattle.area.specs.declared.lists.Ready.TheVariants.{Nobody}
use Rattle.area.specs.Ready.{ready_of}
use Rattle.area.specs.Words.{positions, row_words, header_at, finished_head, rows_at, free_list, Headed}
use Rattle.area.specs.Words.{Filled}
use Rattle.steps.specs.Standing.{part_of, join_of, Runnable, Readable}
use Rattle.steps.specs.State.{two_ready, Laying, Laid, spot_at, part_at, set_at, entering, Turned, Entering}
use Rattle.steps.proofs.Heads.{head_reads, from_next}
use Rattle.steps.proofs.Standing.{part_drop, part_test, part_set, sum_below, not_below, table_below}
use Rattle.steps.proofs.Changes.{below_one, below_small, times_one, becomes}
use Rattle.steps.proofs.Laying.{live_some}
use Rattle.steps.proofs.Making.{over_made, over_turned, one_offer, two_turned, one_turned}

-- ---- drop, test and set: finished with what the part gives

module _ (s : List ℕ) (at code : ℕ) (e : code ≡ get_or s at 0) (S : Packets) where
  pub out_drop : code ≡ 1 → [] ≡ out (part_of s at) S
  unfolding out
  out_drop z = sym (ap (λ (p : Part). out p S) (part_drop s at (sym e ∙ z)))

  pub out_test : (f v : ℕ) → code ≡ 2 → f ≡ (head s at).field → v ≡ (head s at).value → keep (passes f v) S ≡ out (part_of s at) S
  unfolding out
  out_test f v z ef ev = sym (ap (λ (p : Part). out p S) (part_test s at (sym e ∙ z)) ∙ rw (ef, ev))

  pub out_set : (f v : ℕ) → code ≡ 3 → f ≡ (head s at).field → v ≡ (head s at).value → gathered (map (put f v) S) ≡ out (part_of s at) S
  unfolding out
  out_set f v z ef ev = sym (ap (λ (p : Part). out p S) (part_set s at (sym e ∙ z)) ∙ rw (ef, ev))

enter_leaf : (s : List ℕ) (at code : ℕ) (o : Spot) (S : Packets) → get_or s at 0 ≡ code → 0 < code → code < 4
    → enter o (part_of s at) S ≡ done (out (part_of s at) S)
unfolding enter out
enter_leaf s at zero o S e l u = absurd (omega arith)
enter_leaf s at (suc zero) o S e l u = rw (part_drop s at e)
enter_leaf s at (suc (suc zero)) o S e l u = rw (part_test s at e)
enter_leaf s at (suc (suc (suc zero))) o S e l u = rw (part_set s at e)
enter_leaf s at (suc (suc (suc (suc code)))) o S e l u = absurd (omega arith)

module _ {s w : List ℕ} {n i code : ℕ} (h : Entering s w n i code) where
  -- where the part below begins, by the header that was read
  pub from_at : {H : Header} {p : Head} → H ≡ header_at w i → p ≡ reading.head_at s H.place → operands_of code ≡ 0 → p.from ≡ H.place + 1
  from_at e q z = rw e (from_next h.stands (rw e at q) h.reads z)

  pub leaf_turned : {v u : List ℕ} {k : ℕ} → 0 < code → code < 4 → Filled w v i k (out (part_at s w i) (set_at w i))
      → Headed v u i (finished_head (header_at w i).up k)
      → (f : ℕ) → Turned s w u n n (i ∷ []) (header_at w i).up i (entering s w i f) Nobody
  leaf_turned {v} {u} {k} lo hi g b f =
      let X : Packets = out (part_at s w i) (set_at w i) in
      let e : done X ≡ entering s w i f = sym (enter_leaf s (header_at w i).place code (spot_at w i f) (set_at w i) h.reads lo hi) in
      rw e at (over_turned (over_made s w u n i (header_at w i).up _ X h.few refl g.count refl (becomes h.there g.slotted b)))

-- ---- p + q

module _ (s w : List ℕ) (n i : ℕ) (h : Entering s w n i 5) where
  abbrev at : ℕ
  at = (header_at w i).place

  abbrev q : ℕ
  q = after s most_depth (at + 1)

  abbrev count : ℕ
  count = (header_at w i).count

  sum_tree : (f : ℕ) → entering s w i f
      ≡ both entered (place (record { at = at + 1; fields = f }) (part_of s (at + 1)) (set_at w i))
      (place (record { at = q; fields = f }) (part_of s q) (set_at w i))
  unfolding enter
  sum_tree f =
      let b = sum_below h.stands h.reads in
      let e : at + (1 + size (part_of s (at + 1))) ≡ after s most_depth (at + 1) = omega (arith, b.1.ends) in
      rw (b.0, e)

  abbrev lives : ℕ → ℕ
  lives p = live (place (record { at = p; fields = 0 }) (part_of s p) (set_at w i))

  sum_live : lives (at + 1) + lives q ≤ n
  unfolding live
  sum_live = omega (arith, rw (sum_tree 0) at h.room)

  some_left : 1 ≤ lives (at + 1)
  some_left = live_some (place (record { at = at + 1; fields = 0 }) (part_of s (at + 1)) (set_at w i))

  some_right : 1 ≤ lives q
  some_right = live_some (place (record { at = q; fields = 0 }) (part_of s q) (set_at w i))

  pub sum_room : 2 ≤ n
  sum_room = omega (arith, sum_live, some_left, some_right)

  -- its first part stands in the book
  pub sum_first : Runnable s (at + 1)
  sum_first = (sum_below h.stands h.reads).1.left

  module _ (l r : ℕ) (top : free_list w n ≡ free_list w (n - 1) ++ (l ∷ []))
      (second : free_list w (n - 1) ≡ free_list w (n - 1 - 1) ++ (r ∷ [])) where
    next : free_list w (n - 1) ≡ free_list w (n - 2) ++ (r ∷ [])
    next = let e : n - 1 - 1 ≡ n - 2 = omega arith in rw e at second

    free_both : (k : ℕ) → times k (free_list w n) ≡ times k (free_list w (n - 2)) + (times k (r ∷ []) + times k (l ∷ []))
    free_both k =
        omega (
          arith,
          ap (times k) top,
          ap (times k) next,
          times_append k (free_list w (n - 1)) (l ∷ []),
          times_append k (free_list w (n - 2))
              (r ∷ []),
        )

    small : (k : ℕ) → 1 ≤ times k (free_list w n) → k < positions
    small k g = below_small k (omega (arith, h.once k))

    pub left_lays : Laying s w (n - 2) l (at + 1) i count
    left_lays = record {
      stands = sum_first;
      there = small l (omega (arith, free_both l, times_one l l, same_self l));
      few = omega (arith, h.few);
      once = λ k. omega (arith, free_both k, h.once k);
      room = omega (arith, sum_live, sum_room, some_right);
      source = h.there;
      slim = h.slim;
    }

    module _ (v₁ : List ℕ) (m₁ : ℕ) (a : Option ℕ) (L : (f : ℕ) → Laid s w v₁ (n - 2) m₁ l i (at + 1) i count a f) where
      own_apart : times i ((l ∷ []) ++ free_list w (n - 2)) ≡ 0
      own_apart =
          omega (arith, times_append i (l ∷ []) (free_list w (n - 2)), free_both i, h.once i, below_one i, times_one i i, same_self i)

      rows_kept : rows_at v₁ i count ≡ set_at w i
      rows_kept = ap (chunks row_words count) ((L 0).makes.else.slots i h.there own_apart)

      pub right_lays : Laying s v₁ m₁ r q i count
      right_lays = record {
        stands = (sum_below h.stands h.reads).1.right;
        there = small r (omega (arith, free_both r, times_one r r, same_self r));
        few = omega (arith, h.few, (L 0).makes.size);
        once = λ k. omega (arith, (L 0).makes.count k, free_both k, h.once k);
        room = rw rows_kept (omega (arith, sum_live, sum_room, (L 0).makes.size, live_foot (L 0).makes.net, ap live (L 0).makes.bare));
        source = h.there;
        slim = h.slim;
      }

      pub sum_turned : (v₂ v₃ : List ℕ) (m₂ : ℕ) (b : Option ℕ) → ((f : ℕ) → Laid s v₁ v₂ m₁ m₂ r i q i count b f)
          → Headed v₂ v₃ i (record { place = at; phase = Entered; count = 0; up = (header_at w i).up; left = l; right = r })
          → (f : ℕ) → Turned s w v₃ n m₂ (i ∷ []) (header_at w i).up i (entering s w i f) (two_ready i a b)
      unfolding join_of
      sum_turned v₂ v₃ m₂ b R H f =
          let T = two_turned h.there sum_room h.once top next (L f).makes (R f).makes H refl refl refl a b (L f).offer (R f).offer in
          rw (rows_kept, ← (sum_tree f)) at T

-- ---- not a

module _ (s w : List ℕ) (n i : ℕ) (h : Entering s w n i 4) where
  abbrev place_of : ℕ
  place_of = (header_at w i).place

  not_at : (part_at s w i ≡ Not (part_of s (place_of + 1))) × Runnable s (place_of + 1)
  not_at = not_below h.stands h.reads

  not_tree : (f : ℕ) → entering s w i f
      ≡ negated (set_at w i) (place (record { at = place_of + 1; fields = f }) (part_of s (place_of + 1)) (set_at w i))
  unfolding enter
  not_tree f = rw not_at.0

  not_live : live (place (record { at = place_of + 1; fields = 0 }) (part_of s (place_of + 1)) (set_at w i)) ≤ n
  unfolding live
  not_live = omega (arith, rw (not_tree 0) at h.room)

  pub not_room : 1 ≤ n
  not_room = omega (arith, not_live, live_some (place (record { at = place_of + 1; fields = 0 }) (part_of s (place_of + 1)) (set_at w i)))

  module _ (c : ℕ) (top : free_list w n ≡ free_list w (n - 1) ++ (c ∷ [])) where
    free_one : (k : ℕ) → times k (free_list w n) ≡ times k (free_list w (n - 1)) + times k (c ∷ [])
    free_one k = ap (times k) top ∙ times_append k (free_list w (n - 1)) (c ∷ [])

    pub not_lays : Laying s w (n - 1) c (place_of + 1) i (header_at w i).count
    not_lays = record {
      stands = not_at.1;
      there = below_small c (omega (arith, h.once c, free_one c, times_one c c, same_self c));
      few = omega (arith, h.few);
      once = λ k. omega (arith, free_one k, h.once k);
      room = omega (arith, not_live, not_room);
      source = h.there;
      slim = h.slim;
    }

    pub not_turned : (v u : List ℕ) (m : ℕ) (a z : Option ℕ) → ((f : ℕ) → Laid s w v (n - 1) m c i (place_of + 1) i (header_at w i).count a f)
        → Headed v u i
        (record { place = place_of; phase = Negated; count = (header_at w i).count; up = (header_at w i).up; left = c; right = 0 })
        → z ≡ option_or a (Some i)
        → (f : ℕ) → Turned s w u n m (i ∷ []) (header_at w i).up i (entering s w i f) (ready_of z)
    not_turned v u m a z L H e f =
        rw (← (not_tree f)) at (one_turned h.there not_room h.once top (L f).makes H (L f).offer e)

-- ---- table x

module _ (s w : List ℕ) (n i : ℕ) (h : Entering s w n i 8) (b : Readable s) (x start : ℕ) (ex : x ≡ get_or s ((header_at w i).place + 1) 0)
    (es : start ≡ body_start s x) where
  table_tree : (f : ℕ) → entering s w i f ≡ place (record { at = start; fields = f }) (part_of s start) (set_at w i)
  unfolding enter
  table_tree f = rw (es, ex, (table_below h.stands b h.reads).2)

  pub table_lays : Laying s w n i start i (header_at w i).count
  table_lays = record {
    stands = rw (es, ex) (table_below h.stands b h.reads).3;
    there = h.there;
    few = h.few;
    once = h.once;
    room = rw (table_tree 0) at h.room;
    source = h.there;
    slim = h.slim;
  }

  pub table_turned : (v : List ℕ) (m : ℕ) (r : Option ℕ) → ((f : ℕ) → Laid s w v n m i (header_at w i).up start i (header_at w i).count r f)
      → (f : ℕ) → Turned s w v n m (i ∷ []) (header_at w i).up i (entering s w i f) (ready_of r)
  table_turned v m r L f =
      let T : Turned s w v n m (i ∷ []) (header_at w i).up i (place (record {
        at =
            start;
        fields = f;
      }) (part_of s start) (set_at w i)) (ready_of r) =
      record { makes = (L f).makes; offer = one_offer (L f).offer } in
      rw (← (table_tree f)) at T

-- the table that a use names, by the header that was read
pub table_at : (s w : List ℕ) (i : ℕ) {H : Header} {p : Head} → H ≡ header_at w i → p ≡ reading.head_at s H.place
    → p.table ≡ (head s (header_at w i).place).table
table_at s w i e q = rw e at (head_reads s _ q).table
