-- p beside q entered: on no packet, on one, on more.
use Prim.Native.Nat.{ℕ, zero, suc, ◌+◌, ◌-◌, ◌≤◌, ◌<◌}
use native.Mathlib.Omega.{arith}
use mathlib.Core.Path.{◌≡◌, refl, sym, ap, ◌∙◌}
use mathlib.Core.List.{List, [], ◌∷◌, ◌++◌}
use lib.ListN.{length, take, drop, get_or, length-drop}
use Rattle.rules.specs.declared.Head.{Head}
use Rattle.rules.specs.Masks.{less}
use Rattle.rules.specs.Packets.{Packet, Packets, without}
use Rattle.rules.specs.Parts.{Part, Beside, size}
use Rattle.rules.specs.Books.{most_depth}
use Rattle.rules.specs.Reading.{after}
use Rattle.rules.specs.Reading as reading
use Rattle.rules.specs.States.{Spot, Tree, placed, done, both, split, paired, place, enter, live}
use Rattle.rules.proofs.ReadingLaws.{head_is}
use Rattle.rows.specs.Chunks.{chunks, rows_of}
use Rattle.rows.proofs.Chunks.{length_chunks}
use Rattle.links.specs.Nets.{rest, bare, root, foot, is_over, ready_of, AllShow, same, times}
use Rattle.links.proofs.Times.{same_self, same_other, times_append, live_foot}
use Rattle.area.specs.declared.headers.Header.{Header}
use Rattle.std.specs.Prelude.{Option, Some}
use Rattle.area.specs.declared.headers.Phase.TheVariants.{Placed, Split, Paired}
use Rattle.area.specs.declared.lists.Ready.TheVariants.{Nobody, Pair}
use Rattle.area.specs.Words.{positions, row_words, header_at, finished_head, slot_at, rows_at}
use Rattle.area.specs.Words.{packet_at, free_list, Headed, Slotted, Rowed}
use Rattle.area.proofs.Lending.{emptied}
use Rattle.steps.specs.Standing.{part_of, join_of, Runnable}
use Rattle.steps.specs.State.{two_ready, shown_by, Spares, Becomes, Makes, Offers, offers, Laying, Laid, entering, Turned, Entering}
use Rattle.steps.proofs.Standing.{inside, beside_below}
use Rattle.steps.proofs.Changes.{becomes, below_one, below_small, times_one, slotted_slots, slotted_spares, slotted_free, slotted_ready}
use Rattle.steps.proofs.Changes.{spares_then, spares_wider, in_none}
use Rattle.steps.proofs.Laying.{shows, live_some}
use Rattle.steps.proofs.Making.{rebase, over_made, over_turned, two_turned}
use Rattle.machine.specs.Steps.{Entered}
use Rattle.machine.proofs.Positions.{place_live}

-- a packet without some fields, put by itself into a slot
pub side_put : {w v : List ℕ} {j m k : ℕ} (i : ℕ) → m ≡ k → Rowed w v j 0 (without m (packet_at w i 0))
    → Slotted w v j (without k (packet_at w i 0) ∷ [])
unfolding chunks
side_put i e r = rw (← e) (record { here = r.here; out = r.out })

-- ---- a part placed as it is

pub rest_made : (s w v : List ℕ) (n i up at c f : ℕ) (x : Packets) → i < positions → n ≤ positions → c ≡ length x
    → Becomes w v i (record { place = at; phase = Placed; count = c; up = up; left = 0; right = 0 }) x
    → (M : Makes s w v n n (i ∷ []) up i (placed (record { at = at; fields = f }) (part_of s at) x)) × Offers M.net (Some i)
unfolding bare root AllShow foot is_over ready_of shown_by
rest_made s w v n i up at c f x li l ec b = (
  record {
    net = rest i (record { at = at; fields = f }) (part_of s at) x;
    bare = refl;
    root = refl;
    held = shows s v i up _ x b.head (rw ec b.rows) refl;
    count = λ k. rw (b.free n l);
    size = refl;
    else = spares_wider ((i ∷ []) ++ free_list w n) (λ k z. (in_none k (i ∷ []) (free_list w n) z).0) b.spares;
    ready = b.ready;
  },
  offers i refl refl li refl,
)

-- ---- what is entered

enter_more : (o : Spot) (wp wq : ℕ) (p q : Part) (S : Packets) → 2 ≤ length S
    → enter o (Beside wp wq p q) S ≡ both split (placed o (Beside wp wq p q) (take 1 S)) (placed o (Beside wp wq p q) (drop 1 S))
unfolding enter
enter_more o wp wq p q [] e = absurd (omega arith)
enter_more o wp wq p q (x ∷ []) e = absurd (omega arith)
enter_more o wp wq p q (x ∷ (y ∷ S)) e = refl

take_first : (n : ℕ) (v : List ℕ) → 1 ≤ n → take 1 (chunks row_words n v) ≡ chunks row_words 1 v
unfolding chunks
take_first zero v h = absurd (omega arith)
take_first (suc n) v h = refl

-- what the head of a concurrent part at a place says: the fields that its parts write, and where the first begins
pub record BesideHead (s : List ℕ) (at : ℕ) (o : Head) : Type 0 where
  pub left : o.left ≡ get_or s (at + 1) 0
  pub right : o.right ≡ get_or s (at + 2) 0
  pub from : o.from ≡ at + 3

module _ {s w : List ℕ} {n i : ℕ} (h : Entering s w n i 7) where
  abbrev pl : ℕ
  pl = (header_at w i).place

  abbrev count : ℕ
  count = (header_at w i).count

  abbrev wp : ℕ
  wp = get_or s (pl + 1) 0

  abbrev wq : ℕ
  wq = get_or s (pl + 2) 0

  abbrev q : ℕ
  q = after s most_depth (pl + 3)

  abbrev whole : Part
  whole = Beside wp wq (part_of s (pl + 3)) (part_of s q)

  is_whole : part_of s pl ≡ whole
  is_whole = (beside_below h.stands h.reads).0

  -- its head, read where the position says that it stands
  pub beside_head : {p : Header} {o : Head} → p ≡ header_at w i → o ≡ reading.head_at s p.place → BesideHead s pl o
  beside_head e d =
      let k = (rw e at d) ∙ head_is s pl (inside h.stands) in
      record {
        left = ap (λ (x : Head). x.left) k;
        right = ap (λ (x : Head). x.right) k;
        from = ap (λ (x : Head). x.from) k ∙ rw h.reads (omega arith);
      }

  -- its first part stands in the book
  pub beside_first : Runnable s (pl + 3)
  beside_first = (beside_below h.stands h.reads).1.left

  abbrev spot : ℕ → ℕ → Spot
  spot at f = record { at = at; fields = f }

  entering_is : (f : ℕ) (t : Tree) → enter (spot pl f) whole (rows_at w i count) ≡ t → entering s w i f ≡ t
  entering_is f t e = rw is_whole e

  -- ---- no packet

  pub none_entered : {v : List ℕ} → count ≡ 0 → Headed w v i (finished_head (header_at w i).up 0) → Entered s w v n n i Nobody
  unfolding enter chunks
  none_entered {v} z H f =
      let e : entering s w i f ≡ done [] = entering_is f (done []) (rw z refl) in
      rw e (over_turned (over_made s w v n i _ _ [] h.few refl refl refl (becomes h.there (emptied w i).slotted H)))

  -- ---- one packet: what its two sides need

  module _ (one : count ≡ 1) where
    abbrev X : Packet
    X = packet_at w i 0

    abbrev sideP : ℕ → Tree
    sideP f = place (spot (pl + 3) f) (part_of s (pl + 3)) (without wq X ∷ [])

    abbrev sideQ : ℕ → Tree
    sideQ f = place (spot q f) (part_of s q) (without wp X ∷ [])

    sides_tree : (f : ℕ) → entering s w i f ≡ both (paired wp wq) (sideP (less f wq)) (sideQ (less f wp))
    unfolding enter chunks
    sides_tree f =
        let e : pl + (3 + size (part_of s (pl + 3))) ≡ q = omega (arith, (beside_below h.stands h.reads).1.ends) in
        entering_is f _ (rw one (rw e))

    sides_live : live (sideP 0) + live (sideQ 0) ≤ n
    unfolding live
    sides_live =
        omega (
          arith,
          h.room,
          ap live (sides_tree 0),
          place_live (part_of s (pl + 3)) (spot (pl + 3) 0) (spot (pl + 3) (less 0 wq)) (without wq X ∷ []),
          place_live (part_of s q) (spot q 0) (spot q (less 0 wp)) (without wp X ∷ []),
        )

    pub sides_room : 2 ≤ n
    sides_room = omega (arith, sides_live, live_some (sideP 0), live_some (sideQ 0))

  -- ---- more packets: the lowest and the rest

  module _ (many : 2 ≤ count) where
    split_tree : (f : ℕ) → entering s w i f
        ≡ both split (placed (spot pl f) (part_of s pl) (rows_at w i 1)) (placed (spot pl f) (part_of s pl) (drop 1 (rows_at w i count)))
    split_tree f =
        entering_is f _ (enter_more (spot pl f) wp wq (part_of s (pl + 3)) (part_of s q) (rows_at w i count)
        (omega (arith, length_chunks row_words count (slot_at w i)))
        ∙ rw (take_first count (slot_at w i) (omega arith), is_whole))

    pub split_room : 2 ≤ n
    unfolding live
    split_room = omega (arith, h.room, ap live (split_tree 0))

  -- ---- two numbers taken

  module _ (l r : ℕ) (some : 2 ≤ n) (top : free_list w n ≡ free_list w (n - 1) ++ (l ∷ []))
      (second : free_list w (n - 1) ≡ free_list w (n - 1 - 1) ++ (r ∷ [])) where
    next : free_list w (n - 1) ≡ free_list w (n - 2) ++ (r ∷ [])
    next = let e : n - 1 - 1 ≡ n - 2 = omega arith in rw e at second

    free_both : (k : ℕ) → times k (free_list w n) ≡ times k (free_list w (n - 2)) + (times k (r ∷ []) + times k (l ∷ []))
    free_both k =
        omega (
          arith,
          ap (times k) top,
          ap (times k) next,
          times_append k (free_list w (n - 1)) (l ∷ []),
          times_append k (free_list w (n - 2)) (r ∷ []),
        )

    small : (k : ℕ) → 1 ≤ times k (free_list w n) → k < positions
    small k g = below_small k (omega (arith, h.once k))

    pub first_small : l < positions
    first_small = small l (omega (arith, free_both l, times_one l l, same_self l))

    pub second_small : r < positions
    second_small = small r (omega (arith, free_both r, times_one r r, same_self r))

    first_own : i ≡ l → ⊥
    first_own e =
        omega (arith, h.once i, free_both i, below_one i, times_one i i, same_self i, times_one i l, ap (same i) (sym e))

    pub second_own : i ≡ r → ⊥
    second_own e =
        omega (arith, h.once i, free_both i, below_one i, times_one i i, same_self i, times_one i r, ap (same i) (sym e))

    two_apart : l ≡ r → ⊥
    two_apart e = omega (arith, h.once l, free_both l, below_one l, times_one l l, same_self l, times_one l r, ap (same l) (sym e))

    -- ---- one packet: its two sides placed

    module _ (one : count ≡ 1) (v₁ v₂ : List ℕ) (p₁ : Slotted w v₁ l (without wq (packet_at w i 0) ∷ []))
        (p₂ : Slotted v₁ v₂ r (without wp (packet_at v₁ i 0) ∷ [])) where
      free_kept : (k : ℕ) → k ≤ positions → free_list v₂ k ≡ free_list w k
      free_kept k g = slotted_free second_small p₂ k g ∙ slotted_free first_small p₁ k g

      set_first : rows_at v₂ l 1 ≡ without wq (X one) ∷ []
      set_first = ap (chunks row_words 1) (slotted_slots second_small p₂ l two_apart) ∙ p₁.here

      set_second : rows_at v₂ r 1 ≡ without wp (X one) ∷ []
      set_second =
          p₂.here ∙ ap (λ (y : List ℕ). without wp (get_or (rows_of row_words y) 0 []) ∷ []) (slotted_slots first_small p₁ i first_own)

      pub first_lays : Laying s v₂ (n - 2) l (pl + 3) l 1
      first_lays = record {
        stands = beside_first;
        there = first_small;
        few = omega (arith, h.few);
        once = λ k. rw (free_kept (n - 2) (omega (arith, h.few))) (omega (arith, free_both k, h.once k));
        room = rw set_first (omega (arith, sides_live one, some, live_some (sideQ one 0)));
        source = first_small;
        slim = omega arith;
      }

      module _ (v₃ : List ℕ) (m : ℕ) (a : Option ℕ) (L : (f : ℕ) → Laid s v₂ v₃ (n - 2) m l i (pl + 3) l 1 a f) where
        second_apart : times r ((l ∷ []) ++ free_list v₂ (n - 2)) ≡ 0
        second_apart =
            omega (
              arith,
              times_append r (l ∷ []) (free_list v₂ (n - 2)),
              ap (times r) (free_kept (n - 2) (omega (arith, h.few))),
              free_both r,
              h.once r,
              below_one r,
              times_one r r,
              same_self r,
            )

        still_second : rows_at v₃ r 1 ≡ without wp (X one) ∷ []
        still_second = ap (chunks row_words 1) ((L 0).makes.else.slots r second_small second_apart) ∙ set_second

        pub second_lays : Laying s v₃ m r q r 1
        second_lays = record {
          stands = (beside_below h.stands h.reads).1.right;
          there = second_small;
          few = omega (arith, h.few, (L 0).makes.size);
          once = λ k. omega (arith, (L 0).makes.count k, free_both k, h.once k, ap (times k) (free_kept (n - 2) (omega (arith, h.few))));
          room = rw still_second (omega (
            arith,
            sides_live one,
            some,
            (L 0).makes.size,
            live_foot (L 0).makes.net,
            ap live ((L 0).makes.bare ∙ ap (place (spot (pl + 3) 0) (part_of s (pl + 3))) set_first),
          ));
          source = second_small;
          slim = omega arith;
        }

        pub sides_entered : (v₄ v₅ : List ℕ) (m' : ℕ) (b : Option ℕ) → ((f : ℕ) → Laid s v₃ v₄ m m' r i q r 1 b f)
            → Headed v₄ v₅ i (record { place = pl; phase = Paired; count = 0; up = (header_at w i).up; left = l; right = r })
            → Entered s w v₅ n m' i (two_ready i a b)
        unfolding join_of rebase times
        sides_entered v₄ v₅ m' b R H f =
            let k₀ = free_kept n h.few in
            let k₁ = free_kept (n - 1) (omega (arith, h.few)) in
            let k₂ = free_kept (n - 2) (omega (arith, h.few)) in
            let T = two_turned h.there some (rw k₀ h.once) (rw (k₀, k₁) top) (rw (k₁, k₂) next) (L (less f wq)).makes
            (R (less f wp)).makes H refl refl refl a b (L (less f wq)).offer (R (less f wp)).offer in
            let S : Spares w v₂ (l ∷ r ∷ []) =
            spares_then (l ∷ r ∷ []) (λ k g. (omega arith, omega arith)) (slotted_spares first_small p₁) (slotted_spares second_small p₂) in
            let U : Turned s w v₅ n m' (i ∷ []) (header_at w i).up i _ (two_ready i a b) = record {
              makes = rebase T.makes S (slotted_ready second_small p₂ ∙ slotted_ready first_small p₁) (λ k. rw k₀ refl) refl
                  (λ k g. omega (arith, free_both k, times_append k (i ∷ []) (free_list w n)));
              offer = T.offer;
            } in
            rw (sides_tree one f) (rw (set_first, still_second) at U)

    -- ---- more packets: both placed at this same part

    module _ (many : 2 ≤ count) (v₁ v₂ v₃ v₄ : List ℕ)
        (B : Becomes w v₁ l (record { place = pl; phase = Placed; count = 1; up = i; left = 0; right = 0 }) (rows_at w i 1))
        (C : Slotted v₁ v₂ r (drop 1 (rows_at v₁ i count)))
        (D : Headed v₂ v₃ r (record { place = pl; phase = Placed; count = count - 1; up = i; left = 0; right = 0 }))
        (H : Headed v₃ v₄ i (record { place = pl; phase = Split; count = 0; up = (header_at w i).up; left = l; right = r })) where
      own_kept : rows_at v₁ i count ≡ rows_at w i count
      own_kept = ap (chunks row_words count) (B.spares.slots i h.there (times_one i l ∙ same_other i l first_own))

      rest_length : count - 1 ≡ length (drop 1 (rows_at v₁ i count))
      rest_length = omega (arith, length-drop 1 (rows_at v₁ i count), length_chunks row_words count (slot_at v₁ i))

      pub split_entered : Entered s w v₄ n (n - 2) i (Pair l r)
      unfolding join_of
      split_entered f =
          let few : n - 2 ≤ positions = omega (arith, h.few) in
          let L = rest_made s w v₁ (n - 2) l i pl 1 f (rows_at w i 1) first_small few (sym (length_chunks row_words 1 (slot_at w i))) B in
          let R = rest_made s v₁ v₃ (n - 2) r i pl (count - 1) f (drop 1 (rows_at v₁ i count)) second_small few rest_length
          (becomes second_small C D) in
          let T = two_turned h.there some h.once top next L.0 R.0 H refl refl refl (Some l) (Some r) L.1 R.1 in
          rw (split_tree many f) (rw own_kept at T)
