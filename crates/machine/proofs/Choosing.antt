-- One choice: the ready number that a byte picks is that of a position whose own step is the next; the step made there, and the list of
-- ready numbers put right, hold the rules' next state.
use Prim.Native.Nat.{ℕ, ◌+◌, ◌-◌, ◌%◌, ◌≤◌, ◌<◌}
use native.Mathlib.Nat.{mod-lt, mod-eq_of_lt}
use native.Mathlib.Omega.{arith}
use mathlib.Core.Path.{◌≡◌, refl, sym, ap, ◌∙◌}
use mathlib.Core.List.{List, [], ◌∷◌, ◌++◌}
use lib.ListN.{length, drop, get_or}
use lib.Seq.{get_or-take, get_or-drop, get_or-append-add}
use Rattle.rules.specs.States.{Tree, placed, done, waiting, negated, both, next, ready, live, move, run}
use Rattle.rules.proofs.Choose.{readies, ready_count, step_at, move_at}
use Rattle.links.specs.Nets.{waits, keeps, Net, rest, over, one, two, above, bare, root, foot, is_over, ready_of, AllShow, AllShowIn, Frame}
use Rattle.links.specs.Nets.{plug}
use Rattle.links.specs.Nets.{up_of, foot_in, lefts, rights, times, Prime, rests, single, double}
use Rattle.links.proofs.Times.{times_plug, length_plug, live_foot}
use Rattle.links.proofs.Plugging.{plug_held}
use Rattle.links.proofs.ReadyOnes.{Found, ready_plug}
use Rattle.links.proofs.Local.{prime_going, local_step}
use Rattle.area.specs.Words.{positions, ready_from, nobody, header_at, part, ready_list, Listed}
use Rattle.area.specs.declared.lists.Ready.{Ready}
use Rattle.area.specs.Ready.{numbers, news_at, Relisting}
use Rattle.steps.specs.State.{showing, Holds, Turned}
use Rattle.steps.proofs.Refining.{listed_all, found_at, relist_asks, move_holds}
use Rattle.machine.specs.Steps.{Stepping, Stepped}
use Rattle.machine.specs.Runs.{Fit, Playable, Advancing, Advanced}
use Rattle.machine.proofs.Phases.{above_root}
use Rattle.machine.proofs.Positions.{fit_plug, prime_own, Near, can_step}

-- ---- a state without numbers, as a net

numbered : Tree → Net
numbered (placed o p s) = rest 0 o p s
numbered (done s) = over 0 s
numbered (waiting t o q) = one 0 (waits o q) (numbered t)
numbered (negated k t) = one 0 (keeps k) (numbered t)
numbered (both j t u) = two 0 j (numbered t) (numbered u)

bare_numbered : (t : Tree) → bare (numbered t) ≡ t
unfolding bare above numbered
bare_numbered (placed o p s) = refl
bare_numbered (done s) = refl
bare_numbered (waiting t o q) = rw (bare_numbered t)
bare_numbered (negated k t) = rw (bare_numbered t)
bare_numbered (both j t u) = rw (bare_numbered t, bare_numbered u)

prime_ready : {x : Net} → Prime x → ready_of x ≡ root x ∷ []
unfolding ready_of root is_over
prime_ready rests = refl
prime_ready single = refl
prime_ready double = refl

module _ (s w : List ℕ) (n r : ℕ) (t : Tree) (H : Holds s w n r t) where
  -- ---- nothing is ready: the state stays

  pub stays : (b : ℕ) → r ≡ 0 → move b t ≡ t
  unfolding move
  stays b z = none (next t) (sym (ready_count t ∙ sym (listed_all H) ∙ z))
    where
      none : (l : List Tree) → 0 ≡ length l → get_or l (b % ready t) t ≡ t
      none [] e = refl
      none (u ∷ l) e = absurd (omega arith)

  -- ---- number j of the ready ones

  module _ (j i : ℕ) (l : j < r) (ei : i ≡ get_or w (ready_from + j) 0) where
    abbrev F : Found H.net j
    F = found_at H j l

    abbrev c : List Frame
    c = F.around

    abbrev x : Net
    x = F.prime

    lists : ready_list w r ≡ lefts c ++ (root x ∷ rights c)
    lists =
        H.ready ∙ ap ready_of F.whole ∙ ready_plug c x (prime_going F.own).0
        ∙ ap (λ (k : List ℕ). lefts c ++ (k ++ rights c)) (prime_ready F.own)

    pub picked_root : root x ≡ i
    unfolding part
    picked_root =
        let e : length (lefts c) + 0 ≡ j = omega (arith, F.first) in
        sym (get_or-append-add (lefts c) (root x ∷ rights c) 0 0)
        ∙ ap (λ (k : ℕ). get_or (lefts c ++ (root x ∷ rights c)) k 0) e
        ∙ ap (λ (k : List ℕ). get_or k j 0) (sym lists)
        ∙ get_or-take r (drop ready_from w) j 0 l ∙ get_or-drop ready_from w j 0 ∙ sym ei

    at_hole : AllShow (showing s w) (up_of nobody c) x × AllShowIn (showing s w) nobody c (root x)
    at_hole = plug_held (showing s w) nobody c x (rw F.whole at H.held)

    pub up_is : (header_at w i).up ≡ up_of nobody c
    up_is = rw picked_root at (above_root s w (up_of nobody c) x at_hole.0)

    -- the rules' step there
    step_is : move j t ≡ bare (plug c (numbered (move 0 (bare x))))
    step_is =
        let k = listed_all H in
        let e : j % readies t ≡ length (lefts c) = mod-eq_of_lt (omega arith) ∙ sym F.first in
        let d : t ≡ bare (plug c x) = sym H.bare ∙ ap bare F.whole in
        move_at j t (omega arith) ∙ ap (step_at t) e ∙ ap (λ (y : Tree). step_at y (length (lefts c))) d
        ∙ local_step c (numbered (move 0 (bare x))) (prime_own F.own) (bare_numbered (move 0 (bare x)))

    module _ (playable : Playable s t) where
      after : Fit s (bare (plug c (numbered (move 0 (bare x))))) × (live (bare (plug c (numbered (move 0 (bare x))))) ≤ positions)
      unfolding run
      after = rw step_is at (playable (j ∷ []))

      sizes : length (foot_in c) + length (foot x) + n ≡ 160
      sizes = omega (arith, H.size, ap (λ (y : Net). length (foot y)) F.whole, length_plug c x)

      near : Near s w n (up_of nobody c) x
      unfolding run
      near =
          let y : Net = numbered (move 0 (bare x)) in
          record {
            held = at_hole.0;
            once = λ k. omega (arith, H.once k, ap (λ (z : Net). times k (foot z)) F.whole, times_plug k c x);
            few = omega (arith, sizes);
            fit = fit_plug s c x (rw (sym H.bare ∙ ap bare F.whole) at (playable []).0);
            next = rw (bare_numbered (move 0 (bare x))) at (fit_plug s c y after.0);
            room = omega (
              arith,
              after.1,
              sizes,
              live_foot (plug c y),
              length_plug c y,
              live_foot y,
              ap live (bare_numbered (move 0 (bare x))),
            );
          }

      pub can_pick : Stepping s w n i
      can_pick = rw picked_root at (can_step F.own near)

    -- ---- the step is made, and the list put right

    module _ (v : List ℕ) (m : ℕ) (offer : Ready) (S : Stepped s w v n m i offer) where
      turned : Turned s w v n m (foot x) (up_of nobody c) (root x) (move 0 (bare x)) offer
      unfolding Stepped
      turned = rw (up_is, ← picked_root) at (S x F.own picked_root (rw up_is at_hole.0))

      pub relist_there : (up : ℕ) → up ≡ (header_at w i).up → Relisting v r j up offer
      relist_there up e = rw (e ∙ up_is) (relist_asks H F (prime_own F.own) turned l)

      module _ (u : List ℕ) (up k : ℕ) (e : up ≡ (header_at w i).up) (L : Listed v u r j (numbers (news_at v up offer)))
          (ek : k ≡ r - 1 + length (numbers (news_at v up offer))) where
        pub moved : (b : ℕ) → j ≡ b % r → Holds s u m k (move b t)
        moved b ej =
            rw ek (rw (e ∙ up_is) (move_holds H F (prime_own F.own) turned (rw (e ∙ up_is) at L) b ej (omega arith)))

-- ---- a choice, whatever state the words hold

pub picks : (b r : ℕ) → (r ≡ 0 → ⊥) → b % r < r
picks b r goes = mod-lt b (omega (arith, goes))

module _ (s w : List ℕ) (n r b : ℕ) (A : Advancing s w n r) where
  pub idle : r ≡ 0 → Advanced s w w n r n r b
  idle z = record { moved = λ t H. rw (stays s w n r t H b z) H }

  module _ (i : ℕ) (goes : r ≡ 0 → ⊥) (ei : i ≡ get_or w (ready_from + b % r) 0) where
    pub can_choose : Stepping s w n i
    can_choose = can_pick s w n r A.tree A.holds (b % r) i (picks b r goes) ei A.playable

    module _ (v : List ℕ) (m : ℕ) (offer : Ready) (up : ℕ) (S : Stepped s w v n m i offer) (eu : up ≡ (header_at w i).up) where
      pub can_relist : Relisting v r (b % r) up offer
      can_relist = relist_there s w n r A.tree A.holds (b % r) i (picks b r goes) ei v m offer S up eu

      pub advanced : (u : List ℕ) (k : ℕ) → Listed v u r (b % r) (numbers (news_at v up offer))
          → k ≡ r - 1 + length (numbers (news_at v up offer)) → Advanced s w u n r m k b
      advanced u k L ek = record {
        moved = λ t H. moved s w n r t H (b % r) i (picks b r goes) ei v m offer S u up k eu L ek b refl;
      }
