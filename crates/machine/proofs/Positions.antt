-- A position whose own step is the next: what the step asks, from a fit state, and that the step made there is the rules' own.
use Prim.Native.Nat.{ℕ, zero, suc, ◌+◌, ◌≤◌, ◌<◌}
use native.Mathlib.Omega.{arith}
use mathlib.Core.Path.{◌≡◌, refl, sym, ap, ◌∙◌}
use mathlib.Core.Bool.{true, false≢true}
use mathlib.Core.Logic.{inl}
use mathlib.Core.List.{List, [], ◌∷◌}
use lib.ListN.{length, get_or}
use Rattle.rules.specs.declared.Head.{Head}
use Rattle.rules.specs.Packets.{Packets, Ascending, without}
use Rattle.rules.specs.Parts.{Part, Id, Drop, Test, Set, Not, Sum, Seq, Beside, Table, Open, size}
use Rattle.rules.specs.Reading as reading
use Rattle.rules.specs.States.{Spot, on, moved, losing, placed, done, finish, place, enter, leave}
use Rattle.rules.specs.States.{next, live, move}
use Rattle.rules.proofs.ReadingLaws.{head_is}
use Rattle.rows.proofs.Chunks.{length_chunks}
use Rattle.steps.specs.Standing.{part_of, Runnable}
use Rattle.steps.proofs.Standing.{inside, part_id, seq_below}
use Rattle.links.specs.Nets.{waits, keeps, Net, above, bare, root, foot, node_of, AllShow, Frame, under, left}
use Rattle.links.specs.Nets.{right, fill, plug, times, Prime, rests, single, double}
use Rattle.links.proofs.Times.{same_self}
use Rattle.links.proofs.Local.{Own, enters, takes, lacks_it, joins}
use Rattle.area.specs.declared.headers.Header.{Header}
use Rattle.area.specs.declared.headers.Phase.TheVariants.{Placed as placed_phase, Waiting as waiting_phase, Negated as negated_phase}
use Rattle.area.specs.declared.lists.Ready.{Ready}
use Rattle.area.specs.Words.{positions, row_words, word_of, is_above, header_at, free_list}
use Rattle.steps.specs.State.{showing, Once, set_at, Turned, joining, lacking, part_at, spot_at, Entering}
use Rattle.steps.proofs.Changes.{below_small}
use Rattle.machine.specs.Steps.{code_at, Placed, Stepping, Entered, Stepped}
use Rattle.machine.specs.Runs.{Slim, Fit}
use Rattle.machine.proofs.Phases.{rest_shown, over_shown, waits_shown, keeps_shown, two_shown}

-- ---- the positions of a state do not depend on where it stands

pub place_live : (p : Part) (o u : Spot) (s : Packets) → live (place o p s) ≡ live (place u p s)
unfolding place live
place_live Id o u s = refl
place_live Drop o u s = refl
place_live (Test f v) o u s = refl
place_live (Set f v) o u s = refl
place_live (Not p) o u s = refl
place_live (Sum p q) o u s = refl
place_live (Seq p q) o u s = omega (arith, place_live p (on 1 o) (on 1 u) s)
place_live (Beside wp wq p q) o u s = refl
place_live (Table x r w start p) o u s = refl
place_live (Open x r w) o u s = refl

enter_live : (p : Part) (o u : Spot) (s : Packets) → live (enter o p s) ≡ live (enter u p s)
unfolding enter live
enter_live Id o u s = refl
enter_live Drop o u s = refl
enter_live (Test f v) o u s = refl
enter_live (Set f v) o u s = refl
enter_live (Not p) o u s = omega (arith, place_live p (on 1 o) (on 1 u) s)
enter_live (Sum p q) o u s =
    omega (arith, place_live p (on 1 o) (on 1 u) s, place_live q (on (1 + size p) o) (on (1 + size p) u) s)
enter_live (Seq p q) o u s = omega (arith, place_live p (on 1 o) (on 1 u) s)
enter_live (Beside wp wq p q) o u [] = refl
enter_live (Beside wp wq p q) o u (x ∷ []) =
    omega (
      arith,
      place_live p (losing wq (on 3 o)) (losing wq (on 3 u)) (without wq x ∷ []),
      place_live q (losing wp (on (3 + size p) o)) (losing wp (on (3 + size p) u)) (without wp x ∷ []),
    )
enter_live (Beside wp wq p q) o u (x ∷ (y ∷ s)) = refl
enter_live (Table x r w start p) o u s = place_live p (moved start o) (moved start u) s
enter_live (Open x r w) o u s = refl

-- ---- what is fit as a whole is fit in a hole

fit_fill : (s : List ℕ) (f : Frame) (x : Net) → Fit s (bare (fill f x)) → Fit s (bare x)
unfolding Fit bare fill above
fit_fill s (under i (waits o q)) x h = h.0
fit_fill s (under i (keeps k)) x h = h.1
fit_fill s (left i j m) x h = h.0
fit_fill s (right i j n) x h = h.1

pub fit_plug : (s : List ℕ) (c : List Frame) (x : Net) → Fit s (bare (plug c x)) → Fit s (bare x)
unfolding plug
fit_plug s [] x h = h
fit_plug s (f ∷ c) x h = fit_fill s f x (fit_plug s c (fill f x) h)

-- ---- the own step

pub prime_own : {x : Net} → Prime x → Own x (move 0 (bare x))
unfolding move next bare above finish leave
prime_own rests = enters
prime_own (single {h = waits o q}) = takes
prime_own (single {h = keeps k}) = lacks_it
prime_own double = joins

-- what is placed is neither id nor a sequence
acts : (s : List ℕ) (at : ℕ) (o : Spot) (x : Packets) → Runnable s at → place o (part_of s at) x ≡ placed o (part_of s at) x
    → (0 < get_or s at 0) × (get_or s at 0 ≡ 6 → ⊥)
unfolding place
acts s at o x h e = (go (get_or s at 0) refl, λ six. no_seq six)
  where
    go : (k : ℕ) → get_or s at 0 ≡ k → 0 < k
    go zero z =
        let d : done x ≡ placed o Id x = rw (part_id s at (inl z)) at e in
        let y : ◌≡◌ {A = ℕ} 0 1 = cc in
        absurd (omega arith)
    go (suc k) z = omega arith

    no_seq : get_or s at 0 ≡ 6 → ⊥
    no_seq six =
        let d = rw (seq_below h six).0 at e in
        let y : ◌≡◌ {A = ℕ} 0 1 = cc in
        omega arith

-- a net that stands below `up`, with what is known of it in a fit state
pub record Near (s w : List ℕ) (n up : ℕ) (x : Net) : Type 0 where
  pub held : AllShow (showing s w) up x
  pub once : Once (foot x) (free_list w n)
  pub few : n + length (foot x) ≤ positions
  pub fit : Fit s (bare x)
  pub next : Fit s (move 0 (bare x))
  pub room : live (move 0 (bare x)) ≤ length (foot x) + n

-- a set of the area, by its header's count
slim_at : (w : List ℕ) (i : ℕ) (y : Packets) → set_at w i ≡ y → Slim y → ((header_at w i).count ≤ 16) × Ascending (set_at w i)
slim_at w i y e h = (omega (arith, sym (length_chunks row_words (header_at w i).count _) ∙ ap length e, h.0), rw e h.1)

pub can_step : {s w : List ℕ} {n up : ℕ} {x : Net} → Prime x → Near s w n up x → Stepping s w n (root x)
unfolding AllShow root foot bare above node_of Fit move next finish leave times live
can_step {s} {w} {n} (rests {i = i} {o = o} {p = p} {s = y}) k =
    let z = rest_shown k.held in
    let f = k.fit in
    let m = slim_at w i y z.3 f.2 in
    let e : part_of s o.at ≡ p = f.0.0 in
    let st : Runnable s (header_at w i).place = rw z.1 f.0.1 in
    let l : i < positions = below_small i (omega (arith, k.once i, same_self i)) in
    record {
      there = l;
      enters = λ _. record {
        entering = record {
          stands = st;
          there = l;
          few = omega (arith, k.few);
          once = k.once;
          reads = refl;
          room = rw (z.2, z.3) (omega (arith, k.room, enter_live p o (spot_at w i 0) y));
          slim = m.0;
          rises = m.1;
        };
        acts = (acts s (header_at w i).place o y st (rw z.2 f.1)).0;
        single = (acts s (header_at w i).place o y st (rw z.2 f.1)).1;
      };
      goes = λ g. omega (arith, ap word_of (sym z.0 ∙ g));
      takes = λ g. absurd (omega (arith, ap word_of (sym z.0 ∙ g)));
      lacks = λ g. absurd (omega (arith, ap word_of (sym z.0 ∙ g)));
      joins = λ g. absurd (false≢true (rw z.0 at g));
    }
can_step {s} {w} {n} (single {i = i} {k = c} {h = waits o q} {s = y}) k =
    let z = waits_shown k.held.0 in
    let d = over_shown k.held.1 in
    let f = k.fit in
    let m = slim_at w c y d.1 f.0 in
    record {
      there = below_small i (omega (arith, k.once i, same_self i));
      enters = λ g. absurd (omega (arith, ap word_of (sym z.0 ∙ g)));
      goes = λ g. omega (arith, ap word_of (sym z.0 ∙ g));
      takes = λ g. rw z.3 (record {
        stands = rw z.1 f.1.1;
        below = z.3;
        once = k.once;
        few = omega (arith, k.few);
        room = rw (z.2, d.1) (omega (arith, k.room, place_live q o (spot_at w i 0) y));
        slim = m.0;
      });
      lacks = λ g. absurd (omega (arith, ap word_of (sym z.0 ∙ g)));
      joins = λ g. absurd (false≢true (rw z.0 at g));
    }
can_step {s} {w} {n} (single {i = i} {k = c} {h = keeps r} {s = y}) k =
    let z = keeps_shown k.held.0 in
    let d = over_shown k.held.1 in
    let f = k.fit in
    let m = slim_at w i r z.1 f.0 in
    let m' = slim_at w c y d.1 f.1 in
    record {
      there = below_small i (omega (arith, k.once i, same_self i));
      enters = λ g. absurd (omega (arith, ap word_of (sym z.0 ∙ g)));
      goes = λ g. omega (arith, ap word_of (sym z.0 ∙ g));
      takes = λ g. absurd (omega (arith, ap word_of (sym z.0 ∙ g)));
      lacks = λ g. rw z.2 (record {
        below = z.2;
        once = k.once;
        few = omega (arith, k.few);
        slim_own = m.0;
        slim_below = m'.0;
        rises_own = m.1;
        rises_below = m'.1;
      });
      joins = λ g. absurd (false≢true (rw z.0 at g));
    }
can_step {s} {w} {n} (double {i = i} {k = a} {l = b} {j = j} {s = y} {t = u}) k =
    let z = two_shown k.held.0 in
    let d = over_shown k.held.1 in
    let e = over_shown k.held.2 in
    let f = k.fit in
    let m = slim_at w a y d.1 f.0 in
    let m' = slim_at w b u e.1 f.1 in
    record {
      there = below_small i (omega (arith, k.once i, same_self i));
      enters = λ g. absurd (false≢true (rw g at z.0));
      goes = λ g. false≢true (rw g at z.0);
      takes = λ g. absurd (false≢true (rw g at z.0));
      lacks = λ g. absurd (false≢true (rw g at z.0));
      joins = λ g. rw (z.2, z.3) (record {
        first = z.2;
        second = z.3;
        once = k.once;
        few = omega (arith, k.few);
        slim_first = m.0;
        slim_second = m'.0;
        rises_first = m.1;
        rises_second = m'.1;
        slim = rw (z.1, d.1, e.1) k.next.0;
      });
    }

-- ---- the step that the phase tells is the own step of whatever stands there

abbrev Steps : (s w v : List ℕ) (n m : ℕ) (r : Ready) → Net → Type 0
Steps s w v n m r x = Turned s w v n m (foot x) (header_at w (root x)).up (root x) (move 0 (bare x)) r

module _ {s w v : List ℕ} {n m : ℕ} {r : Ready} where
  entered_at : {x : Net} → Prime x → AllShow (showing s w) (header_at w (root x)).up x → (header_at w (root x)).phase ≡ placed_phase
      → Entered s w v n m (root x) r → Steps s w v n m r x
  unfolding AllShow root foot bare above node_of move next
  entered_at (rests {i = i} {o = o} {p = p} {s = y}) h e T = let z = rest_shown h in rw (z.2, z.3, z.1) at (T o.fields)
  entered_at (single {h = waits o p}) h e T = let z = waits_shown h.0 in absurd (omega (arith, ap word_of (sym z.0 ∙ e)))
  entered_at (single {h = keeps k}) h e T = let z = keeps_shown h.0 in absurd (omega (arith, ap word_of (sym z.0 ∙ e)))
  entered_at double h e T = let z = two_shown h.0 in absurd (false≢true (rw e at z.0))

  pub entered_steps : {i : ℕ} → (header_at w i).phase ≡ placed_phase → Entered s w v n m i r → Stepped s w v n m i r
  unfolding Stepped
  entered_steps e T x p r h = rw (← r) (entered_at p (rw (← r) at h) (rw (← r) at e) (rw (← r) at T))

  taken_at : {x : Net} → Prime x → AllShow (showing s w) (header_at w (root x)).up x → (header_at w (root x)).phase ≡ waiting_phase
      → ((f : ℕ) → Turned s w v n m (root x ∷ (header_at w (root x)).left ∷ []) (header_at w (root x)).up (root x)
      (place (spot_at w (root x) f) (part_at s w (root x)) (set_at w (header_at w (root x)).left)) r) → Steps s w v n m r x
  unfolding AllShow root foot bare above node_of move next finish
  taken_at rests h e T = let z = rest_shown h in absurd (omega (arith, ap word_of (sym z.0 ∙ e)))
  taken_at (single {h = waits o p}) h e T =
      let z = waits_shown h.0 in
      let d = over_shown h.1 in
      rw (z.2, z.3, d.1, z.1) at (T o.fields)
  taken_at (single {h = keeps k}) h e T = let z = keeps_shown h.0 in absurd (omega (arith, ap word_of (sym z.0 ∙ e)))
  taken_at double h e T = let z = two_shown h.0 in absurd (false≢true (rw e at z.0))

  pub taken_steps : {i : ℕ} → (header_at w i).phase ≡ waiting_phase
      → ((f : ℕ) → Turned s w v n m (i ∷ (header_at w i).left ∷ []) (header_at w i).up i
      (place (spot_at w i f) (part_at s w i) (set_at w (header_at w i).left)) r) → Stepped s w v n m i r
  unfolding Stepped
  taken_steps e T x p r h = rw (← r) (taken_at p (rw (← r) at h) (rw (← r) at e) (rw (← r) at T))

  lacked_at : {x : Net} → Prime x → AllShow (showing s w) (header_at w (root x)).up x → (header_at w (root x)).phase ≡ negated_phase
      → Turned s w v n m (root x ∷ (header_at w (root x)).left ∷ []) (header_at w (root x)).up (root x)
      (done (lacking w (root x) (header_at w (root x)).left)) r → Steps s w v n m r x
  unfolding AllShow root foot bare above node_of move next finish
  lacked_at rests h e T = let z = rest_shown h in absurd (omega (arith, ap word_of (sym z.0 ∙ e)))
  lacked_at (single {h = waits o p}) h e T = let z = waits_shown h.0 in absurd (omega (arith, ap word_of (sym z.0 ∙ e)))
  lacked_at (single {h = keeps k}) h e T =
      let z = keeps_shown h.0 in
      let d = over_shown h.1 in
      rw (z.1, z.2, d.1) at T
  lacked_at double h e T = let z = two_shown h.0 in absurd (false≢true (rw e at z.0))

  pub lacked_steps : {i : ℕ} → (header_at w i).phase ≡ negated_phase
      → Turned s w v n m (i ∷ (header_at w i).left ∷ []) (header_at w i).up i (done (lacking w i (header_at w i).left)) r
      → Stepped s w v n m i r
  unfolding Stepped
  lacked_steps e T x p r h = rw (← r) (lacked_at p (rw (← r) at h) (rw (← r) at e) (rw (← r) at T))

  joined_at : {x : Net} → Prime x → AllShow (showing s w) (header_at w (root x)).up x → is_above (header_at w (root x)).phase ≡ true
      → Turned s w v n m (root x ∷ (header_at w (root x)).left ∷ (header_at w (root x)).right ∷ []) (header_at w (root x)).up (root x)
      (done (joining s w (root x) (header_at w (root x)).left (header_at w (root x)).right)) r → Steps s w v n m r x
  unfolding AllShow root foot bare above node_of move next finish leave
  joined_at rests h e T = let z = rest_shown h in absurd (false≢true (rw z.0 at e))
  joined_at (single {h = waits o p}) h e T = let z = waits_shown h.0 in absurd (false≢true (rw z.0 at e))
  joined_at (single {h = keeps k}) h e T = let z = keeps_shown h.0 in absurd (false≢true (rw z.0 at e))
  joined_at double h e T =
      let z = two_shown h.0 in
      let d = over_shown h.1 in
      let g = over_shown h.2 in
      rw (z.1, z.2, z.3, d.1, g.1) at T

  pub joined_steps : {i : ℕ} → is_above (header_at w i).phase ≡ true
      → Turned s w v n m (i ∷ (header_at w i).left ∷ (header_at w i).right ∷ []) (header_at w i).up i
      (done (joining s w i (header_at w i).left (header_at w i).right)) r → Stepped s w v n m i r
  unfolding Stepped
  joined_steps e T x p r h = rw (← r) (joined_at p (rw (← r) at h) (rw (← r) at e) (rw (← r) at T))

-- ---- what the dispatcher reads

pub code_read : {s w : List ℕ} {n i : ℕ} {h : Header} {o : Head} → Placed s w n i → h ≡ header_at w i → o ≡ reading.head_at s h.place
    → o.code ≡ code_at s w i
code_read {s} {w} {n} {i} p e d =
    ap (λ (x : Head). x.code) ((rw e at d) ∙ head_is s (header_at w i).place (inside p.entering.stands))

pub entering_as : {s w : List ℕ} {n i code : ℕ} → code ≡ code_at s w i → Entering s w n i (code_at s w i) → Entering s w n i code
entering_as e h = rw e h

pub table_left : {code k : ℕ} → code ≡ k → k ≤ 8 → (k ≡ 6 → ⊥) → 4 ≤ code → (code ≡ 4 → ⊥) → (code ≡ 5 → ⊥) → (code ≡ 7 → ⊥) → 8 ≡ k
table_left e l six low four five seven = omega arith
