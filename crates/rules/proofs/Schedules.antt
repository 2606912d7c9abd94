-- Every schedule makes exactly N steps, to one and the same set, within the width; a shorter one leaves a step ready.
use Prim.Native.Nat.{ℕ, suc, ◌+◌, ◌-◌, ◌≤◌, ◌<◌, ◌%◌, min}
use native.Mathlib.Nat.{mod-lt}
use native.Mathlib.Decide.{dec_le}
use native.Mathlib.Omega.{arith}
use mathlib.Core.Path.{◌≡◌, refl, ap, ◌∙◌}
use mathlib.Core.List.{List, [], ◌∷◌}
use lib.ListN.{length, length-append, length-map}
use Rattle.rules.specs.Packets.{Packets}
use Rattle.rules.specs.Parts.{Part}
use Rattle.rules.specs.Working.{out, steps, width}
use Rattle.rules.specs.States.{Spot, Join, Tree, placed, done, waiting, negated, both, place, finish, leave, next, held}
use Rattle.rules.specs.States.{ready, move, run, counted, made}
use Rattle.rules.specs.Lists.{All}
use Rattle.rules.proofs.Lists.{all_at, all_or}
use Rattle.rules.proofs.Measures.{final, rest, peak, broad}
use Rattle.rules.proofs.Bounds.{handed}
use Rattle.rules.proofs.Steps.{Step, next_step, enter_rest, place_final, place_rest, place_broad}

-- ---- a state is finished or has a step ready

some_leaves : (j : Join) (a b : List Packets) (m n : ℕ) → 0 < length a + m → 0 < length b + n → 0 < length (leave j a b) + (m + n)
unfolding leave
some_leaves j [] b m n h k = omega arith
some_leaves j (s ∷ a) [] m n h k = omega arith
some_leaves j (s ∷ a) (r ∷ b) m n h k = omega arith

goes : (t : Tree) → 0 < length (finish t) + ready t
unfolding finish next
goes (placed o p s) = omega arith
goes (done s) = omega arith
goes (waiting t o q) = simp (length-append, length-map) (omega (arith, goes t))
goes (negated k t) = simp (length-append, length-map) (omega (arith, goes t))
goes (both j t u) = simp (length-append, length-map) (omega (arith, some_leaves j (finish t) (finish u) _ _ (goes t) (goes u)))

pub data View : Tree → Type 0 where
  over : {s : Packets} → View (done s)
  going : (t : Tree) → 0 < rest t → 0 < ready t → finish t ≡ [] → View t

pub view : (t : Tree) → View t
unfolding rest finish next
view (placed o p s) = going (placed o p s) (omega (arith, enter_rest o p s)) (omega arith) refl
view (done s) = over
view (waiting t o q) = going (waiting t o q) (omega arith) (omega (arith, goes (waiting t o q))) refl
view (negated k t) = going (negated k t) (omega arith) (omega (arith, goes (negated k t))) refl
view (both j t u) = going (both j t u) (omega arith) (omega (arith, goes (both j t u))) refl

-- no step to go: finished, with the final set; a step to go: not finished, and a step is ready
finished_of : {t : Tree} → View t → rest t ≡ 0 → t ≡ done (final t)
unfolding final
finished_of over e = refl
finished_of (going t h k n) e = absurd (omega arith)

pub finished : (t : Tree) → rest t ≡ 0 → t ≡ done (final t)
finished t e = finished_of (view t) e

unfinished_of : {t : Tree} → View t → 0 < rest t → (finish t ≡ []) × (0 < ready t)
unfolding rest
unfinished_of over h = absurd (omega arith)
unfinished_of (going t h k n) g = (n, k)

pub unfinished : (t : Tree) → 0 < rest t → (finish t ≡ []) × (0 < ready t)
unfinished t h = unfinished_of (view t) h

-- ---- a run

pub record AfterRun (t : Tree) (bs : List ℕ) : Type 0 where
  pub same : final (run t bs) ≡ final t
  pub left : rest (run t bs) ≡ rest t - length bs
  pub within : peak (run t bs) ≤ peak t
  pub slim : broad (run t bs) ≤ broad t
  pub steps : made t bs ≡ min (rest t) (length bs)

counted_some : (us : List Tree) (n : ℕ) → 0 < length us → counted us n ≡ suc n
unfolding counted
counted_some [] n h = absurd (omega arith)
counted_some (u ∷ us) n h = refl

ran_on : (t : Tree) (b : ℕ) (bs : List ℕ) → 0 < ready t → Step t (move b t) → AfterRun (move b t) bs → AfterRun t (b ∷ bs)
unfolding run made
ran_on t b bs h m r = record {
  same = r.same ∙ m.same;
  left = omega (arith, m.less, r.left);
  within = omega (arith, m.within, r.within);
  slim = omega (arith, m.slim, r.slim);
  steps = counted_some (next t) (made (move b t) bs) h ∙ omega (arith, m.less, r.steps);
}

ran_one : {t : Tree} (b : ℕ) (bs : List ℕ) → View t → ((u : Tree) → AfterRun u bs) → AfterRun t (b ∷ bs)
unfolding run made move next counted rest
ran_one b bs (over {s}) r =
    let d = r (done s) in
    record { same = d.same; left = omega (arith, d.left); within = d.within; slim = d.slim; steps = omega arith }
ran_one b bs (going t h k e) r = ran_on t b bs k (all_at (next_step t) (b % ready t) t (mod-lt b k)) (r (move b t))

pub ran : (bs : List ℕ) (t : Tree) → AfterRun t bs
unfolding run made
ran [] t = record { same = refl; left = omega arith; within = omega arith; slim = omega arith; steps = omega arith }
ran (b ∷ bs) t = ran_one b bs (view t) (λ u. ran bs u)

-- what every step keeps, every run keeps
pub run_keeps : (I : Tree → Type 0) → ((t : Tree) → I t → All I (next t)) → (bs : List ℕ) (t : Tree) → I t → I (run t bs)
unfolding run move
run_keeps I h [] t k = k
run_keeps I h (b ∷ bs) t k = run_keeps I h bs (move b t) (all_or (h t k) (b % ready t) t k)

-- ---- the schedule theorem, for a part that is placed on a set

-- a schedule of N bytes or more finishes, after N steps; a shorter one does not, leaves a step ready, and each byte was a step
pub data Ending (o : Spot) (p : Part) (s : Packets) (bs : List ℕ) : Type 0 where
  enough : steps p s ≤ length bs → run (place o p s) bs ≡ done (out p s) → made (place o p s) bs ≡ steps p s → Ending o p s bs
  short : length bs < steps p s → finish (run (place o p s) bs) ≡ [] → 0 < ready (run (place o p s) bs)
      → made (place o p s) bs ≡ length bs → Ending o p s bs

module _ (o : Spot) (p : Part) (s : Packets) (bs : List ℕ) where
  pub long_enough : steps p s ≤ length bs → (run (place o p s) bs ≡ done (out p s)) × (made (place o p s) bs ≡ steps p s)
  long_enough h =
      let r = ran bs (place o p s) in
      let n = place_rest o p s in
      let e = finished (run (place o p s) bs) (omega (arith, r.left, n)) in
      (e ∙ ap done (r.same ∙ place_final o p s), omega (arith, r.steps, n))

  pub too_short : length bs < steps p s
      → (finish (run (place o p s) bs) ≡ []) × (0 < ready (run (place o p s) bs)) × (made (place o p s) bs ≡ length bs)
      × (rest (run (place o p s) bs) ≡ steps p s - length bs)
  too_short h =
      let r = ran bs (place o p s) in
      let n = place_rest o p s in
      let u = unfinished (run (place o p s) bs) (omega (arith, r.left, n)) in
      (u.0, u.1, omega (arith, r.steps, n), omega (arith, r.left, n))

  ending_of : Dec (steps p s ≤ length bs) → Ending o p s bs
  ending_of (yes h) = let l = long_enough h in enough h l.0 l.1
  ending_of (no n) =
      let h : length bs < steps p s = omega (arith, n) in
      let l = too_short h in
      short h l.0 l.1 l.2

  pub ending : Ending o p s bs
  ending = ending_of (dec_le (steps p s) (length bs))

-- ---- every set that a run holds is as small as the width says

held_broad : (t : Tree) → held t ≤ broad t
unfolding held broad
held_broad (placed o p s) = handed p s
held_broad (done s) = omega arith
held_broad (waiting t o q) = omega (arith, held_broad t)
held_broad (negated k t) = omega (arith, held_broad t)
held_broad (both j t u) = omega (arith, held_broad t, held_broad u)

pub held_width : (o : Spot) (p : Part) (s : Packets) (bs : List ℕ) → held (run (place o p s) bs) ≤ width p s
held_width o p s bs = omega (arith, held_broad (run (place o p s) bs), (ran bs (place o p s)).slim, place_broad o p s)
