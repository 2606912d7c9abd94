-- A run under a schedule, turn by turn: the words hold the rules' state after each byte.
use Prim.Native.Nat.{ℕ, ◌+◌, ◌-◌, ◌≤◌, ◌<◌}
use native.Mathlib.Numerals.{add-one}
use native.Mathlib.Omega.{arith}
use mathlib.Core.Path.{◌≡◌, refl, sym, ap, ◌∙◌}
use mathlib.Core.List.{List, [], ◌∷◌, ◌++◌}
use lib.ListN.{length, take, get_or}
use lib.Seq.{take-suc, take_all, length-take-le}
use Rattle.rules.specs.States.{Tree, done, next, ready, move, run}
use Rattle.rules.proofs.Measures.{rest}
use Rattle.rules.proofs.Schedules.{View, over, going, view, finished, ran}
use Rattle.rules.proofs.Choose.{ready_count}
use Rattle.steps.specs.State.{Holds}
use Rattle.steps.proofs.Refining.{listed_all}
use Rattle.machine.specs.Runs.{Playable, Advancing, Advanced, Played}

-- one run after another
run_more : (bs cs : List ℕ) (t : Tree) → run t (bs ++ cs) ≡ run (run t bs) cs
unfolding run
run_more [] cs t = refl
run_more (b ∷ bs) cs t = run_more bs cs (move b t)

-- as many are listed as are ready
pub ready_is : {s w : List ℕ} {n r : ℕ} {t : Tree} → Holds s w n r t → r ≡ ready t
ready_is {t = t} h = listed_all h ∙ sym (ready_count t)

-- nothing is ready: finished
pub over_is : {t : Tree} → View t → ready t ≡ 0 → rest t ≡ 0
unfolding rest
over_is over e = refl
over_is (going t h k n) e = absurd (omega arith)

-- a step is ready: it is to go
pub goes_is : {t : Tree} → View t → 0 < ready t → 0 < rest t
unfolding next
goes_is over h = absurd (omega arith)
goes_is (going t h k n) g = h

-- after k bytes, each of which was a step
pub record Playing (s v : List ℕ) (n r k : ℕ) (t : Tree) (bs : List ℕ) : Type 0 where
  pub holds : Holds s v n r (run t (take k bs))
  pub read : k ≤ length bs
  pub steps : k ≤ rest t

pub play_starts : {s w : List ℕ} {n r : ℕ} {t : Tree} (bs : List ℕ) → Holds s w n r t → Playing s w n r 0 t bs
unfolding run
play_starts bs h = record { holds = h; read = omega arith; steps = omega arith }

module _ (s v : List ℕ) (n r k : ℕ) (t : Tree) (bs : List ℕ) (p : Playing s v n r k t bs) where
  abbrev after : Tree
  after = run t (take k bs)

  after_rest : rest after ≡ rest t - k
  after_rest = (ran (take k bs) t).left ∙ ap (λ (x : ℕ). rest t - x) (length-take-le k bs p.read)

  pub can_advance : Playable s t → Advancing s v n r
  can_advance playable = record {
    tree = after;
    holds = p.holds;
    playable = λ cs. rw (run_more (take k bs) cs t) at (playable (take k bs ++ cs));
  }

  -- one byte more is one step more
  pub play_turns : (u : List ℕ) (m q b : ℕ) → k < length bs → b ≡ get_or bs k 0 → (r ≡ 0 → ⊥) → Advanced s v u n r m q b
      → Playing s u m q (k + 1) t bs
  unfolding run
  play_turns u m q b there eb goes a =
      let more : take (k + 1) bs ≡ take k bs ++ b ∷ [] =
      ap (λ (x : ℕ). take x bs) (add-one k) ∙ take-suc bs k 0 there ∙ ap (λ (x : ℕ). take k bs ++ x ∷ []) (sym eb) in
      let e : run t (take (k + 1) bs) ≡ move b after = ap (run t) more ∙ run_more (take k bs) (b ∷ []) t in
      let g : 0 < rest after = goes_is (view after) (omega (arith, ready_is p.holds, goes)) in
      record {
        holds = rw e (a.moved after p.holds);
        read = omega arith;
        steps = omega (arith, after_rest);
      }

  -- the schedule is at its end
  pub play_ends : length bs ≤ k → Played s v n r k t bs
  play_ends h =
      let z = (ran bs t).steps in
      record { holds = rw (take_all k bs h) at p.holds; steps = omega (arith, p.read, p.steps) }

  -- nothing is ready: the bytes left are not read
  pub play_over : r ≡ 0 → Played s v n r k t bs
  play_over e =
      let d : rest after ≡ 0 = over_is (view after) (sym (ready_is p.holds) ∙ e) in
      let z = (ran bs t).steps in
      let q : rest (run t bs) ≡ 0 = omega (arith, (ran bs t).left, after_rest, p.read, p.steps) in
      let same : run t (take k bs) ≡ run t bs =
      finished after d ∙ ap done ((ran (take k bs) t).same ∙ sym (ran bs t).same) ∙ sym (finished (run t bs) q) in
      record { holds = rw same at p.holds; steps = omega (arith, after_rest, p.read, p.steps) }
