-- The end of a run: the answer is read from the words, and the area is cleared.
use Rattle.std.specs.Prelude.{Ok}
use Prim.Native.Nat.{ℕ, ◌-◌, ◌*◌, ◌≤◌, ◌<◌}
use native.Mathlib.Nat.{suc-mul, mul-le-mul_right}
use native.Mathlib.Omega.{arith}
use mathlib.Core.Path.{◌≡◌, sym, ap, subst, ◌∙◌}
use mathlib.Core.Bool.{Bool, true}
use mathlib.Core.List.{List, [], ◌∷◌, ◌++◌}
use lib.Dec.{leb}
use borrow.Author.Tests.{le-leb}
use lib.ListN.{length, take, drop, replicate, length-append, length-take, length-replicate}
use Rattle.rules.specs.declared.Ran.TheVariants.{Finished, Running}
use Rattle.rules.specs.Packets.{Packets, most_packets, values_of}
use Rattle.rules.specs.States.{Tree, done, finish, ready, run, live as live_in, made}
use Rattle.rules.specs.Answers.{overwritten, stopped, final_of, result_run}
use Rattle.rules.proofs.Measures.{final}
use Rattle.rules.proofs.Schedules.{view, finished, unfinished}
use Rattle.rows.specs.Arrays.{Emitted, onto}
use Rattle.rows.proofs.Chunks.{length_chunks}
use Rattle.links.specs.Nets.{waits, keeps, Net, rest, over, one, two, above, bare, root, AllShow}
use Rattle.links.proofs.Times.{live_foot}
use Rattle.std.specs.Array.{IsFirstChunk}
use Rattle.std.proofs.lemmas.List.{take-append-drop}
use Rattle.area.specs.Words.{positions, row_words, area_words, nobody, header_at, rows_at}
use Rattle.steps.specs.State.{showing, set_at, Holds}
use Rattle.machine.specs.Runs.{Slim, Fit, Playable, Played}
use Rattle.machine.proofs.Phases.{over_shown}
use Rattle.machine.proofs.Playing.{ready_is, over_is, goes_is}

-- the root of a finished net has its set
done_set : (s w : List ℕ) (up : ℕ) (x : Net) (F : Packets) → bare x ≡ done F → AllShow (showing s w) up x → set_at w (root x) ≡ F
unfolding bare above AllShow root
done_set s w up (rest i o p y) F e h = let z : ◌≡◌ {A = ℕ} 0 1 = cc in absurd (omega arith)
done_set s w up (over i y) F e h = let d : y ≡ F = cc in (over_shown h).1 ∙ d
done_set s w up (one i (waits o q) n) F e h = let z : ◌≡◌ {A = ℕ} 0 1 = cc in absurd (omega arith)
done_set s w up (one i (keeps k) n) F e h = let z : ◌≡◌ {A = ℕ} 0 1 = cc in absurd (omega arith)
done_set s w up (two i j n m) F e h = let z : ◌≡◌ {A = ℕ} 0 1 = cc in absurd (omega arith)

values_few : (k : ℕ) (F : Packets) → length (values_of k F) ≤ length F * k
unfolding values_of
values_few k [] = omega arith
values_few k (x ∷ F) =
    omega (arith, length-append (take k x) (values_of k F), length-take k x, values_few k F, suc-mul (length F) k)

module _ (s v : List ℕ) (n r k : ℕ) (t : Tree) (bs : List ℕ) (p : Played s v n r k t bs) (pl : Playable s t) where
  abbrev T : Tree
  T = run t bs

  abbrev H : Holds s v n r T
  H = p.holds

  -- a step is ready: running
  pub running_answer : (r ≡ 0 → ⊥) → Running (record { steps = k; live = positions - n; ready = r }) ≡ stopped (made t bs) T (finish T)
  running_answer some =
      let u = unfinished T (goes_is (view T) (omega (arith, ready_is H, some))) in
      let l : positions - n ≡ live_in T = omega (arith, H.size, live_foot H.net, ap live_in H.bare) in
      rw (u.0, p.steps, ready_is H) (ap (λ (x : ℕ). Running (record { steps = made t bs; live = x; ready = ready T })) l)

  -- nothing is ready: finished, with the set of the only position
  module _ (z : r ≡ 0) where
    is_done : T ≡ done (final T)
    is_done = finished T (over_is (view T) (sym (ready_is H) ∙ z))

    set_there : set_at v 0 ≡ final T
    set_there = rw H.root at (done_set s v nobody H.net (final T) (H.bare ∙ is_done) H.held)

    slim : Slim (final T)
    unfolding Fit
    slim = subst (Fit s) is_done (pl bs).0

    finish_is : finish T ≡ final T ∷ []
    unfolding finish
    finish_is = ap finish is_done

    module _ (count : ℕ) (e : count ≡ (header_at v 0).count) where
      rows_are : rows_at v 0 count ≡ final T
      rows_are = rw e set_there

      count_is : count ≡ length (final T)
      count_is = sym (length_chunks row_words count _) ∙ ap length rows_are

      pub can_read : (0 < positions) × (count ≤ most_packets)
      can_read = (omega arith, omega (arith, count_is, slim.0))

      pub finished_answer : Finished (record { steps = k; count = count }) ≡ stopped (made t bs) T (finish T)
      finished_answer = rw (finish_is, p.steps) (ap (λ (x : ℕ). Finished (record { steps = made t bs; count = x })) count_is)

      pub finished_result : (x f : ℕ) (b : Bool) (o o' : List ℕ) → x ≡ f → 16 * f ≤ length o
          → Emitted b (values_of x (rows_at v 0 count)) o o'
          → o' ≡ result_run (Ok (Finished (record { steps = k; count = count }))) (values_of f (final_of (finish T))) o
      unfolding overwritten
      finished_result x f b o o' ex room d =
          let words : List ℕ = values_of f (final T) in
          let l : length words ≤ length o = omega (arith, values_few f (final T), mul-le-mul_right f slim.0) in
          let y : values_of x (rows_at v 0 count) ≡ words = rw (ex, rows_are) in
          let q : b ≡ true = d.fits ∙ ap (λ (u : List ℕ). leb (length u) (length o)) y ∙ le-leb (length words) (length o) l in
          rw finish_is (d.words ∙ ap (λ (c : Bool). onto c (values_of x (rows_at v 0 count)) o) q
          ∙ ap (λ (u : List ℕ). u ++ drop (length u) o) y)

-- the area given back as it was lent
pub given_back : {w a : List ℕ} → IsFirstChunk w a area_words → a ++ drop area_words w ≡ w
given_back {w} f = ap (λ (x : List ℕ). x ++ drop area_words w) f.same ∙ take-append-drop area_words w

-- the area cleared, and what stands past it
pub cleared : (w u : List ℕ) → u ≡ replicate area_words 0 → u ++ drop area_words w ≡ overwritten (replicate area_words 0) w
unfolding overwritten
cleared w u e =
    ap (λ (x : List ℕ). x ++ drop area_words w) e
    ∙ ap (λ (n : ℕ). replicate area_words 0 ++ drop n w) (sym (length-replicate {A = ℕ} area_words 0))
