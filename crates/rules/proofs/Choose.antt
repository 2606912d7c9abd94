-- The step at the i-th ready position, without the list of all next states: what a machine does.
use Prim.Native.Nat.{ℕ, zero, suc, ◌+◌, ◌-◌, ◌<◌, ◌%◌}
use native.Mathlib.Nat.{mod-lt}
use native.Mathlib.Omega.{arith}
use mathlib.Core.Bool.{Bool, true, false, cond}
use mathlib.Core.Path.{◌≡◌, refl, ap, ◌∙◌}
use mathlib.Core.List.{List, [], ◌∷◌, ◌++◌, map}
use lib.Dec.{ltb}
use borrow.Author.Tests.{ltb-true, ltb-false}
use lib.ListN.{length, get_or, length-append, length-map, get_or-map, get_or-append}
use lib.Seq.{get_or-append-add}
use Rattle.rules.specs.Packets.{Packets, keep, lacks}
use Rattle.rules.specs.States.{Join, join, Tree, placed, done, waiting, negated, both, place, enter, finish, leave, next, ready, move}
use Rattle.rules.proofs.Schedules.{View, over, going, view}

-- ---- the ready positions, counted

-- a position's own step is the only one if those below are finished; else there are n below
unfoldable pub own_or : List Packets → ℕ → ℕ
own_or [] n = n
own_or (s ∷ a) n = 1

unfoldable pub own_or₂ : List Packets → List Packets → ℕ → ℕ
own_or₂ [] b n = n
own_or₂ (s ∷ a) b n = own_or b n

unfoldable pub readies : Tree → ℕ
readies (placed o p s) = 1
readies (done s) = 0
readies (waiting t o q) = own_or (finish t) (readies t)
readies (negated k t) = own_or (finish t) (readies t)
readies (both j t u) = own_or₂ (finish t) (finish u) (readies t + readies u)

count_one : {t : Tree} → View t → (f : Packets → Tree) (g : Tree → Tree) → ready t ≡ readies t
    → length (map f (finish t) ++ map g (next t)) ≡ own_or (finish t) (readies t)
unfolding finish next own_or
count_one over f g h = refl
count_one (going t k l e) f g h = rw e (length-map (next t) g ∙ h)

count_two : {t u : Tree} → View t → View u → (j : Join) (f g : Tree → Tree) → ready t ≡ readies t → ready u ≡ readies u
    → length (leave j (finish t) (finish u) ++ (map f (next t) ++ map g (next u))) ≡ own_or₂ (finish t) (finish u) (readies t + readies u)
unfolding finish next own_or own_or₂ leave
count_two over over j f g h k = refl
count_two (over {s}) (going u k l e) j f g h m = rw e (length-map (next u) g ∙ omega arith)
count_two (going t k l e) v j f g h m = rw e (simp (length-append, length-map) (omega arith))

pub ready_count : (t : Tree) → ready t ≡ readies t
unfolding next readies
ready_count (placed o p s) = refl
ready_count (done s) = refl
ready_count (waiting t o q) = count_one (view t) _ _ (ready_count t)
ready_count (negated k t) = count_one (view t) _ _ (ready_count t)
ready_count (both j t u) = count_two (view t) (view u) j _ _ (ready_count t) (ready_count u)

-- ---- the i-th of the next states

-- a position's own step if those below are finished; else the state t after a step below
unfoldable pub own_step : List Packets → (Packets → Tree) → Tree → Tree
own_step [] f t = t
own_step (s ∷ a) f t = f s

unfoldable pub own_step₂ : List Packets → List Packets → (Packets → Packets → Tree) → Tree → Tree
own_step₂ [] b f t = t
own_step₂ (s ∷ a) b f t = own_step b (f s) t

unfoldable pub step_at : Tree → ℕ → Tree
step_at (placed o p s) i = enter o p s
step_at (done s) i = done s
step_at (waiting t o q) i = own_step (finish t) (λ s. place o q s) (waiting (step_at t i) o q)
step_at (negated k t) i = own_step (finish t) (λ s. done (keep (lacks s) k)) (negated k (step_at t i))
step_at (both j t u) i =
    own_step₂ (finish t) (finish u) (λ a b. done (join j a b))
    (cond (ltb i (readies t)) (both j (step_at t i) u) (both j t (step_at u (i - readies t))))

abbrev pub Picks : Tree → Type 0
Picks t = (i : ℕ) → i < ready t → get_or (next t) i t ≡ step_at t i

at_one : {t : Tree} → View t → (f : Packets → Tree) (g : Tree → Tree) → Picks t → (i : ℕ) → i < length (map f (finish t) ++ map g (next t))
    → get_or (map f (finish t) ++ map g (next t)) i (g t) ≡ own_step (finish t) f (g (step_at t i))
unfolding finish next own_step
at_one over f g h zero l = refl
at_one over f g h (suc i) l = absurd (omega arith)
at_one (going t k m e) f g h i l = rw e (get_or-map g (next t) i t ∙ ap g (h i (rw (e, length-map (next t) g) at l)))

module _ (j : Join) (t u : Tree) (i : ℕ) (h : Picks t) (k : Picks u) where
  abbrev lefts : List Tree
  lefts = map (λ t'. both j t' u) (next t)

  abbrev rights : List Tree
  rights = map (λ u'. both j t u') (next u)

  at_sides : (b : Bool) → ltb i (readies t) ≡ b → i < length (lefts ++ rights)
      → get_or (lefts ++ rights) i (both j t u) ≡ cond b (both j (step_at t i) u) (both j t (step_at u (i - readies t)))
  at_sides true e l =
      let n = ltb-true i (readies t) e in
      let c = ready_count t in
      get_or-append lefts rights (both j t u) i (simp length-map (omega arith))
      ∙ (get_or-map (λ t'. both j t' u) (next t) i t ∙ ap (λ (t' : Tree). both j t' u) (h i (omega arith)))
  at_sides false e l =
      let n = ltb-false i (readies t) e in
      let c = ready_count t in
      let d = i - readies t in
      let w : i ≡ length lefts + d = simp length-map (omega arith) in
      ap (λ (z : ℕ). get_or (lefts ++ rights) z (both j t u)) w
      ∙ (get_or-append-add lefts rights d (both j t u)
      ∙ (get_or-map (λ u'. both j t u') (next u) d u
      ∙ ap (λ (u' : Tree). both j t u') (k d (omega (arith, simp (length-append, length-map) at l)))))

at_two : {t u : Tree} → View t → View u → (j : Join) → Picks t → Picks u → Picks (both j t u)
unfolding finish next leave own_step own_step₂ step_at
at_two over over j h k zero l = refl
at_two over over j h k (suc i) l = absurd (omega arith)
at_two (over {s}) (going u g m e) j h k i l = rw e (at_sides j (done s) u i h k (ltb i (readies (done s))) refl (rw e at l))
at_two (going t g m e) (over {s}) j h k i l = rw e (at_sides j t (done s) i h k (ltb i (readies t)) refl (rw e at l))
at_two (going t g m e) (going u o p c) j h k i l = rw e (at_sides j t u i h k (ltb i (readies t)) refl (rw e at l))

pub step_at_lem : (t : Tree) → Picks t
unfolding next step_at
step_at_lem (placed o p s) zero l = refl
step_at_lem (placed o p s) (suc i) l = absurd (omega arith)
step_at_lem (done s) i l = refl
step_at_lem (waiting t o q) i l = at_one (view t) _ (λ t'. waiting t' o q) (step_at_lem t) i l
step_at_lem (negated k t) i l = at_one (view t) _ (λ t'. negated k t') (step_at_lem t) i l
step_at_lem (both j t u) i l = at_two (view t) (view u) j (step_at_lem t) (step_at_lem u) i l

pub move_at : (b : ℕ) (t : Tree) → 0 < readies t → move b t ≡ step_at t (b % readies t)
unfolding move
move_at b t h = let c = ready_count t in rw c (step_at_lem t (b % readies t) (omega (arith, mod-lt b h)))
