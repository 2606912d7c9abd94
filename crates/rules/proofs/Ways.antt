-- Ways: from one state to another by steps, in whatever order; what holds of some state that the steps reach.
use Prim.Native.Nat.{ℕ, zero, suc, ◌<◌}
use native.Mathlib.Omega.{arith}
use mathlib.Core.Path.{◌≡◌, refl, subst}
use mathlib.Core.List.Memᴰ
use mathlib.Core.List.{List, [], ◌∷◌, map, Memᴰ}
use lib.ListN.{length, get_or}
use Rattle.rules.specs.Packets.{Packets}
use Rattle.rules.specs.Parts.{Part}
use Rattle.rules.specs.Working.{out}
use Rattle.rules.specs.States.{Spot, Join, Tree, placed, done, waiting, negated, both, place, enter, finish, leave, next}
use Rattle.rules.proofs.Lists.{all_at}
use Rattle.rules.proofs.Measures.{final, rest}
use Rattle.rules.proofs.Steps.{Step, next_step, place_final}
use Rattle.rules.proofs.Schedules.{finished, unfinished}

pub data Way : Tree → Tree → Type 0 where
  here : (t : Tree) → Way t t
  step : {t u v : Tree} → Memᴰ u (next t) → Way u v → Way t v

join_ways : {t u v : Tree} → Way t u → Way u v → Way t v
join_ways (here t) k = k
join_ways (step m h) k = step m (join_ways h k)

up_seq : (o : Spot) (q : Part) {t u : Tree} → Way t u → Way (waiting t o q) (waiting u o q)
unfolding next
up_seq o q (here t) = here (waiting t o q)
up_seq o q (step {t} m h) =
    step (Memᴰ.append_right (map (λ s. place o q s) (finish t)) (Memᴰ.map (λ x. waiting x o q) m)) (up_seq o q h)

up_not : (k : Packets) {t u : Tree} → Way t u → Way (negated k t) (negated k u)
unfolding next
up_not k (here t) = here (negated k t)
up_not k (step {t} m h) = step (Memᴰ.append_right (map _ (finish t)) (Memᴰ.map (λ x. negated k x) m)) (up_not k h)

up_left : (j : Join) (v : Tree) {t u : Tree} → Way t u → Way (both j t v) (both j u v)
unfolding next
up_left j v (here t) = here (both j t v)
up_left j v (step {t} m h) =
    let l = Memᴰ.append_left (map (λ x. both j t x) (next v)) (Memᴰ.map (λ x. both j x v) m) in
    step (Memᴰ.append_right (leave j (finish t) (finish v)) l) (up_left j v h)

up_right : (j : Join) (v : Tree) {t u : Tree} → Way t u → Way (both j v t) (both j v u)
unfolding next
up_right j v (here t) = here (both j v t)
up_right j v (step {t} m h) =
    let r = Memᴰ.append_right (map (λ x. both j x t) (next v)) (Memᴰ.map (λ x. both j v x) m) in
    step (Memᴰ.append_right (leave j (finish v) (finish t)) r) (up_right j v h)

entering : (o : Spot) (p : Part) (s : Packets) {u : Tree} → Way (enter o p s) u → Way (placed o p s) u
unfolding next
entering o p s h = step (Memᴰ.head refl) h

-- some way leads to the end
mem_first : (xs : List Tree) (d : Tree) → 0 < length xs → Memᴰ (get_or xs 0 d) xs
mem_first [] d h = absurd (omega arith)
mem_first (x ∷ xs) d h = Memᴰ.head refl

to_end : (n : ℕ) (t : Tree) → rest t ≡ n → Way t (done (final t))
to_end zero t e = subst (λ (u : Tree). Way t u) (finished t e) (here t)
to_end (suc n) t e =
    let h = (unfinished t (omega arith)).1 in
    let u = get_or (next t) 0 t in
    let s : Step t u = all_at (next_step t) 0 t h in
    let w : Way u (done (final t)) = rw s.same at (to_end n u (omega (arith, s.less))) in
    step (mem_first (next t) t h) w

to_out : (o : Spot) (p : Part) (s : Packets) → Way (place o p s) (done (out p s))
to_out o p s = rw (place_final o p s) at (to_end (rest (place o p s)) (place o p s) refl)

taking : (a : Spot) (p : Part) (o : Spot) (q : Part) (s : Packets) {u : Tree} → Way (place o q (out p s)) u
    → Way (waiting (place a p s) o q) u
unfolding next finish
taking a p o q s k = join_ways (up_seq o q (to_out a p s)) (step (Memᴰ.head refl) k)

-- ---- some state that the steps reach is such

pub record Reaches (t : Tree) (P : Tree → Type 0) : Type 0 where
  pub state : Tree
  pub way : Way t state
  pub such : P state

pub reach_here : {P : Tree → Type 0} (t : Tree) → P t → Reaches t P
reach_here t h = record { state = t; way = here t; such = h }

pub reach_as : {P Q : Tree → Type 0} {t : Tree} → ((u : Tree) → P u → Q u) → Reaches t P → Reaches t Q
reach_as f r = record { state = r.state; way = r.way; such = f r.state r.such }

pub reach_out : {P : Tree → Type 0} (o : Spot) (p : Part) (s : Packets) → P (done (out p s)) → Reaches (place o p s) P
reach_out o p s h = record { state = done (out p s); way = to_out o p s; such = h }

pub reach_enter : {P : Tree → Type 0} (o : Spot) (p : Part) (s : Packets) → Reaches (enter o p s) P → Reaches (placed o p s) P
reach_enter o p s r = record { state = r.state; way = entering o p s r.way; such = r.such }

-- p ; q: while p is below, and once q is taken
pub reach_first : {P Q : Tree → Type 0} {t : Tree} (o : Spot) (q : Part) → ((u : Tree) → P u → Q (waiting u o q))
    → Reaches t P → Reaches (waiting t o q) Q
reach_first o q f r = record { state = waiting r.state o q; way = up_seq o q r.way; such = f r.state r.such }

pub reach_second : {P : Tree → Type 0} (a : Spot) (p : Part) (o : Spot) (q : Part) (s : Packets) → Reaches (place o q (out p s)) P
    → Reaches (waiting (place a p s) o q) P
reach_second a p o q s r = record { state = r.state; way = taking a p o q s r.way; such = r.such }

pub reach_not : {P Q : Tree → Type 0} {t : Tree} (k : Packets) → ((u : Tree) → P u → Q (negated k u)) → Reaches t P
    → Reaches (negated k t) Q
reach_not k f r = record { state = negated k r.state; way = up_not k r.way; such = f r.state r.such }

pub reach_both : {P Q R : Tree → Type 0} {t u : Tree} (j : Join) → ((x y : Tree) → P x → Q y → R (both j x y))
    → Reaches t P → Reaches u Q → Reaches (both j t u) R
reach_both j f a b = record {
  state = both j a.state b.state;
  way = join_ways (up_left j _ a.way) (up_right j _ b.way);
  such = f a.state b.state a.such b.such;
}
