-- What a part hands down to the parts below it holds at every position of every state that its runs reach.
use Prim.Native.Nat.{ℕ, ◌+◌}
use mathlib.Core.List.{List, [], ◌∷◌}
use Rattle.rules.specs.Packets.{Packets}
use Rattle.rules.specs.Parts.{Part, Id, Drop, Test, Set, Not, Sum, Seq, Beside, Table, Open, size}
use Rattle.rules.specs.States.{Spot, on, moved, losing, Join, Tree, placed, done, waiting, negated, both, place}
use Rattle.rules.specs.States.{enter, finish, leave, next, run}
use Rattle.rules.specs.Places.{Everywhere}
use Rattle.rules.specs.Lists.{All, none, also}
use Rattle.rules.proofs.Lists.{all_append, all_map}
use Rattle.rules.proofs.Schedules.{run_keeps}

-- a property of a part at a spot that each part hands down to the parts below it, where a step places them
pub record Inherited (Q : Spot → Part → Type 0) : Type 0 where
  pub under : {o : Spot} {p : Part} → Q o (Not p) → Q (on 1 o) p
  pub summands : {o : Spot} {p q : Part} → Q o (Sum p q) → Q (on 1 o) p × Q (on (1 + size p) o) q
  pub sequence : {o : Spot} {p q : Part} → Q o (Seq p q) → Q (on 1 o) p × Q (on (1 + size p) o) q
  pub sides : {o : Spot} {wp wq : ℕ} {p q : Part} → Q o (Beside wp wq p q)
      → Q (losing wq (on 3 o)) p × Q (losing wp (on (3 + size p) o)) q
  pub body : {o : Spot} {x r w start : ℕ} {p : Part} → Q o (Table x r w start p) → Q (moved start o) p

module _ (Q : Spot → Part → Type 0) (i : Inherited Q) where
  pub place_everywhere : (p : Part) (o : Spot) (s : Packets) → Q o p → Everywhere Q (place o p s)
  unfolding place Everywhere
  place_everywhere Id o s h = tt
  place_everywhere Drop o s h = h
  place_everywhere (Test f v) o s h = h
  place_everywhere (Set f v) o s h = h
  place_everywhere (Not p) o s h = h
  place_everywhere (Sum p q) o s h = h
  place_everywhere (Seq p q) o s h = let k = i.sequence h in (place_everywhere p (on 1 o) s k.0, k.1)
  place_everywhere (Beside wp wq p q) o s h = h
  place_everywhere (Table x r w start p) o s h = h
  place_everywhere (Open x r w) o s h = h

  enter_everywhere : (p : Part) (o : Spot) (s : Packets) → Q o p → Everywhere Q (enter o p s)
  unfolding enter Everywhere
  enter_everywhere Id o s h = tt
  enter_everywhere Drop o s h = tt
  enter_everywhere (Test f v) o s h = tt
  enter_everywhere (Set f v) o s h = tt
  enter_everywhere (Not p) o s h = place_everywhere p (on 1 o) s (i.under h)
  enter_everywhere (Sum p q) o s h =
      let k = i.summands h in (place_everywhere p _ s k.0, place_everywhere q _ s k.1)
  enter_everywhere (Seq p q) o s h = let k = i.sequence h in (place_everywhere p _ s k.0, k.1)
  enter_everywhere (Beside wp wq p q) o [] h = tt
  enter_everywhere (Beside wp wq p q) o (x ∷ []) h =
      let k = i.sides h in (place_everywhere p _ _ k.0, place_everywhere q _ _ k.1)
  enter_everywhere (Beside wp wq p q) o (x ∷ (y ∷ s)) h = (h, h)
  enter_everywhere (Table x r w start p) o s h = place_everywhere p (moved start o) s (i.body h)
  enter_everywhere (Open x r w) o s h = tt

  any : {A : Type 0} (xs : List A) → All (λ x. Unit {0}) xs
  any [] = none
  any (x ∷ xs) = also tt (any xs)

  leave_everywhere : (j : Join) (a b : List Packets) → All (Everywhere Q) (leave j a b)
  unfolding leave Everywhere
  leave_everywhere j [] b = none
  leave_everywhere j (s ∷ a) b = all_map {Q = λ x. Unit {0}} _ (λ x u. tt) (any b)

  next_everywhere : (t : Tree) → Everywhere Q t → All (Everywhere Q) (next t)
  unfolding next Everywhere
  next_everywhere (placed o p s) h = also (enter_everywhere p o s h) none
  next_everywhere (done s) h = none
  next_everywhere (waiting t o q) h =
      all_append (all_map {Q = λ x. Unit {0}} _ (λ s u. place_everywhere q o s h.1) (any (finish t)))
      (all_map _ (λ t' k. (k, h.1)) (next_everywhere t h.0))
  next_everywhere (negated k t) h =
      all_append (all_map {Q = λ x. Unit {0}} _ (λ s u. tt) (any (finish t))) (all_map _ (λ t' k. k) (next_everywhere t h))
  next_everywhere (both j t u) h =
      all_append (leave_everywhere j (finish t) (finish u))
      (all_append (all_map _ (λ t' k. (k, h.1)) (next_everywhere t h.0)) (all_map _ (λ u' k. (h.0, k)) (next_everywhere u h.1)))

  pub run_everywhere : (o : Spot) (p : Part) (s : Packets) (bs : List ℕ) → Q o p → Everywhere Q (run (place o p s) bs)
  run_everywhere o p s bs h = run_keeps (Everywhere Q) next_everywhere bs (place o p s) (place_everywhere p o s h)
