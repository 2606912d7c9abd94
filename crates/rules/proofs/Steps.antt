-- One step keeps the final set, takes one of the steps to go, and stays within the room and the width.
use Prim.Native.Nat.{suc, ◌+◌, ◌≤◌}
use native.Mathlib.Omega.{arith}
use mathlib.Core.Path.{◌≡◌, refl, sym, ap, ◌∙◌}
use mathlib.Core.List.{List, [], ◌∷◌}
use Rattle.rules.specs.Packets.{Packets, without, keep, lacks}
use Rattle.rules.specs.Parts.{Part, Id, Drop, Test, Set, Not, Sum, Seq, Beside, Table, Open, size}
use Rattle.rules.specs.Working.{each, out, steps, room, own, width}
use Rattle.rules.specs.States.{Spot, on, moved, losing, Join, join, Tree, placed, done, waiting, negated, both}
use Rattle.rules.specs.States.{place, enter, finish, leave, next}
use Rattle.rules.specs.Lists.{All, none, also}
use Rattle.rules.proofs.Lists.{all_append, all_map}
use Rattle.rules.proofs.Sets.{keep_length}
use Rattle.rules.proofs.Measures.{final, extra, rest, peak, broad}
use Rattle.rules.proofs.Bounds.{handed, width_one, width_more}

-- ---- a placed part ends with its result, in its steps, within its room and its width

pub place_final : (o : Spot) (p : Part) (s : Packets) → final (place o p s) ≡ out p s
unfolding final place out
place_final o Id s = refl
place_final o Drop s = refl
place_final o (Test f v) s = refl
place_final o (Set f v) s = refl
place_final o (Not p) s = refl
place_final o (Sum p q) s = refl
place_final o (Seq p q) s = ap (out q) (place_final (on 1 o) p s)
place_final o (Beside wp wq p q) s = refl
place_final o (Table x r w start p) s = refl
place_final o (Open x r w) s = refl

pub place_rest : (o : Spot) (p : Part) (s : Packets) → rest (place o p s) ≡ steps p s
unfolding rest place steps extra
place_rest o Id s = refl
place_rest o Drop s = refl
place_rest o (Test f v) s = refl
place_rest o (Set f v) s = refl
place_rest o (Not p) s = omega arith
place_rest o (Sum p q) s = omega arith
place_rest o (Seq p q) s = omega (arith, place_rest (on 1 o) p s, ap (steps q) (place_final (on 1 o) p s))
place_rest o (Beside wp wq p q) s = omega arith
place_rest o (Table x r w start p) s = omega arith
place_rest o (Open x r w) s = refl

pub place_peak : (o : Spot) (p : Part) (s : Packets) → peak (place o p s) ≡ room p s
unfolding peak place room
place_peak o Id s = refl
place_peak o Drop s = refl
place_peak o (Test f v) s = refl
place_peak o (Set f v) s = refl
place_peak o (Not p) s = refl
place_peak o (Sum p q) s = refl
place_peak o (Seq p q) s = omega (arith, place_peak (on 1 o) p s, ap (room q) (place_final (on 1 o) p s))
place_peak o (Beside wp wq p q) s = refl
place_peak o (Table x r w start p) s = refl
place_peak o (Open x r w) s = refl

pub place_broad : (o : Spot) (p : Part) (s : Packets) → broad (place o p s) ≤ width p s
unfolding broad place width
place_broad o Id s = handed Id s
place_broad o Drop s = omega arith
place_broad o (Test f v) s = omega arith
place_broad o (Set f v) s = omega arith
place_broad o (Not p) s = omega arith
place_broad o (Sum p q) s = omega arith
place_broad o (Seq p q) s = omega (arith, place_broad (on 1 o) p s, ap (width q) (place_final (on 1 o) p s))
place_broad o (Beside wp wq p q) s = omega arith
place_broad o (Table x r w start p) s = omega arith
place_broad o (Open x r w) s = omega arith

-- ---- what one step does

pub record Step (t u : Tree) : Type 0 where
  pub same : final u ≡ final t
  pub less : suc (rest u) ≡ rest t
  pub within : peak u ≤ peak t
  pub slim : broad u ≤ broad t

-- the step at a placed part
module _ (o : Spot) where
  enter_final : (p : Part) (s : Packets) → final (enter o p s) ≡ out p s
  unfolding final enter out each join
  enter_final Id s = refl
  enter_final Drop s = refl
  enter_final (Test f v) s = refl
  enter_final (Set f v) s = refl
  enter_final (Not p) s = ap (λ (z : Packets). keep (lacks z) s) (place_final (on 1 o) p s)
  enter_final (Sum p q) s = cc (place_final (on 1 o) p s, place_final (on (1 + size p) o) q s)
  enter_final (Seq p q) s = ap (out q) (place_final (on 1 o) p s)
  enter_final (Beside wp wq p q) [] = refl
  enter_final (Beside wp wq p q) (x ∷ []) =
      let l = losing wq (on 3 o) in
      let r = losing wp (on (3 + size p) o) in
      rw (place_final l p (without wq x ∷ []), place_final r q (without wp x ∷ []))
  enter_final (Beside wp wq p q) (x ∷ (y ∷ s)) = refl
  enter_final (Table x r w start p) s = place_final (moved start o) p s
  enter_final (Open x r w) s = refl

  pub enter_rest : (p : Part) (s : Packets) → suc (rest (enter o p s)) ≡ extra p + steps p s
  unfolding rest enter steps extra each
  enter_rest Id s = refl
  enter_rest Drop s = refl
  enter_rest (Test f v) s = refl
  enter_rest (Set f v) s = refl
  enter_rest (Not p) s = omega (arith, place_rest (on 1 o) p s)
  enter_rest (Sum p q) s = omega (arith, place_rest (on 1 o) p s, place_rest (on (1 + size p) o) q s)
  enter_rest (Seq p q) s = omega (arith, place_rest (on 1 o) p s, ap (steps q) (place_final (on 1 o) p s))
  enter_rest (Beside wp wq p q) [] = refl
  enter_rest (Beside wp wq p q) (x ∷ []) =
      let l = losing wq (on 3 o) in
      let r = losing wp (on (3 + size p) o) in
      omega (arith, place_rest l p (without wq x ∷ []), place_rest r q (without wp x ∷ []))
  enter_rest (Beside wp wq p q) (x ∷ (y ∷ s)) = omega arith
  enter_rest (Table x r w start p) s = omega (arith, place_rest (moved start o) p s)
  enter_rest (Open x r w) s = refl

  enter_peak : (p : Part) (s : Packets) → peak (enter o p s) ≤ room p s
  unfolding peak enter room each
  enter_peak Id s = omega arith
  enter_peak Drop s = omega arith
  enter_peak (Test f v) s = omega arith
  enter_peak (Set f v) s = omega arith
  enter_peak (Not p) s = omega (arith, place_peak (on 1 o) p s)
  enter_peak (Sum p q) s = omega (arith, place_peak (on 1 o) p s, place_peak (on (1 + size p) o) q s)
  enter_peak (Seq p q) s = omega (arith, place_peak (on 1 o) p s, ap (room q) (place_final (on 1 o) p s))
  enter_peak (Beside wp wq p q) [] = omega arith
  enter_peak (Beside wp wq p q) (x ∷ []) =
      let l = losing wq (on 3 o) in
      let r = losing wp (on (3 + size p) o) in
      omega (arith, place_peak l p (without wq x ∷ []), place_peak r q (without wp x ∷ []))
  enter_peak (Beside wp wq p q) (x ∷ (y ∷ s)) = omega arith
  enter_peak (Table x r w start p) s = omega (arith, place_peak (moved start o) p s)
  enter_peak (Open x r w) s = omega arith

  enter_broad : (p : Part) (s : Packets) → broad (enter o p s) ≤ width p s
  unfolding broad enter width own each join out final
  enter_broad Id s = omega arith
  enter_broad Drop s = omega arith
  enter_broad (Test f v) s = omega arith
  enter_broad (Set f v) s = omega arith
  enter_broad (Not p) s = omega (arith, place_broad (on 1 o) p s)
  enter_broad (Sum p q) s =
      rw (place_final (on 1 o) p s, place_final (on (1 + size p) o) q s)
      (omega (arith, place_broad (on 1 o) p s, place_broad (on (1 + size p) o) q s))
  enter_broad (Seq p q) s = omega (arith, place_broad (on 1 o) p s, ap (width q) (place_final (on 1 o) p s))
  enter_broad (Beside wp wq p q) [] = omega arith
  enter_broad (Beside wp wq p q) (x ∷ []) =
      let l = losing wq (on 3 o) in
      let r = losing wp (on (3 + size p) o) in
      rw (place_final l p (without wq x ∷ []), place_final r q (without wp x ∷ []))
      (omega (arith, width_one wp wq p q x, place_broad l p (without wq x ∷ []), place_broad r q (without wp x ∷ [])))
  enter_broad (Beside wp wq p q) (x ∷ (y ∷ s)) = omega (arith, width_more wp wq p q x (y ∷ s))
  enter_broad (Table x r w start p) s = omega (arith, place_broad (moved start o) p s)
  enter_broad (Open x r w) s = omega arith

  enter_step : (p : Part) (s : Packets) → Step (placed o p s) (enter o p s)
  unfolding final rest peak broad
  enter_step p s = record { same = enter_final p s; less = enter_rest p s; within = enter_peak p s; slim = enter_broad p s }

-- ---- the step of a position whose positions below are finished

record Ended (t : Tree) (s : Packets) : Type 0 where
  set : final t ≡ s
  rest : rest t ≡ 0

ended : (t : Tree) → All (Ended t) (finish t)
unfolding finish final rest
ended (placed o p s) = none
ended (done s) = also (record { set = refl; rest = refl }) none
ended (waiting t o q) = none
ended (negated k t) = none
ended (both j t u) = none

takes : (t : Tree) (o : Spot) (q : Part) (s : Packets) → Ended t s → Step (waiting t o q) (place o q s)
unfolding final rest peak broad
takes t o q s e = record {
  same = place_final o q s ∙ ap (out q) (sym e.set);
  less = omega (arith, place_rest o q s, ap (steps q) e.set, e.rest);
  within = omega (arith, place_peak o q s, ap (room q) e.set);
  slim = omega (arith, place_broad o q s, ap (width q) e.set);
}

leaves_not : (t : Tree) (k s : Packets) → Ended t s → Step (negated k t) (done (keep (lacks s) k))
unfolding final rest peak broad
leaves_not t k s e = record {
  same = ap (λ (z : Packets). keep (lacks z) k) (sym e.set);
  less = omega (arith, e.rest);
  within = omega arith;
  slim = omega (arith, keep_length (lacks s) k);
}

joins : (j : Join) (t u : Tree) (s : Packets) → Ended t s → (r : Packets) → Ended u r → Step (both j t u) (done (join j s r))
unfolding final rest peak broad
joins j t u s e r f = record {
  same = cc (e.set, f.set);
  less = omega (arith, e.rest, f.rest);
  within = omega arith;
  slim = rw (e.set, f.set) (omega arith);
}

leaves : (j : Join) (t u : Tree) {a b : List Packets} → All (Ended t) a → All (Ended u) b → All (Step (both j t u)) (leave j a b)
unfolding leave
leaves j t u none k = none
leaves j t u (also {x} e h) k = all_map _ (joins j t u x e) k

-- ---- a step below

below_seq : (o : Spot) (q : Part) (t t' : Tree) → Step t t' → Step (waiting t o q) (waiting t' o q)
unfolding final rest peak broad
below_seq o q t t' h = record {
  same = ap (out q) h.same;
  less = omega (arith, ap (steps q) h.same, h.less);
  within = omega (arith, ap (room q) h.same, h.within);
  slim = omega (arith, ap (width q) h.same, h.slim);
}

below_not : (k : Packets) (t t' : Tree) → Step t t' → Step (negated k t) (negated k t')
unfolding final rest peak broad
below_not k t t' h = record {
  same = ap (λ (z : Packets). keep (lacks z) k) h.same;
  less = omega (arith, h.less);
  within = omega (arith, h.within);
  slim = omega (arith, h.slim);
}

below_left : (j : Join) (u t t' : Tree) → Step t t' → Step (both j t u) (both j t' u)
unfolding final rest peak broad
below_left j u t t' h = record {
  same = cc h.same;
  less = omega (arith, h.less);
  within = omega (arith, h.within);
  slim = rw h.same (omega (arith, h.slim));
}

below_right : (j : Join) (t u u' : Tree) → Step u u' → Step (both j t u) (both j t u')
unfolding final rest peak broad
below_right j t u u' h = record {
  same = cc h.same;
  less = omega (arith, h.less);
  within = omega (arith, h.within);
  slim = rw h.same (omega (arith, h.slim));
}

-- every step, wherever it is ready
pub next_step : (t : Tree) → All (Step t) (next t)
unfolding next
next_step (placed o p s) = also (enter_step o p s) none
next_step (done s) = none
next_step (waiting t o q) = all_append (all_map _ (takes t o q) (ended t)) (all_map _ (below_seq o q t) (next_step t))
next_step (negated k t) = all_append (all_map _ (leaves_not t k) (ended t)) (all_map _ (below_not k t) (next_step t))
next_step (both j t u) =
    all_append (leaves j t u (ended t) (ended u))
    (all_append (all_map _ (below_left j u t) (next_step t)) (all_map _ (below_right j t u) (next_step u)))
