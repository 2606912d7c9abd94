-- Every state that a run of a readable book reaches is fit: its parts stand in the book, a placed one acts by a step of its own, its sets
-- ascend and have at most 16 packets, and it has at most 160 positions.
use Prim.Native.Nat.{ℕ, ◌+◌, ◌≤◌}
use native.Mathlib.Omega.{arith}
use mathlib.Core.Path.{◌≡◌, refl}
use mathlib.Core.List.{List, [], ◌∷◌, map}
use Rattle.rules.specs.Packets.{Packets, Ascending, passes, put, without, keep, lacks}
use Rattle.rules.specs.Parts.{Part, Id, Drop, Test, Set, Not, Sum, Seq, Beside, Table, Open, size}
use Rattle.rules.specs.Reading.{body_start, main_of}
use Rattle.rules.specs.Working.{room, width}
use Rattle.rules.specs.States.{Spot, on, moved, losing, Join, entered, split, paired, join, Tree, placed, done, waiting, negated, both}
use Rattle.rules.specs.States.{place, enter, finish, leave, next, run, held}
use Rattle.rules.specs.Answers.{start_set, start_spot, start}
use Rattle.rules.specs.Places.{Everywhere}
use Rattle.rules.specs.Lists.{All, none, also}
use Rattle.rules.proofs.Lists.{all_append, all_map}
use Rattle.rules.proofs.Sets.{union_ascending, gathered_ascending, keep_ascending, pairs_ascending}
use Rattle.rules.proofs.Schedules.{run_keeps, held_width}
use Rattle.rules.proofs.Rooms.{live_room}
use Rattle.rules.proofs.Everywhere.{Inherited, run_everywhere}
use Rattle.steps.specs.Standing.{part_of, Runnable, Readable}
use Rattle.steps.proofs.Standing.{Found, below_not, below_sum, below_seq, below_beside, below_table}
use Rattle.area.specs.Words.{positions}
use Rattle.machine.specs.Runs.{Reads, Fit, Playable}

-- ---- the sets ascend, and what is placed rests

abbrev Rests : Spot → Part → Packets → Type 0
Rests o p s = (place o p s ≡ placed o p s) × Ascending s

unfoldable Ordered : Tree → Type 0
Ordered (placed o p s) = Rests o p s
Ordered (done s) = Ascending s
Ordered (waiting t o q) = Ordered t
Ordered (negated k t) = Ascending k × Ordered t
Ordered (both j t u) = Ordered t × Ordered u

place_ordered : (p : Part) (o : Spot) (s : Packets) → Ascending s → Ordered (place o p s)
unfolding place Ordered
place_ordered Id o s h = h
place_ordered Drop o s h = (refl, h)
place_ordered (Test f v) o s h = (refl, h)
place_ordered (Set f v) o s h = (refl, h)
place_ordered (Not p) o s h = (refl, h)
place_ordered (Sum p q) o s h = (refl, h)
place_ordered (Seq p q) o s h = place_ordered p (on 1 o) s h
place_ordered (Beside wp wq p q) o s h = (refl, h)
place_ordered (Table x r w start p) o s h = (refl, h)
place_ordered (Open x r w) o s h = (refl, h)

enter_ordered : (p : Part) (o : Spot) (s : Packets) → Ascending s → Ordered (enter o p s)
unfolding enter place Ordered
enter_ordered Id o s h = h
enter_ordered Drop o s h = tt
enter_ordered (Test f v) o s h = keep_ascending (passes f v) s h
enter_ordered (Set f v) o s h = gathered_ascending (map (put f v) s)
enter_ordered (Not p) o s h = (h, place_ordered p (on 1 o) s h)
enter_ordered (Sum p q) o s h = (place_ordered p (on 1 o) s h, place_ordered q (on (1 + size p) o) s h)
enter_ordered (Seq p q) o s h = place_ordered p (on 1 o) s h
enter_ordered (Beside wp wq p q) o [] h = tt
enter_ordered (Beside wp wq p q) o (x ∷ []) h = (
  place_ordered p (losing wq (on 3 o)) (without wq x ∷ []) (tt, tt),
  place_ordered q (losing wp (on (3 + size p) o)) (without wp x ∷ [])
      (tt, tt),
)
enter_ordered (Beside wp wq p q) o (x ∷ (y ∷ s)) h = ((refl, (tt, tt)), (refl, h.1))
enter_ordered (Table x r w start p) o s h = place_ordered p (moved start o) s h
enter_ordered (Open x r w) o s h = tt

finish_ordered : (t : Tree) → Ordered t → All Ascending (finish t)
unfolding finish Ordered
finish_ordered (placed o p s) h = none
finish_ordered (done s) h = also h none
finish_ordered (waiting t o q) h = none
finish_ordered (negated k t) h = none
finish_ordered (both j t u) h = none

join_ordered : (j : Join) (s t : Packets) → Ascending s → Ascending (join j s t)
unfolding join
join_ordered entered s t h = union_ascending s t h
join_ordered split s t h = union_ascending s t h
join_ordered (paired wp wq) s t h = pairs_ascending wq s t

leave_ordered : (j : Join) (a b : List Packets) → All Ascending a → All Ascending b → All Ordered (leave j a b)
unfolding leave Ordered
leave_ordered j _ b none k = none
leave_ordered j _ b (also {x = s} h a) k = all_map (λ t. done (join j s t)) (λ t g. join_ordered j s t h) k

next_ordered : (t : Tree) → Ordered t → All Ordered (next t)
unfolding next Ordered
next_ordered (placed o p s) h = also (enter_ordered p o s h.1) none
next_ordered (done s) h = none
next_ordered (waiting t o q) h =
    all_append (all_map (λ s. place o q s) (λ s g. place_ordered q o s g) (finish_ordered t h))
    (all_map (λ t'. waiting t' o q) (λ t' g. g) (next_ordered t h))
next_ordered (negated k t) h =
    all_append (all_map (λ s. done (keep (lacks s) k)) (λ s g. keep_ascending (lacks s) k h.0) (finish_ordered t h.1))
    (all_map (λ t'. negated k t') (λ t' g. (h.0, g)) (next_ordered t h.1))
next_ordered (both j t u) h =
    all_append (leave_ordered j (finish t) (finish u) (finish_ordered t h.0) (finish_ordered u h.1))
    (all_append (all_map (λ t'. both j t' u) (λ t' g. (g, h.1)) (next_ordered t h.0))
    (all_map (λ u'. both j t u') (λ u' g. (h.0, g)) (next_ordered u h.1)))

-- ---- the parts stand in the book

found_reads : {s : List ℕ} {at at' : ℕ} {p : Part} → Found s at p → at ≡ at' → (part_of s at' ≡ p) × Runnable s at'
found_reads h e = rw (← e) (h.same, h.stands)

inherited : (s : List ℕ) → Readable s → Inherited (Reads s)
inherited s b = record {
  under = λ {o} {p} h. found_reads (below_not h.1 p h.0) refl;
  summands = λ {o} {p} {q} h.
      let k = below_sum h.1 p q h.0 in (found_reads k.first refl, found_reads k.second (omega arith));
  sequence = λ {o} {p} {q} h.
      let k = below_seq h.1 p q h.0 in (found_reads k.first refl, found_reads k.second (omega arith));
  sides = λ {o} {wp} {wq} {p} {q} h.
      let k = below_beside h.1 wp wq p q h.0 in (found_reads k.first refl, found_reads k.second (omega arith));
  body = λ {o} {x} {r} {w} {start} {p} h.
      let k = below_table h.1 b x r w start p h.0 in (k.1, k.2);
}

-- ---- all together

fit_state : (s : List ℕ) (t : Tree) → Ordered t → Everywhere (Reads s) t → held t ≤ 16 → Fit s t
unfolding Fit Ordered Everywhere held
fit_state s (placed o p S) a e h = (e, a.0, (h, a.1))
fit_state s (done S) a e h = (h, a)
fit_state s (waiting t o q) a e h = (fit_state s t a e.0 h, e.1)
fit_state s (negated k t) a e h = ((omega arith, a.0), fit_state s t a.1 e (omega arith))
fit_state s (both j t u) a e h = (fit_state s t a.0 e.0 (omega arith), fit_state s u a.1 e.1 (omega arith))

-- a run from a part that stands, on an ascending set, of width 16 and room 160 at most
playable : (s : List ℕ) (o : Spot) (S : Packets) → Readable s → Runnable s o.at → Ascending S
    → width (part_of s o.at) S ≤ 16 → room (part_of s o.at) S ≤ positions → Playable s (place o (part_of s o.at) S)
playable s o S b st up w r bs =
    let p : Part = part_of s o.at in
    let t : Tree = run (place o p S) bs in
    let a = run_keeps Ordered next_ordered bs (place o p S) (place_ordered p o S up) in
    let e = run_everywhere (Reads s) (inherited s b) o p S bs (refl, st) in
    (fit_state s t a e (omega (arith, held_width o p S bs)), omega (arith, live_room o p S bs))

pub start_playable : (s packet : List ℕ) → Readable s → Runnable s (body_start s 0) → width (main_of s) (start_set packet) ≤ 16
    → room (main_of s) (start_set packet) ≤ positions → Playable s (start s packet)
unfolding start main_of part_of
start_playable s packet b st w r = playable s (start_spot s) (start_set packet) b st (tt, tt) w r
