-- The room is the most positions that a run has live: no schedule has more, and some schedule has as many.
use Prim.Native.Nat.{ℕ, suc, ◌+◌, ◌≤◌, ◌<◌, max}
use native.Mathlib.Nat.{mod-eq_of_lt}
use native.Mathlib.Decide.{dec_le}
use native.Mathlib.Omega.{arith}
use mathlib.Core.Path.{◌≡◌, refl, sym, subst}
use mathlib.Core.List.{List, [], ◌∷◌, Memᴰ}
use lib.ListN.{length, get_or, length-append, length-map}
use Rattle.rules.specs.Packets.{Packet, Packets, without}
use Rattle.rules.specs.Parts.{Part, Id, Drop, Test, Set, Not, Sum, Seq, Beside, Table, Open}
use Rattle.rules.specs.Working.{each, out, room}
use Rattle.rules.specs.States.{Spot, Join, entered, split, paired, Tree, placed, done, waiting, negated, both}
use Rattle.rules.specs.States.{place, enter, finish, leave, next, live, ready, move, run}
use Rattle.rules.specs.Lists.{All, none, also}
use Rattle.rules.proofs.Lists.{all_at}
use Rattle.rules.proofs.Measures.{peak}
use Rattle.rules.proofs.Steps.{Step, next_step, place_peak}
use Rattle.rules.proofs.Schedules.{ran}
use Rattle.rules.proofs.Ways.{Way, here, step, Reaches, reach_here, reach_as, reach_enter, reach_first, reach_second}
use Rattle.rules.proofs.Ways.{reach_not, reach_both}

-- ---- no schedule has more

each_pos : (f : Packet → ℕ) (s : Packets) → ((x : Packet) → 0 < f x) → 0 < each 1 f (λ m n. 1 + (m + n)) s
unfolding each
each_pos f [] h = omega arith
each_pos f (x ∷ []) h = h x
each_pos f (x ∷ (y ∷ s)) h = omega arith

room_pos : (p : Part) (s : Packets) → 0 < room p s
unfolding room
room_pos Id s = omega arith
room_pos Drop s = omega arith
room_pos (Test f v) s = omega arith
room_pos (Set f v) s = omega arith
room_pos (Not p) s = omega arith
room_pos (Sum p q) s = omega arith
room_pos (Seq p q) s = omega arith
room_pos (Beside wp wq p q) s = each_pos _ s (λ x. omega arith)
room_pos (Table x r w start p) s = room_pos p s
room_pos (Open x r w) s = omega arith

pub live_peak : (t : Tree) → live t ≤ peak t
unfolding live peak
live_peak (placed o p s) = room_pos p s
live_peak (done s) = omega arith
live_peak (waiting t o q) = omega (arith, live_peak t)
live_peak (negated k t) = omega (arith, live_peak t)
live_peak (both j t u) = omega (arith, live_peak t, live_peak u)

pub live_room : (o : Spot) (p : Part) (s : Packets) (bs : List ℕ) → live (run (place o p s) bs) ≤ room p s
live_room o p s bs = omega (arith, live_peak (run (place o p s) bs), (ran bs (place o p s)).within, place_peak o p s)

-- ---- a ready position is live

finish_one : (t : Tree) → length (finish t) ≤ 1
unfolding finish
finish_one (placed o p s) = omega arith
finish_one (done s) = omega arith
finish_one (waiting t o q) = omega arith
finish_one (negated k t) = omega arith
finish_one (both j t u) = omega arith

leave_few : (j : Join) (a b : List Packets) → length b ≤ 1 → length (leave j a b) ≤ 1
unfolding leave
leave_few j [] b h = omega arith
leave_few j (s ∷ a) b h = simp length-map h

pub ready_live : (t : Tree) → ready t ≤ live t
unfolding next live
ready_live (placed o p s) = omega arith
ready_live (done s) = omega arith
ready_live (waiting t o q) = simp (length-append, length-map) (omega (arith, finish_one t, ready_live t))
ready_live (negated k t) = simp (length-append, length-map) (omega (arith, finish_one t, ready_live t))
ready_live (both j t u) =
    simp (length-append, length-map) (omega (arith, leave_few j (finish t) (finish u) (finish_one u), ready_live t, ready_live u))

-- ---- a way to a state with n positions

abbrev Full : Tree → ℕ → Type 0
Full t n = Reaches t (λ u. live u ≡ n)

full_seq : (a : Spot) (p : Part) (o : Spot) (q : Part) (s : Packets) → Dec (room q (out p s) ≤ 1 + room p s)
    → Full (place a p s) (room p s) → Full (place o q (out p s)) (room q (out p s))
    → Full (waiting (place a p s) o q) (max (1 + room p s) (room q (out p s)))
unfolding live
full_seq a p o q s (yes h) k l = reach_first o q (λ u e. omega (arith, e)) k
full_seq a p o q s (no h) k l = reach_as (λ u e. omega (arith, e)) (reach_second a p o q s l)

full_both : (j : Join) {t u : Tree} {m n : ℕ} → Full t m → Full u n → Full (both j t u) (1 + (m + n))
unfolding live
full_both j a b = reach_both j (λ x y e f. omega (arith, e, f)) a b

full_not : (k : Packets) {t : Tree} {n : ℕ} → Full t n → Full (negated k t) (1 + n)
unfolding live
full_not k a = reach_not k (λ u e. omega (arith, e)) a

full_here : (o : Spot) (p : Part) (s : Packets) → Full (placed o p s) 1
unfolding live
full_here o p s = reach_here (placed o p s) refl

-- a concurrent part, packet by packet; f and g are the ways of its sides
module _ (o : Spot) (wp wq : ℕ) (p q : Part) (f : (o : Spot) (s : Packets) → Full (place o p s) (room p s))
    (g : (o : Spot) (s : Packets) → Full (place o q s) (room q s)) where
  full_one : (x : Packet) → Full (placed o (Beside wp wq p q) (x ∷ [])) (room (Beside wp wq p q) (x ∷ []))
  unfolding enter room each
  full_one x =
      reach_enter o (Beside wp wq p q) (x ∷ []) (full_both (paired wp wq) (f _ (without wq x ∷ [])) (g _ (without wp x ∷ [])))

  full_beside : (s : Packets) → Full (placed o (Beside wp wq p q) s) (room (Beside wp wq p q) s)
  unfolding enter room each
  full_beside [] = full_here o (Beside wp wq p q) []
  full_beside (x ∷ []) = full_one x
  full_beside (x ∷ (y ∷ s)) = reach_enter o (Beside wp wq p q) (x ∷ (y ∷ s)) (full_both split (full_one x) (full_beside (y ∷ s)))

full : (p : Part) (o : Spot) (s : Packets) → Full (place o p s) (room p s)
unfolding place enter room live
full Id o s = reach_here (done s) refl
full Drop o s = full_here o Drop s
full (Test f v) o s = full_here o (Test f v) s
full (Set f v) o s = full_here o (Set f v) s
full (Not p) o s = reach_enter o (Not p) s (full_not s (full p _ s))
full (Sum p q) o s = reach_enter o (Sum p q) s (full_both entered (full p _ s) (full q _ s))
full (Seq p q) o s = full_seq _ p _ q s (dec_le _ _) (full p _ s) (full q _ (out p s))
full (Beside wp wq p q) o s = full_beside o wp wq p q (full p) (full q) s
full (Table x r w start p) o s = reach_enter o (Table x r w start p) s (full p _ s)
full (Open x r w) o s = full_here o (Open x r w) s

-- ---- as a schedule: an index is below the ready positions, those are live, and the room to come never grows

index : {u : Tree} {xs : List Tree} → Memᴰ u xs → (d : Tree) → (i : ℕ) × (i < length xs) × (get_or xs i d ≡ u)
index (Memᴰ.head e) d = (0, omega arith, sym e)
index (Memᴰ.tail m) d = let k = index m d in (suc k.0, omega (arith, k.1), k.2)

choices : {t u : Tree} (n : ℕ) → Way t u → peak t ≤ n → (bs : List ℕ) × All (λ b. b < n) bs × (run t bs ≡ u)
unfolding run move
choices n (here t) h = ([], none, refl)
choices n (step {t} {u} {v} m w) h =
    let k = index m t in
    let s : Step t u = subst (Step t) k.2 (all_at (next_step t) k.0 t k.1) in
    let r = choices n w (omega (arith, s.within)) in
    let l : k.0 < n = omega (arith, k.1, ready_live t, live_peak t) in
    (k.0 ∷ r.0, also l r.1, rw (mod-eq_of_lt k.1, k.2) r.2)

-- what the steps reach, choices below n reach wherever the room is at most n
pub reached : (P : Tree → Type 0) (o : Spot) (p : Part) (s : Packets) (n : ℕ) → room p s ≤ n → Reaches (place o p s) P
    → (bs : List ℕ) × All (λ b. b < n) bs × P (run (place o p s) bs)
reached P o p s n h r =
    let b = choices n r.way (omega (arith, place_peak o p s)) in
    (b.0, b.1, subst P (sym b.2) r.such)

-- with n 256: by a schedule of bytes
pub room_reached : (o : Spot) (p : Part) (s : Packets) (n : ℕ) → room p s ≤ n
    → (bs : List ℕ) × All (λ b. b < n) bs × (live (run (place o p s) bs) ≡ room p s)
room_reached o p s n h = reached (λ u. live u ≡ room p s) o p s n h (full p o s)
