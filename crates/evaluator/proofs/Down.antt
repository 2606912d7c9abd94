-- The cycle of calls: what passes down, what falls, and what comes back up.
use Prim.Native.Nat.{ℕ, ◌+◌, ◌*◌, ◌≤◌, ◌<◌}
use native.Mathlib.Omega.{arith}
use mathlib.Core.Path.{◌≡◌, refl, ap}
use mathlib.Core.Bool.{Bool, true, false, ◌||◌}
use mathlib.Core.List.{List, [], ◌∷◌}
use native.Mathlib.Numerals.{add-one}
use lib.ListN.{length, take, drop, get_or, length-drop}
use lib.Seq.{drop-cons, take_all}
use Rattle.std.specs.Prelude.{Result}
use Rattle.rules.specs.Packets.{places, Packet, Packets, without, most_packets}
use Rattle.rules.specs.Parts.{Part, Not, Sum, Seq, Beside, Table, parts, deep, names_open}
use Rattle.rules.specs.Reading.{part_at, after}
use Rattle.rules.specs.Working.{width}
use Rattle.rules.proofs.Bounds.{limit, room_steps, width_one, width_more}
use Rattle.rules.proofs.CodeLaws.{PartThere}
use Rattle.rows.specs.Chunks.{rows_of}
use Rattle.rows.proofs.Holding.{length_packets}
use Rattle.sets.specs.declared.packet_set.TooWide.{TooWide}
use Rattle.sets.specs.declared.packet_set.PacketSet.{PacketSet}
use Rattle.sets.specs.Whole.{packets}
use Rattle.sets.proofs.Rows.{slice_end}
use Rattle.evaluator.specs.Work.{Fair, NotWide, Did, Small}
use Rattle.evaluator.specs.declared.Worked.{Worked}
use Rattle.evaluator.proofs.WorkLaws.{no}

-- ---- down

or_left : (a b : Bool) → (a || b) ≡ false → a ≡ false
or_left true b e = no e
or_left false b e = refl

or_right : (a b : Bool) → (a || b) ≡ false → b ≡ false
or_right true b e = no e
or_right false b e = e

-- p stands below q: it has fewer parts, and is within its limits
pub record Under (p q : Part) : Type 0 where
  pub less : parts p < parts q
  pub shallow : deep p ≤ deep q
  pub closed : names_open q ≡ false → names_open p ≡ false

pub under_not : {p : Part} → Under p (Not p)
unfolding parts deep names_open
under_not = record { less = omega arith; shallow = omega arith; closed = λ e. e }

pub under_table : {x r w start : ℕ} {p : Part} → Under p (Table x r w start p)
unfolding parts deep names_open
under_table = record { less = omega arith; shallow = omega arith; closed = λ e. e }

module _ {p q : Part} where
  pub sum_left : Under p (Sum p q)
  unfolding parts deep names_open
  sum_left = record { less = omega arith; shallow = omega arith; closed = or_left _ _ }

  pub sum_right : Under q (Sum p q)
  unfolding parts deep names_open
  sum_right = record { less = omega arith; shallow = omega arith; closed = or_right (names_open p) _ }

  pub seq_left : Under p (Seq p q)
  unfolding parts deep names_open
  seq_left = record { less = omega arith; shallow = omega arith; closed = or_left _ _ }

  pub seq_right : Under q (Seq p q)
  unfolding parts deep names_open
  seq_right = record { less = omega arith; shallow = omega arith; closed = or_right (names_open p) _ }

  pub beside_left : {wp wq : ℕ} → Under p (Beside wp wq p q)
  unfolding parts deep names_open
  beside_left = record { less = omega arith; shallow = omega arith; closed = or_left _ _ }

  pub beside_right : {wp wq : ℕ} → Under q (Beside wp wq p q)
  unfolding parts deep names_open
  beside_right = record { less = omega arith; shallow = omega arith; closed = or_right (names_open p) _ }

pub fair_under : {p q : Part} → Under p q → Fair q → Fair p
fair_under u f =
    record { few = omega (arith, u.less, f.few); shallow = omega (arith, u.shallow, f.shallow); closed = u.closed f.closed }

-- what a call of evaluate_part on a part below asks: 20 for each part, so that the packets left fit between
pub down : {p q : Part} (t : ℕ) → Under p q → 20 * parts q ≡ t → Fair q → (20 * parts p + 19 < t) × Fair p
down t u e f = (omega (arith, u.less), fair_under u f)

pub down_table : {p q : Part} {x r w start : ℕ} (t : ℕ) → p ≡ Table x r w start q → 20 * parts p ≡ t → Fair p
    → (20 * parts q + 19 < t) × Fair q
down_table t e h f = down t under_table (rw e at h) (rw e at f)

-- what a call from evaluate_part asks
module _ {s : List ℕ} {named : ℕ → Part} {d at : ℕ} {p : Part} {n : ℕ} (k : PartThere s named d at p n) where
  pub enter : (t : ℕ) → 20 * parts (part_at s named d at) + 19 ≡ t → Fair (part_at s named d at) → (20 * parts p < t) × Fair p
  enter t h f = (omega (arith, ap parts k.part), rw k.part at f)

  pub enter_beside : (t : ℕ) → 20 * parts (part_at s named d at) + 19 ≡ t → Fair (part_at s named d at) → (20 * parts p + 18 < t) × Fair p
  enter_beside t h f = (omega (arith, ap parts k.part), rw k.part at f)

  -- the part there gives and did what it stands for
  pub gives_there : {rs t : Packets} {a : Worked} → NotWide p rs n t a → NotWide (part_at s named d at) rs (after s d at) t a
  gives_there g = rw (k.part, k.next) g

  pub did_there : (rs t : Packets) (r : Result Worked TooWide) → Did p rs n t r → Did (part_at s named d at) rs (after s d at) t r
  did_there rs t r d = rw (k.part, k.next) d

-- ---- up

-- what a part gives, and that it is too wide, on packets that are the same
pub on : {p : Part} {s s' u : Packets} {n : ℕ} {a : Worked} → s ≡ s' → NotWide p s n u a → NotWide p s' n u a
on e g = rw e at g

pub over_on : (p : Part) {s s' : Packets} → s ≡ s' → most_packets < width p s → most_packets < width p s'
over_on p e h = rw e at h

-- the part after one that was worked out starts where that one ended
module _ (s : List ℕ) (named : ℕ → Part) (d at : ℕ) {p : Part} {rs u : Packets} {a : Worked} (g : NotWide p rs (after s d at) u a) where
  pub goes_on : {rs' t : Packets} {b : Worked} → NotWide (part_at s named d a.next) rs' (after s d a.next) t b
      → NotWide (part_at s named d (after s d at)) rs' (after s d (after s d at)) t b
  goes_on f = rw g.next at f

  pub goes_over : (rs' : Packets) → most_packets < width (part_at s named d a.next) rs'
      → most_packets < width (part_at s named d (after s d at)) rs'
  goes_over rs' h = rw g.next at h

-- what comes back is small, of the part itself and of one below it
pub small_here : {p : Part} {rs t : Packets} {n : ℕ} {a : Worked} → Fair p → NotWide p rs n t a → Small a
small_here {p} {rs} f g =
    let l = limit p rs f.few f.shallow g.narrow in
    record { steps = omega (arith, l, g.steps); room = omega (arith, l, g.room, room_steps p rs) }

pub small : {p q : Part} {rs t : Packets} {n : ℕ} {a : Worked} → Under p q → Fair q → NotWide p rs n t a → Small a
small u f g = small_here (fair_under u f) g

pub small_table : {p q : Part} {x r w start : ℕ} {rs t : Packets} {n : ℕ} {a : Worked} → p ≡ Table x r w start q → Fair p
    → NotWide q rs n t a → Small a
small_table e f g = small under_table (rw e at f) g

-- a part below that is too wide
module _ (p : Part) (s : Packets) (h : most_packets < width p s) where
  pub over_not : most_packets < width (Not p) s
  unfolding width
  over_not = omega arith

  pub over_table : (x r w start : ℕ) → most_packets < width (Table x r w start p) s
  unfolding width
  over_table x r w start = omega arith

  pub over_sum_left : (q : Part) → most_packets < width (Sum p q) s
  unfolding width
  over_sum_left q = omega arith

  pub over_sum_right : (q : Part) → most_packets < width (Sum q p) s
  unfolding width
  over_sum_right q = omega arith

  pub over_seq_left : (q : Part) → most_packets < width (Seq p q) s
  unfolding width
  over_seq_left q = omega arith

pub over_seq_right : {p : Part} (q : Part) {s u : Packets} {n : ℕ} {a : Worked} → NotWide p s n u a → most_packets < width q u
    → most_packets < width (Seq p q) s
unfolding width
over_seq_right q g h = omega (arith, rw g.same at h)

module _ (wp wq : ℕ) (p q : Part) (x : Packet) where
  pub over_beside_left : most_packets < width p (without wq x ∷ []) → most_packets < width (Beside wp wq p q) (x ∷ [])
  over_beside_left h = omega (arith, width_one wp wq p q x)

  pub over_beside_right : most_packets < width q (without wp x ∷ []) → most_packets < width (Beside wp wq p q) (x ∷ [])
  over_beside_right h = omega (arith, width_one wp wq p q x)

  pub over_first : (s : Packets) → most_packets < width (Beside wp wq p q) (x ∷ []) → most_packets < width (Beside wp wq p q) (x ∷ s)
  over_first s h = omega (arith, width_more wp wq p q x s)

  pub over_rest : (s : Packets) → most_packets < width (Beside wp wq p q) s → most_packets < width (Beside wp wq p q) (x ∷ s)
  over_rest s h = omega (arith, width_more wp wq p q x s)

-- a row has no more values than are taken of it
pub whole_row : (x : Packet) (w : ℕ) {s : Packets} → length x ≡ 8 → s ≡ without w (take 8 x) ∷ [] → s ≡ without w x ∷ []
whole_row x w h e = let l : length x ≤ 8 = omega arith in rw (take_all 8 x l) at e

-- ---- the packets of a set from packet i on

pub alone : {x y : Packet} → x ≡ y → x ∷ [] ≡ y ∷ []
alone e = ap (λ (z : Packet). z ∷ []) e

module _ (x : PacketSet) (i : ℕ) where
  all : length (packets x) ≡ x.count
  all = length_packets places x.values x.count x.packed.room

  pub from_end : i ≡ x.count → drop i (packets x) ≡ []
  from_end e = slice_end (rows_of places x.values) i x.count (omega arith)

  module _ (l : i ≤ x.count) (n : i ≡ x.count → ⊥) where
    pub from_here : drop i (packets x) ≡ get_or (packets x) i [] ∷ drop (i + 1) (packets x)
    from_here = let m : i < length (packets x) = rw all (omega arith) in rw add-one (drop-cons (packets x) i [] m)

    pub few_left : length (get_or (packets x) i [] ∷ drop (i + 1) (packets x)) ≤ most_packets
    few_left = rw (length-drop, all) (omega (arith, x.packed.room))

    pub some_left : (i + 1 ≡ x.count → ⊥) → 0 < length (drop (i + 1) (packets x))
    some_left m = rw (length-drop, all) (omega arith)
