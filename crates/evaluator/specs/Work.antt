-- What the evaluator's functions require and give: a part at a place on the packets of a set, or the news that it is too wide. The field
-- mask is not needed: a field that a position lacks holds 0.
use Rattle.std.specs.Prelude.{ℕ, ◌≤◌, ◌<◌, ◌≡◌, false, List}
use Rattle.std.specs.Prelude.{true, Option, Some, None, Result, Ok, Err}
use Rattle.rules.specs.Packets.{Packets, most_packets}
use Rattle.rules.specs.Parts.{Part, Not, Sum, Seq, Beside, parts, deep, names_open}
use Rattle.rules.specs.Books.{most_parts, most_beside, no_use}
use Rattle.rules.specs.declared.Head.{Head}
use Rattle.rules.specs.declared.Sizes.{Sizes}
use Rattle.rules.specs.Reading.{length_at, tables_of, verdict, part_at, use_at, after}
use Rattle.rules.specs.Working.{out, steps, room, width}
use Rattle.sets.specs.declared.packet_set.TooWide.{TooWide}
use Rattle.evaluator.specs.declared.Body.{Body}
use Rattle.evaluator.specs.declared.Body.TheVariants.{Main, Table}
use Rattle.evaluator.specs.declared.Worked.{Worked}

-- what a use of table x stands for, in the main body and in a table's
unfoldable pub named_in : List ℕ → Body → ℕ → Part
named_in s Main = use_at s
named_in s Table = no_use

-- the part at a place of such a body
abbrev pub part_in : List ℕ → Body → ℕ → ℕ → Part
part_in s body d at = part_at s (named_in s body) d at

-- the parts over the parts from a place on, and the concurrent part with a head
abbrev pub not_from : List ℕ → Body → ℕ → ℕ → Part
not_from s body d from = Not (part_in s body d from)

abbrev pub sum_from : List ℕ → Body → ℕ → ℕ → Part
sum_from s body d from = Sum (part_in s body d from) (part_in s body d (after s d from))

abbrev pub seq_from : List ℕ → Body → ℕ → ℕ → Part
seq_from s body d from = Seq (part_in s body d from) (part_in s body d (after s d from))

abbrev pub beside_of : List ℕ → Body → ℕ → Head → Part
beside_of s body d h = Beside h.left h.right (part_in s body d h.from) (part_in s body d (after s d h.from))

-- the place after two parts
abbrev pub after_two : List ℕ → ℕ → ℕ → ℕ
after_two s d from = after s d (after s d from)

-- the limits of an accepted book, and no table that is not populated: what passes down
pub record Fair (p : Part) : Type 0 where
  pub few : parts p ≤ most_parts
  pub shallow : deep p ≤ most_beside
  pub closed : names_open p ≡ false

-- so many steps, so much room, and the place after it
abbrev pub worked : ℕ → ℕ → ℕ → Worked
worked n k a = record { steps = n; room = k; next = a }

-- what a part p gives on the packets s, where it is not too wide: the packets t; n is the place after it
pub record NotWide (p : Part) (s : Packets) (n : ℕ) (t : Packets) (w : Worked) : Type 0 where
  pub narrow : width p s ≤ most_packets
  pub same : t ≡ out p s
  pub steps : w.steps ≡ steps p s
  pub room : w.room ≡ room p s
  pub next : w.next ≡ n

-- too wide exactly if it says so, and else fine
abbrev pub Did : Part → Packets → ℕ → Packets → Result Worked TooWide → Type 0
Did p s n t (Ok w) = NotWide p s n t w
Did p s n t (Err e) = most_packets < width p s

-- small enough that the sums of two do not wrap
pub record Small (r : Worked) : Type 0 where
  pub steps : r.steps ≤ 268173312
  pub room : r.room ≤ 268173313

-- the place after p, and none if p names an unpopulated table
abbrev pub Sees : Part → ℕ → Option ℕ → Type 0
Sees p n (Some k) = (names_open p ≡ false) × (k ≡ n)
Sees p n None = names_open p ≡ true

-- an accepted book; a book whose tables all have a body
abbrev pub IsAccepted : List ℕ → Type 0
IsAccepted s = (z : Sizes) × (verdict s ≡ Ok z)

abbrev pub Populated : List ℕ → Type 0
Populated s = (x : ℕ) → 0 < x → x ≤ tables_of s → length_at s x ≡ 0 → ⊥
