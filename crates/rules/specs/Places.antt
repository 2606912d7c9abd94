-- Where the parts of a state stand in the book: a position's place is that of its part's code byte (document 01, "For 13: the part's
-- code byte").
use Rattle.std.specs.Prelude.{ℕ, ◌≡◌, List, ◌++◌, drop}
use Rattle.rules.specs.Parts.{Part, Id, Drop, Test, Set, Not, Sum, Seq, Beside, Table, Open, write}
use Rattle.rules.specs.States.{Spot, Tree, placed, done, waiting, negated, both}

-- what holds of the part standing at each position, and of each that waits
unfoldable pub Everywhere : (Spot → Part → Type 0) → Tree → Type 0
Everywhere Q (placed o p s) = Q o p
Everywhere Q (done s) = Unit {0}
Everywhere Q (waiting t o q) = Everywhere Q t × Q o q
Everywhere Q (negated k t) = Everywhere Q t
Everywhere Q (both j t u) = Everywhere Q t × Everywhere Q u

-- p is written in s from a place on
abbrev pub WrittenAt : List ℕ → ℕ → Part → Type 0
WrittenAt s at p = (rest : List ℕ) × (drop at s ≡ write p ++ rest)

-- the bodies of the tables that a part uses are written where they start
abbrev pub BodiesAt : List ℕ → Part → Type 0
BodiesAt s Id = Unit {0}
BodiesAt s Drop = Unit {0}
BodiesAt s (Test f v) = Unit {0}
BodiesAt s (Set f v) = Unit {0}
BodiesAt s (Not p) = BodiesAt s p
BodiesAt s (Sum p q) = BodiesAt s p × BodiesAt s q
BodiesAt s (Seq p q) = BodiesAt s p × BodiesAt s q
BodiesAt s (Beside wp wq p q) = BodiesAt s p × BodiesAt s q
BodiesAt s (Table x r w start p) = WrittenAt s start p × BodiesAt s p
BodiesAt s (Open x r w) = Unit {0}

abbrev pub InPlace : List ℕ → Spot → Part → Type 0
InPlace s o p = WrittenAt s o.at p × BodiesAt s p
