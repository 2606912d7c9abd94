-- Which fields the positions of a state have: those in T and M of the part standing there (document 01, "Steps", and number 13).
use Rattle.std.specs.Prelude.{ℕ}
use Rattle.rules.specs.Masks.{Sub, less}
use Rattle.rules.specs.Packets.{Packets}
use Rattle.rules.specs.Parts.{Part, Not, Sum, Seq, Beside, Table}
use Rattle.rules.specs.Typing.{tested, written, Right}
use Rattle.rules.specs.States.{Spot, Tree, placed, done, waiting, negated, both, entered, split, paired}

-- a right part, and fields that have every field in its T and M
pub record Holds (h : ℕ) (p : Part) : Type 0 where
  pub right : Right p
  pub tests : Sub (tested p) h
  pub writes : Sub (written p) h

-- r stands, after some steps, where p was put: a sequence puts q in its own position, a table its body
pub data Later : Part → Part → Type 0 where
  same : {p : Part} → Later p p
  second : {p q r : Part} → Later q r → Later (Seq p q) r
  body : {x r w start : ℕ} {p q : Part} → Later p q → Later (Table x r w start p) q

-- p stands at the top of the state, in a position with the fields h; there and at every position below, the position has the fields
-- in T and M of the part standing there. The sides of a concurrent part lack each other's fields.
pub data Stands : ℕ → Part → Tree → Type 0 where
  here : {o : Spot} {p : Part} {s : Packets} → Holds o.fields p → Stands o.fields p (placed o p s)
  ended : {h : ℕ} {p : Part} {s : Packets} → Holds h p → Stands h p (done s)
  first : {o : Spot} {p q p' : Part} {t : Tree} → Holds o.fields (Seq p q) → Later p p' → Stands o.fields p' t
      → Stands o.fields (Seq p q) (waiting t o q)
  under : {h : ℕ} {p p' : Part} {k : Packets} {t : Tree} → Holds h (Not p) → Later p p' → Stands h p' t → Stands h (Not p) (negated k t)
  summed : {h : ℕ} {p q p' q' : Part} {t u : Tree} → Holds h (Sum p q) → Later p p' → Stands h p' t → Later q q' → Stands h q' u
      → Stands h (Sum p q) (both entered t u)
  parted : {h wp wq : ℕ} {p q p' q' : Part} {t u : Tree} → Holds h (Beside wp wq p q)
      → Later (Beside wp wq p q) p' → Stands h p' t → Later (Beside wp wq p q) q' → Stands h q' u
      → Stands h (Beside wp wq p q) (both split t u)
  sides : {h wp wq : ℕ} {p q p' q' : Part} {t u : Tree} → Holds h (Beside wp wq p q)
      → Later p p' → Stands (less h wq) p' t → Later q q' → Stands (less h wp) q' u
      → Stands h (Beside wp wq p q) (both (paired wp wq) t u)

-- a state of a position that p was put in
abbrev pub Has : ℕ → Part → Tree → Type 0
Has h p t = (r : Part) × Later p r × Stands h r t
