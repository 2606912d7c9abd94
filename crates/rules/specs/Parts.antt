-- A policy as a tree of parts, the bytes that it is written as, n and D (document 01, "The policy book").
use Rattle.std.specs.Prelude.{ℕ, suc, ◌+◌, ◌/◌, ◌%◌, max, Bool, true, false, ◌||◌, List, [], ◌∷◌, ◌++◌, length}

-- A use of a table holds what the book says of table x: its masks R and W and, if it is populated, where its body starts and the body.
pub data Part : Type 0 where
  Id Drop : Part
  Test Set : (f v : ℕ) → Part
  Not : Part → Part
  Sum Seq : (p q : Part) → Part
  Beside : (wp wq : ℕ) (p q : Part) → Part
  Table : (x r w start : ℕ) → Part → Part
  Open : (x r w : ℕ) → Part

-- "written operator first"; two-byte numbers have the high byte first
unfoldable pub write : Part → List ℕ
write Id = 0 ∷ []
write Drop = 1 ∷ []
write (Test f v) = 2 ∷ f ∷ v / 256 ∷ v % 256 ∷ []
write (Set f v) = 3 ∷ f ∷ v / 256 ∷ v % 256 ∷ []
write (Not p) = 4 ∷ write p
write (Sum p q) = 5 ∷ (write p ++ write q)
write (Seq p q) = 6 ∷ (write p ++ write q)
write (Beside wp wq p q) = 7 ∷ wp ∷ wq ∷ (write p ++ write q)
write (Table x r w start p) = 8 ∷ x ∷ []
write (Open x r w) = 8 ∷ x ∷ []

abbrev pub size : Part → ℕ
size p = length (write p)

-- "Codes 0, 1, 2, 4, 5 and 6 over such parts make a predicate"
abbrev pub Predicate : Part → Type 0
Predicate Id = Unit {0}
Predicate Drop = Unit {0}
Predicate (Test f v) = Unit {0}
Predicate (Set f v) = ⊥
Predicate (Not p) = Predicate p
Predicate (Sum p q) = Predicate p × Predicate q
Predicate (Seq p q) = Predicate p × Predicate q
Predicate (Beside wp wq p q) = ⊥
Predicate (Table x r w start p) = ⊥
Predicate (Open x r w) = ⊥

-- "Under "not" only a predicate may stand", in the bodies of the tables used too
abbrev pub Formed : Part → Type 0
Formed Id = Unit {0}
Formed Drop = Unit {0}
Formed (Test f v) = Unit {0}
Formed (Set f v) = Unit {0}
Formed (Not p) = Predicate p × Formed p
Formed (Sum p q) = Formed p × Formed q
Formed (Seq p q) = Formed p × Formed q
Formed (Beside wp wq p q) = Formed p × Formed q
Formed (Table x r w start p) = Formed p
Formed (Open x r w) = Unit {0}

-- n, "with each populated table's body counted under each use of it (the table use counts as one itself)"
unfoldable pub parts : Part → ℕ
parts Id = 1
parts Drop = 1
parts (Test f v) = 1
parts (Set f v) = 1
parts (Not p) = 1 + parts p
parts (Sum p q) = 1 + (parts p + parts q)
parts (Seq p q) = 1 + (parts p + parts q)
parts (Beside wp wq p q) = 1 + (parts p + parts q)
parts (Table x r w start p) = 1 + parts p
parts (Open x r w) = 1

-- D, the most "concurrent parts on any path down"
unfoldable pub deep : Part → ℕ
deep Id = 0
deep Drop = 0
deep (Test f v) = 0
deep (Set f v) = 0
deep (Not p) = deep p
deep (Sum p q) = max (deep p) (deep q)
deep (Seq p q) = max (deep p) (deep q)
deep (Beside wp wq p q) = suc (max (deep p) (deep q))
deep (Table x r w start p) = deep p
deep (Open x r w) = 0

-- "names an unpopulated table" (9)
unfoldable pub names_open : Part → Bool
names_open Id = false
names_open Drop = false
names_open (Test f v) = false
names_open (Set f v) = false
names_open (Not p) = names_open p
names_open (Sum p q) = names_open p || names_open q
names_open (Seq p q) = names_open p || names_open q
names_open (Beside wp wq p q) = names_open p || names_open q
names_open (Table x r w start p) = names_open p
names_open (Open x r w) = true
