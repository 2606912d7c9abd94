-- The nine codes in one table of operand bytes and parts (document 01, "The policy book"). An unknown code has neither.
use Rattle.std.specs.Prelude.{ℕ, List, [], ◌∷◌, get_or}
use Rattle.rules.specs.declared.Shape.{Shape}

abbrev pub row : ℕ → ℕ → Shape
row o p = record { operands = o; parts = p }

-- id, drop, test, set, not, sum, sequence, beside, table
abbrev pub shapes : List Shape
shapes = row 0 0 ∷ row 0 0 ∷ row 3 0 ∷ row 3 0 ∷ row 0 1 ∷ row 0 2 ∷ row 0 2 ∷ row 2 2 ∷ row 1 0 ∷ []

abbrev pub shape_at : ℕ → Shape
shape_at code = get_or shapes code (row 0 0)

abbrev pub operands_of : ℕ → ℕ
operands_of code = (shape_at code).operands

abbrev pub parts_of : ℕ → ℕ
parts_of code = (shape_at code).parts
