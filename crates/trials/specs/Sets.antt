-- A set of vectors: one after the other, each behind its length in two bytes. The last may be cut short.
use Rattle.std.specs.Prelude.{ℕ, zero, suc, ◌+◌, List, [], ◌∷◌, length, drop}
use Rattle.rules.specs.Reading.{number_at}
use Rattle.trials.specs.Vectors.{part_of}

abbrev pub front_of : List ℕ → List ℕ
front_of l = part_of 2 (number_at l 0) l

abbrev pub rest_of : List ℕ → List ℕ
rest_of l = drop (2 + number_at l 0) l

-- at most the first `most` vectors of a set
unfoldable pub vectors_in : ℕ → List ℕ → List (List ℕ)
vectors_in zero l = []
vectors_in (suc most) [] = []
vectors_in (suc most) (b ∷ l) = front_of (b ∷ l) ∷ vectors_in most (rest_of (b ∷ l))

-- a set has no more vectors than bytes
unfoldable pub vectors_of : List ℕ → List (List ℕ)
vectors_of l = vectors_in (length l) l
