-- What is written of the rows of an array into lent words.
use Rattle.std.specs.Prelude.{ℕ, ◌≡◌, Bool, true, false, List, ◌++◌, leb, length, drop}

-- v in front of the other words, if it is written
abbrev pub onto : Bool → List ℕ → List ℕ → List ℕ
onto true v o = v ++ drop (length v) o
onto false v o = o

-- b says whether the words o have room for v; they become p
pub record Emitted (b : Bool) (v o p : List ℕ) : Type 0 where
  pub fits : b ≡ leb (length v) (length o)
  pub words : p ≡ onto b v o
