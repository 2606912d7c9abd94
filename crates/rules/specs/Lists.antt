-- What holds of every member of a list.
use Rattle.std.specs.Prelude.{List, [], ◌∷◌}

pub data All {A : Type 0} (P : A → Type 0) : List A → Type 0 where
  none : All P []
  also : {x : A} {xs : List A} → P x → All P xs → All P (x ∷ xs)
