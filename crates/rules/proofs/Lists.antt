-- What holds of every member of a list.
use Prim.Native.Nat.{ℕ, zero, suc, ◌<◌}
use native.Mathlib.Nat.{not-suc-le-zero, le_of_suc-le-suc}
use mathlib.Core.List.{List, ◌++◌, map}
use lib.ListN.{length, get_or}
use Rattle.rules.specs.Lists.{All, none, also}

pub all_append : {A : Type 0} {P : A → Type 0} {xs ys : List A} → All P xs → All P ys → All P (xs ++ ys)
all_append none k = k
all_append (also p h) k = also p (all_append h k)

pub all_map : {A B : Type 0} {Q : A → Type 0} {P : B → Type 0} {xs : List A} (f : A → B) → ((x : A) → Q x → P (f x)) → All Q xs
    → All P (map f xs)
all_map f g none = none
all_map f g (also {x} p h) = also (g x p) (all_map f g h)

pub all_at : {A : Type 0} {P : A → Type 0} {xs : List A} → All P xs → (i : ℕ) (d : A) → i < length xs → P (get_or xs i d)
all_at none i d l = absurd (not-suc-le-zero l)
all_at (also p h) zero d l = p
all_at (also p h) (suc i) d l = all_at h i d (le_of_suc-le-suc l)

pub all_or : {A : Type 0} {P : A → Type 0} {xs : List A} → All P xs → (i : ℕ) (d : A) → P d → P (get_or xs i d)
all_or none i d k = k
all_or (also p h) zero d k = p
all_or (also p h) (suc i) d k = all_or h i d k
