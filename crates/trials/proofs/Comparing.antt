-- Comparing: `same` is true exactly of equal lists; and a buffer is compared in two parts, its front with the stated words, and the
-- rest with those from before.
use Rattle.std.proofs.Common.{◌≡◌, ℕ, Bool, true, false, ◌&&◌, List, [], ◌∷◌, ◌++◌, ◌+◌, length, take, drop, eqb, refl, sym, ◌∙◌}
use Rattle.std.specs.Prelude.{Option, Some, None, MatchOption}
use Rattle.std.proofs.lemmas.Slice.Eq.{bytes_eq-Decides}
use denote.Ref.{Bor}
use Rattle.trials.specs.Agreement.{same}

-- ---- what it says

pub same_equal : (a b : List ℕ) → same a b ≡ true → a ≡ b
same_equal a b = (bytes_eq-Decides a b).0

pub same_itself : (a : List ℕ) → same a a ≡ true
same_itself a = (bytes_eq-Decides a a).1 refl

-- ---- part by part

and_assoc : (x y z : Bool) → (x && (y && z)) ≡ ((x && y) && z)
and_assoc true y z = refl
and_assoc false y z = refl

pub equal_in_parts : (after stated kept : List ℕ)
    → same after (stated ++ kept) ≡ (same (take (length stated) after) stated && same (drop (length stated) after) kept)
equal_in_parts after [] kept = refl
equal_in_parts [] (y ∷ stated) kept = refl
equal_in_parts (x ∷ after) (y ∷ stated) kept =
    rw (equal_in_parts after stated kept) (and_assoc (eqb x y) (same (take (length stated) after) stated) (same (drop (length stated) after) kept))

-- the front that is stripped off is the stated words, and the rest is compared
pub stripped : (after stated kept : List ℕ) (r : Option (Bor (List ℕ))) (b : Bool)
    → MatchOption r (same (take (length stated) after) stated ≡ false)
    (λ x. (same (take (length stated) after) stated ≡ true) × (x.now ≡ drop (length stated) after)
    × (length x.now + length stated ≡ length after))
    → MatchOption r (b ≡ false) (λ x. b ≡ same x.now kept)
    → b ≡ same after (stated ++ kept)
stripped after stated kept None b h g = g ∙ sym (rw h at (equal_in_parts after stated kept))
stripped after stated kept (Some x) b h g = g ∙ sym (rw (h.0, ← h.1) at (equal_in_parts after stated kept))
