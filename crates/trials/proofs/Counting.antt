-- The vectors of a set, one after the other, and what one more of them adds to a tally.
use Rattle.std.proofs.Common.{◌≡◌, ℕ, zero, suc, ◌+◌, ◌≤◌, ◌<◌, Bool, true, false, cond, List, [], ◌∷◌, ◌++◌, length, refl, sym, ap, ◌∙◌, append_assoc, arith, zero-add, length-drop, length-append}
use Rattle.std.specs.Prelude.{Option, Some, None, count_by, position}
use Rattle.std.specs.Option.{option_or}
use Rattle.std.specs.Bool.{then_some}
use Rattle.std.specs.Int.{from_bool}
use Rattle.std.proofs.lemmas.List.Sums.{sum_by-append, count_by-le-length}
use Rattle.std.specs.List.{position_from}
use Rattle.std.proofs.lemmas.Iterator.Adapters.{position_from-zero}
use Rattle.std.proofs.lemmas.List.{length_push, append-nil}
use Rattle.rules.specs.Reading.{number_at}
use Rattle.trials.specs.Sets.{front_of, rest_of, vectors_in, vectors_of}

-- ---- the vectors of a set

-- more than there are change nothing
enough : (m n : ℕ) (l : List ℕ) → length l ≤ m → length l ≤ n → vectors_in m l ≡ vectors_in n l
unfolding vectors_in
enough zero zero l h k = refl
enough zero (suc n) [] h k = refl
enough (suc m) zero [] h k = refl
enough (suc m) (suc n) [] h k = refl
enough zero n (b ∷ l) h k = absurd (omega arith)
enough (suc m) zero (b ∷ l) h k = absurd (omega arith)
enough (suc m) (suc n) (b ∷ l) h k =
    let fewer = length-drop (2 + number_at (b ∷ l) 0) (b ∷ l) in
    ap (λ vs. front_of (b ∷ l) ∷ vs) (enough m n (rest_of (b ∷ l)) (omega arith) (omega arith))

pub vectors_none : (l : List ℕ) → length l ≡ 0 → vectors_of l ≡ []
unfolding vectors_of vectors_in
vectors_none [] h = refl
vectors_none (b ∷ l) h = absurd (omega arith)

pub vectors_next : (l : List ℕ) → 0 < length l → vectors_of l ≡ front_of l ∷ vectors_of (rest_of l)
unfolding vectors_of vectors_in
vectors_next [] h = absurd (omega arith)
vectors_next (b ∷ l) h =
    let fewer = length-drop (2 + number_at (b ∷ l) 0) (b ∷ l) in
    ap (λ vs. front_of (b ∷ l) ∷ vs) (enough (length l) (length (rest_of (b ∷ l))) (rest_of (b ∷ l)) (omega arith) (omega arith))

few : (most : ℕ) (l : List ℕ) → length (vectors_in most l) ≤ most
unfolding vectors_in
few zero l = omega arith
few (suc most) [] = omega arith
few (suc most) (b ∷ l) = omega (arith, few most (rest_of (b ∷ l)))

pub vectors_few : (l : List ℕ) → length (vectors_of l) ≤ length l
unfolding vectors_of
vectors_few l = few (length l) l

-- ---- one more vector

module _ {X : Type 0} (p : X → Bool) where
  place_push : (i : ℕ) (xs : List X) (x : X)
      → position_from p i (xs ++ x ∷ []) ≡ option_or (position_from p i xs) (then_some (p x) (i + length xs))
  place_push i [] x = by (p x)
    where
      by : (b : Bool) → cond b (Some i) None ≡ then_some b (i + 0)
      by true = ap Some (omega arith)
      by false = refl
  place_push i (y ∷ xs) x = by (p y) (place_push (i + 1) xs x)
    where
      later : i + 1 + length xs ≡ i + suc (length xs)
      later = omega arith

      by : (b : Bool) → position_from p (i + 1) (xs ++ x ∷ []) ≡ option_or (position_from p (i + 1) xs) (then_some (p x) (i + 1 + length xs))
          → cond b (Some i) (position_from p (i + 1) (xs ++ x ∷ []))
          ≡ option_or (cond b (Some i) (position_from p (i + 1) xs)) (then_some (p x) (i + suc (length xs)))
      by true h = refl
      by false h = rw later at h

  position_push : (xs : List X) (x : X) → position p (xs ++ x ∷ []) ≡ option_or (position p xs) (then_some (p x) (length xs))
  position_push xs x =
      position_from-zero p (xs ++ x ∷ []) ∙ rw zero-add at (place_push 0 xs x)
      ∙ sym (ap (λ o. option_or o (then_some (p x) (length xs))) (position_from-zero p xs))

  one : (b : Bool) → from_bool b ≡ 0 + cond b 1 0
  one true = refl
  one false = refl

  -- all vectors, those still to come, and what was counted of those before
  pub record Going (all rest : List X) (cases found : ℕ) (first : Option ℕ) : Type 0 where
    pub done : List X
    pub whole : all ≡ done ++ rest
    pub cases_are : cases ≡ length done
    pub found_are : found ≡ count_by p done
    pub first_is : first ≡ position p done

  pub begun : (all : List X) → Going all all 0 0 None
  begun all = record { done = []; whole = refl; cases_are = refl; found_are = refl; first_is = refl }

  pub one_more : {all rest : List X} {cases found : ℕ} {first : Option ℕ} (x : X) → Going all (x ∷ rest) cases found first
      → Going all rest (cases + 1) (found + from_bool (p x)) (option_or first (then_some (p x) cases))
  one_more {rest = rest} x g = record {
    done = g.done ++ x ∷ [];
    whole = g.whole ∙ sym (append_assoc g.done (x ∷ []) rest);
    cases_are = omega (arith, g.cases_are, length_push g.done x);
    found_are = rw (sum_by-append, g.found_are, one (p x)) refl;
    first_is = rw (g.first_is, g.cases_are) (sym (position_push g.done x));
  }

  at_most_one : (b : Bool) → from_bool b ≤ 1
  at_most_one true = omega arith
  at_most_one false = omega arith

  -- with one more, no more is counted than there are
  pub room : {all rest : List X} {cases found : ℕ} {first : Option ℕ} (x : X) → Going all (x ∷ rest) cases found first
      → (cases + 1 ≤ length all) × (found + from_bool (p x) ≤ length all)
  room {rest = rest} x g =
      let whole = ap length g.whole in
      let sum = length-append g.done (x ∷ rest) in
      let some = count_by-le-length p g.done in
      let one = at_most_one (p x) in
      (omega (arith, g.cases_are), omega (arith, g.found_are))

  pub ended : {all rest : List X} {cases found : ℕ} {first : Option ℕ} → Going all rest cases found first → rest ≡ []
      → (cases ≡ length all) × (found ≡ count_by p all) × (first ≡ position p all)
  ended g e =
      let whole = g.whole ∙ ap (λ r. g.done ++ r) e ∙ append-nil g.done in
      rw whole (g.cases_are, g.found_are, g.first_is)
