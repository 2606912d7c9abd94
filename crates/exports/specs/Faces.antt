-- An answer as a code and a list of values, and the words that a caller lends for the values.
use Rattle.std.specs.Prelude.{ℕ, ◌≡◌, cond, List, [], ◌∷◌, leb, length}
use Rattle.rules.specs.Reading.{verdict}
use Rattle.rules.specs.Answers.{Says, refusal, accepted, packets, finished, running, verdict_says, evaluated_says, ran_says}
use Rattle.rules.specs.Answers.{overwritten, evaluated, evaluated_result, ran, ran_result, ran_area}

-- the values need five words; a call that lends fewer is answered 255, and nothing is done
abbrev pub face_words : ℕ
face_words = 5

abbrev pub too_few_words : ℕ
too_few_words = 255

-- 0 for an answer, 100 for a run that is not finished, else the number that turns the call away
unfoldable pub code_of : Says → ℕ
code_of (refusal n p) = n
code_of (accepted k m n d) = 0
code_of (packets c s n d r) = 0
code_of (finished s c) = 0
code_of (running s l r) = 100

-- the place of a refusal; k, m, n, D; the count, N, n, D and the room; steps and count; steps, live and ready
unfoldable pub values_of : Says → List ℕ
values_of (refusal n p) = p ∷ []
values_of (accepted k m n d) = k ∷ m ∷ n ∷ d ∷ []
values_of (packets c s n d r) = c ∷ s ∷ n ∷ d ∷ r ∷ []
values_of (finished s c) = s ∷ c ∷ []
values_of (running s l r) = s ∷ l ∷ r ∷ []

-- what a face returns, and what its value words are afterwards
unfoldable pub returned : Says → ℕ → ℕ
returned a words = cond (leb face_words words) (code_of a) too_few_words

unfoldable pub laid : Says → List ℕ → List ℕ
laid a out = cond (leb face_words (length out)) (overwritten (values_of a) out) out

-- the code is returned, and the values are laid in front of the words
pub record Lays (a : Says) (before after : List ℕ) (r : ℕ) : Type 0 where
  pub code : r ≡ code_of a
  pub values : after ≡ overwritten (values_of a) before

-- ---- the faces: what is returned, and every lent word afterwards

-- a says what is answered if five words are lent for the values
pub record FaceOf (a : Says) (before after : List ℕ) (r : ℕ) : Type 0 where
  pub code : r ≡ returned a (length before)
  pub values : after ≡ laid a before

abbrev pub AcceptFace : List ℕ → List ℕ → List ℕ → ℕ → Type 0
AcceptFace book before after r = FaceOf (verdict_says (verdict book)) before after r

pub record EvaluateFace (book packet result result' before after : List ℕ) (r : ℕ) : Type 0 where
  pub face : FaceOf (evaluated_says (evaluated book packet (length result))) before after r
  pub words : result' ≡ cond (leb face_words (length before)) (evaluated_result book packet result) result

pub record RunFace (book packet schedule result result' area area' before after : List ℕ) (r : ℕ) : Type 0 where
  pub face : FaceOf (ran_says (ran book packet schedule (length result) (length area))) before after r
  pub words : result' ≡ cond (leb face_words (length before)) (ran_result book packet schedule result (length area)) result
  pub working : area' ≡ cond (leb face_words (length before)) (ran_area book packet schedule (length result) area) area
