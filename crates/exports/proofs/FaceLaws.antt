-- What a call answers: fewer than five words lent, and values laid in them.
use Rattle.std.proofs.Common.{◌≡◌, ℕ, ◌≤◌, ◌<◌, true, false, List, length}
use borrow.Author.Tests.{le-leb, lt-leb}
use lib.Dec.{leb}
use Rattle.rules.specs.Answers.{Says, evaluated_says, ran_says, evaluated, evaluated_result, ran, ran_result, ran_area}
use Rattle.exports.specs.Faces.{face_words, too_few_words, returned, laid, Lays, FaceOf, EvaluateFace, RunFace}

module _ {a : Says} {before : List ℕ} where
  pub face_short : length before < face_words → FaceOf a before before too_few_words
  unfolding returned laid
  face_short h =
      let e : leb face_words (length before) ≡ false = lt-leb face_words (length before) h in
      record { code = rw e; values = rw e }

  pub face_laid : {after : List ℕ} {r : ℕ} → face_words ≤ length before → Lays a before after r → FaceOf a before after r
  unfolding returned laid
  face_laid h l =
      let e : leb face_words (length before) ≡ true = le-leb face_words (length before) h in
      record { code = rw e l.code; values = rw e l.values }

module _ {book packet result before : List ℕ} where
  pub evaluate_short : length before < face_words → EvaluateFace book packet result result before before too_few_words
  evaluate_short h = record { face = face_short h; words = rw (lt-leb face_words (length before) h) }

  pub evaluate_laid : {after result' : List ℕ} {r : ℕ} → face_words ≤ length before
      → Lays (evaluated_says (evaluated book packet (length result))) before after r
      → result' ≡ evaluated_result book packet result → EvaluateFace book packet result result' before after r
  evaluate_laid h l e = record { face = face_laid h l; words = rw (le-leb face_words (length before) h) e }

module _ {book packet schedule result area before : List ℕ} where
  pub run_short : length before < face_words → RunFace book packet schedule result result area area before before too_few_words
  run_short h =
      let e : leb face_words (length before) ≡ false = lt-leb face_words (length before) h in
      record { face = face_short h; words = rw e; working = rw e }

  pub run_laid : {after result' area' : List ℕ} {r : ℕ} → face_words ≤ length before
      → Lays (ran_says (ran book packet schedule (length result) (length area))) before after r
      → result' ≡ ran_result book packet schedule result (length area) → area' ≡ ran_area book packet schedule (length result) area
      → RunFace book packet schedule result result' area area' before after r
  run_laid h l e g =
      let t : leb face_words (length before) ≡ true = le-leb face_words (length before) h in
      record { face = face_laid h l; words = rw t e; working = rw t g }
