-- When the answers of the three calls, and every lent word after them, are what a vector states. The answers are those of the rules:
-- the calls' own contracts say that they give no other.
use Rattle.std.specs.Prelude.{ℕ, Bool, ◌&&◌, List, [], ◌∷◌, length, replicate, Result}
use Rattle.std.specs.Str.{bytes_eq}
use Rattle.rules.specs.declared.Outcome.{Outcome}
use Rattle.rules.specs.declared.Refusal.{Refusal}
use Rattle.rules.specs.declared.Ran.{Ran}
use Rattle.rules.specs.Reading.{verdict}
use Rattle.rules.specs.Answers.{Says, refusal, accepted, packets, finished, running, verdict_says, evaluated_says, ran_says}
use Rattle.rules.specs.Answers.{evaluated, evaluated_result, ran, ran_result, ran_area, overwritten}
use Rattle.rules.specs.Promises.{EvaluateAnswer, RunAnswer}
use Rattle.trials.specs.declared.vectors.Call.TheVariants.{Accept, Evaluate, Run}
use Rattle.trials.specs.Vectors.{zero_words, answer_place, numbers_at}
use Rattle.trials.specs.Vectors.{book_of, packet_of, schedule_of, given_of, ran_of, result_lent, work_lent}

-- the same words in the same order
abbrev pub same : List ℕ → List ℕ → Bool
same = bytes_eq

-- an answer in six numbers: 0 for a refusal, 1 or 2 for what is answered, then its values, and 0 where there are fewer
unfoldable pub numbers_of : Says → List ℕ
numbers_of (refusal number at) = 0 ∷ number ∷ at ∷ 0 ∷ 0 ∷ 0 ∷ []
numbers_of (accepted k m n D) = 1 ∷ k ∷ m ∷ n ∷ D ∷ 0 ∷ []
numbers_of (packets count N n D room) = 1 ∷ count ∷ N ∷ n ∷ D ∷ room ∷ []
numbers_of (finished steps count) = 1 ∷ steps ∷ count ∷ 0 ∷ 0 ∷ 0 ∷ []
numbers_of (running steps live ready) = 2 ∷ steps ∷ live ∷ ready ∷ 0 ∷ 0 ∷ []

-- a buffer that held `before` now holds the stated words, and after them what it held
unfoldable pub left : List ℕ → List ℕ → List ℕ → Bool
left after stated before = same after (overwritten stated before)

-- what the call of `evaluate` on a vector answers, and what it leaves of a result buffer; then those of `run`
abbrev pub Evaluates : (v result : List ℕ) → Result Outcome Refusal → (after : List ℕ) → Type 0
Evaluates v result r after = EvaluateAnswer (book_of v) (packet_of v) result r after

abbrev pub Runs : (v result work : List ℕ) → Result Ran Refusal → (after idle : List ℕ) → Type 0
Runs v result work r after idle = RunAnswer (book_of v) (packet_of v) (schedule_of v) result work r after idle

unfoldable pub accept_agrees : List ℕ → Bool
accept_agrees v = same (numbers_of (verdict_says (verdict (book_of v)))) (numbers_at v (answer_place Accept))

-- on a result buffer that holds these words
unfoldable pub evaluate_agrees : List ℕ → List ℕ → Bool
evaluate_agrees v result =
    same (numbers_of (evaluated_says (evaluated (book_of v) (packet_of v) (length result)))) (numbers_at v (answer_place Evaluate))
    && left (evaluated_result (book_of v) (packet_of v) result) (given_of v) result

-- on a result buffer and a working area that hold these words
unfoldable pub run_agrees : List ℕ → List ℕ → List ℕ → Bool
run_agrees v result work =
    same (numbers_of (ran_says (ran (book_of v) (packet_of v) (schedule_of v) (length result) (length work)))) (numbers_at v (answer_place Run))
    && left (ran_result (book_of v) (packet_of v) (schedule_of v) result (length work)) (ran_of v) result
    && left (ran_area (book_of v) (packet_of v) (schedule_of v) (length result) work) (replicate (zero_words v) 0) work

unfoldable pub agrees : List ℕ → Bool
agrees v = accept_agrees v && evaluate_agrees v (result_lent v) && run_agrees v (result_lent v) (work_lent v)
