-- The answer of a run under every schedule: one number N, finished with the evaluator's packets or unfinished with a step ready.
use Rattle.std.specs.Prelude.{Ok, Result}
use Rattle.rules.specs.declared.Refusal.{Refusal}
use Prim.Native.Nat.{ℕ, ◌*◌, ◌≤◌, ◌<◌}
use native.Mathlib.Omega.{arith}
use mathlib.Core.Path.{◌≡◌, ◌∙◌}
use mathlib.Core.List.{List}
use lib.ListN.{length}
use Rattle.rules.specs.declared.Ran.{Ran}
use Rattle.rules.specs.declared.Ran.TheVariants.{Finished, Running}
use Rattle.rules.specs.Packets.{most_packets}
use Rattle.rules.specs.Typing.{tested, written, Right}
use Rattle.rules.specs.Reading.{fields_of, main_of}
use Rattle.rules.specs.States.{finish, live, ready, run}
use Rattle.rules.specs.Answers.{area_words, start_set, start_spot, given, evaluated_result, start, stop_of, ran, ran_result}
use Rattle.rules.specs.Masks.{all_fields, Sub}
use Rattle.rules.specs.Promises.{Admitted, steps_of, Stops, finishes, goes_on}
use Rattle.rules.proofs.Schedules.{Ending, enough, short, ending}
use Rattle.rules.proofs.Rooms.{live_room}
use Rattle.rules.proofs.Stuck.{never_stuck}
use Rattle.rules.proofs.Answering.{ran_admitted, evaluated_given}

-- the answer of an unfinished run: its steps, and what is live and ready in the state reached
abbrev pub progress : List ℕ → List ℕ → List ℕ → Ran
progress book packet schedule =
    let t = run (start book packet) schedule in Running (record { steps = length schedule; live = live t; ready = ready t })

-- at least N choices finish
pub at_finish : {book packet schedule : List ℕ} {a : Result Ran Refusal} → Stops book packet schedule a → steps_of book packet ≤ length schedule
    → a ≡ Ok (Finished (record { steps = steps_of book packet; count = length (given book packet) }))
at_finish (finishes h e) l = e
at_finish (goes_on h n m k r e) l = absurd (omega arith)

module _ (book packet schedule : List ℕ) (words area : ℕ) (admitted : Admitted book packet)
    (fit : most_packets * fields_of book ≤ words) (wide : area_words ≤ area) (right : Right (main_of book))
    (tests : Sub (tested (main_of book)) (all_fields (fields_of book)))
    (writes : Sub (written (main_of book)) (all_fields (fields_of book))) where
  -- no step is stuck: the run stops where its schedule ends or it is finished
  pub ran_stopped : ran book packet schedule words area ≡ Ok (stop_of book packet schedule)
  unfolding start
  ran_stopped =
      ran_admitted book packet schedule words area fit wide admitted
      (never_stuck (start_spot book) (main_of book) right tests writes (start_set packet) schedule).1

  by_ending : Ending (start_spot book) (main_of book) (start_set packet) schedule
      → Stops book packet schedule (ran book packet schedule words area)
  unfolding start given finish
  by_ending (enough h e n) = finishes h (ran_stopped ∙ rw (e, n))
  by_ending (short h e r n) =
      goes_on h (live (run (start book packet) schedule)) (ready (run (start book packet) schedule))
      (live_room (start_spot book) (main_of book) (start_set packet) schedule) r (ran_stopped ∙ rw (e, n))

  -- fewer than N choices: a step for each, and a step ready in the state reached
  by_short : Ending (start_spot book) (main_of book) (start_set packet) schedule → length schedule < steps_of book packet
      → (ran book packet schedule words area ≡ Ok (progress book packet schedule)) × (0 < ready (run (start book packet) schedule))
  unfolding start finish
  by_short (short h e r n) l = (ran_stopped ∙ rw (e, n), r)
  by_short (enough h e n) l = absurd (omega arith)

  pub runs_on : length schedule < steps_of book packet
      → (ran book packet schedule words area ≡ Ok (progress book packet schedule)) × (0 < ready (run (start book packet) schedule))
  runs_on = by_short (ending (start_spot book) (main_of book) (start_set packet) schedule)

  pub stops : Stops book packet schedule (ran book packet schedule words area)
  stops = by_ending (ending (start_spot book) (main_of book) (start_set packet) schedule)

-- a finished run leaves the result buffer as the evaluator does
module _ (book packet schedule result : List ℕ) (area : ℕ) (admitted : Admitted book packet)
    (fit : most_packets * fields_of book ≤ length result) (wide : area_words ≤ area) (right : Right (main_of book))
    (tests : Sub (tested (main_of book)) (all_fields (fields_of book)))
    (writes : Sub (written (main_of book)) (all_fields (fields_of book))) where
  by_enough : Ending (start_spot book) (main_of book) (start_set packet) schedule → steps_of book packet ≤ length schedule
      → ran_result book packet schedule result area ≡ evaluated_result book packet result
  unfolding ran_result evaluated_result start given finish
  by_enough (enough h e n) l =
      rw (
        ran_stopped book packet schedule (length result) area admitted fit wide right tests writes,
        evaluated_given book packet (length result) admitted.granted fit,
        e,
      )
  by_enough (short h e r n) l = absurd (omega arith)

  pub same_words : steps_of book packet ≤ length schedule → ran_result book packet schedule result area ≡ evaluated_result book packet result
  same_words = by_enough (ending (start_spot book) (main_of book) (start_set packet) schedule)
