-- What the demands say of the machine: one number of steps for every schedule, demand 2's set, and an answer that its inputs fix.
use Rattle.std.specs.Prelude.{Err, Result}
use Prim.Native.Nat.{ℕ, ◌*◌, ◌≤◌, ◌<◌}
use mathlib.Core.Path.{◌≡◌, sym, ◌∙◌}
use mathlib.Core.Logic.{◌↔◌}
use mathlib.Core.List.{List}
use lib.ListN.{length}
use Rattle.rules.specs.declared.Refusal.{Refusal}
use Rattle.rules.specs.declared.Ran.{Ran}
use Rattle.rules.specs.Packets.{most_packets}
use Rattle.rules.specs.Reading.{fields_of}
use Rattle.rules.specs.Answers.{area_words, evaluated_result}
use Rattle.rules.specs.Books.{Bytes}
use Rattle.rules.specs.Promises.{Admitted, steps_of, Stops, RunAnswer}
use Rattle.rules.specs.Ends.{TurnedAway, FinishedExactly, RunningExactly}
use Rattle.rules.proofs.Demands.{one_number, same_result, refused_run_keeps, finished_exactly, running_exactly, turned_away_exactly}

-- the answer and both buffers are determined
pub unique : {book packet schedule result work : List ℕ} {r s : Result Ran Refusal} {o p v w : List ℕ} → RunAnswer book packet schedule result work r o v
    → RunAnswer book packet schedule result work s p w → (r ≡ s) × (o ≡ p) × (v ≡ w)
unique a b = (a.is ∙ sym b.is, a.out ∙ sym b.out, a.work ∙ sym b.work)

-- demand 1: where the machine turns a call away, both buffers are as they were
pub turned_away_keeps : {book packet schedule result work o v : List ℕ} (why : Refusal)
    → RunAnswer book packet schedule result work (Err why) o v → (o ≡ result) × (v ≡ work)
turned_away_keeps {book} {packet} {schedule} {result} {work} why a =
    let k = refused_run_keeps book packet schedule result work why (sym a.is) in
    (a.out ∙ k.0, a.work ∙ k.1)

-- demand 3: for an admitted book and packet, and buffers that are long enough
module _ {book packet schedule result work o v : List ℕ} {r : Result Ran Refusal} (bytes : Bytes book) (admitted : Admitted book packet)
    (fit : most_packets * fields_of book ≤ length result) (wide : area_words ≤ length work)
    (a : RunAnswer book packet schedule result work r o v) where
  -- the machine's answer: finished after exactly N steps, or running, each choice a step, with a step ready
  pub machine_stops : Stops book packet schedule r
  machine_stops = rw a.is (one_number book packet bytes admitted schedule (length result) (length work) fit wide)

  -- at least N choices leave demand 2's packets in the result
  pub machine_result : steps_of book packet ≤ length schedule → o ≡ evaluated_result book packet result
  machine_result h = a.out ∙ same_result book packet bytes admitted schedule result (length work) fit wide h

  -- at least N choices: N steps, and the result holds exactly the packets that the published meaning gives, nothing else changed but
  -- for the cleared area
  pub machine_finishes : steps_of book packet ≤ length schedule → FinishedExactly book packet result work r o v
  machine_finishes h =
      rw (a.is, a.out, a.work) (finished_exactly book packet bytes admitted schedule result work fit wide h)

  -- fewer: a step for each choice, what is live and ready in the rules' state, the result kept
  pub machine_runs : length schedule < steps_of book packet → RunningExactly book packet schedule result work r o v
  machine_runs h = rw (a.is, a.out, a.work) (running_exactly book packet bytes admitted schedule result work fit wide h)

-- the machine turns a call away exactly by the first number that applies
pub machine_turns_away : {book packet schedule result work o v : List ℕ} {r : Result Ran Refusal} → Bytes book
    → RunAnswer book packet schedule result work r o v
    → (why : Refusal) → (r ≡ Err why) ↔ TurnedAway book packet (length result) (length work) why
machine_turns_away {book} {packet} {schedule} {result} {work} bytes a why =
    rw a.is (turned_away_exactly book packet schedule (length result) (length work) bytes why)
