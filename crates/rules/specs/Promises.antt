-- What the demands speak of: the books and packets that are let through, N, how a run stops, and what each public call promises.
use Rattle.std.specs.Prelude.{ℕ, ◌≤◌, ◌<◌, ◌≡◌, false, List, map, length, take, Ok, Result}
use Rattle.rules.specs.declared.Outcome.{Outcome}
use Rattle.rules.specs.declared.Refusal.{Refusal}
use Rattle.rules.specs.declared.Sizes.{Sizes}
use Rattle.rules.specs.declared.Ran.{Ran}
use Rattle.rules.specs.declared.Ran.TheVariants.{Finished, Running}
use Rattle.rules.specs.Packets.{Packets, most_packets}
use Rattle.rules.specs.Parts.{names_open}
use Rattle.rules.specs.Reading.{fields_of, main_of, verdict}
use Rattle.rules.specs.Working.{steps, room, width}
use Rattle.rules.specs.Answers.{verdict_says, evaluated_says, ran_says, most_positions, start_set, given, evaluated, evaluated_result}
use Rattle.rules.specs.Answers.{ran, ran_result, ran_area}

-- ---- what an evaluation and a run ask of a book and a packet

-- not turned away by 1 to 9 and 10, the buffers aside
pub record Granted (book packet : List ℕ) : Type 0 where
  pub sizes : Sizes
  pub accepted : verdict book ≡ Ok sizes
  pub words : length packet ≡ fields_of book
  pub populated : names_open (main_of book) ≡ false
  pub narrow : width (main_of book) (start_set packet) ≤ most_packets

-- nor by 11
pub record Admitted (book packet : List ℕ) : Type 0 where
  pub granted : Granted book packet
  pub positions : room (main_of book) (start_set packet) ≤ most_positions

-- the packets given, as the k words of each that go to the result
abbrev pub packets_given : List ℕ → List ℕ → Packets
packets_given book packet = map (take (fields_of book)) (given book packet)

-- ---- how a run stops

-- N of a book and a packet
abbrev pub steps_of : List ℕ → List ℕ → ℕ
steps_of book packet = steps (main_of book) (start_set packet)

-- what a run answers: at least N choices stop after exactly N steps, with as many packets as the evaluator gives; fewer stop
-- unfinished, each choice a step, with a step ready and no more positions live than the room
pub data Stops (book packet schedule : List ℕ) (a : Result Ran Refusal) : Type 0 where
  finishes : steps_of book packet ≤ length schedule
      → a ≡ Ok (Finished (record { steps = steps_of book packet; count = length (given book packet) })) → Stops book packet schedule a
  goes_on : length schedule < steps_of book packet → (l r : ℕ) → l ≤ room (main_of book) (start_set packet) → 0 < r
      → a ≡ Ok (Running (record { steps = length schedule; live = l; ready = r })) → Stops book packet schedule a

-- ---- the public calls: the answer and every lent word afterwards, for all inputs. Each also says document 01's number, place and
-- values, in the words of the table of numbers.

pub record AcceptAnswer (book : List ℕ) (r : Result Sizes Refusal) : Type 0 where
  pub is : r ≡ verdict book
  pub says : verdict_says r ≡ verdict_says (verdict book)

pub record EvaluateAnswer (book packet result : List ℕ) (r : Result Outcome Refusal) (result' : List ℕ) : Type 0 where
  pub is : r ≡ evaluated book packet (length result)
  pub says : evaluated_says r ≡ evaluated_says (evaluated book packet (length result))
  pub out : result' ≡ evaluated_result book packet result

pub record RunAnswer (book packet schedule result area : List ℕ) (r : Result Ran Refusal) (result' area' : List ℕ) : Type 0 where
  pub is : r ≡ ran book packet schedule (length result) (length area)
  pub says : ran_says r ≡ ran_says (ran book packet schedule (length result) (length area))
  pub out : result' ≡ ran_result book packet schedule result (length area)
  pub work : area' ≡ ran_area book packet schedule (length result) area
