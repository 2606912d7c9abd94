-- The answers of the evaluator and of a run, what every lent word is afterwards, and each answer's number, place and values
-- (document 01, "Numbers that turn a call away").
use Rattle.std.specs.Prelude.{ℕ, ◌*◌, not, List, [], ◌∷◌, ◌++◌, leb, eqb, length, drop, replicate, Err, Ok, Result}
use Rattle.std.proofs.Math.Option.{Option, none, some}
use Rattle.rules.specs.declared.Sizes.{Sizes}
use Rattle.rules.specs.declared.Reason.TheVariants.{PacketLength, Unpopulated, TooWide, Positions, BufferLength, Stuck}
use Rattle.rules.specs.declared.Refusal.{Refusal}
use Rattle.rules.specs.declared.Outcome.{Outcome}
use Rattle.rules.specs.declared.Ran.{Ran}
use Rattle.rules.specs.declared.Ran.TheVariants.{Finished, Running}
use Rattle.rules.specs.Masks.{all_fields}
use Rattle.rules.specs.Packets.{Packets, most_packets, padded, values_of}
use Rattle.rules.specs.Parts.{parts, deep, names_open}
use Rattle.rules.specs.Checks.{number_of, Check, check, check_at, first_failed}
use Rattle.rules.specs.Reading.{fields_of, body_start, main_of, no_fault, first_of, book_checks}
use Rattle.rules.specs.Working.{out, steps, room, width}
use Rattle.rules.specs.States.{Spot, Tree, place, finish, live, ready, run, made, stuck_in}

-- an answer as document 01 puts it: a number that turns the call away with its place, or what is answered
pub data Says : Type 0 where
  refusal : (number place : ℕ) → Says
  accepted : (k m n D : ℕ) → Says
  packets : (count N n D room : ℕ) → Says
  finished : (steps count : ℕ) → Says
  running : (steps live ready : ℕ) → Says

unfoldable pub refusal_says : Refusal → Says
refusal_says r = refusal (number_of r) r.place

unfoldable pub verdict_says : Result Sizes Refusal → Says
verdict_says (Ok z) = accepted z.fields z.tables z.parts z.deep
verdict_says (Err r) = refusal_says r

unfoldable pub evaluated_says : Result Outcome Refusal → Says
evaluated_says (Ok o) = packets o.count o.steps o.parts o.deep o.room
evaluated_says (Err r) = refusal_says r

unfoldable pub ran_says : Result Ran Refusal → Says
ran_says (Ok (Finished f)) = finished f.steps f.count
ran_says (Ok (Running p)) = running p.steps p.live p.ready
ran_says (Err r) = refusal_says r

-- ---- the evaluator: 1 to 7, then 8, 12, 9, 10

-- "A run has 160 positions"; the words of the working area
abbrev pub most_positions : ℕ
most_positions = 160

abbrev pub area_words : ℕ
area_words = 21760

-- the set that a run or an evaluation starts from
abbrev pub start_set : List ℕ → Packets
start_set packet = padded packet ∷ []

unfoldable pub given : List ℕ → List ℕ → Packets
given book packet = out (main_of book) (start_set packet)

unfoldable pub outcome : List ℕ → List ℕ → Outcome
outcome book packet = record {
  count = length (given book packet);
  steps = steps (main_of book) (start_set packet);
  parts = parts (main_of book);
  deep = deep (main_of book);
  room = room (main_of book) (start_set packet);
}

-- 8, 12, 9, 10; `fits` says whether the lent buffers are long enough
unfoldable pub packet_checks : List ℕ → List ℕ → List Check → List Check
packet_checks book packet fits =
    check (eqb (length packet) (fields_of book)) PacketLength
    ∷ (fits
    ++ (check (not (names_open (main_of book))) Unpopulated
    ∷ check (leb (width (main_of book) (start_set packet)) most_packets) TooWide
    ∷ []))

abbrev pub result_check : List ℕ → ℕ → Check
result_check book words = check (leb (most_packets * fields_of book) words) BufferLength

unfoldable pub evaluate_checks : List ℕ → List ℕ → ℕ → List Check
evaluate_checks book packet words = book_checks book ++ packet_checks book packet (result_check book words ∷ [])

abbrev pub evaluated_by : Option Refusal → Outcome → Result Outcome Refusal
evaluated_by none o = Ok o
evaluated_by (some r) o = Err r

-- the answer to a book's bytes, a packet's words and a result buffer of so many words
unfoldable pub evaluated : List ℕ → List ℕ → ℕ → Result Outcome Refusal
evaluated book packet words = evaluated_by (first_failed (evaluate_checks book packet words)) (outcome book packet)

-- "the packets in the first c·k words of the result, other words kept"
unfoldable pub overwritten : List ℕ → List ℕ → List ℕ
overwritten words buffer = words ++ drop (length words) buffer

abbrev pub result_if : Result Outcome Refusal → List ℕ → List ℕ → List ℕ
result_if (Ok o) words result = overwritten words result
result_if (Err r) words result = result

unfoldable pub evaluated_result : List ℕ → List ℕ → List ℕ → List ℕ
evaluated_result book packet result =
    result_if (evaluated book packet (length result)) (values_of (fields_of book) (given book packet)) result

-- ---- a run: 1 to 7, then 8, 12, 9, 10, 11, 13

abbrev pub start_spot : List ℕ → Spot
start_spot book = record { at = body_start book 0; fields = all_fields (fields_of book) }

unfoldable pub start : List ℕ → List ℕ → Tree
start book packet = place (start_spot book) (main_of book) (start_set packet)

-- "A short schedule gives "running" with steps made, live positions and ready positions"
abbrev pub stopped : ℕ → Tree → List Packets → Ran
stopped n t [] = Running (record { steps = n; live = live t; ready = ready t })
stopped n t (s ∷ l) = Finished (record { steps = n; count = length s })

unfoldable pub run_checks : List ℕ → List ℕ → List ℕ → ℕ → ℕ → List Check
run_checks book packet schedule words area =
    book_checks book
    ++ (packet_checks book packet (result_check book words ∷ check (leb area_words area) BufferLength ∷ [])
    ++ (check (leb (room (main_of book) (start_set packet)) most_positions) Positions
    ∷ check_at (no_fault (stuck_in (start book packet) schedule)) Stuck (first_of (stuck_in (start book packet) schedule))
    ∷ []))

abbrev pub ran_by : Option Refusal → Ran → Result Ran Refusal
ran_by none a = Ok a
ran_by (some r) a = Err r

-- where a run of an admitted book stops
abbrev pub stop_of : List ℕ → List ℕ → List ℕ → Ran
stop_of book packet schedule =
    let t = start book packet in
    stopped (made t schedule) (run t schedule) (finish (run t schedule))

-- the answer to a book, a packet, a schedule, and buffers of so many words
unfoldable pub ran : List ℕ → List ℕ → List ℕ → ℕ → ℕ → Result Ran Refusal
ran book packet schedule words area = ran_by (first_failed (run_checks book packet schedule words area)) (stop_of book packet schedule)

abbrev pub final_of : List Packets → Packets
final_of [] = []
final_of (s ∷ l) = s

abbrev pub result_run : Result Ran Refusal → List ℕ → List ℕ → List ℕ
result_run (Ok (Finished f)) words result = overwritten words result
result_run (Ok (Running p)) words result = result
result_run (Err r) words result = result

unfoldable pub ran_result : List ℕ → List ℕ → List ℕ → List ℕ → ℕ → List ℕ
ran_result book packet schedule result area =
    result_run (ran book packet schedule (length result) area)
    (values_of (fields_of book) (final_of (finish (run (start book packet) schedule)))) result

-- "After either, the first 21,760 words of the working area are zero and the others kept"
abbrev pub area_run : Result Ran Refusal → List ℕ → List ℕ
area_run (Ok (Finished f)) area = overwritten (replicate area_words 0) area
area_run (Ok (Running p)) area = overwritten (replicate area_words 0) area
area_run (Err r) area = area

unfoldable pub ran_area : List ℕ → List ℕ → List ℕ → ℕ → List ℕ → List ℕ
ran_area book packet schedule words area = area_run (ran book packet schedule words (length area)) area
