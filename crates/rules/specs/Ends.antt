-- The three ends of a run, each in full: turned away by the first number that applies, finished, running. The limits stand here as
-- document 01's numbers.
use Rattle.std.specs.Prelude.{ℕ, ◌*◌, ◌≤◌, ◌<◌, ◌≡◌, true, false, ◌↔◌, ◌⊎◌, List, length, take, drop, replicate, Err, Ok, Result}
use Rattle.rules.specs.declared.Reason.TheVariants.{PacketLength, Unpopulated, TooWide, Positions, BufferLength}
use Rattle.rules.specs.declared.Refusal.{Refusal}
use Rattle.rules.specs.declared.Sizes.{Sizes}
use Rattle.rules.specs.declared.Ran.{Ran}
use Rattle.rules.specs.declared.Ran.TheVariants.{Finished, Running}
use Rattle.rules.specs.Packets.{Packet, Packets, Ascending, ◌∈◌, values_of}
use Rattle.rules.specs.Parts.{names_open}
use Rattle.rules.specs.Checks.{no_place}
use Rattle.rules.specs.Reading.{fields_of, main_of, verdict}
use Rattle.rules.specs.Meaning.{Gives}
use Rattle.rules.specs.Working.{steps, room, width}
use Rattle.rules.specs.States.{live, ready, run}
use Rattle.rules.specs.Answers.{start_set, start}

-- ---- turned away: "Order: 1 to 7, 8, 12, 9, 10, 11, 13"; 13 is shut out by the typing

-- the book is accepted, and the packet has its words (past 1 to 8)
pub record Fitting (book packet : List ℕ) : Type 0 where
  pub sizes : Sizes
  pub accepted : verdict book ≡ Ok sizes
  pub words : length packet ≡ fields_of book

-- and both buffers are long enough (past 12)
pub record Buffered (book packet : List ℕ) (words area : ℕ) : Type 0 where
  pub fitting : Fitting book packet
  pub fits : 16 * fields_of book ≤ words
  pub wide : 21760 ≤ area

-- why a run of a book on a packet is turned away, with a result of so many words and an area of so many
pub data TurnedAway (book packet : List ℕ) (words area : ℕ) : Refusal → Type 0 where
  by_book : {r : Refusal} → verdict book ≡ Err r → TurnedAway book packet words area r
  by_packet : {z : Sizes} → verdict book ≡ Ok z → (length packet ≡ fields_of book → ⊥)
      → TurnedAway book packet words area (no_place PacketLength)
  by_buffer : Fitting book packet → (words < 16 * fields_of book) ⊎ (area < 21760) → TurnedAway book packet words area (no_place BufferLength)
  by_table : Buffered book packet words area → names_open (main_of book) ≡ true → TurnedAway book packet words area (no_place Unpopulated)
  by_width : Buffered book packet words area → names_open (main_of book) ≡ false → 16 < width (main_of book) (start_set packet)
      → TurnedAway book packet words area (no_place TooWide)
  by_room : Buffered book packet words area → names_open (main_of book) ≡ false → width (main_of book) (start_set packet) ≤ 16
      → 160 < room (main_of book) (start_set packet) → TurnedAway book packet words area (no_place Positions)

-- ---- finished, or running

-- "After either, the first 21,760 words of the working area are zero and the others kept"
pub record Cleared (area area' : List ℕ) : Type 0 where
  pub front : take 21760 area' ≡ replicate 21760 0
  pub others : drop 21760 area' ≡ drop 21760 area

-- N steps, and exactly the packets of the published meaning: "the count c, the packets in the first c·k words of the result, other
-- words kept"
pub record FinishedExactly (book packet result area : List ℕ) (r : Result Ran Refusal) (result' area' : List ℕ) : Type 0 where
  pub packets : Packets
  pub ascending : Ascending packets
  pub exact : (b : Packet) → (b ∈ packets) ↔ Gives (main_of book) packet b
  pub long : (b : Packet) → b ∈ packets → length b ≡ fields_of book
  pub answer : r ≡ Ok (Finished (record { steps = steps (main_of book) (start_set packet); count = length packets }))
  pub front : take (length packets * fields_of book) result' ≡ values_of (fields_of book) packets
  pub others : drop (length packets * fields_of book) result' ≡ drop (length packets * fields_of book) result
  pub cleared : Cleared area area'

-- a step for each choice, what is live and ready in the state reached, a step ready; "Running: result kept"
pub record RunningExactly (book packet schedule result area : List ℕ) (r : Result Ran Refusal) (result' area' : List ℕ) : Type 0 where
  pub answer : r ≡ Ok (Running (record {
    steps = length schedule;
    live = live (run (start book packet) schedule);
    ready = ready (run (start book packet) schedule);
  }))
  pub more : 0 < ready (run (start book packet) schedule)
  pub kept : result' ≡ result
  pub cleared : Cleared area area'
