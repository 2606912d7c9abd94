-- What a packet comes to in the main policy of an accepted book: 9, 10, or the packets with N and the room.
use Rattle.std.specs.Prelude.{ℕ, ◌≤◌, ◌<◌, ◌≡◌, true, false, ◌⊎◌, List, length, Result, Ok, Err}
use Rattle.rules.specs.declared.Reason.{Reason}
use Rattle.rules.specs.declared.Reason.TheVariants.{Unpopulated, TooWide}
use Rattle.rules.specs.Packets.{Packets, most_packets}
use Rattle.rules.specs.Parts.{names_open}
use Rattle.rules.specs.Reading.{fields_of, main_of}
use Rattle.rules.specs.Working.{out, steps, room, width}
use Rattle.rules.specs.Answers.{start_set}
use Rattle.evaluator.specs.Work.{IsAccepted}
use Rattle.evaluator.specs.declared.Weight.{Weight}

-- past 1 to 8
pub record Passable (book packet : List ℕ) : Type 0 where
  pub accepted : IsAccepted book
  pub words : length packet ≡ fields_of book

-- past 9 and 10: the packets t, their number, N and the room
pub record Passed (book packet : List ℕ) (w : Weight) (t : Packets) : Type 0 where
  pub populated : names_open (main_of book) ≡ false
  pub narrow : width (main_of book) (start_set packet) ≤ most_packets
  pub same : t ≡ out (main_of book) (start_set packet)
  pub count : w.count ≡ length t
  pub steps : w.steps ≡ steps (main_of book) (start_set packet)
  pub room : w.room ≡ room (main_of book) (start_set packet)

pub record Wide (book packet : List ℕ) : Type 0 where
  pub populated : names_open (main_of book) ≡ false
  pub wide : most_packets < width (main_of book) (start_set packet)

-- 9, or 10
abbrev pub Stopped : List ℕ → List ℕ → Reason → Type 0
Stopped book packet why = ((why ≡ Unpopulated) × (names_open (main_of book) ≡ true)) ⊎ ((why ≡ TooWide) × Wide book packet)

abbrev pub Passes : List ℕ → List ℕ → Result Weight Reason → Packets → Type 0
Passes book packet (Ok w) t = Passed book packet w t
Passes book packet (Err why) t = Stopped book packet why

-- whatever the packets are
abbrev pub Weighs : List ℕ → List ℕ → Result Weight Reason → Type 0
Weighs book packet r = (t : Packets) × Passes book packet r t
