-- Between the parts of a run: what is known before its first step, and the words that the run of an admitted book leaves.
use Rattle.std.specs.Prelude.{ℕ, ◌+◌, ◌*◌, ◌≤◌, ◌<◌, ◌≡◌, List, length}
use Rattle.rules.specs.Packets.{most_packets, values_of}
use Rattle.rules.specs.Reading.{fields_of, main_of}
use Rattle.rules.specs.Working.{room}
use Rattle.rules.specs.States.{finish, run}
use Rattle.rules.specs.Answers.{area_words, start_set, start, final_of}
use Rattle.rules.specs.Promises.{Granted}
use Rattle.links.specs.Nets.{times}
use Rattle.area.specs.Words.{positions, free_list}
use Rattle.steps.specs.State.{below}

-- past 1 to 10, and the room that a run needs
pub record Weighed (book packet result work : List ℕ) (needs : ℕ) : Type 0 where
  pub granted : Granted book packet
  pub room : needs ≡ room (main_of book) (start_set packet)
  pub fits : most_packets * fields_of book ≤ length result
  pub wide : area_words ≤ length work

-- the words of the packets that a run leaves
abbrev pub words_of : List ℕ → List ℕ → List ℕ → List ℕ
words_of book packet schedule = values_of (fields_of book) (final_of (finish (run (start book packet) schedule)))

-- the n highest numbers are free, each once
pub record Freed (v : List ℕ) (n : ℕ) : Type 0 where
  pub once : (k : ℕ) → times k (free_list v n) ≤ below k
  pub high : (k : ℕ) → k + n < positions → times k (free_list v n) ≡ 0
