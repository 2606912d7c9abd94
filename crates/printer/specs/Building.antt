-- The lines as they are built from what the program has at hand, and what a part of the program hands to the next.
use Rattle.std.specs.Prelude.{ℕ, zero, suc, ◌+◌, ◌*◌, ◌≤◌, ◌≡◌, List, [], ◌++◌, length, take, drop, Ok}
use Rattle.rules.specs.declared.Finish.{Finish}
use Rattle.rules.specs.declared.Progress.{Progress}
use Rattle.rules.specs.Packets.{most_packets}
use Rattle.rules.specs.Books.{most_bytes}
use Rattle.rules.specs.Reading.{number_at, fields_of, verdict}
use Rattle.rules.specs.States.{finish, run}
use Rattle.rules.specs.Answers.{area_words, start, ran, final_of}
use Rattle.printer.specs.declared.Request.{Request}
use Rattle.printer.specs.Printing.{book_in, after_book, line_end, blank_then, running_word, finished_word, values_line, ran_lines, printed}

-- the lines of n packets of k values each, which stand in l one after the other
unfoldable pub lines_of : ℕ → ℕ → List ℕ → List ℕ
lines_of k zero l = []
lines_of k (suc n) l = values_line (take k l) ++ lines_of k n (drop k l)

unfoldable pub running_line : Progress → List ℕ
running_line p = running_word ++ (blank_then p.steps ++ (blank_then p.live ++ (blank_then p.ready ++ line_end)))

-- of a finished run, whose packets stand in the words
unfoldable pub finished_lines : ℕ → Finish → List ℕ → List ℕ
finished_lines k f words =
    finished_word ++ (blank_then f.steps ++ (blank_then f.count ++ (line_end ++ lines_of k f.count words)))

-- ---- what an input asks for

-- an input begins with the length of a book and the book, and the rest follows
pub record HasBook (input book rest : List ℕ) : Type 0 where
  pub few : number_at input 0 ≤ most_bytes
  pub whole : 2 + number_at input 0 ≤ length input
  pub book_is : book ≡ book_in input
  pub rest_is : rest ≡ after_book input

-- what is printed of a run
unfoldable pub ran_text : List ℕ → List ℕ → List ℕ → List ℕ
ran_text book packet schedule =
    ran_lines (fields_of book) (final_of (finish (run (start book packet) schedule)))
    (ran book packet schedule (most_packets * fields_of book) area_words)

-- the parts of an input with an accepted book: of their run it is told what is printed for the input
pub record Asks (input : List ℕ) (q : Request) : Type 0 where
  pub accepted : verdict q.book.now ≡ Ok q.sizes
  pub asked : printed input ≡ ran_text q.book.now q.packet.items q.schedule.now
