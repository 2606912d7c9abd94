-- What the run printer writes for any input (document 01, "The run printer").
use Rattle.std.specs.Prelude.{ℕ, zero, suc, ◌+◌, ◌*◌, ◌/◌, ◌%◌, cond, List, [], ◌∷◌, ◌++◌, ltb, leb, length, take, drop, Err, Ok, Result}
use Rattle.std.proofs.Math.Option.{Option, none, some}
use Rattle.rules.specs.declared.Reason.TheVariants.{BookLength, PacketLength, Input}
use Rattle.rules.specs.declared.Refusal.{Refusal}
use Rattle.rules.specs.declared.Ran.{Ran}
use Rattle.rules.specs.declared.Ran.TheVariants.{Finished, Running}
use Rattle.rules.specs.Packets.{Packets, most_packets}
use Rattle.rules.specs.Books.{most_bytes}
use Rattle.rules.specs.Checks.{number_of, Check, check, first_failed}
use Rattle.rules.specs.Reading.{number_at, fields_of, book_checks}
use Rattle.rules.specs.States.{finish, run}
use Rattle.rules.specs.Answers.{area_words, start, ran, final_of}

-- "a schedule over 8,192 bytes, 14"
abbrev pub most_choices : ℕ
most_choices = 8192

-- ---- "book length (two bytes), book, 2·k packet bytes, schedule"

abbrev pub book_in : List ℕ → List ℕ
book_in input = take (number_at input 0) (drop 2 input)

abbrev pub after_book : List ℕ → List ℕ
after_book input = drop (2 + number_at input 0) input

-- n words of two bytes each, high byte first
abbrev pub words_in : ℕ → List ℕ → List ℕ
words_in zero l = []
words_in (suc n) l = number_at l 0 ∷ words_in n (drop 2 l)

abbrev pub packet_in : List ℕ → List ℕ
packet_in input = words_in (fields_of (book_in input)) (after_book input)

abbrev pub schedule_in : List ℕ → List ℕ
schedule_in input = drop (2 * fields_of (book_in input)) (after_book input)

-- ---- text

-- a number in decimal, of at most d digits; one of 64 bits has at most 20
unfoldable pub decimal_in : ℕ → ℕ → List ℕ
decimal_in zero n = []
decimal_in (suc d) n = cond (ltb n 10) ((48 + n) ∷ []) (decimal_in d (n / 10) ++ ((48 + n % 10) ∷ []))

abbrev pub decimal : ℕ → List ℕ
decimal n = decimal_in 20 n

-- a blank and a number; a line end
abbrev pub blank_then : ℕ → List ℕ
blank_then n = 32 ∷ decimal n

abbrev pub line_end : List ℕ
line_end = 10 ∷ []

-- "refused", "running", "finished"
abbrev pub refused_word : List ℕ
refused_word = 114 ∷ 101 ∷ 102 ∷ 117 ∷ 115 ∷ 101 ∷ 100 ∷ []

abbrev pub running_word : List ℕ
running_word = 114 ∷ 117 ∷ 110 ∷ 110 ∷ 105 ∷ 110 ∷ 103 ∷ []

abbrev pub finished_word : List ℕ
finished_word = 102 ∷ 105 ∷ 110 ∷ 105 ∷ 115 ∷ 104 ∷ 101 ∷ 100 ∷ []

-- "one line of decimal values, field order, single blanks, for each packet"
unfoldable pub further_values : List ℕ → List ℕ
further_values [] = line_end
further_values (v ∷ vs) = blank_then v ++ further_values vs

unfoldable pub values_line : List ℕ → List ℕ
values_line [] = line_end
values_line (v ∷ vs) = decimal v ++ further_values vs

unfoldable pub packet_lines : ℕ → Packets → List ℕ
packet_lines k [] = []
packet_lines k (x ∷ s) = values_line (take k x) ++ packet_lines k s

-- ---- the answers

unfoldable pub refused_line : Refusal → List ℕ
refused_line r = refused_word ++ (blank_then (number_of r) ++ (blank_then r.place ++ line_end))

-- k is the number of fields, and s the packets of a finished run
unfoldable pub ran_lines : ℕ → Packets → Result Ran Refusal → List ℕ
ran_lines k s (Ok (Finished f)) = finished_word ++ (blank_then f.steps ++ (blank_then f.count ++ (line_end ++ packet_lines k s)))
ran_lines k s (Ok (Running p)) = running_word ++ (blank_then p.steps ++ (blank_then p.live ++ (blank_then p.ready ++ line_end)))
ran_lines k s (Err r) = refused_line r

-- the run of the book and the packet in the input, and the packets that it ends with
unfoldable pub ran_in : List ℕ → Result Ran Refusal
ran_in input =
    ran (book_in input) (packet_in input) (schedule_in input) (most_packets * fields_of (book_in input)) area_words

unfoldable pub ends_with : List ℕ → Packets
ends_with input = final_of (finish (run (start (book_in input) (packet_in input)) (schedule_in input)))

-- "In this order: fewer than two bytes, 14; a length over 4,096, 1, whether the bytes follow or not; a cut book, 14; the book's own
-- 1 to 7; a cut packet, 8; a schedule over 8,192 bytes, 14; then 9 to 11 and 13"
unfoldable pub print_checks : List ℕ → List Check
print_checks input =
    check (leb 2 (length input)) Input
    ∷ check (leb (number_at input 0) most_bytes) BookLength
    ∷ check (leb (2 + number_at input 0) (length input)) Input
    ∷ (book_checks (book_in input)
    ++ (check (leb (2 * fields_of (book_in input)) (length (after_book input))) PacketLength
    ∷ check (leb (length (schedule_in input)) most_choices) Input
    ∷ []))

abbrev pub printed_by : Option Refusal → List ℕ → List ℕ
printed_by none text = text
printed_by (some r) text = refused_line r

unfoldable pub printed : List ℕ → List ℕ
printed input = printed_by (first_failed (print_checks input)) (ran_lines (fields_of (book_in input)) (ends_with input) (ran_in input))
