-- A vector, one case of the trials: what three calls are given, and what is stated of their answers. second/README.md has this layout
-- in a table. Every number is read past the end of the bytes as 0, so that all bytes are a vector.
use Rattle.std.specs.Prelude.{ℕ, ◌+◌, ◌*◌, ◌%◌, List, take, drop, map}
use Rattle.std.specs.List.{range_with_len}
use Rattle.rules.specs.Reading.{number_at}
use Rattle.trials.specs.declared.vectors.Call.{Call}
use Rattle.trials.specs.declared.vectors.Call.TheVariants.{Accept, Evaluate, Run}

-- the number in four bytes, high byte first
abbrev pub long_at : List ℕ → ℕ → ℕ
long_at v at = number_at v at * 65536 + number_at v (at + 2)

-- the first n words of two bytes each
unfoldable pub words_in : ℕ → List ℕ → List ℕ
words_in n l = map (λ i. number_at l (2 * i)) (range_with_len 0 n)

-- n bytes from a place on
abbrev pub part_of : ℕ → ℕ → List ℕ → List ℕ
part_of at n v = take n (drop at v)

-- ---- the head

abbrev pub book_bytes : List ℕ → ℕ
book_bytes v = number_at v 0

abbrev pub packet_words : List ℕ → ℕ
packet_words v = number_at v 2

abbrev pub schedule_bytes : List ℕ → ℕ
schedule_bytes v = number_at v 4

-- the words of the two lent buffers, and the seed of what they hold before each call
abbrev pub result_words : List ℕ → ℕ
result_words v = number_at v 6

abbrev pub work_words : List ℕ → ℕ
work_words v = number_at v 8

abbrev pub seed_of : List ℕ → ℕ
seed_of v = number_at v 10

-- how many words of packets `evaluate` and `run` are to leave, and how many zeros `run` is to leave in the working area
abbrev pub given_words : List ℕ → ℕ
given_words v = number_at v 12

abbrev pub ran_words : List ℕ → ℕ
ran_words v = number_at v 14

abbrev pub zero_words : List ℕ → ℕ
zero_words v = number_at v 16

-- ---- the answers as they are stated: six numbers for each call

abbrev pub answer_place : Call → ℕ
answer_place Accept = 18
answer_place Evaluate = 42
answer_place Run = 66

unfoldable pub numbers_at : List ℕ → ℕ → List ℕ
numbers_at v at = map (λ i. long_at v (at + 4 * i)) (range_with_len 0 6)

-- ---- what follows the head, each part right after the one before

abbrev pub book_place : List ℕ → ℕ
book_place v = 90

abbrev pub packet_place : List ℕ → ℕ
packet_place v = book_place v + book_bytes v

abbrev pub schedule_place : List ℕ → ℕ
schedule_place v = packet_place v + 2 * packet_words v

abbrev pub given_place : List ℕ → ℕ
given_place v = schedule_place v + schedule_bytes v

abbrev pub ran_place : List ℕ → ℕ
ran_place v = given_place v + 2 * given_words v

unfoldable pub book_of : List ℕ → List ℕ
book_of v = part_of (book_place v) (book_bytes v) v

unfoldable pub packet_of : List ℕ → List ℕ
packet_of v = words_in (packet_words v) (drop (packet_place v) v)

unfoldable pub schedule_of : List ℕ → List ℕ
schedule_of v = part_of (schedule_place v) (schedule_bytes v) v

unfoldable pub given_of : List ℕ → List ℕ
given_of v = words_in (given_words v) (drop (given_place v) v)

unfoldable pub ran_of : List ℕ → List ℕ
ran_of v = words_in (ran_words v) (drop (ran_place v) v)

-- ---- what the lent buffers hold before a call

-- a length of two bytes is below this, so a buffer of so many words serves for every vector
abbrev pub most_lent : ℕ
most_lent = 65536

abbrev pub marker : ℕ → ℕ → ℕ
marker seed i = (40503 * i + 257 * seed + 1) % 65536

unfoldable pub marks : ℕ → ℕ → List ℕ
marks seed n = map (marker seed) (range_with_len 0 n)

-- the words of the result buffer and of the working area before each call
unfoldable pub result_lent : List ℕ → List ℕ
result_lent v = take (result_words v) (marks (seed_of v) most_lent)

unfoldable pub work_lent : List ℕ → List ℕ
work_lent v = take (work_words v) (marks (seed_of v) most_lent)
