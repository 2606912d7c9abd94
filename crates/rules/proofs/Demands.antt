-- The three demands on one page, as far as they speak of the rules; each is proved by citing the theorem that shows it.
-- What they say of the code stands in the contracts of the functions, which are stated by the same definitions.
use Rattle.std.specs.Prelude.{Err, Ok, Result}
use Prim.Native.Nat.{ℕ, ◌*◌, ◌^◌, ◌≤◌, ◌<◌}
use native.Mathlib.Omega.{arith}
use mathlib.Core.Path.{◌≡◌, sym, ◌∙◌}
use mathlib.Core.Bool.{Bool, true, false}
use mathlib.Core.Logic.{◌↔◌, ◌⊎◌}
use mathlib.Core.List.{List, []}
use mathlib.Core.Option.{Option}
use lib.ListN.{length, take, length-map}
use Rattle.rules.specs.declared.Reason.TheVariants.{TooWide}
use Rattle.rules.specs.declared.Refusal.{Refusal}
use Rattle.rules.specs.declared.Sizes.{Sizes}
use Rattle.rules.specs.Packets.{Packet, Packets, most_packets, Ascending, ◌∈◌, values_of}
use Rattle.rules.specs.Parts.{Part, Beside, parts, deep, names_open}
use Rattle.rules.specs.Typing.{Right, tested, written, right_beside}
use Rattle.rules.specs.Books.{Policy, write_book, table_of, Scope, Fine, WellFormed, Typed, Book, Bytes}
use Rattle.rules.specs.Replacing.{body_of, rebound, replaced_body, TypedFor}
use Rattle.rules.specs.Checks.{no_place, number_of}
use Rattle.rules.specs.Reading.{fields_of, main_of, verdict}
use Rattle.rules.specs.Meaning.{Gives, Paired}
use Rattle.rules.specs.Working.{room, width}
use Rattle.rules.specs.States.{live, run, stuck_in, held}
use Rattle.rules.specs.Answers.{area_words, start_set, start_spot, given, evaluated, evaluated_result}
use Rattle.rules.specs.Answers.{overwritten, start, ran, ran_result, ran_area}
use Rattle.rules.specs.Fields.{Has}
use Rattle.rules.specs.Places.{Everywhere, InPlace}
use Rattle.rules.specs.Promises.{packets_given, Granted, Admitted, steps_of, Stops}
use Rattle.rules.specs.Ends.{TurnedAway, FinishedExactly, RunningExactly}
use Rattle.rules.specs.Lists.{All}
use Rattle.rules.proofs.Serial.{serializes, commutes}
use Rattle.rules.proofs.Padding.{as_long, words_exact, words_ascending, words_determined}
use Rattle.rules.proofs.Schedules.{held_width}
use Rattle.rules.proofs.Rooms.{live_room, room_reached as part-room-reached}
use Rattle.rules.proofs.Widths.{width_reached as part-width-reached, width_over}
use Rattle.rules.proofs.Bounds.{steps_bound}
use Rattle.rules.proofs.Stuck.{never_stuck as part-never-stuck}
use Rattle.rules.proofs.Places.{in_place as book-in-place}
use Rattle.rules.proofs.Acceptance.{exactly, unique}
use Rattle.rules.proofs.Replacing.{parts_kept, typing_kept}
use Rattle.rules.proofs.AcceptedBooks.{accepted_fields, accepted_formed, accepted_right, accepted_below}
use Rattle.rules.proofs.AcceptedBooks.{accepted_tested, accepted_written}
use Rattle.rules.proofs.Answering.{evaluated_given, evaluated_wide, too_wide_was, not_given_keeps, not_run_keeps}
use Rattle.rules.proofs.Numbers.{book_numbers, evaluation_numbers, run_numbers}
use Rattle.rules.proofs.Runs.{stops, at_finish, runs_on, same_words}
use Rattle.rules.proofs.Ends.{LetThrough, turned_away_is, turned_away_was, let_through_was}
use Rattle.rules.proofs.Ends.{words_front, words_others, finished_clears, running_clears, running_keeps}
-- the trials of document 01 marked *, every limit from both sides, the need of each condition of a right concurrent part, the trap of
-- pairing across packets, and that of typing a table by its body; books at the edges of the numbers 1 to 7 with their places, and T and
-- M of parts of each kind; the table of numbers
pub use Rattle.rules.proofs.Trials.{starred}
pub use Rattle.rules.proofs.Limits.{both-sides}
pub use Rattle.rules.proofs.Counterexamples.{each_needed, trap, declared_counts}
pub use Rattle.rules.proofs.Edges.{places, masks, wrong_bytes}
pub use Rattle.rules.proofs.Numbers.{number-table}

-- ---- Demand 1: any book, packet, schedule or buffer is answered. `verdict`, `evaluated` and `ran` are functions of all bytes, words
-- and lengths, so there is an answer, and one. Bad input is refused by number, and a refusal changes nothing lent.

pub one_verdict : (book : List ℕ) → (v : Result Sizes Refusal) × ((w : Result Sizes Refusal) → verdict book ≡ w → w ≡ v)
one_verdict book = (verdict book, λ w e. sym e)

-- and each call has its own numbers: 1 to 7 a book; 8, 9, 10 and 12 besides an evaluation; 11 besides a run, and never 13
pub accept_numbered : (book : List ℕ) (r : Refusal) → verdict book ≡ Err r → number_of r ≤ 7
accept_numbered = book_numbers

pub evaluate_numbered : (book packet : List ℕ) (words : ℕ) (r : Refusal) → evaluated book packet words ≡ Err r
    → (number_of r ≤ 10) ⊎ (number_of r ≡ 12)
evaluate_numbered = evaluation_numbers

pub refused_evaluation_keeps : (book packet result : List ℕ) (r : Refusal) → evaluated book packet (length result) ≡ Err r
    → evaluated_result book packet result ≡ result
refused_evaluation_keeps = not_given_keeps

pub refused_run_keeps : (book packet schedule result area : List ℕ) (r : Refusal)
    → ran book packet schedule (length result) (length area) ≡ Err r
    → (ran_result book packet schedule result (length area) ≡ result) × (ran_area book packet schedule (length result) area ≡ area)
refused_run_keeps = not_run_keeps

-- ---- Demand 2: a book is accepted exactly when it is a policy within document 01's layout, limits and typing, written; that policy
-- is unique; the packets given are exactly those of the published meaning.

pub accepted_exactly : (book : List ℕ) → Bytes book
    → ((z : Sizes) × (verdict book ≡ Ok z)) ↔ ((P : Policy) × Book P × (book ≡ write_book P))
accepted_exactly = exactly

pub policy_unique : (P Q : Policy) → WellFormed P → WellFormed Q → write_book P ≡ write_book Q → P ≡ Q
policy_unique = unique

-- "The declared masks count, since the body can be replaced": T and M of every part that uses tables of a policy are the same
-- whichever body is put into a table, or none; and if the body that was there and the new one are right and fit, so is the typing
pub masks_declared : (P : Policy) (x : ℕ) (body : Option Part) (c : Scope) (d : ℕ) (pred : Bool) (p : Part)
    → Fine c (table_of P) d pred p
    → (tested (rebound (table_of (replaced_body P x body)) p) ≡ tested p)
    × (written (rebound (table_of (replaced_body P x body)) p) ≡ written p)
masks_declared = parts_kept

pub typing_declared : (P : Policy) (x : ℕ) (body : Option Part) → WellFormed P → TypedFor P x (body_of P x) → TypedFor P x body
    → Typed P ↔ Typed (replaced_body P x body)
typing_declared = typing_kept

module _ (book packet : List ℕ) (bytes : Bytes book) (granted : Granted book packet) where
  pub packets_exactly : (b : Packet) → (b ∈ packets_given book packet) ↔ Gives (main_of book) packet b
  unfolding given
  packets_exactly =
      let z = granted.sizes in
      let a = granted.accepted in
      words_exact (main_of book) (accepted_formed book z a bytes) (accepted_right book z a bytes) (fields_of book)
      (accepted_fields book z a).1 (accepted_below book z a bytes) packet granted.words

  -- ascending, so no two are equal
  pub packets_ascending : Ascending (packets_given book packet)
  unfolding given
  packets_ascending =
      let z = granted.sizes in
      let a = granted.accepted in
      words_ascending (main_of book) (accepted_formed book z a bytes) (accepted_right book z a bytes) (fields_of book)
      (accepted_fields book z a).1 (accepted_below book z a bytes) packet granted.words

  -- and that determines them
  pub packets_determined : (t : Packets) → Ascending t → ((b : Packet) → (b ∈ t) ↔ Gives (main_of book) packet b)
      → t ≡ packets_given book packet
  unfolding given
  packets_determined =
      let z = granted.sizes in
      let a = granted.accepted in
      words_determined (main_of book) (accepted_formed book z a bytes) (accepted_right book z a bytes) (fields_of book)
      (accepted_fields book z a).1 (accepted_below book z a bytes) packet granted.words

-- document 001's Lemma 5 for one packet: what the two sides pair to is what the sequence gives; and the sides may be exchanged
pub lemma_5 : (wp wq : ℕ) (p q : Part) → right_beside wp wq p q ≡ true → Right p → Right q → (a b : Packet)
    → Paired wp wq p q a b ↔ Gives (Beside wp wq p q) a b
lemma_5 = serializes

pub sides_exchanged : (wp wq : ℕ) (p q : Part) → right_beside wp wq p q ≡ true → Right p → Right q → (a b : Packet)
    → Gives (Beside wp wq p q) a b ↔ Gives (Beside wq wp q p) a b
sides_exchanged = commutes

-- ---- Demand 3: one number N for all schedules

module _ (book packet : List ℕ) (bytes : Bytes book) (admitted : Admitted book packet) where
  -- at least N choices stop after exactly N steps; fewer stop unfinished, with a step ready
  pub one_number : (schedule : List ℕ) (words area : ℕ) → most_packets * fields_of book ≤ words → area_words ≤ area
      → Stops book packet schedule (ran book packet schedule words area)
  one_number schedule words area fit wide =
      let z = admitted.granted.sizes in
      let a = admitted.granted.accepted in
      stops book packet schedule words area admitted fit wide (accepted_right book z a bytes) (accepted_tested book z a bytes)
      (accepted_written book z a bytes)

  -- on demand 2's set: the result is what the evaluator leaves
  pub same_result : (schedule result : List ℕ) (area : ℕ) → most_packets * fields_of book ≤ length result → area_words ≤ area
      → steps_of book packet ≤ length schedule → ran_result book packet schedule result area ≡ evaluated_result book packet result
  same_result schedule result area fit wide =
      let z = admitted.granted.sizes in
      let a = admitted.granted.accepted in
      same_words book packet schedule result area admitted fit wide (accepted_right book z a bytes) (accepted_tested book z a bytes)
      (accepted_written book z a bytes)

  -- at least N choices: N steps, and the result holds exactly the packets of demand 2's meaning
  pub finished_exactly : (schedule result area : List ℕ) → most_packets * fields_of book ≤ length result → area_words ≤ length area
      → steps_of book packet ≤ length schedule
      → FinishedExactly book packet result area (ran book packet schedule (length result) (length area))
      (ran_result book packet schedule result (length area)) (ran_area book packet schedule (length result) area)
  unfolding evaluated_result
  finished_exactly schedule result area fit wide enough =
      let g = admitted.granted in
      let k = fields_of book in
      let exact = packets_exactly book packet bytes g in
      let long : (b : Packet) → b ∈ packets_given book packet → length b ≡ k =
      λ b m. as_long (main_of book) packet b ((exact b).0 m) ∙ g.words in
      let stop = at_finish (one_number schedule (length result) (length area) fit wide) enough in
      let left : ran_result book packet schedule result (length area) ≡ overwritten (values_of k (given book packet)) result =
      same_result schedule result (length area) fit wide enough ∙ rw (evaluated_given book packet (length result) g fit) in
      record {
        packets = packets_given book packet;
        ascending = packets_ascending book packet bytes g;
        exact = exact;
        long = long;
        answer = stop ∙ rw (length-map (given book packet) (take k));
        front = rw left (words_front k (given book packet) result long);
        others = rw left (words_others k (given book packet) result long);
        cleared = finished_clears book packet schedule result area _ stop;
      }

  -- fewer: a step for each choice, a step ready, and the result as it was
  pub running_exactly : (schedule result area : List ℕ) → most_packets * fields_of book ≤ length result → area_words ≤ length area
      → length schedule < steps_of book packet
      → RunningExactly book packet schedule result area (ran book packet schedule (length result) (length area))
      (ran_result book packet schedule result (length area)) (ran_area book packet schedule (length result) area)
  running_exactly schedule result area fit wide few =
      let z = admitted.granted.sizes in
      let a = admitted.granted.accepted in
      let r = runs_on book packet schedule (length result) (length area) admitted fit wide (accepted_right book z a bytes)
      (accepted_tested book z a bytes) (accepted_written book z a bytes) few in
      record {
        answer = r.0;
        more = r.1;
        kept = running_keeps book packet schedule result area _ r.0;
        cleared = running_clears book packet schedule result area _ r.0;
      }

  -- N ≤ 4·n·16^D
  pub bounded : steps_of book packet ≤ 4 * parts (main_of book) * 16 ^ deep (main_of book)
  bounded = steps_bound (main_of book) (start_set packet) admitted.granted.narrow

  -- the room is the most positions that any schedule holds at once
  pub room_enough : (schedule : List ℕ) → live (run (start book packet) schedule) ≤ room (main_of book) (start_set packet)
  unfolding start
  room_enough = live_room (start_spot book) (main_of book) (start_set packet)

  pub room_reached : (schedule : List ℕ) × All (λ b. b < 256) schedule
      × (live (run (start book packet) schedule) ≡ room (main_of book) (start_set packet))
  unfolding start
  room_reached = part-room-reached (start_spot book) (main_of book) (start_set packet) 256 (omega (arith, admitted.positions))

  -- no position of any state holds more than 16 packets
  pub never_too_wide : (schedule : List ℕ) → held (run (start book packet) schedule) ≤ most_packets
  unfolding start
  never_too_wide schedule =
      omega (arith, held_width (start_spot book) (main_of book) (start_set packet) schedule, admitted.granted.narrow)

  -- every position of every state has the fields in T and M of the part standing there, so no step is stuck
  pub never_stuck : (schedule : List ℕ)
      → Has (start_spot book).fields (main_of book) (run (start book packet) schedule) × (stuck_in (start book packet) schedule ≡ [])
  unfolding start
  never_stuck =
      let z = admitted.granted.sizes in
      let a = admitted.granted.accepted in
      part-never-stuck (start_spot book) (main_of book) (accepted_right book z a bytes) (accepted_tested book z a bytes)
      (accepted_written book z a bytes) (start_set packet)

  -- every part that stands or waits somewhere is written in the book from its position's place on: that is the place of its code byte
  pub in_place : (schedule : List ℕ) → Everywhere (InPlace book) (run (start book packet) schedule)
  in_place schedule = book-in-place book packet schedule admitted.granted.sizes admitted.granted.accepted bytes

-- the width is the most packets that a position of any state holds, whatever the book and the packet; with n 256 the choices are bytes
pub width_reached : (book packet : List ℕ) (n : ℕ) → room (main_of book) (start_set packet) ≤ n
    → (schedule : List ℕ) × All (λ b. b < n) schedule
    × (held (run (start book packet) schedule) ≡ width (main_of book) (start_set packet))
unfolding start
width_reached book packet = part-width-reached (start_spot book) (main_of book) (start_set packet)

-- so 10 is exact: past 1 to 9 and 12 it is given if and only if some state that the steps reach has a position with over 16 packets.
-- The choices are numbers of any size: where the room is over 256, bytes need not reach every state.
pub ten_exactly : (book packet : List ℕ) (words : ℕ) (z : Sizes) → verdict book ≡ Ok z → length packet ≡ fields_of book
    → most_packets * fields_of book ≤ words → names_open (main_of book) ≡ false
    → (evaluated book packet words ≡ Err (no_place TooWide))
    ↔ ((schedule : List ℕ) × (most_packets < held (run (start book packet) schedule)))
unfolding start
ten_exactly book packet words z a l b n =
    let w = width_over (start_spot book) (main_of book) (start_set packet) most_packets in
    (λ e. w.0 (too_wide_was book packet words z a l b n e), λ r. evaluated_wide book packet words z a l b n (w.1 r))

-- ---- when a run is turned away: exactly by the first number that applies, in document 01's order, whatever the schedule, and never
-- by 13; what is not turned away is admitted, and its buffers are long enough

module _ (book packet schedule : List ℕ) (words area : ℕ) (bytes : Bytes book) where
  let_through_stops : LetThrough book packet words area → Stops book packet schedule (ran book packet schedule words area)
  let_through_stops l = one_number book packet bytes l.0 schedule words area l.1 l.2

  pub turned_away_exactly : (r : Refusal) → (ran book packet schedule words area ≡ Err r) ↔ TurnedAway book packet words area r
  turned_away_exactly r = (
    turned_away_was book packet schedule words area let_through_stops r,
    turned_away_is book packet words area schedule r,
  )

  pub run_numbered : (r : Refusal) → ran book packet schedule words area ≡ Err r → number_of r ≤ 12
  run_numbered r e = run_numbers book packet words area r ((turned_away_exactly r).0 e)

  pub let_through : ((r : Refusal) → ran book packet schedule words area ≡ Err r → ⊥)
      → Admitted book packet × (most_packets * fields_of book ≤ words) × (area_words ≤ area)
  let_through = let_through_was book packet schedule words area let_through_stops
