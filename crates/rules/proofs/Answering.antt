-- When each answer of the evaluator and of a run is given, and that nothing lent changes where a call is turned away.
use Rattle.std.specs.Prelude.{Err, Ok, Result}
use Prim.Native.Nat.{ℕ, ◌*◌, ◌≤◌, ◌<◌}
use native.Mathlib.Decide.{dec_le}
use native.Mathlib.Omega.{arith}
use mathlib.Core.Path.{◌≡◌, refl, sym, ap, ◌∙◌}
use mathlib.Core.Bool.{Bool, true, false, cond}
use mathlib.Core.List.{List, [], ◌∷◌, ◌++◌}
use mathlib.Core.Option.{Option, none, some}
use lib.Dec.{leb}
use lib.ListN.{length}
use borrow.Author.Tests.{leb-true, le-leb, lt-leb, eqb-true, eq-eqb, ne_eqb, not-true}
use Rattle.rules.specs.declared.Reason.TheVariants.{PacketLength, Unpopulated, TooWide, Positions, BufferLength, Stuck}
use Rattle.rules.specs.declared.Refusal.{Refusal}
use Rattle.rules.specs.declared.Sizes.{Sizes}
use Rattle.rules.specs.declared.Outcome.{Outcome}
use Rattle.rules.specs.declared.Ran.{Ran}
use Rattle.rules.specs.declared.Finish.{Finish}
use Rattle.rules.specs.declared.Ran.TheVariants.{Finished}
use Rattle.rules.specs.Packets.{most_packets}
use Rattle.rules.specs.Parts.{names_open}
use Rattle.rules.specs.Checks.{no_place, in_book, Check, check, check_at, first_failed}
use Rattle.rules.specs.Reading.{fields_of, main_of, no_fault, first_of, book_checks, verdict}
use Rattle.rules.specs.Working.{room, width}
use Rattle.rules.specs.States.{stuck_in}
use Rattle.rules.specs.Answers.{verdict_says, evaluated_says, ran_says, most_positions, area_words, start_set, outcome, packet_checks}
use Rattle.rules.specs.Answers.{result_check, evaluate_checks, evaluated_by, evaluated, evaluated_result, start, run_checks, stop_of}
use Rattle.rules.specs.Answers.{ran_by, ran, ran_result, ran_area}
use Rattle.rules.specs.Promises.{Granted, Admitted, AcceptAnswer, EvaluateAnswer, RunAnswer}
use Rattle.rules.proofs.CheckLaws.{AllHold, end, ◌&◌, none_failed, all_held, after_held, failed_before}
use Rattle.rules.proofs.CheckLaws.{front_held, rest_held}
use Rattle.rules.proofs.Acceptance.{accepted_checks, refused_checks, checks_accepted}

-- ---- the evaluator's answers, one law for each way that it returns

module _ (book packet : List ℕ) (words : ℕ) where
  pub evaluated_refused : (r : Refusal) → verdict book ≡ Err r → evaluated book packet words ≡ Err r
  unfolding evaluated evaluate_checks
  evaluated_refused r e = rw (failed_before (book_checks book) _ r (refused_checks book r e))

  module _ (z : Sizes) (a : verdict book ≡ Ok z) where
    -- past the book's own checks
    evaluated_past : evaluated book packet words
        ≡ evaluated_by (first_failed (packet_checks book packet (result_check book words ∷ []))) (outcome book packet)
    unfolding evaluated evaluate_checks
    evaluated_past = rw (after_held (book_checks book) (packet_checks book packet _) (accepted_checks book z a))

    pub evaluated_packet : (length packet ≡ fields_of book → ⊥) → evaluated book packet words ≡ Err (no_place PacketLength)
    unfolding packet_checks first_failed
    evaluated_packet h = evaluated_past ∙ rw (ne_eqb (length packet) (fields_of book) h)

    module _ (l : length packet ≡ fields_of book) where
      pub evaluated_buffer : words < most_packets * fields_of book → evaluated book packet words ≡ Err (no_place BufferLength)
      unfolding packet_checks first_failed
      evaluated_buffer h =
          evaluated_past ∙ rw (eq-eqb (length packet) (fields_of book) l, lt-leb (most_packets * fields_of book) words h)

      module _ (b : most_packets * fields_of book ≤ words) where
        pub evaluated_open : names_open (main_of book) ≡ true → evaluated book packet words ≡ Err (no_place Unpopulated)
        unfolding packet_checks first_failed
        evaluated_open h =
            evaluated_past ∙ rw (eq-eqb (length packet) (fields_of book) l, le-leb (most_packets * fields_of book) words b, h)

        module _ (n : names_open (main_of book) ≡ false) where
          pub evaluated_wide : most_packets < width (main_of book) (start_set packet)
              → evaluated book packet words ≡ Err (no_place TooWide)
          unfolding packet_checks first_failed
          evaluated_wide h =
              evaluated_past
              ∙ rw (
                eq-eqb (length packet) (fields_of book) l,
                le-leb (most_packets * fields_of book) words b,
                n,
                lt-leb (width (main_of book) (start_set packet)) most_packets h,
              )

  pub evaluated_given : Granted book packet → most_packets * fields_of book ≤ words
      → evaluated book packet words ≡ Ok (outcome book packet)
  unfolding packet_checks first_failed
  evaluated_given g b =
      evaluated_past g.sizes g.accepted
      ∙ rw (
        eq-eqb (length packet) (fields_of book) g.words,
        le-leb (most_packets * fields_of book) words b,
        g.populated,
        le-leb (width (main_of book) (start_set packet)) most_packets g.narrow,
      )

-- ---- and back: what was too wide has a width over 16, and what was given was granted

wide_was : (book packet : List ℕ) (words : ℕ) → Dec (width (main_of book) (start_set packet) ≤ most_packets)
    → (width (main_of book) (start_set packet) ≤ most_packets → evaluated book packet words ≡ Ok (outcome book packet))
    → evaluated book packet words ≡ Err (no_place TooWide) → most_packets < width (main_of book) (start_set packet)
wide_was book packet words (yes h) g e =
    let d : Ok (outcome book packet) ≡ Err (no_place TooWide) = sym (g h) ∙ e in
    let z : ◌≡◌ {A = ℕ} 0 1 = cc in
    absurd (omega arith)
wide_was book packet words (no h) g e = omega (arith, h)

pub too_wide_was : (book packet : List ℕ) (words : ℕ) (z : Sizes) → verdict book ≡ Ok z → length packet ≡ fields_of book
    → most_packets * fields_of book ≤ words → names_open (main_of book) ≡ false → evaluated book packet words ≡ Err (no_place TooWide)
    → most_packets < width (main_of book) (start_set packet)
too_wide_was book packet words z a l b n =
    wide_was book packet words (dec_le _ _)
    (λ h. evaluated_given book packet words (record { sizes = z; accepted = a; words = l; populated = n; narrow = h }) b)

given_none : (o : Option Refusal) (u v : Outcome) → evaluated_by o u ≡ Ok v → (o ≡ none) × (v ≡ u)
given_none none u v e = (refl, (let q : u ≡ v = cc in sym q))
given_none (some r) u v e = let n : ◌≡◌ {A = ℕ} 0 1 = cc in absurd (omega arith)

module _ (book packet : List ℕ) (words : ℕ) where
  packet_held : first_failed (book_checks book) ≡ none → AllHold (packet_checks book packet (result_check book words ∷ []))
      → Granted book packet × (most_packets * fields_of book ≤ words)
  unfolding packet_checks
  packet_held accepted (long & fits & populated & narrow & end) =
      let a = checks_accepted book accepted in (
        record {
          sizes = a.0;
          accepted = a.1;
          words = eqb-true (length packet) (fields_of book) long;
          populated = not-true (names_open (main_of book)) populated;
          narrow = leb-true (width (main_of book) (start_set packet)) most_packets narrow;
        },
        leb-true (most_packets * fields_of book) words fits,
      )

  pub given_was : (o : Outcome) → evaluated book packet words ≡ Ok o
      → Granted book packet × (most_packets * fields_of book ≤ words) × (o ≡ outcome book packet)
  unfolding evaluated evaluate_checks
  given_was o q =
      let k = given_none _ (outcome book packet) o q in
      let h = all_held _ k.0 in
      let g = packet_held (none_failed (book_checks book) (front_held (book_checks book) _ h)) (rest_held (book_checks book) _ h) in
      (g.0, g.1, k.1)

-- ---- a run's answers, one law for each way that it returns, in document 01's order

-- 12 is 12, whichever buffer is too short
either_buffer : (t : Bool) (r : Refusal) (a : Ran) → ran_by (cond t (some r) (some r)) a ≡ Err r
either_buffer true r a = refl
either_buffer false r a = refl

-- the checks that a run adds to the book's own
abbrev further_checks : List ℕ → List ℕ → List ℕ → ℕ → ℕ → List Check
further_checks book packet schedule words area =
    packet_checks book packet (result_check book words ∷ check (leb area_words area) BufferLength ∷ [])
    ++ (check (leb (room (main_of book) (start_set packet)) most_positions) Positions
    ∷ check_at (no_fault (stuck_in (start book packet) schedule)) Stuck (first_of (stuck_in (start book packet) schedule))
    ∷ [])

module _ (book packet schedule : List ℕ) (words area : ℕ) where
  pub ran_refused : (r : Refusal) → verdict book ≡ Err r → ran book packet schedule words area ≡ Err r
  unfolding ran run_checks
  ran_refused r e = rw (failed_before (book_checks book) _ r (refused_checks book r e))

  module _ (z : Sizes) (a : verdict book ≡ Ok z) where
    ran_past : ran book packet schedule words area
        ≡ ran_by (first_failed (further_checks book packet schedule words area)) (stop_of book packet schedule)
    unfolding ran run_checks
    ran_past = rw (after_held (book_checks book) _ (accepted_checks book z a))

    pub ran_packet : (length packet ≡ fields_of book → ⊥) → ran book packet schedule words area ≡ Err (no_place PacketLength)
    unfolding packet_checks first_failed
    ran_packet h = ran_past ∙ rw (ne_eqb (length packet) (fields_of book) h)

    module _ (l : length packet ≡ fields_of book) where
      pub ran_result_lem : words < most_packets * fields_of book → ran book packet schedule words area ≡ Err (no_place BufferLength)
      unfolding packet_checks first_failed
      ran_result_lem h = ran_past ∙ rw (eq-eqb (length packet) (fields_of book) l, lt-leb (most_packets * fields_of book) words h)

      pub ran_area_lem : area < area_words → ran book packet schedule words area ≡ Err (no_place BufferLength)
      unfolding packet_checks first_failed
      ran_area_lem h =
          ran_past
          ∙ rw (eq-eqb (length packet) (fields_of book) l, lt-leb area_words area h)
          (either_buffer (leb (most_packets * fields_of book) words) (no_place BufferLength) _)

      module _ (b : most_packets * fields_of book ≤ words) (w : area_words ≤ area) where
        pub ran_open : names_open (main_of book) ≡ true → ran book packet schedule words area ≡ Err (no_place Unpopulated)
        unfolding packet_checks first_failed
        ran_open h =
            ran_past
            ∙ rw (
              eq-eqb (length packet) (fields_of book) l,
              le-leb (most_packets * fields_of book) words b,
              le-leb area_words area w,
              h,
            )

        -- whatever the room
        pub ran_wide : names_open (main_of book) ≡ false → most_packets < width (main_of book) (start_set packet)
            → ran book packet schedule words area ≡ Err (no_place TooWide)
        unfolding packet_checks first_failed
        ran_wide n h =
            ran_past
            ∙ rw (
              eq-eqb (length packet) (fields_of book) l,
              le-leb (most_packets * fields_of book) words b,
              le-leb area_words area w,
              n,
              lt-leb (width (main_of book) (start_set packet)) most_packets h,
            )

  module _ (b : most_packets * fields_of book ≤ words) (w : area_words ≤ area) where
    pub ran_positions : Granted book packet → most_positions < room (main_of book) (start_set packet)
        → ran book packet schedule words area ≡ Err (no_place Positions)
    unfolding packet_checks first_failed
    ran_positions g h =
        ran_past g.sizes g.accepted
        ∙ rw (
          eq-eqb (length packet) (fields_of book) g.words,
          le-leb (most_packets * fields_of book) words b,
          le-leb area_words area w,
          g.populated,
          le-leb (width (main_of book) (start_set packet)) most_packets g.narrow,
          lt-leb (room (main_of book) (start_set packet)) most_positions h,
        )

    -- past all but 13
    ran_through : Admitted book packet → ran book packet schedule words area
        ≡ ran_by (cond (no_fault (stuck_in (start book packet) schedule)) none
        (some (in_book Stuck (first_of (stuck_in (start book packet) schedule))))) (stop_of book packet schedule)
    unfolding packet_checks first_failed
    ran_through a =
        let g = a.granted in
        ran_past g.sizes g.accepted
        ∙ rw (
          eq-eqb (length packet) (fields_of book) g.words,
          le-leb (most_packets * fields_of book) words b,
          le-leb area_words area w,
          g.populated,
          le-leb (width (main_of book) (start_set packet)) most_packets g.narrow,
          le-leb (room (main_of book) (start_set packet)) most_positions a.positions,
        )

    -- a run that is admitted and not stuck stops as its schedule says
    pub ran_admitted : Admitted book packet → stuck_in (start book packet) schedule ≡ []
        → ran book packet schedule words area ≡ Ok (stop_of book packet schedule)
    ran_admitted a free = ran_through a ∙ rw free

    -- 13 is the first stuck step's place; the typing shuts it out (`never_stuck`)
    pub ran_stuck : Admitted book packet → (at : ℕ) (l : List ℕ) → stuck_in (start book packet) schedule ≡ at ∷ l
        → ran book packet schedule words area ≡ Err (in_book Stuck at)
    ran_stuck a at l e = ran_through a ∙ rw e

-- ---- and back: a run that finished was admitted

finished_none : (o : Option Refusal) (a : Ran) (f : Finish) → ran_by o a ≡ Ok (Finished f) → (o ≡ none) × (a ≡ Finished f)
finished_none none a f e = (refl, cc)
finished_none (some r) a f e = let n : ◌≡◌ {A = ℕ} 0 1 = cc in absurd (omega arith)

module _ (book packet schedule : List ℕ) (words area : ℕ) where
  run_held : first_failed (book_checks book) ≡ none → AllHold (further_checks book packet schedule words area) → Admitted book packet
  unfolding packet_checks
  run_held accepted (long & fits & wide & populated & narrow & few & free & end) =
      let a = checks_accepted book accepted in
      record {
        granted = record {
          sizes = a.0;
          accepted = a.1;
          words = eqb-true (length packet) (fields_of book) long;
          populated = not-true (names_open (main_of book)) populated;
          narrow = leb-true (width (main_of book) (start_set packet)) most_packets narrow;
        };
        positions = leb-true (room (main_of book) (start_set packet)) most_positions few;
      }

  pub finished_was : (f : Finish) → ran book packet schedule words area ≡ Ok (Finished f)
      → Admitted book packet × (stop_of book packet schedule ≡ Finished f)
  unfolding ran run_checks
  finished_was f q =
      let k = finished_none _ (stop_of book packet schedule) f q in
      let h = all_held _ k.0 in
      (run_held (none_failed (book_checks book) (front_held (book_checks book) _ h)) (rest_held (book_checks book) _ h), k.1)

-- ---- "No refusal alters the result buffer or the working area"

pub not_given_keeps : (book packet result : List ℕ) (r : Refusal) → evaluated book packet (length result) ≡ Err r
    → evaluated_result book packet result ≡ result
unfolding evaluated_result
not_given_keeps book packet result r e = rw e

pub not_run_keeps : (book packet schedule result area : List ℕ) (r : Refusal)
    → ran book packet schedule (length result) (length area) ≡ Err r
    → (ran_result book packet schedule result (length area) ≡ result) × (ran_area book packet schedule (length result) area ≡ area)
unfolding ran_result ran_area
not_run_keeps book packet schedule result area r e = (rw e, rw e)

-- ---- the promises of the public calls, from the answer itself

pub accept_answer : {book : List ℕ} {r : Result Sizes Refusal} → r ≡ verdict book → AcceptAnswer book r
accept_answer e = record { is = e; says = ap verdict_says e }

pub evaluate_answer : {book packet result result' : List ℕ} {r : Result Outcome Refusal} → r ≡ evaluated book packet (length result)
    → result' ≡ evaluated_result book packet result → EvaluateAnswer book packet result r result'
evaluate_answer e o = record { is = e; says = ap evaluated_says e; out = o }

pub run_answer : {book packet schedule result area result' area' : List ℕ} {r : Result Ran Refusal}
    → r ≡ ran book packet schedule (length result) (length area) → result' ≡ ran_result book packet schedule result (length area)
    → area' ≡ ran_area book packet schedule (length result) area → RunAnswer book packet schedule result area r result' area'
run_answer e o w = record { is = e; says = ap ran_says e; out = o; work = w }
