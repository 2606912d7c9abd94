-- The whole answer of a run, test by test, in the order of document 01's numbers.
use Rattle.std.specs.Prelude.{Err, Ok, Result}
use Prim.Native.Nat.{ℕ, ◌*◌, ◌≤◌, ◌<◌}
use native.Mathlib.Omega.{arith}
use mathlib.Core.Path.{◌≡◌, refl, sym, ap, ◌∙◌}
use mathlib.Core.Logic.{inl, inr}
use mathlib.Core.List.{List, [], ◌∷◌}
use lib.ListN.{length, replicate}
use Rattle.rules.specs.declared.Reason.{Reason}
use Rattle.rules.specs.declared.Reason.TheVariants.{PacketLength, Positions, BufferLength}
use Rattle.rules.specs.declared.Refusal.{Refusal}
use Rattle.rules.specs.declared.Sizes.{Sizes}
use Rattle.rules.specs.declared.Ran.{Ran}
use Rattle.rules.specs.Packets.{Packets}
use Rattle.rules.specs.Checks.{no_place}
use Rattle.rules.specs.Reading.{fields_of, body_start, sizes_of, verdict}
use Rattle.rules.specs.States.{finish, run, made}
use Rattle.rules.specs.Answers.{area_words, start, stopped, stop_of, ran, overwritten, result_run, ran_result, area_run, ran_area}
use Rattle.rules.specs.Books.{Bytes}
use Rattle.rules.specs.Promises.{Granted, Admitted, RunAnswer}
use Rattle.rules.proofs.AcceptedBooks.{accepted_sizes, accepted_fields}
use Rattle.rules.proofs.Answering.{not_run_keeps, ran_refused, ran_packet, ran_result_lem, ran_area_lem, ran_open, ran_wide, ran_positions}
use Rattle.rules.proofs.Answering.{ran_admitted, run_answer}
use Rattle.evaluator.specs.declared.Weight.{Weight}
use Rattle.evaluator.specs.Passing.{Passable, Passed, Stopped}
use Rattle.steps.specs.Standing.{Runnable, Readable}
use Rattle.machine.specs.Runs.{Playable}
use Rattle.area.specs.Words.{positions}
use Rattle.machine.specs.Answered.{Weighed, words_of}
use Rattle.machine.proofs.Fitting.{start_playable}
use Rattle.machine.proofs.Admitting.{accepted_reads, accepted_stands, accepted_goes}

-- k as an accepted book says it
pub fields_are : (s : List ℕ) (z : Sizes) → verdict s ≡ Ok z → (z.fields ≡ fields_of s) × (z.fields ≤ 8)
unfolding sizes_of
fields_are s z v =
    let e : z.fields ≡ fields_of s = ap (λ (x : Sizes). x.fields) (accepted_sizes s z v) in
    (e, omega (arith, (accepted_fields s z v).1))

module _ (book packet schedule result work : List ℕ) where
  abbrev answer : Result Ran Refusal
  answer = ran book packet schedule (length result) (length work)

  -- a refusal leaves both buffers as they are
  turned_away : (why : Refusal) → answer ≡ Err why → RunAnswer book packet schedule result work (Err why) result work
  turned_away why e =
      let k = not_run_keeps book packet schedule result work why e in
      run_answer (sym e) (sym k.0) (sym k.1)

  pub refused_book : (why : Refusal) → verdict book ≡ Err why → RunAnswer book packet schedule result work (Err why) result work
  refused_book why e = turned_away why (ran_refused book packet schedule (length result) (length work) why e)

  module _ (z : Sizes) (v : verdict book ≡ Ok z) where
    pub refused_packet : (length packet ≡ z.fields → ⊥)
        → RunAnswer book packet schedule result work (Err (no_place PacketLength)) result work
    refused_packet n =
        turned_away _
        (ran_packet book packet schedule (length result) (length work) z v (λ e. n (e ∙ sym (fields_are book z v).0)))

    module _ (long : length packet ≡ z.fields) where
      words : length packet ≡ fields_of book
      words = long ∙ (fields_are book z v).0

      pub passable : Passable book packet
      passable = record { accepted = (z, v); words = words }

      pub refused_result : length result < 16 * z.fields
          → RunAnswer book packet schedule result work (Err (no_place BufferLength)) result work
      refused_result l =
          turned_away _
          (ran_result_lem book packet schedule (length result) (length work) z v words (rw (fields_are book z v).0 at l))

      pub refused_area : length work < area_words
          → RunAnswer book packet schedule result work (Err (no_place BufferLength)) result work
      refused_area a = turned_away _ (ran_area_lem book packet schedule (length result) (length work) z v words a)

      module _ (l : 16 * z.fields ≤ length result) (a : area_words ≤ length work) where
        fits : 16 * fields_of book ≤ length result
        fits = rw (fields_are book z v).0 at l

        pub refused_stopped : (why : Reason) → Stopped book packet why
            → RunAnswer book packet schedule result work (Err (no_place why)) result work
        refused_stopped why (inl h) =
            rw h.0 (turned_away _ (ran_open book packet schedule (length result) (length work) z v words fits a h.1))
        refused_stopped why (inr h) =
            rw h.0
            (turned_away _
            (ran_wide book packet schedule (length result) (length work) z v words fits a h.1.populated h.1.wide))

        pub weighed : (w : Weight) (t : Packets) → Passed book packet w t → Weighed book packet result work w.room
        weighed w t g = record {
          granted = record { sizes = z; accepted = v; words = words; populated = g.populated; narrow = g.narrow };
          room = g.room;
          fits = fits;
          wide = a;
        }

  -- past 10: 11 is left
  module _ (needs : ℕ) (w : Weighed book packet result work needs) where
    granted : Granted book packet
    granted = w.granted

    pub refused_positions : positions < needs
        → RunAnswer book packet schedule result work (Err (no_place Positions)) result work
    refused_positions h =
        turned_away _
        (ran_positions book packet schedule (length result) (length work) w.fits w.wide granted (omega (arith, w.room)))

    pub few_words : length packet ≤ 8
    few_words = omega (arith, granted.words, fields_are book granted.sizes granted.accepted)

    module _ (small : Bytes book) (h : needs ≤ positions) where
      pub runs : Readable book × Runnable book (body_start book 0) × Playable book (start book packet)
      runs =
          let b = accepted_reads book granted.sizes granted.accepted small in
          let st = accepted_stands book granted.sizes granted.accepted small granted.populated in
          (b, st, start_playable book packet b st granted.narrow (omega (arith, w.room)))

      answer_is : answer ≡ Ok (stop_of book packet schedule)
      answer_is =
          let admitted : Admitted book packet = record { granted = granted; positions = omega (arith, w.room) } in
          ran_admitted book packet schedule (length result) (length work) w.fits w.wide admitted
          (accepted_goes book granted.sizes granted.accepted small packet schedule)

      -- the conducted run is the answer
      pub conducted : (r : Ran) (result' work' : List ℕ) → r ≡ stop_of book packet schedule
          → result' ≡ result_run (Ok r) (words_of book packet schedule) result → work' ≡ overwritten (replicate area_words 0) work
          → RunAnswer book packet schedule result work (Ok r) result' work'
      unfolding ran_result ran_area
      conducted r result' work' er eo ea =
          let s : Ok r ≡ answer = ap Ok er ∙ sym answer_is in
          run_answer s (eo ∙ ap (λ (x : Result Ran Refusal). result_run x (words_of book packet schedule) result) s)
          (ea ∙ stopped_area (finish (run (start book packet) schedule))
          ∙ ap (λ (x : Result Ran Refusal). area_run x work) (sym answer_is))
        where
          stopped_area : (fs : List Packets)
              → overwritten (replicate area_words 0) work ≡ area_run
              (Ok (stopped (made (start book packet) schedule) (run (start book packet) schedule) fs)) work
          stopped_area [] = refl
          stopped_area (f ∷ fs) = refl
