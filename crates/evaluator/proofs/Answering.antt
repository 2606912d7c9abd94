-- The whole answer: what each return of evaluate says (document 01, the numbers 1 to 7, then 8, 12, 9, 10).
use Prim.Native.Nat.{ℕ, ◌*◌, ◌≤◌, ◌<◌}
use native.Mathlib.Omega.{arith}
use native.Mathlib.Nat.{suc-mul, mul-le-mul_right}
use mathlib.Core.Path.{◌≡◌, refl, sym, ap, ◌∙◌}
use mathlib.Core.Logic.{inl, inr}
use mathlib.Core.Bool.{Bool, true, false}
use mathlib.Core.List.{List, [], ◌∷◌}
use lib.ListN.{length, length-append, length-take}
use borrow.Author.Tests.{le-leb}
use Rattle.rules.specs.declared.Refusal.{Refusal}
use Rattle.rules.specs.declared.Reason.TheVariants.{PacketLength, BufferLength, TooWide}
use Rattle.std.specs.Prelude.{Option, Some, None, is_none, Ok, Err}
use Rattle.rules.specs.declared.Sizes.{Sizes}
use Rattle.rules.specs.declared.Outcome.{Outcome}
use Rattle.rules.specs.Packets.{Packets, most_packets, values_of}
use Rattle.rules.specs.Parts.{names_open}
use Rattle.rules.specs.Books.{most_depth}
use Rattle.rules.specs.Checks.{no_place}
use Rattle.rules.specs.Reading.{fields_of, body_start, use_at, part_at, main_of, sizes_of, verdict}
use Rattle.rules.specs.Working.{room, width}
use Rattle.rules.specs.Answers.{start_set, given, outcome, evaluated, evaluated_result, overwritten}
use Rattle.rules.specs.Promises.{EvaluateAnswer}
use Rattle.rules.proofs.Answering.{not_given_keeps, evaluated_refused, evaluated_packet, evaluated_buffer}
use Rattle.rules.proofs.Answering.{evaluated_open, evaluated_wide, evaluated_given, evaluate_answer}
use Rattle.rules.proofs.AcceptedBooks.{accepted_sizes, accepted_fields, accepted_parts, accepted_deep}
use Rattle.rows.specs.Arrays.{Emitted}
use Rattle.rules.specs.declared.Reason.{Reason}
use Rattle.evaluator.specs.declared.Body.TheVariants.{Main}
use Rattle.evaluator.specs.Work.{named_in, part_in, Fair, NotWide, Sees}
use Rattle.evaluator.specs.Passing.{Passable, Passed, Stopped}
use Rattle.evaluator.specs.declared.Worked.{Worked}
use Rattle.evaluator.specs.declared.Weight.{Weight}

-- what is answered beside the packets
abbrev pub outcome_of : Weight → Sizes → Outcome
outcome_of w z = record { count = w.count; steps = w.steps; parts = z.parts; deep = z.deep; room = w.room }

-- the words of a set fit into 16 · k
values_few : (k : ℕ) (s : Packets) → length (values_of k s) ≤ length s * k
unfolding values_of
values_few k [] = omega arith
values_few k (x ∷ s) = simp (length-append, length-take, suc-mul) (omega (arith, values_few k s))

fits_in : (k n v : ℕ) {l : ℕ} → v ≤ n * k → n ≤ most_packets → 16 * k ≤ l → v ≤ l
fits_in k n v h few room = omega (arith, mul-le-mul_right k few)

-- a refusal leaves the result buffer as it was
not_given : (s p b : List ℕ) (why : Refusal) → evaluated s p (length b) ≡ Err why → EvaluateAnswer s p b (Err why) b
not_given s p b why e = evaluate_answer (sym e) (sym (not_given_keeps s p b why e))

-- the fields of an accepted book
module _ (s : List ℕ) (z : Sizes) (v : verdict s ≡ Ok z) where
  fields_are : z.fields ≡ fields_of s
  unfolding sizes_of
  fields_are = ap (λ (y : Sizes). y.fields) (accepted_sizes s z v)

  pub fields_some : (1 ≤ z.fields) × (z.fields ≤ 8)
  fields_some = rw fields_are (accepted_fields s z v)

module _ (s p b : List ℕ) where
  pub refused : (why : Refusal) → Err why ≡ verdict s → EvaluateAnswer s p b (Err why) b
  refused why e = not_given s p b why (evaluated_refused s p (length b) why (sym e))

  module _ (z : Sizes) (says : verdict s ≡ Ok z) where
    pub wrong_packet : (length p ≡ z.fields → ⊥) → EvaluateAnswer s p b (Err (no_place PacketLength)) b
    wrong_packet h = not_given s p b _ (evaluated_packet s p (length b) z says (λ q. h (q ∙ sym (fields_are s z says))))

    module _ (long : length p ≡ z.fields) where
      words : length p ≡ fields_of s
      words = long ∙ fields_are s z says

      pub wrong_buffer : length b < 16 * z.fields → EvaluateAnswer s p b (Err (no_place BufferLength)) b
      wrong_buffer h = not_given s p b _ (evaluated_buffer s p (length b) z says words (rw (fields_are s z says) at h))

      module _ (space : 16 * z.fields ≤ length b) where
        enough : most_packets * fields_of s ≤ length b
        enough = rw (fields_are s z says) at space

        pub stopped : (why : Reason) → Stopped s p why → EvaluateAnswer s p b (Err (no_place why)) b
        stopped why (inl h) = rw h.0 (not_given s p b _ (evaluated_open s p (length b) z says words enough h.1))
        stopped why (inr h) = rw h.0 (not_given s p b _ (evaluated_wide s p (length b) z says words enough h.1.populated h.1.wide))

        module _ (w : Weight) (t : Packets) (few : length t ≤ most_packets) (g : Passed s p w t) where
          within : evaluated s p (length b) ≡ Ok (outcome s p)
          within =
              evaluated_given s p (length b)
              (record { sizes = z; accepted = says; words = words; populated = g.populated; narrow = g.narrow }) enough

          pub given_is : (f : Bool) (o : List ℕ) → Emitted f (values_of z.fields t) b o → EvaluateAnswer s p b (Ok (outcome_of w z)) o
          unfolding evaluated_result overwritten given outcome sizes_of
          given_is f o m =
              let y = accepted_sizes s z says in
              let l = values_few z.fields t in
              let e : f ≡ true = m.fits ∙ le-leb _ _ (fits_in z.fields _ _ l few space) in
              evaluate_answer (rw (within, g.count, g.same, g.steps, g.room, y)) (m.words ∙ rw (within, e, fields_are s z says, g.same))

-- ---- a packet through the main policy

pub passable : (s p : List ℕ) (z : Sizes) → verdict s ≡ Ok z → length p ≡ z.fields → Passable s p
passable s p z says long = record { accepted = (z, says); words = long ∙ fields_are s z says }

pub few_fields : (s p : List ℕ) → Passable s p → length p ≤ 8
few_fields s p h = omega (arith, h.words, (accepted_fields s _ h.accepted.1).1)

-- the main policy, where its body starts
main_is : (s : List ℕ) (start : ℕ) → start ≡ body_start s 0 → part_in s Main most_depth start ≡ main_of s
unfolding main_of named_in
main_is s start e = rw e

module _ (s : List ℕ) (start : ℕ) (e : start ≡ body_start s 0) where
  -- what the walk for number 9 says of it
  pub open_is : (n : ℕ) (r : Option ℕ) → Sees (part_at s (use_at s) most_depth start) n r → names_open (main_of s) ≡ is_none r
  unfolding main_of
  open_is n None k = rw (← e) k
  open_is n (Some i) k = rw (← e) k.0

  -- what evaluation of the main policy asks of an accepted book
  pub main_fair : (z : Sizes) → verdict s ≡ Ok z → names_open (main_of s) ≡ false → Fair (part_in s Main most_depth start)
  main_fair z v closed =
      rw (main_is s start e) (record { few = accepted_parts s z v; shallow = accepted_deep s z v; closed = closed })

  module _ (p : List ℕ) {u : Packets} (k : u ≡ start_set p) (closed : names_open (main_of s) ≡ false) where
    pub main_wide : most_packets < width (part_in s Main most_depth start) u → Stopped s p TooWide
    main_wide h = inr (refl, record { populated = closed; wide = rw (main_is s start e, k) at h })

    pub main_through : {t : Packets} {n c : ℕ} {w : Worked} → NotWide (part_in s Main most_depth start) u n t w → c ≡ length t
        → Passed s p (record { count = c; steps = w.steps; room = w.room }) t
    main_through d l =
        let g = rw (main_is s start e, k) at d in
        record { populated = closed; narrow = g.narrow; same = g.same; count = l; steps = g.steps; room = g.room }
