-- A finished run: its packets stand in the first words of the result, sixteen at most, and the lines made of those words are theirs.
-- So what is printed of a run follows from the answer and the result that the machine leaves.
use Rattle.std.specs.Prelude.{Err, Ok, Result}
use Prim.Native.Nat.{ℕ, ◌*◌, ◌≤◌}
use native.Mathlib.Omega.{arith}
use native.Mathlib.Nat.{le_refl}
use mathlib.Core.Path.{◌≡◌, refl, sym, ap, ◌∙◌}
use mathlib.Core.Logic.{inl, inr}
use mathlib.Core.List.{List, [], ◌∷◌, ◌++◌, append_assoc}
use lib.ListN.{length, take, drop, length-append}
use lib.Seq.{take_at, drop_at}
use borrow.Author.Tests.{le-leb}
use Rattle.rules.specs.declared.Refusal.{Refusal}
use Rattle.rules.specs.declared.Finish.{Finish}
use Rattle.rules.specs.declared.Progress.{Progress}
use Rattle.rules.specs.declared.Ran.{Ran}
use Rattle.rules.specs.declared.Ran.TheVariants.{Finished, Running}
use Rattle.rules.specs.Packets.{Packet, Packets, most_packets, ◌∈◌, values_of}
use Rattle.rules.specs.declared.Sizes.{Sizes}
use Rattle.rules.specs.Reading.{fields_of, main_of, sizes_of, verdict}
use Rattle.rules.proofs.AcceptedBooks.{accepted_sizes, accepted_fields}
use Rattle.rules.specs.States.{finish, run, made}
use Rattle.rules.specs.Answers.{area_words, start_set, start_spot, given, start, packet_checks, run_checks, stop_of}
use Rattle.rules.specs.Answers.{ran, ran_result, overwritten, final_of}
use Rattle.rules.specs.Books.{Bytes}
use Rattle.rules.specs.Promises.{Admitted}
use Rattle.rules.specs.Lists.{All, none, also}
use Rattle.rules.proofs.Sets.{map_in}
use Rattle.rules.proofs.Padding.{as_long}
use Rattle.rules.proofs.Bounds.{given as out-few}
use Rattle.rules.proofs.Schedules.{Ending, enough, short, ending}
use Rattle.rules.proofs.Answering.{finished_was}
use Rattle.rules.proofs.Demands.{packets_exactly}
use Rattle.printer.specs.Printing.{packet_lines, refused_line, ran_lines}
use Rattle.printer.specs.Building.{lines_of, running_line, finished_lines, ran_text}

all_members : {P : Packet → Type 0} (s : Packets) → ((x : Packet) → x ∈ s → P x) → All P s
all_members [] h = none
all_members (x ∷ s) h = also (h x (inl refl)) (all_members s (λ y m. h y (inr m)))

-- ---- packets of k values, one after the other

-- every packet has its k values
abbrev Rows : ℕ → Packets → Type 0
Rows k s = All (λ x. length (take k x) ≡ k) s

values_length : {k : ℕ} {s : Packets} → Rows k s → length (values_of k s) ≡ length s * k
unfolding values_of
values_length none = omega arith
values_length {k} (also {x} {xs} e h) = length-append (take k x) (values_of k xs) ∙ omega (arith, e, values_length h)

lines_values : {k : ℕ} {s : Packets} (rest : List ℕ) → Rows k s → lines_of k (length s) (values_of k s ++ rest) ≡ packet_lines k s
unfolding values_of packet_lines lines_of
lines_values rest none = refl
lines_values {k} rest (also {x} {xs} e h) =
    rw (append_assoc, take_at (take k x) (values_of k xs ++ rest) k e, drop_at (take k x) (values_of k xs ++ rest) k e, lines_values rest h)

-- ---- a run that finished was admitted, and ended with the packets that the policy gives

module _ (book packet schedule result : List ℕ) (area : ℕ) (f : Finish)
    (ended : ran book packet schedule (length result) area ≡ Ok (Finished f)) where
  was : Admitted book packet × (stop_of book packet schedule ≡ Finished f)
  was = finished_was book packet schedule (length result) area f ended

  by_ending : Ending (start_spot book) (main_of book) (start_set packet) schedule → stop_of book packet schedule ≡ Finished f
      → (finish (run (start book packet) schedule) ≡ given book packet ∷ []) × (f.count ≡ length (given book packet))
  unfolding start given finish
  by_ending (enough h e n) q =
      let q' = rw e at q in
      let g : f ≡ record { steps = made (start book packet) schedule; count = length (given book packet) } = cc in
      (rw e, ap (λ (x : Finish). x.count) g)
  by_ending (short h e r n) q = let q' = rw e at q in let z : ◌≡◌ {A = ℕ} 0 1 = cc in absurd (omega arith)

  ended_with : (finish (run (start book packet) schedule) ≡ given book packet ∷ []) × (f.count ≡ length (given book packet))
  ended_with = by_ending (ending (start_spot book) (main_of book) (start_set packet) schedule) was.1

  finished_few : f.count ≤ most_packets
  unfolding given
  finished_few = omega (arith, ended_with.1, out-few (main_of book) (start_set packet), was.0.granted.narrow)

  -- every packet that the policy gives has its k values
  module _ (bytes : Bytes book) where
    rows : Rows (fields_of book) (given book packet)
    rows =
        let g = was.0.granted in
        all_members (given book packet)
        (λ x m.
        let there = map_in (take (fields_of book)) (take (fields_of book) x) x (given book packet) m refl in
        as_long (main_of book) packet (take (fields_of book) x) ((packets_exactly book packet bytes g (take (fields_of book) x)).0 there)
        ∙ g.words)

    words : ran_result book packet schedule result area
        ≡ values_of (fields_of book) (given book packet) ++ drop (length (values_of (fields_of book) (given book packet))) result
    unfolding ran_result overwritten
    words = rw (ended, ended_with.0)

    finished_words : f.count * fields_of book ≤ length (ran_result book packet schedule result area)
    finished_words = rw words (rw length-append (omega (arith, ap (λ (n : ℕ). n * fields_of book) ended_with.1, values_length rows)))

    same_lines : lines_of (fields_of book) f.count (ran_result book packet schedule result area)
        ≡ packet_lines (fields_of book) (final_of (finish (run (start book packet) schedule)))
    same_lines =
        rw (words, ended_with.1, ended_with.0) (lines_values (drop (length (values_of (fields_of book) (given book packet))) result) rows)

    finished_lines_lem : ran_lines (fields_of book) (final_of (finish (run (start book packet) schedule))) (Ok (Finished f))
        ≡ finished_lines (fields_of book) f (ran_result book packet schedule result area)
    unfolding ran_lines finished_lines
    finished_lines_lem = rw same_lines

-- ---- what is printed of a run, from the machine's answer on buffers that are long enough

-- the lengths decide only whether they are
ran_alike : (book packet schedule : List ℕ) (words more : ℕ) → most_packets * fields_of book ≤ words → most_packets * fields_of book ≤ more
    → ran book packet schedule words area_words ≡ ran book packet schedule more area_words
unfolding ran run_checks packet_checks
ran_alike book packet schedule words more h k =
    rw (le-leb (most_packets * fields_of book) words h, le-leb (most_packets * fields_of book) more k)

-- an accepted book, and a buffer for as many packets as there can be
module _ (book packet schedule : List ℕ) (words area : ℕ) (a : Result Ran Refusal) (z : Sizes) (yes : verdict book ≡ Ok z)
    (long : words ≡ 128) (wide : area ≡ area_words) (answer : a ≡ ran book packet schedule words area) where
  abbrev k : ℕ
  k = z.fields

  fields : k ≡ fields_of book
  unfolding sizes_of
  fields = ap (λ (y : Sizes). y.fields) (accepted_sizes book z yes)

  bounds : (1 ≤ fields_of book) × (fields_of book ≤ 8)
  bounds = accepted_fields book z yes

  fits : most_packets * fields_of book ≤ words
  fits = omega (arith, bounds.1)

  text_ran : ran_text book packet schedule ≡ ran_lines (fields_of book) (final_of (finish (run (start book packet) schedule))) a
  unfolding ran_text
  text_ran = rw (ran_alike book packet schedule (most_packets * fields_of book) words (le_refl _) fits, answer, wide)

  pub text_refused : (r : Refusal) → a ≡ Err r → ran_text book packet schedule ≡ refused_line r
  unfolding ran_lines
  text_refused r e = text_ran ∙ rw e

  pub text_running : (p : Progress) → a ≡ Ok (Running p) → ran_text book packet schedule ≡ running_line p
  unfolding ran_lines running_line
  text_running p e = text_ran ∙ rw e

  -- a result of so many words, before and after the run
  module _ (f : Finish) (ends : a ≡ Ok (Finished f)) (bytes : Bytes book) (result after : List ℕ) (size : length result ≡ words)
      (left : after ≡ ran_result book packet schedule result area) where
    ended : ran book packet schedule (length result) area ≡ Ok (Finished f)
    ended = rw size (sym answer ∙ ends)

    pub finished_asks : (k ≤ 8) × (f.count ≤ 16) × (f.count * k ≤ length after)
    finished_asks = (
      rw fields bounds.1,
      finished_few book packet schedule result area f ended,
      rw (fields, left) (finished_words book packet schedule result area f ended bytes),
    )

    pub text_finished : ran_text book packet schedule ≡ finished_lines k f after
    text_finished =
        text_ran ∙ ap (ran_lines (fields_of book) (final_of (finish (run (start book packet) schedule)))) ends
        ∙ finished_lines_lem book packet schedule result area f ended bytes
        ∙ rw (fields, left)
