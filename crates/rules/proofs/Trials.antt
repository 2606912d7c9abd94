-- The trials of document 01 that are marked *, proved together as one statement about a list: the packets, N, n, D and the room,
-- the refusals with their places, and what a run of each finishes or stops with.
use Prim.Native.Nat.{ℕ}
use mathlib.Core.Path.{◌≡◌, refl}
use mathlib.Core.List.{List, [], ◌∷◌, ◌++◌, map}
use lib.ListN.{length, replicate}
use Rattle.rules.specs.Masks.{has, apart, within, less}
use Rattle.rules.specs.Packets.{padded, passes, put, mix, order_of, insert, union, keep, member, pairs_into, values_of}
use Rattle.rules.specs.Parts.{write, parts, deep, names_open}
use Rattle.rules.specs.Typing.{tested, written, right_masks, fit_masks, wrongs}
use Rattle.rules.specs.Books.{entries, bytes_of, masks_fit}
use Rattle.rules.specs.Checks.{first_failed}
use Rattle.rules.specs.Reading.{form_checks, book_checks, byte_if, stands, operands_wrong, read_operands, read_part, read_body, body_start}
use Rattle.rules.specs.Reading.{read_entry, read_entries, masks_right, after, built, part_at, body_at, use_at, main_of}
use Rattle.rules.specs.Reading.{tables_from, policy_of, wrong_body, misfit, wrongs_in, misfits_in, typing_faults}
use Rattle.rules.specs.Reading.{sizes_of, verdict}
use Rattle.rules.specs.Working.{each, out, steps, room, own, widest, width}
use Rattle.rules.specs.States.{join, place, enter, finish, leave, next, live, move, run, counted, made, used}
use Rattle.rules.specs.States.{lacking, stuck_steps, stuck_in}
use Rattle.rules.specs.Answers.{Says, refusal, packets, finished, running, refusal_says, evaluated_says, ran_says}
use Rattle.rules.specs.Answers.{given, outcome, packet_checks, evaluate_checks, evaluated, overwritten, evaluated_result, start}
use Rattle.rules.specs.Answers.{run_checks, ran, area_words}

-- "k = 2, ... main masks R empty and W all fields", no tables: the book with this main body
abbrev pub book_of : List ℕ → List ℕ
book_of body = 2 ∷ 0 ∷ 0 ∷ length body ∷ 0 ∷ 3 ∷ body

-- a body, a packet, a schedule; what the evaluator says, the words of the packets that it gives, and what the run says
pub record Trial : Type 0 where
  pub body : List ℕ
  pub packet : List ℕ
  pub schedule : List ℕ
  pub says : Says
  pub words : List ℕ
  pub runs : Says

abbrev pub usual : List ℕ
usual = 5 ∷ 9 ∷ []

abbrev pub other : List ℕ
other = 6 ∷ 9 ∷ []

-- n bytes that always pick the first ready position
abbrev pub first : ℕ → List ℕ
first n = replicate n 0

unfoldable pub trial : List ℕ → List ℕ → List ℕ → Says → List ℕ → Says → Trial
trial b p s v w r = record { body = b; packet = p; schedule = s; says = v; words = w; runs = r }

-- "set f to v" and "test f = v", for values below 256
abbrev pub set_to : ℕ → ℕ → List ℕ
set_to f v = 3 ∷ f ∷ 0 ∷ v ∷ []

abbrev pub test : ℕ → ℕ → List ℕ
test f v = 2 ∷ f ∷ 0 ∷ v ∷ []

-- ((0 to 0 ; 1 to 0) + (0 to 1 ; 1 to 1)) ; (id beside id, masks 01 and 02)
abbrev pub trap : List ℕ
trap = 6 ∷ 5 ∷ 6 ∷ (set_to 0 0 ++ (set_to 1 0 ++ (6 ∷ (set_to 0 1 ++ (set_to 1 1 ++ (7 ∷ 1 ∷ 2 ∷ 0 ∷ 0 ∷ []))))))

unfoldable pub trials : List Trial
trials =
    trial (0 ∷ []) usual [] (packets 1 0 1 0 1) (5 ∷ 9 ∷ []) (finished 0 1)
    ∷ trial (1 ∷ []) usual (first 1) (packets 0 1 1 0 1) [] (finished 1 0)
    ∷ trial (test 0 5) usual (first 1) (packets 1 1 1 0 1) (5 ∷ 9 ∷ []) (finished 1 1)
    ∷ trial (test 0 5) other (first 1) (packets 0 1 1 0 1) [] (finished 1 0)
    ∷ trial (4 ∷ test 0 5) usual (first 3) (packets 0 3 2 0 2) [] (finished 3 0)
    ∷ trial (4 ∷ test 0 5) other (first 3) (packets 1 3 2 0 2) (6 ∷ 9 ∷ []) (finished 3 1)
    ∷ trial (5 ∷ (set_to 0 1 ++ set_to 0 1)) usual (first 4) (packets 1 4 3 0 3) (1 ∷ 9 ∷ []) (finished 4 1)
    ∷ trial (7 ∷ 1 ∷ 2 ∷ (set_to 0 1 ++ set_to 1 2)) usual (first 4) (packets 1 4 3 1 3) (1 ∷ 2 ∷ []) (finished 4 1)
    ∷ trial (7 ∷ 1 ∷ 2 ∷ (set_to 0 1 ++ set_to 1 2)) usual (first 2) (packets 1 4 3 1 3) (1 ∷ 2 ∷ []) (running 2 3 1)
    ∷ trial trap usual (first 15) (packets 2 15 11 1 7) (0 ∷ 0 ∷ 1 ∷ 1 ∷ []) (finished 15 2)
    ∷ trial (7 ∷ 1 ∷ 1 ∷ 0 ∷ 0 ∷ []) usual [] (refusal 7 6) [] (refusal 7 6)
    ∷ trial (7 ∷ 0 ∷ 1 ∷ (test 0 5 ++ set_to 0 1)) usual [] (refusal 7 6) [] (refusal 7 6)
    ∷ trial (4 ∷ set_to 0 1) usual [] (refusal 5 7) [] (refusal 5 7)
    ∷ []

-- what the definitions answer: the evaluator on a result buffer of 32 words that hold 7, and the run
abbrev pub Told : Type 0
Told = Says × List ℕ × Says

unfoldable pub buffer : List ℕ
buffer = replicate 32 7

unfoldable pub answered : Trial → Told
answered t = (
  evaluated_says (evaluated (book_of t.body) t.packet 32),
  evaluated_result (book_of t.body) t.packet buffer,
  ran_says (ran (book_of t.body) t.packet t.schedule 32 area_words),
)

unfoldable pub expected : Trial → Told
expected t = (t.says, overwritten t.words buffer, t.runs)

pub starred : map answered trials ≡ map expected trials
unfolding trials trial answered expected buffer
    has apart within less
    padded passes put mix order_of insert union keep member pairs_into values_of
    write parts deep names_open tested written right_masks fit_masks wrongs
    entries bytes_of masks_fit
    byte_if stands operands_wrong read_operands read_part read_body body_start read_entry read_entries masks_right
    after built part_at body_at use_at main_of tables_from policy_of wrong_body misfit wrongs_in misfits_in typing_faults
    first_failed form_checks book_checks sizes_of verdict
    each out steps room own widest width
    join place enter finish leave next live move run counted made used lacking stuck_steps stuck_in
    refusal_says evaluated_says ran_says given outcome packet_checks evaluate_checks evaluated overwritten evaluated_result start run_checks ran
starred = refl
