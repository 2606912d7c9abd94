-- Each of the five conditions of a right concurrent part is needed: five books that lack one alone, are refused with 7, and whose
-- concurrent part gives other packets than the sequence (all but one would be stuck besides). And two traps: pairing across packets,
-- and typing a table by its body.
use Prim.Native.Nat.{ℕ}
use mathlib.Core.Path.{◌≡◌, refl}
use mathlib.Core.Bool.{Bool, true, false}
use mathlib.Core.List.{List, [], ◌∷◌, ◌++◌, map}
use lib.ListN.{length}
use Rattle.rules.specs.Masks.{has, apart, within, less}
use Rattle.rules.specs.Packets.{Packets, padded, passes, put, mix, without, order_of, insert, union, keep, member, pairs_into, pairs}
use Rattle.rules.specs.Parts.{Part, Id, Test, Set, Seq, Beside, write, parts, deep}
use Rattle.rules.specs.Typing.{tested, written, right_masks, fit_masks, wrongs}
use Rattle.rules.specs.Books.{entries, bytes_of, masks_fit}
use Rattle.rules.specs.Checks.{first_failed}
use Rattle.rules.specs.Reading.{form_checks, book_checks, byte_if, stands, operands_wrong, read_operands, read_part, read_body, body_start}
use Rattle.rules.specs.Reading.{read_entry, read_entries, masks_right, after, built, part_at, body_at, use_at, main_of}
use Rattle.rules.specs.Reading.{tables_from, policy_of, wrong_body, misfit, wrongs_in, misfits_in, typing_faults}
use Rattle.rules.specs.Reading.{sizes_of, verdict}
use Rattle.rules.specs.Working.{each, out}
use Rattle.rules.specs.States.{place, enter, finish, leave, next, move, used, lacking, stuck_steps, stuck_in}
use Rattle.rules.specs.Answers.{Says, refusal, accepted, refusal_says, verdict_says, start}

-- masks and sides of a concurrent part
pub record Sides : Type 0 where
  pub wp : ℕ
  pub wq : ℕ
  pub p : Part
  pub q : Part

unfoldable pub sides : ℕ → ℕ → Part → Part → Sides
sides wp wq p q = record { wp = wp; wq = wq; p = p; q = q }

abbrev pub beside : Sides → Part
beside c = Beside c.wp c.wq c.p c.q

-- the book with one field, R empty and W that field, whose main policy is this part
abbrev pub book_of : Part → List ℕ
book_of p = 1 ∷ 0 ∷ 0 ∷ length (write p) ∷ 0 ∷ 1 ∷ write p

-- the five conditions in document 01's order
unfoldable pub conditions : Sides → List Bool
conditions c =
    within (written c.p) c.wp ∷ within (written c.q) c.wq ∷ apart c.wp c.wq
    ∷ apart (tested c.p) c.wq ∷ apart (tested c.q) c.wp ∷ []

-- one packet of one field, with value 5
abbrev pub five : Packets
five = (5 ∷ []) ∷ []

-- the conditions, what is said of the book, what the concurrent part and what the sequence gives, and the stuck steps of a run
abbrev pub Shown : Type 0
Shown = List Bool × Says × Packets × Packets × List ℕ

unfoldable pub shown : Sides → Shown
shown c = (
  conditions c,
  verdict_says (verdict (book_of (beside c))),
  out (beside c) five,
  out (Seq c.p c.q) five,
  stuck_in (start (book_of (beside c)) (5 ∷ [])) (0 ∷ 0 ∷ 0 ∷ []),
)

unfoldable pub lacking_one : List Sides
lacking_one =
    sides 0 1 (Set 0 1) Id
    ∷ sides 1 0 Id (Set 0 1)
    ∷ sides 1 1 Id Id
    ∷ sides 0 1 (Test 0 5) (Set 0 7)
    ∷ sides 1 0 (Set 0 7) (Test 0 7)
    ∷ []

pub each_needed : map shown lacking_one
    ≡ (false ∷ true ∷ true ∷ true ∷ true ∷ [], refusal 7 6, five, (1 ∷ []) ∷ [], 9 ∷ [])
    ∷ (true ∷ false ∷ true ∷ true ∷ true ∷ [], refusal 7 6, five, (1 ∷ []) ∷ [], 10 ∷ [])
    ∷ (true ∷ true ∷ false ∷ true ∷ true ∷ [], refusal 7 6, (0 ∷ []) ∷ [], five, [])
    ∷ (true ∷ true ∷ true ∷ false ∷ true ∷ [], refusal 7 6, [], (7 ∷ []) ∷ [], 9 ∷ [])
    ∷ (true ∷ true ∷ true ∷ true ∷ false ∷ [], refusal 7 6, [], (7 ∷ []) ∷ [], 13 ∷ [])
    ∷ []
unfolding shown lacking_one sides conditions
    has apart within less padded passes put mix order_of insert union keep member pairs_into
    write parts deep tested written right_masks fit_masks wrongs entries bytes_of masks_fit
    byte_if stands operands_wrong read_operands read_part read_body body_start read_entry read_entries masks_right
    after built part_at body_at use_at main_of tables_from policy_of wrong_body misfit wrongs_in misfits_in typing_faults
    first_failed form_checks book_checks sizes_of verdict
    each out place enter finish leave next move used lacking stuck_steps stuck_in start refusal_says verdict_says
each_needed = refl

-- ---- the trap: "Pairing results across different packets, as the four-packet answer above"

-- what a concurrent part would give, did it take all packets together
unfoldable pub across : ℕ → ℕ → Part → Part → Packets → Packets
across wp wq p q s = pairs wq (out p (map (without wq) s)) (out q (map (without wp) s))

abbrev pub two : Packets
two = (0 ∷ 0 ∷ []) ∷ (1 ∷ 1 ∷ []) ∷ []

pub trap : (out (Beside 1 2 Id Id) two ≡ two)
    × (across 1 2 Id Id two ≡ (0 ∷ 0 ∷ []) ∷ (0 ∷ 1 ∷ []) ∷ (1 ∷ 0 ∷ []) ∷ (1 ∷ 1 ∷ []) ∷ [])
unfolding across has mix order_of insert union pairs_into each out
trap = (refl, refl)

-- ---- the trap: "Typing a populated table by its body. The declared masks count, since the body can be replaced."

-- a main body with its masks, and masks R and W of the one table; k = 2
pub record Declares : Type 0 where
  pub main : List ℕ
  pub main_reads : ℕ
  pub main_writes : ℕ
  pub reads : ℕ
  pub writes : ℕ

unfoldable pub declares : List ℕ → ℕ → ℕ → ℕ → ℕ → Declares
declares main mr mw r w = record { main = main; main_reads = mr; main_writes = mw; reads = r; writes = w }

unfoldable pub book_with : Declares → ℕ → ℕ → List ℕ → List ℕ
book_with c r w body =
    2 ∷ 1 ∷ 0 ∷ length c.main ∷ c.main_reads ∷ c.main_writes ∷ 0 ∷ length body ∷ r ∷ w ∷ (c.main ++ body)

-- what is said with the declared masks and the body id, with them and no body, and with empty masks and the body id
unfoldable pub declared : Declares → Says × Says × Says
declared c = (
  verdict_says (verdict (book_with c c.reads c.writes (0 ∷ []))),
  verdict_says (verdict (book_with c c.reads c.writes [])),
  verdict_says (verdict (book_with c 0 0 (0 ∷ []))),
)

-- a table that may read 0 beside a set of 0; one that may write 0 beside id; one that may read 0 and one that may write it alone,
-- in a main policy that may not
unfoldable pub declared_wider : List Declares
declared_wider =
    declares (7 ∷ 0 ∷ 1 ∷ 8 ∷ 1 ∷ 3 ∷ 0 ∷ 0 ∷ 1 ∷ []) 0 3 1 0
    ∷ declares (7 ∷ 0 ∷ 2 ∷ 8 ∷ 1 ∷ 0 ∷ []) 0 3 0 1
    ∷ declares (8 ∷ 1 ∷ []) 0 0 1 0
    ∷ declares (8 ∷ 1 ∷ []) 1 0 0 1
    ∷ []

-- each table's body, id, neither tests nor writes; but its masks make the main body wrong, at its first byte, populated or not
pub declared_counts : map declared declared_wider
    ≡ (refusal 7 10, refusal 7 10, accepted 2 1 4 1)
    ∷ (refusal 7 10, refusal 7 10, accepted 2 1 4 1)
    ∷ (refusal 7 10, refusal 7 10, accepted 2 1 2 0)
    ∷ (refusal 7 10, refusal 7 10, accepted 2 1 2 0)
    ∷ []
unfolding declares book_with declared declared_wider
    apart within parts deep write tested written right_masks fit_masks wrongs entries bytes_of masks_fit
    byte_if stands operands_wrong read_operands read_part read_body body_start read_entry read_entries masks_right
    after built part_at body_at use_at main_of tables_from policy_of wrong_body misfit wrongs_in misfits_in typing_faults
    first_failed form_checks book_checks sizes_of verdict
    refusal_says verdict_says
declared_counts = refl
