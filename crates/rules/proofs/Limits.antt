-- Every limit of document 01 from both sides, as one statement about a list, by computation: what just keeps it is let through, what
-- just breaks it is refused. The edges that document 01 names stand among them.
use Prim.Native.Nat.{ℕ, zero, suc, ◌-◌, ◌^◌}
use mathlib.Core.Path.{◌≡◌, refl}
use mathlib.Core.List.{List, [], ◌∷◌, map}
use mathlib.Core.Option.{some}
use lib.ListN.{replicate}
use Rattle.rules.specs.Masks.{has, apart, within, less}
use Rattle.rules.specs.Packets.{padded, passes, put, mix, order_of, insert, union, keep, member, pairs_into}
use Rattle.rules.specs.Parts.{Part, Id, Drop, Set, Not, Sum, Seq, Beside, Table, write, parts, deep, names_open}
use Rattle.rules.specs.Typing.{tested, written, right_masks, fit_masks, wrongs}
use Rattle.rules.specs.Books.{Entry, no_entry, entries, bytes_of, contents, bodies, write_book, masks_fit}
use Rattle.rules.specs.Checks.{first_failed}
use Rattle.rules.specs.Reading.{form_checks, book_checks, byte_if, stands, operands_wrong, read_operands, read_part, read_body, body_start}
use Rattle.rules.specs.Reading.{read_entry, read_entries, masks_right, after, built, part_at, body_at, use_at, main_of}
use Rattle.rules.specs.Reading.{tables_from, policy_of, wrong_body, misfit, wrongs_in, misfits_in, typing_faults}
use Rattle.rules.specs.Reading.{sizes_of, verdict}
use Rattle.rules.specs.Working.{each, out, steps, room, own, widest, width}
use Rattle.rules.specs.States.{join, place, enter, finish, leave, next, live, move, run, counted, made, used}
use Rattle.rules.specs.States.{lacking, stuck_steps, stuck_in}
use Rattle.rules.specs.Answers.{Says, refusal, accepted, packets, finished, refusal_says, verdict_says, evaluated_says, ran_says}
use Rattle.rules.specs.Answers.{given, outcome, packet_checks, evaluate_checks, evaluated, start, run_checks, ran}

-- ---- policies: n times a part around another; 2 to the n of it, balanced

abbrev pub around : ℕ → (Part → Part) → Part → Part
around zero f p = p
around (suc n) f p = f (around n f p)

abbrev pub doubled : ℕ → (Part → Part → Part) → Part → Part
doubled zero f p = p
doubled (suc n) f p = let q = doubled n f p in f q q

abbrev pub zero_or_one : ℕ → Part
zero_or_one f = Sum (Set f 0) (Set f 1)

-- "fields 0 to 3 each (to 0 + to 1), in sequence"
abbrev pub sixteen : Part
sixteen = Seq (zero_or_one 0) (Seq (zero_or_one 1) (Seq (zero_or_one 2) (zero_or_one 3)))

-- "80 drops in a balanced sum"
abbrev pub drops : Part
drops = doubled 4 Sum (around 4 (Sum Drop) Drop)

-- "nested concurrent parts with masks 0"
abbrev pub nested : ℕ → Part
nested n = around n (λ p. Beside 0 0 p Id) Id

-- ---- books: k fields, R empty and W all fields; m unpopulated tables

abbrev pub book_of : ℕ → ℕ → Part → List ℕ
book_of k m p = write_book (record { fields = k; reads = 0; writes = 2 ^ k - 1; main = p; tables = replicate m no_entry })

-- 14 uses of a table with 71 parts, under 13 sequences, in sequence before p: n is 1,022 and p's
abbrev pub table_use : Part
table_use = Table 1 0 1 0 Id

abbrev pub uses_then : Part → List ℕ
uses_then p =
    let t : Entry = record { reads = 0; writes = 1; body = some (around 4 (Seq Id) (doubled 5 Seq Id)) } in
    write_book (record { fields = 1; reads = 0; writes = 1; main = Seq (around 13 (Seq table_use) table_use) p; tables = t ∷ [] })

-- ---- what is said: of a book; of a main policy on a packet of zeros, by the evaluator and by a run

abbrev pub zeros : ℕ → List ℕ
zeros n = replicate n 0

abbrev pub says_of_book : List ℕ → Says
says_of_book s = verdict_says (verdict s)

abbrev pub says_of_evaluation : (k words : ℕ) → Part → Says
says_of_evaluation k words p = evaluated_says (evaluated (book_of k 0 p) (zeros k) words)

abbrev pub says_of_run : (k choices words area : ℕ) → Part → Says
says_of_run k choices words area p = ran_says (ran (book_of k 0 p) (zeros k) (zeros choices) words area)

pub both-sides :
    -- 1: 2 to 4,096 bytes
    (map says_of_book (zeros 1 ∷ zeros 2 ∷ zeros 4096 ∷ zeros 4097 ∷ []) ≡ refusal 1 0 ∷ refusal 2 0 ∷ refusal 2 0 ∷ refusal 1 0 ∷ [])
    -- 2: k 1 to 8
    × (map (λ k. says_of_book (book_of k 0 Id)) (0 ∷ 1 ∷ 8 ∷ 9 ∷ []) ≡ refusal 2 0 ∷ accepted 1 0 1 0 ∷ accepted 8 0 1 0 ∷ refusal 2 0 ∷ [])
    -- 2: m up to 15
    × (map (λ m. says_of_book (book_of 1 m Id)) (15 ∷ 16 ∷ []) ≡ accepted 1 15 1 0 ∷ refusal 2 0 ∷ [])
    -- 5: depth 32
    × (map (λ d. says_of_book (book_of 1 0 (around d Not Id))) (31 ∷ 32 ∷ []) ≡ accepted 1 0 32 0 ∷ refusal 5 38 ∷ [])
    -- 6: n 1,023
    × (map (λ p. says_of_book (uses_then p)) (Id ∷ Not Id ∷ []) ≡ accepted 1 1 1023 0 ∷ refusal 6 0 ∷ [])
    -- 6: D 4
    × (map (λ d. says_of_book (book_of 1 0 (nested d))) (4 ∷ 5 ∷ []) ≡ accepted 1 0 9 4 ∷ refusal 6 0 ∷ [])
    -- 10: 16 packets, 17, and field 4 too
    × (map (says_of_evaluation 5 80) (sixteen ∷ Sum sixteen (Set 0 2) ∷ Seq sixteen (zero_or_one 4) ∷ [])
    ≡ packets 16 19 15 0 4 ∷ refusal 10 0 ∷ refusal 10 0 ∷ [])
    -- 11: rooms 159, 160 and 161
    × (map (says_of_run 1 239 16 21760) (drops ∷ Seq drops Id ∷ Sum Drop drops ∷ []) ≡ finished 238 0 ∷ finished 239 0 ∷ refusal 11 0 ∷ [])
    -- 12: 16·k words of result
    × (map (λ words. says_of_evaluation 5 words Id) (79 ∷ 80 ∷ []) ≡ refusal 12 0 ∷ packets 1 0 1 0 1 ∷ [])
    × (map (λ words. says_of_run 5 0 words 21760 Id) (79 ∷ 80 ∷ []) ≡ refusal 12 0 ∷ finished 0 1 ∷ [])
    -- 12: 21,760 words of area
    × (map (λ area. says_of_run 5 0 80 area Id) (21759 ∷ 21760 ∷ []) ≡ refusal 12 0 ∷ finished 0 1 ∷ [])
unfolding has apart within less padded passes put mix order_of insert union keep member pairs_into
    write parts deep names_open tested written right_masks fit_masks wrongs
    entries bytes_of contents bodies write_book masks_fit
    byte_if stands operands_wrong read_operands read_part read_body body_start read_entry read_entries masks_right
    after built part_at body_at use_at main_of tables_from policy_of wrong_body misfit wrongs_in misfits_in typing_faults
    first_failed form_checks book_checks sizes_of verdict
    each out steps room own widest width
    join place enter finish leave next live move run counted made used lacking stuck_steps stuck_in
    refusal_says verdict_says evaluated_says ran_says given outcome packet_checks evaluate_checks evaluated start run_checks ran
both-sides = (refl, refl, refl, refl, refl, refl, refl, refl, refl, refl, refl)
