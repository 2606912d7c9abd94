-- Books at the edges of the numbers 1 to 7, computed: for each rule a book that breaks it with the place that is given, books that just
-- keep it, and for each two neighbouring numbers a book that earns both. And T and M of parts of each kind, and all their wrong parts.
use Prim.Native.Nat.{ℕ, zero, suc, ◌/◌, ◌%◌}
use mathlib.Core.Path.{◌≡◌, refl}
use mathlib.Core.List.{List, [], ◌∷◌, ◌++◌, map}
use lib.ListN.{length, replicate}
use Rattle.rules.specs.Masks.{apart, within}
use Rattle.rules.specs.Parts.{Part, Id, Drop, Test, Set, Not, Sum, Seq, Beside, Table, Open, write, parts, deep}
use Rattle.rules.specs.Typing.{tested, written, right_masks, fit_masks, wrongs}
use Rattle.rules.specs.Books.{entries, bytes_of, masks_fit}
use Rattle.rules.specs.Checks.{first_failed}
use Rattle.rules.specs.Reading.{byte_if, stands, operands_wrong, read_operands, read_part, read_body, body_start}
use Rattle.rules.specs.Reading.{read_entry, read_entries, masks_right, after, built, part_at, body_at, use_at, main_of}
use Rattle.rules.specs.Reading.{tables_from, policy_of, wrong_body, misfit, wrongs_in, misfits_in, typing_faults}
use Rattle.rules.specs.Reading.{form_checks, book_checks, sizes_of, verdict}
use Rattle.rules.specs.Answers.{Says, refusal, accepted, refusal_says, verdict_says}

-- ---- books, put together from stated masks and bodies

-- R, W and the bytes of a body
abbrev pub Stated : Type 0
Stated = ℕ × ℕ × List ℕ

unfoldable pub contents : List Stated → List ℕ
contents [] = []
contents (e ∷ es) = length e.2 / 256 ∷ length e.2 % 256 ∷ e.0 ∷ e.1 ∷ contents es

unfoldable pub bodies : List Stated → List ℕ
bodies [] = []
bodies (e ∷ es) = e.2 ++ bodies es

-- k, the main policy, the tables
unfoldable pub book : ℕ → Stated → List Stated → List ℕ
book k main tables = k ∷ length tables ∷ (contents (main ∷ tables) ++ bodies (main ∷ tables))

-- k = 2, R empty, W all fields, no tables: the main body starts at 6; with one table at 10, with two at 14
abbrev pub plain : List ℕ → List ℕ
plain body = book 2 (0, 3, body) []

-- a table with R empty and W all fields
abbrev pub table : List ℕ → Stated
table body = (0, 3, body)

-- a book and what is said of it
abbrev pub Row : Type 0
Row = List ℕ × Says

abbrev pub said : List Row → List Says
said rows = map (λ r. verdict_says (verdict r.0)) rows

abbrev pub expected : List Row → List Says
expected rows = map (λ r. r.1) rows

-- a sum of 2 ^ n drops, n + 1 deep
unfoldable pub drops : ℕ → List ℕ
drops zero = 1 ∷ []
drops (suc n) = 5 ∷ (drops n ++ drops n)

-- n concurrent parts, each the first side of the one above; with masks 01 and 01 they are not right
unfoldable pub nested : ℕ → ℕ → ℕ → List ℕ
nested zero wp wq = 0 ∷ []
nested (suc n) wp wq = 7 ∷ wp ∷ wq ∷ (nested n wp wq ++ (0 ∷ []))

-- the numbers 1 to 4: lengths of the book, k and m, stated lengths, masks of the entries
unfoldable pub layout_books : List Row
layout_books =
    ([], refusal 1 0)
    ∷ (0 ∷ [], refusal 1 0)
    ∷ (2 ∷ 0 ∷ [], refusal 3 0)
    ∷ (0 ∷ 0 ∷ [], refusal 2 0)
    ∷ (9 ∷ 0 ∷ [], refusal 2 0)
    ∷ (1 ∷ 16 ∷ [], refusal 2 0)
    ∷ (8 ∷ 15 ∷ [], refusal 3 0)
    ∷ (1 ∷ 0 ∷ [], refusal 3 0)
    ∷ (2 ∷ 0 ∷ 0 ∷ 1 ∷ 0 ∷ 3 ∷ [], refusal 3 0)
    ∷ (2 ∷ 0 ∷ 0 ∷ 1 ∷ 0 ∷ 3 ∷ 0 ∷ [], accepted 2 0 1 0)
    ∷ (2 ∷ 0 ∷ 0 ∷ 1 ∷ 0 ∷ 3 ∷ 0 ∷ 0 ∷ [], refusal 3 0)
    ∷ (2 ∷ 0 ∷ 0 ∷ 0 ∷ 0 ∷ 3 ∷ 0 ∷ [], refusal 3 0)
    ∷ (book 2 (0, 3, replicate 256 9) [], refusal 5 6)
    ∷ (book 2 (1, 2, 0 ∷ []) [], accepted 2 0 1 0)
    ∷ (book 2 (1, 3, 0 ∷ []) [], refusal 4 0)
    ∷ (book 2 (4, 0, 0 ∷ []) [], refusal 4 0)
    ∷ (book 2 (0, 4, 0 ∷ []) [], refusal 4 0)
    ∷ (book 2 (0, 3, 0 ∷ []) ((2, 2, 0 ∷ []) ∷ []), refusal 4 0)
    ∷ (book 2 (0, 3, 0 ∷ []) (table [] ∷ (4, 0, []) ∷ []), refusal 4 0)
    ∷ (book 2 (0, 3, 0 ∷ []) (table [] ∷ (0, 4, []) ∷ []), refusal 4 0)
    ∷ (book 3 (0, 7, 7 ∷ 4 ∷ 0 ∷ 8 ∷ 2 ∷ 0 ∷ []) ((0, 4, []) ∷ (0, 4, 5 ∷ 0 ∷ 1 ∷ []) ∷ []), accepted 3 2 6 1)
    ∷ []

-- number 5: "the first byte that cannot stand there; if a body ends early, the place just after it"
unfoldable pub form_books : List Row
form_books =
    (plain [], refusal 5 6)
    ∷ (plain (9 ∷ []), refusal 5 6)
    ∷ (plain (255 ∷ []), refusal 5 6)
    ∷ (plain (0 ∷ 0 ∷ []), refusal 5 7)
    ∷ (plain (5 ∷ 0 ∷ 1 ∷ 0 ∷ 9 ∷ []), refusal 5 9)
    ∷ (plain (1 ∷ []), accepted 2 0 1 0)
    ∷ (plain (2 ∷ []), refusal 5 7)
    ∷ (plain (2 ∷ 1 ∷ 0 ∷ []), refusal 5 9)
    ∷ (plain (2 ∷ 2 ∷ 0 ∷ 0 ∷ []), refusal 5 7)
    ∷ (plain (2 ∷ 1 ∷ 255 ∷ 255 ∷ []), accepted 2 0 1 0)
    ∷ (plain (3 ∷ 1 ∷ []), refusal 5 8)
    ∷ (plain (3 ∷ 2 ∷ 0 ∷ 0 ∷ []), refusal 5 7)
    ∷ (plain (3 ∷ 1 ∷ 255 ∷ 255 ∷ []), accepted 2 0 1 0)
    ∷ (plain (4 ∷ []), refusal 5 7)
    ∷ (plain (4 ∷ 9 ∷ []), refusal 5 7)
    ∷ (plain (5 ∷ []), refusal 5 7)
    ∷ (plain (5 ∷ 0 ∷ []), refusal 5 8)
    ∷ (plain (5 ∷ 9 ∷ 9 ∷ []), refusal 5 7)
    ∷ (plain (5 ∷ 0 ∷ 9 ∷ []), refusal 5 8)
    ∷ (plain (6 ∷ 2 ∷ 0 ∷ 0 ∷ 0 ∷ []), refusal 5 11)
    ∷ (plain (6 ∷ 0 ∷ 9 ∷ []), refusal 5 8)
    ∷ (plain (7 ∷ []), refusal 5 7)
    ∷ (plain (7 ∷ 0 ∷ []), refusal 5 8)
    ∷ (plain (7 ∷ 4 ∷ 4 ∷ 9 ∷ 9 ∷ []), refusal 5 7)
    ∷ (plain (7 ∷ 3 ∷ 4 ∷ 9 ∷ 9 ∷ []), refusal 5 8)
    ∷ (plain (7 ∷ 0 ∷ 0 ∷ 9 ∷ 0 ∷ []), refusal 5 9)
    ∷ (plain (7 ∷ 0 ∷ 0 ∷ 0 ∷ 9 ∷ []), refusal 5 10)
    ∷ (plain (7 ∷ 0 ∷ 0 ∷ 0 ∷ []), refusal 5 10)
    ∷ (plain (8 ∷ []), refusal 5 7)
    ∷ (plain (8 ∷ 0 ∷ []), refusal 5 7)
    ∷ (plain (8 ∷ 1 ∷ []), refusal 5 7)
    ∷ (book 2 (0, 3, 8 ∷ 0 ∷ []) (table [] ∷ []), refusal 5 11)
    ∷ (book 2 (0, 3, 8 ∷ 1 ∷ []) (table [] ∷ []), accepted 2 1 1 0)
    ∷ (book 2 (0, 3, 8 ∷ 2 ∷ []) (table [] ∷ []), refusal 5 11)
    ∷ (book 2 (0, 3, 8 ∷ 2 ∷ []) (table [] ∷ table (0 ∷ []) ∷ []), accepted 2 2 2 0)
    ∷ []

-- number 5: "Under "not" only a predicate may stand", anywhere below it and not beside it; its code byte
unfoldable pub kind_books : List Row
kind_books =
    (plain (4 ∷ 0 ∷ []), accepted 2 0 2 0)
    ∷ (plain (4 ∷ 1 ∷ []), accepted 2 0 2 0)
    ∷ (plain (4 ∷ 2 ∷ 0 ∷ 0 ∷ 5 ∷ []), accepted 2 0 2 0)
    ∷ (plain (4 ∷ 4 ∷ 0 ∷ []), accepted 2 0 3 0)
    ∷ (plain (4 ∷ 5 ∷ 0 ∷ 1 ∷ []), accepted 2 0 4 0)
    ∷ (plain (4 ∷ 6 ∷ 0 ∷ 1 ∷ []), accepted 2 0 4 0)
    ∷ (plain (4 ∷ 3 ∷ 0 ∷ 0 ∷ 1 ∷ []), refusal 5 7)
    ∷ (plain (4 ∷ 7 ∷ 0 ∷ 0 ∷ 0 ∷ 0 ∷ []), refusal 5 7)
    ∷ (book 2 (0, 3, 4 ∷ 8 ∷ 1 ∷ []) (table (0 ∷ []) ∷ []), refusal 5 11)
    ∷ (plain (4 ∷ 4 ∷ 3 ∷ 0 ∷ 0 ∷ 1 ∷ []), refusal 5 8)
    ∷ (plain (4 ∷ 5 ∷ 3 ∷ 0 ∷ 0 ∷ 1 ∷ 0 ∷ []), refusal 5 8)
    ∷ (plain (4 ∷ 5 ∷ 0 ∷ 3 ∷ 0 ∷ 0 ∷ 1 ∷ []), refusal 5 9)
    ∷ (plain (4 ∷ 6 ∷ 3 ∷ 0 ∷ 0 ∷ 1 ∷ 0 ∷ []), refusal 5 8)
    ∷ (plain (4 ∷ 6 ∷ 0 ∷ 3 ∷ 0 ∷ 0 ∷ 1 ∷ []), refusal 5 9)
    ∷ (plain (5 ∷ 3 ∷ 0 ∷ 0 ∷ 1 ∷ 3 ∷ 0 ∷ 0 ∷ 1 ∷ []), accepted 2 0 3 0)
    ∷ (plain (5 ∷ 4 ∷ 0 ∷ 3 ∷ 0 ∷ 0 ∷ 1 ∷ []), accepted 2 0 4 0)
    ∷ (plain (6 ∷ 4 ∷ 0 ∷ 7 ∷ 0 ∷ 0 ∷ 0 ∷ 0 ∷ []), accepted 2 0 6 1)
    ∷ (plain (replicate 31 4 ++ (0 ∷ [])), accepted 2 0 32 0)
    ∷ (plain (replicate 32 4 ++ (0 ∷ [])), refusal 5 38)
    ∷ (plain (replicate 32 4), refusal 5 38)
    ∷ []

-- number 5: "bodies in order", each up to its stated end; in a table's body no table
unfoldable pub body_books : List Row
body_books =
    (book 2 (0, 3, 9 ∷ []) (table (9 ∷ []) ∷ []), refusal 5 10)
    ∷ (book 2 (0, 3, 0 ∷ []) (table (9 ∷ []) ∷ table (9 ∷ []) ∷ []), refusal 5 15)
    ∷ (book 2 (0, 3, 0 ∷ []) (table [] ∷ table (0 ∷ 9 ∷ []) ∷ []), refusal 5 16)
    ∷ (book 2 (0, 3, 5 ∷ 0 ∷ []) (table (0 ∷ []) ∷ []), refusal 5 12)
    ∷ (book 2 (0, 3, 0 ∷ []) (table (5 ∷ 0 ∷ []) ∷ table (0 ∷ []) ∷ []), refusal 5 17)
    ∷ (book 2 (0, 3, 0 ∷ []) (table (8 ∷ 1 ∷ []) ∷ []), refusal 5 11)
    ∷ (book 2 (0, 3, 0 ∷ []) (table (3 ∷ 2 ∷ 0 ∷ 0 ∷ []) ∷ []), refusal 5 12)
    ∷ (book 2 (0, 3, 0 ∷ []) (table (4 ∷ 3 ∷ 0 ∷ 0 ∷ 1 ∷ []) ∷ []), refusal 5 12)
    ∷ (book 2 (0, 3, 0 ∷ []) (table (0 ∷ []) ∷ table [] ∷ []), accepted 2 2 1 0)
    ∷ []

-- number 7: "the code byte of the first concurrent part in book order that is not right"
unfoldable pub wrong_books : List Row
wrong_books =
    (plain (7 ∷ 1 ∷ 1 ∷ 0 ∷ 0 ∷ []), refusal 7 6)
    ∷ (plain (5 ∷ 7 ∷ 1 ∷ 1 ∷ 0 ∷ 0 ∷ 0 ∷ []), refusal 7 7)
    ∷ (plain (5 ∷ 2 ∷ 0 ∷ 0 ∷ 5 ∷ 7 ∷ 1 ∷ 1 ∷ 0 ∷ 0 ∷ []), refusal 7 11)
    ∷ (plain (6 ∷ 7 ∷ 1 ∷ 1 ∷ 0 ∷ 0 ∷ 0 ∷ []), refusal 7 7)
    ∷ (plain (6 ∷ 2 ∷ 0 ∷ 0 ∷ 5 ∷ 7 ∷ 1 ∷ 1 ∷ 0 ∷ 0 ∷ []), refusal 7 11)
    ∷ (plain (7 ∷ 3 ∷ 0 ∷ 7 ∷ 1 ∷ 1 ∷ 0 ∷ 0 ∷ 0 ∷ []), refusal 7 9)
    ∷ (plain (7 ∷ 0 ∷ 3 ∷ 4 ∷ 0 ∷ 7 ∷ 1 ∷ 1 ∷ 0 ∷ 0 ∷ []), refusal 7 11)
    ∷ (plain (7 ∷ 1 ∷ 1 ∷ 7 ∷ 1 ∷ 1 ∷ 0 ∷ 0 ∷ 0 ∷ []), refusal 7 6)
    ∷ (plain (7 ∷ 1 ∷ 1 ∷ 0 ∷ 7 ∷ 1 ∷ 1 ∷ 0 ∷ 0 ∷ []), refusal 7 6)
    ∷ (plain (5 ∷ 7 ∷ 1 ∷ 1 ∷ 0 ∷ 0 ∷ 7 ∷ 1 ∷ 1 ∷ 0 ∷ 0 ∷ []), refusal 7 7)
    ∷ (plain (6 ∷ 7 ∷ 1 ∷ 1 ∷ 0 ∷ 0 ∷ 7 ∷ 1 ∷ 1 ∷ 0 ∷ 0 ∷ []), refusal 7 7)
    ∷ (plain (7 ∷ 3 ∷ 0 ∷ 7 ∷ 1 ∷ 1 ∷ 0 ∷ 0 ∷ 7 ∷ 0 ∷ 0 ∷ 3 ∷ 0 ∷ 0 ∷ 1 ∷ 0 ∷ []), refusal 7 9)
    ∷ (book 2 (0, 3, 6 ∷ 7 ∷ 1 ∷ 1 ∷ 0 ∷ 0 ∷ 8 ∷ 1 ∷ []) (table (7 ∷ 1 ∷ 1 ∷ 0 ∷ 0 ∷ []) ∷ []), refusal 7 11)
    ∷ (book 2 (0, 3, 6 ∷ 8 ∷ 1 ∷ 7 ∷ 1 ∷ 1 ∷ 0 ∷ 0 ∷ []) (table (7 ∷ 1 ∷ 1 ∷ 0 ∷ 0 ∷ []) ∷ []), refusal 7 13)
    ∷ (book 2 (0, 3, 8 ∷ 2 ∷ []) (table (7 ∷ 1 ∷ 1 ∷ 0 ∷ 0 ∷ []) ∷ table (7 ∷ 1 ∷ 1 ∷ 0 ∷ 0 ∷ []) ∷ []), refusal 7 16)
    ∷ (book 2 (0, 3, 0 ∷ []) (table [] ∷ table (4 ∷ 0 ∷ []) ∷ []), accepted 2 2 1 0)
    ∷ (book 2 (0, 3, 0 ∷ []) (table (0 ∷ []) ∷ table (5 ∷ 0 ∷ 7 ∷ 1 ∷ 1 ∷ 0 ∷ 0 ∷ []) ∷ []), refusal 7 18)
    ∷ []

-- number 7: "if none, the first byte of the first populated body that does not fit"
unfoldable pub misfit_books : List Row
misfit_books =
    (book 2 (0, 2, 2 ∷ 0 ∷ 0 ∷ 5 ∷ []) [], refusal 7 6)
    ∷ (book 2 (0, 1, 2 ∷ 0 ∷ 0 ∷ 5 ∷ []) [], accepted 2 0 1 0)
    ∷ (book 2 (1, 0, 2 ∷ 0 ∷ 0 ∷ 5 ∷ []) [], accepted 2 0 1 0)
    ∷ (book 2 (1, 2, 3 ∷ 0 ∷ 0 ∷ 1 ∷ []) [], refusal 7 6)
    ∷ (book 2 (0, 1, 3 ∷ 0 ∷ 0 ∷ 1 ∷ []) [], accepted 2 0 1 0)
    ∷ (book 2 (0, 2, 4 ∷ 2 ∷ 0 ∷ 0 ∷ 5 ∷ []) [], refusal 7 6)
    ∷ (book 2 (0, 2, 5 ∷ 2 ∷ 0 ∷ 0 ∷ 5 ∷ 0 ∷ []) [], refusal 7 6)
    ∷ (book 2 (0, 2, 5 ∷ 0 ∷ 2 ∷ 0 ∷ 0 ∷ 5 ∷ []) [], refusal 7 6)
    ∷ (book 2 (0, 2, 6 ∷ 2 ∷ 0 ∷ 0 ∷ 5 ∷ 0 ∷ []) [], refusal 7 6)
    ∷ (book 2 (0, 2, 6 ∷ 0 ∷ 2 ∷ 0 ∷ 0 ∷ 5 ∷ []) [], refusal 7 6)
    ∷ (book 2 (1, 2, 5 ∷ 3 ∷ 0 ∷ 0 ∷ 1 ∷ 0 ∷ []) [], refusal 7 6)
    ∷ (book 2 (1, 2, 5 ∷ 0 ∷ 3 ∷ 0 ∷ 0 ∷ 1 ∷ []) [], refusal 7 6)
    ∷ (book 2 (1, 2, 6 ∷ 3 ∷ 0 ∷ 0 ∷ 1 ∷ 0 ∷ []) [], refusal 7 6)
    ∷ (book 2 (1, 2, 6 ∷ 0 ∷ 3 ∷ 0 ∷ 0 ∷ 1 ∷ []) [], refusal 7 6)
    ∷ (book 2 (0, 2, 7 ∷ 0 ∷ 0 ∷ 2 ∷ 0 ∷ 0 ∷ 5 ∷ 0 ∷ []) [], refusal 7 6)
    ∷ (book 2 (0, 2, 7 ∷ 0 ∷ 0 ∷ 0 ∷ 2 ∷ 0 ∷ 0 ∷ 5 ∷ []) [], refusal 7 6)
    ∷ (book 2 (1, 2, 7 ∷ 1 ∷ 0 ∷ 0 ∷ 0 ∷ []) [], refusal 7 6)
    ∷ (book 2 (1, 2, 7 ∷ 0 ∷ 1 ∷ 0 ∷ 0 ∷ []) [], refusal 7 6)
    ∷ (book 2 (0, 2, 2 ∷ 0 ∷ 0 ∷ 5 ∷ []) ((0, 2, 2 ∷ 0 ∷ 0 ∷ 5 ∷ []) ∷ []), refusal 7 10)
    ∷ (book 2 (0, 3, 0 ∷ []) ((0, 2, 2 ∷ 0 ∷ 0 ∷ 5 ∷ []) ∷ (0, 2, 2 ∷ 0 ∷ 0 ∷ 5 ∷ []) ∷ []), refusal 7 15)
    ∷ (book 2 (0, 3, 0 ∷ []) ((0, 2, []) ∷ table (2 ∷ 0 ∷ 0 ∷ 5 ∷ []) ∷ (0, 2, 4 ∷ 2 ∷ 0 ∷ 0 ∷ 5 ∷ []) ∷ []), refusal 7 23)
    ∷ (book 2 (0, 3, 0 ∷ []) ((1, 2, 2 ∷ 0 ∷ 0 ∷ 5 ∷ []) ∷ []), accepted 2 1 1 0)
    ∷ (book 2 (0, 3, 0 ∷ []) ((1, 2, 3 ∷ 0 ∷ 0 ∷ 1 ∷ []) ∷ []), refusal 7 11)
    ∷ (book 2 (0, 2, 2 ∷ 0 ∷ 0 ∷ 5 ∷ []) (table (0 ∷ []) ∷ table (7 ∷ 1 ∷ 1 ∷ 0 ∷ 0 ∷ []) ∷ []), refusal 7 19)
    ∷ []

-- right concurrent parts: sides that share a field they test, write less than they may, and test what they write
unfoldable pub right_books : List Row
right_books =
    (plain (7 ∷ 0 ∷ 0 ∷ 2 ∷ 0 ∷ 0 ∷ 5 ∷ 2 ∷ 0 ∷ 0 ∷ 5 ∷ []), accepted 2 0 3 1)
    ∷ (plain (7 ∷ 3 ∷ 0 ∷ 0 ∷ 0 ∷ []), accepted 2 0 3 1)
    ∷ (plain (7 ∷ 0 ∷ 3 ∷ 0 ∷ 0 ∷ []), accepted 2 0 3 1)
    ∷ (plain (7 ∷ 1 ∷ 2 ∷ 6 ∷ 2 ∷ 0 ∷ 0 ∷ 5 ∷ 3 ∷ 0 ∷ 0 ∷ 1 ∷ 6 ∷ 2 ∷ 1 ∷ 0 ∷ 0 ∷ 3 ∷ 1 ∷ 0 ∷ 0 ∷ []), accepted 2 0 7 1)
    ∷ (plain (7 ∷ 0 ∷ 1 ∷ 2 ∷ 0 ∷ 0 ∷ 5 ∷ 0 ∷ []), refusal 7 6)
    ∷ (plain (7 ∷ 1 ∷ 0 ∷ 0 ∷ 2 ∷ 0 ∷ 0 ∷ 5 ∷ []), refusal 7 6)
    ∷ []

-- "Order: 1 to 7": books that earn two numbers or more
unfoldable pub order_books : List Row
order_books =
    (9 ∷ [], refusal 1 0)
    ∷ (9 ∷ 0 ∷ [], refusal 2 0)
    ∷ (2 ∷ 0 ∷ 0 ∷ 9 ∷ 1 ∷ 1 ∷ 9 ∷ [], refusal 3 0)
    ∷ (2 ∷ 0 ∷ 0 ∷ 1 ∷ 1 ∷ 1 ∷ 9 ∷ [], refusal 4 0)
    ∷ (book 2 (0, 3, nested 5 0 0) (table (9 ∷ []) ∷ []), refusal 5 31)
    ∷ (book 2 (0, 3, nested 5 1 1) [], refusal 6 0)
    ∷ (book 2 (0, 3, nested 4 1 1) [], refusal 7 6)
    ∷ (book 2 (0, 3, nested 4 0 0) [], accepted 2 0 9 4)
    ∷ (book 2 (0, 2, 2 ∷ 0 ∷ 0 ∷ 5 ∷ []) (table (7 ∷ 1 ∷ 1 ∷ 0 ∷ 0 ∷ []) ∷ (0, 3, drops 7) ∷ []), refusal 7 18)
    ∷ (book 2 (0, 2, 5 ∷ 5 ∷ 8 ∷ 1 ∷ 8 ∷ 1 ∷ 5 ∷ 8 ∷ 1 ∷ 8 ∷ 1 ∷ []) ((0, 3, drops 7) ∷ []), refusal 6 0)
    ∷ []

abbrev pub groups : List (List Row)
groups = layout_books ∷ form_books ∷ kind_books ∷ body_books ∷ wrong_books ∷ misfit_books ∷ right_books ∷ order_books ∷ []

pub places : map said groups ≡ map expected groups
unfolding layout_books form_books kind_books body_books wrong_books misfit_books right_books order_books
    contents bodies book drops nested
    apart within write parts deep tested written right_masks fit_masks wrongs entries bytes_of masks_fit
    byte_if stands operands_wrong read_operands read_part read_body body_start read_entry read_entries masks_right
    after built part_at body_at use_at main_of tables_from policy_of wrong_body misfit wrongs_in misfits_in typing_faults
    first_failed form_checks book_checks sizes_of verdict
    refusal_says verdict_says
places = refl

-- ---- T and M of a part of each kind

abbrev pub both : Part → ℕ × ℕ
both p = (tested p, written p)

-- fields 0 and 1 are tested, 2 and 3 set; a table is declared with R = {0, 1} and W = {2}, and its body sets 3
pub masks : map both
    (Id ∷ Drop ∷ Test 1 0 ∷ Set 2 0 ∷ Not (Test 1 0) ∷ Not (Set 2 0) ∷ Sum (Test 0 0) (Set 2 0) ∷ Sum (Set 3 0) (Test 1 0)
    ∷ Seq (Test 0 0) (Set 2 0) ∷ Seq (Set 3 0) (Test 1 0) ∷ Beside 4 16 (Seq (Test 0 0) (Set 2 0)) (Seq (Test 1 0) (Set 3 0))
    ∷ Table 1 3 4 10 (Set 3 0) ∷ Open 1 3 4 ∷ [])
    ≡ (0, 0) ∷ (0, 0) ∷ (2, 0) ∷ (0, 4) ∷ (2, 0) ∷ (0, 4) ∷ (1, 4) ∷ (2, 8)
    ∷ (1, 4) ∷ (2, 8) ∷ (3, 20)
    ∷ (7, 4) ∷ (7, 4) ∷ []
unfolding tested written
masks = refl

-- ---- the code bytes of all concurrent parts that are not right, in book order, whatever stands above them

-- five bytes, not right
abbrev pub wrong : Part
wrong = Beside 1 1 Id Id

pub wrong_bytes : map (wrongs 6) (Not wrong ∷ Beside 1 1 wrong wrong ∷ Table 1 0 1 20 wrong ∷ [])
    ≡ (7 ∷ []) ∷ (6 ∷ 9 ∷ 14 ∷ []) ∷ [] ∷ []
unfolding write tested written apart within right_masks wrongs
wrong_bytes = refl
