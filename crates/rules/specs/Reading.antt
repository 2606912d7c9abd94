-- Reading a book: form with its places, the decoder, and the verdict on any bytes, numbers 1 to 7
-- (document 01, "The policy book" and "Numbers that turn a call away").
use Rattle.std.specs.Prelude.{ℕ, zero, suc, ◌+◌, ◌*◌, Bool, true, false, not, cond, ◌&&◌, ◌||◌, List, [], ◌∷◌, ◌++◌, ltb, leb, eqb, length, get_or, take, drop, Err, Ok, Result}
use Rattle.std.proofs.Math.Option.{Option, none, some}
use Rattle.rules.specs.declared.Head.{Head}
use Rattle.rules.specs.declared.Reason.TheVariants.{BookLength, Counts, Lengths, EntryMasks, Form, Limits, Typing}
use Rattle.rules.specs.declared.Refusal.{Refusal}
use Rattle.rules.specs.declared.Sizes.{Sizes}
use Rattle.rules.specs.Checks.{Check, check, check_at, first_failed}
use Rattle.rules.specs.Masks.{in_fields}
use Rattle.rules.specs.Codes.{operands_of, parts_of}
use Rattle.rules.specs.Parts.{Part, Id, Drop, Test, Set, Not, Sum, Seq, Beside, parts, deep}
use Rattle.rules.specs.Typing.{fits, wrongs}
use Rattle.rules.specs.Books.{most_fields, most_tables, most_bytes, most_depth, most_parts, most_beside, Entry, Policy}
use Rattle.rules.specs.Books.{entries, bytes_of, first_body, use_of, no_use, masks_fit, Scope, scope_of}

-- ---- the form of a body (5): "each read left to right, the first byte that cannot stand there"

-- go on from the next place, or hand the refusal up
abbrev pub and_then : Result ℕ ℕ → (ℕ → Result ℕ ℕ) → Result ℕ ℕ
and_then (Ok a) f = f a
and_then (Err a) f = Err a

-- the byte at a place; "if a body ends early, the place just after it"
unfoldable pub byte_if : List ℕ → (ℕ → Bool) → ℕ → Result ℕ ℕ
byte_if s ok at = cond (ltb at (length s)) (cond (ok (get_or s at 0)) (Ok (at + 1)) (Err at)) (Err (length s))

-- may a part with this code stand there, by code 0 to 8: whether tables may, whether only a predicate may
abbrev pub standing : Bool → Bool → List Bool
standing main pred = true ∷ true ∷ true ∷ not pred ∷ true ∷ true ∷ true ∷ not pred ∷ (not pred && main) ∷ []

unfoldable pub stands : Bool → Bool → ℕ → Bool
stands main pred code = get_or (standing main pred) code false

-- the first operand that cannot stand, by its number, of those that are there, by code 0 to 8: "a field of k or more, a mask
-- with a bit at k or above, and a table number outside 1 to m cannot stand"
abbrev pub any_operands : List ℕ → Option ℕ
any_operands o = none

abbrev pub field_wrong : ℕ → List ℕ → Option ℕ
field_wrong k [] = none
field_wrong k (f ∷ o) = cond (ltb f k) none (some 0)

abbrev pub later : Option ℕ → Option ℕ
later none = none
later (some i) = some (suc i)

abbrev pub masks_wrong : ℕ → List ℕ → Option ℕ
masks_wrong k [] = none
masks_wrong k (w ∷ o) = cond (in_fields k w) (later (masks_wrong k o)) (some 0)

abbrev pub table_wrong : ℕ → List ℕ → Option ℕ
table_wrong m [] = none
table_wrong m (x ∷ o) = cond (ltb 0 x && leb x m) none (some 0)

abbrev pub operand_tests : ℕ → ℕ → List (List ℕ → Option ℕ)
operand_tests k m =
    any_operands ∷ any_operands ∷ field_wrong k ∷ field_wrong k ∷ any_operands ∷ any_operands ∷ any_operands ∷ masks_wrong k ∷ table_wrong m ∷ []

unfoldable pub operands_wrong : ℕ → ℕ → ℕ → List ℕ → Option ℕ
operands_wrong k m code = get_or (operand_tests k m) code any_operands

-- n operands from a place on, judged together: the first that cannot stand, or the end where they are cut
abbrev pub judged : List ℕ → ℕ → ℕ → Option ℕ → Result ℕ ℕ
judged s n at none = cond (leb (at + n) (length s)) (Ok (at + n)) (Err (length s))
judged s n at (some i) = Err (at + i)

-- the operands of a code at a place, as many as there are
abbrev pub operands_at : List ℕ → ℕ → ℕ → List ℕ
operands_at s code at = take (operands_of code) (drop (at + 1) s)

unfoldable pub read_operands : List ℕ → ℕ → ℕ → ℕ → ℕ → Result ℕ ℕ
read_operands s k m code at = judged s (operands_of code) (at + 1) (operands_wrong k m code (operands_at s code at))

-- n parts one after the other
abbrev pub read_times : ℕ → (ℕ → Result ℕ ℕ) → ℕ → Result ℕ ℕ
read_times zero f at = Ok at
read_times (suc n) f at = and_then (f at) (read_times n f)

-- one part and what stands below it, at most d deep: "for depth 33 or a wrong kind of part, its code byte"
unfoldable pub read_part : List ℕ → Scope → ℕ → Bool → ℕ → Result ℕ ℕ
read_part s c zero pred at = and_then (byte_if s (stands c.main pred) at) (λ a. Err at)
read_part s c (suc d) pred at =
    and_then (byte_if s (stands c.main pred) at) λ a.
    and_then (read_operands s c.fields c.tables (get_or s at 0) at)
    (read_times (parts_of (get_or s at 0)) (read_part s c d (eqb (get_or s at 0) 4 || pred)))

-- "A body is exactly one policy": it ends where s ends
unfoldable pub read_body : List ℕ → Scope → ℕ → Result ℕ ℕ
read_body s c start = and_then (read_part s c most_depth false start) (λ a. cond (eqb a (length s)) (Ok a) (Err a))

-- ---- the contents

-- "Two-byte numbers have the high byte first"
abbrev pub number_at : List ℕ → ℕ → ℕ
number_at s at = get_or s at 0 * 256 + get_or s (at + 1) 0

abbrev pub fields_of : List ℕ → ℕ
fields_of s = get_or s 0 0

abbrev pub tables_of : List ℕ → ℕ
tables_of s = get_or s 1 0

-- body length, R and W of entry x
abbrev pub length_at : List ℕ → ℕ → ℕ
length_at s x = number_at s (2 + 4 * x)

abbrev pub reads_at : List ℕ → ℕ → ℕ
reads_at s x = get_or s (4 + 4 * x) 0

abbrev pub writes_at : List ℕ → ℕ → ℕ
writes_at s x = get_or s (5 + 4 * x) 0

-- where the body of entry x starts, by the stated lengths
unfoldable pub body_start : List ℕ → ℕ → ℕ
body_start s zero = first_body (tables_of s)
body_start s (suc x) = body_start s x + length_at s x

-- the bodies of the n entries from x on, in order; "A table with length 0 is not yet populated; a main policy of length 0 is a 5"
unfoldable pub read_entry : List ℕ → ℕ → Result ℕ ℕ
read_entry s zero = read_body (take (body_start s 1) s) (scope_of (fields_of s) (tables_of s) true) (body_start s 0)
read_entry s (suc x) =
    cond (eqb (length_at s (suc x)) 0) (Ok (body_start s (suc x)))
    (read_body (take (body_start s (suc (suc x))) s) (scope_of (fields_of s) (tables_of s) false) (body_start s (suc x)))

unfoldable pub read_entries : List ℕ → ℕ → ℕ → Result ℕ ℕ
read_entries s zero x = Ok (length s)
read_entries s (suc n) x = and_then (read_entry s x) (λ a. read_entries s n (suc x))

-- every entry's masks, populated or not (4)
unfoldable pub masks_right : List ℕ → ℕ → ℕ → Bool
masks_right s zero x = true
masks_right s (suc n) x = masks_fit (fields_of s) (reads_at s x) (writes_at s x) && masks_right s n (suc x)

-- ---- the decoder: what the bytes say, whether they are well formed or not

-- the head of the part at a place: what its code byte and its operands say, by code, and where the parts below it begin
abbrev pub head : List ℕ → ℕ → Head
head s at = record {
  code = get_or s at 0;
  field = get_or s (at + 1) 0;
  value = number_at s (at + 2);
  left = get_or s (at + 1) 0;
  right = get_or s (at + 2) 0;
  table = get_or s (at + 1) 0;
  from = at + 1 + operands_of (get_or s at 0);
}

-- past the end stands nothing, and what would follow begins there too
abbrev pub no_head : ℕ → Head
no_head at = record { code = 0; field = 0; value = 0; left = 0; right = 0; table = 0; from = at }

unfoldable pub head_at : List ℕ → ℕ → Head
head_at s at = cond (ltb at (length s)) (head s at) (no_head at)

-- where the parts below the part at a place begin
abbrev pub below : List ℕ → ℕ → ℕ
below s at = (head s at).from

abbrev pub skip : ℕ → (ℕ → ℕ) → ℕ → ℕ
skip zero f at = at
skip (suc n) f at = skip n f (f at)

-- the place after the part at a place, at most d deep; past the end and below the depth stands nothing
unfoldable pub after : List ℕ → ℕ → ℕ → ℕ
after s zero at = at
after s (suc d) at = cond (ltb at (length s)) (skip (parts_of (get_or s at 0)) (after s d) (below s at)) at

-- the part with a code and the operands of a head, over the parts l and r; an unknown code is id
unfoldable pub built : Head → (ℕ → Part) → ℕ → Part → Part → Part
built h named code l r =
    get_or
    (Id ∷ Drop ∷ Test h.field h.value ∷ Set h.field h.value ∷ Not l ∷ Sum l r ∷ Seq l r ∷ Beside h.left h.right l r
    ∷ named h.table ∷ []) code Id

-- the part at a place, at most d deep, where a use of table x stands for `named x`
unfoldable pub part_at : List ℕ → (ℕ → Part) → ℕ → ℕ → Part
part_at s named zero at = Id
part_at s named (suc d) at =
    let l = part_at s named d (below s at) in
    let r = part_at s named d (after s d (below s at)) in
    built (head s at) named (get_or s at 0) l r

-- the body of table x, and what a use of it stands for
unfoldable pub body_at : List ℕ → ℕ → Option Part
body_at s x = cond (eqb (length_at s x) 0) none (some (part_at s no_use most_depth (body_start s x)))

unfoldable pub use_at : List ℕ → ℕ → Part
use_at s x = use_of x (reads_at s x) (writes_at s x) (body_start s x) (body_at s x)

-- the main policy, with the bodies of the tables that it uses
unfoldable pub main_of : List ℕ → Part
main_of s = part_at s (use_at s) most_depth (body_start s 0)

unfoldable pub tables_from : List ℕ → ℕ → ℕ → List Entry
tables_from s zero x = []
tables_from s (suc n) x = record { reads = reads_at s x; writes = writes_at s x; body = body_at s x } ∷ tables_from s n (suc x)

unfoldable pub policy_of : List ℕ → Policy
policy_of s = record {
  fields = fields_of s;
  reads = reads_at s 0;
  writes = writes_at s 0;
  main = main_of s;
  tables = tables_from s (tables_of s) 1;
}

-- ---- typing (7): "the code byte of the first concurrent part in book order that is not right; if none, the first byte of the
-- first populated body that does not fit"

unfoldable pub wrong_body : ℕ → Option Part → List ℕ
wrong_body at none = []
wrong_body at (some p) = wrongs at p

unfoldable pub misfit : ℕ → Entry → Option Part → List ℕ
misfit at e none = []
misfit at e (some p) = cond (fits e.reads e.writes p) [] (at ∷ [])

-- of these bodies, of which the first starts at a place
unfoldable pub wrongs_in : ℕ → List Entry → List ℕ
wrongs_in at [] = []
wrongs_in at (e ∷ es) = wrong_body at e.body ++ wrongs_in (at + length (bytes_of e.body)) es

unfoldable pub misfits_in : ℕ → List Entry → List ℕ
misfits_in at [] = []
misfits_in at (e ∷ es) = misfit at e e.body ++ misfits_in (at + length (bytes_of e.body)) es

unfoldable pub typing_faults : Policy → List ℕ
typing_faults P =
    wrongs_in (first_body (length P.tables)) (entries P) ++ misfits_in (first_body (length P.tables)) (entries P)

-- ---- the verdict: the numbers 1 to 7 in their order

-- did the reading go through, and where did it stop
abbrev pub goes_on : Result ℕ ℕ → Bool
goes_on (Ok a) = true
goes_on (Err a) = false

abbrev pub stops_at : Result ℕ ℕ → ℕ
stops_at (Ok a) = 0
stops_at (Err a) = a

-- are there no faults, and where is the first
abbrev pub no_fault : List ℕ → Bool
no_fault [] = true
no_fault (at ∷ l) = false

abbrev pub first_of : List ℕ → ℕ
first_of l = get_or l 0 0

-- 1 to 6, the layout, the form and the limits
unfoldable pub form_checks : List ℕ → List Check
form_checks s =
    check (leb 2 (length s)) BookLength
    ∷ check (leb (length s) most_bytes) BookLength
    ∷ check (leb 1 (fields_of s)) Counts
    ∷ check (leb (fields_of s) most_fields) Counts
    ∷ check (leb (tables_of s) most_tables) Counts
    ∷ check (eqb (body_start s (suc (tables_of s))) (length s)) Lengths
    ∷ check (masks_right s (suc (tables_of s)) 0) EntryMasks
    ∷ check_at (goes_on (read_entries s (suc (tables_of s)) 0)) Form (stops_at (read_entries s (suc (tables_of s)) 0))
    ∷ check (leb (parts (main_of s)) most_parts) Limits
    ∷ check (leb (deep (main_of s)) most_beside) Limits
    ∷ []

-- and 7, the typing
unfoldable pub book_checks : List ℕ → List Check
book_checks s =
    form_checks s ++ (check_at (no_fault (typing_faults (policy_of s))) Typing (first_of (typing_faults (policy_of s))) ∷ [])

unfoldable pub sizes_of : List ℕ → Sizes
sizes_of s = record { fields = fields_of s; tables = tables_of s; parts = parts (main_of s); deep = deep (main_of s) }

abbrev pub verdict_by : Option Refusal → Sizes → Result Sizes Refusal
verdict_by none z = Ok z
verdict_by (some r) z = Err r

unfoldable pub verdict : List ℕ → Result Sizes Refusal
verdict s = verdict_by (first_failed (book_checks s)) (sizes_of s)
