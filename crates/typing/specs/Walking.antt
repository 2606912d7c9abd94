-- The one walk: what stands of a body after each part, as one tally that goes through it from left to right.
use Rattle.std.specs.Option.{option_or}
use Rattle.std.specs.Prelude.{ℕ, suc, max, ◌+◌, ◌/◌, ◌%◌, ◌≤◌, ◌<◌, ◌≡◌, eqb, Bool, false, not, cond, List, [], ◌∷◌, length, get_or, set}
use Rattle.std.specs.Prelude.{Option, None, Some, Result, Ok, Err, IfOk}
use Rattle.std.specs.Int.Bits.{bit_or}
use Rattle.rules.specs.Codes.{parts_of}
use Rattle.rules.specs.Parts.{Part, Id, Drop, Test, Set, Not, Sum, Seq, Beside, Table, Open, size, parts, deep}
use Rattle.rules.specs.Typing.{tested, written, right_masks, wrongs}
use Rattle.rules.specs.Books.{Scope, scope_of, most_fields, most_tables, most_bytes, most_depth, first_body}
use Rattle.rules.specs.Reading.{read_body, read_part, part_at, fields_of, tables_of, reads_at, writes_at}
use Rattle.typing.specs.declared.Way.{Way}
use Rattle.typing.specs.declared.Use.{Use}
use Rattle.typing.specs.declared.Notes.{Notes}

-- The place; parts so far; T and M so far; the place of the first concurrent part that is not right; the deepest concurrent nesting
-- so far; and for each table how often it was used and the deepest nesting at a use.
pub record Tally : Type 0 where
  pub at : ℕ
  pub parts : ℕ
  pub tests : ℕ
  pub writes : ℕ
  pub fault : Option ℕ
  pub deep : ℕ
  pub uses : List Use

-- ---- what stands after a part, and the number that holds it: 16 bits for each
pub record State : Type 0 where
  pub at : ℕ
  pub parts : ℕ
  pub tests : ℕ
  pub writes : ℕ

abbrev pub state : ℕ → State
state n = record { at = n % 65536; parts = n / 65536 % 65536; tests = n / 4294967296 % 65536; writes = n / 281474976710656 }

-- an answer in one number: the place of a refusal stands above 0, where a state has its place
abbrev pub unpacked : ℕ → Result ℕ ℕ
unpacked r = cond (eqb (r % 65536) 0) (Err (r / 65536)) (Ok r)

abbrev pub states : Result ℕ ℕ → Result State ℕ
states (Ok n) = Ok (state n)
states (Err a) = Err a

abbrev pub answer : ℕ → Result State ℕ
answer r = states (unpacked r)

abbrev pub tally_of : State → Notes → Tally
tally_of st n = record {
  at = st.at;
  parts = st.parts;
  tests = st.tests;
  writes = st.writes;
  fault = n.fault;
  deep = n.deep;
  uses = n.uses;
}

-- ---- the state: before a body, of which only the place and the parts moved, of which only the masks grew, with no masks, and those
-- of both sides of a concurrent part joined to the one before them
abbrev pub begun : ℕ → State
begun start = record { at = start; parts = 0; tests = 0; writes = 0 }

abbrev pub moved : ℕ → State → State
moved n st = record { at = st.at + 1 + n; parts = st.parts + 1; tests = st.tests; writes = st.writes }

abbrev pub masked : ℕ → ℕ → State → State
masked t w st = record { at = st.at; parts = st.parts; tests = bit_or st.tests t; writes = bit_or st.writes w }

abbrev pub bare : State → State
bare st = record { at = st.at; parts = st.parts; tests = 0; writes = 0 }

abbrev pub joined : ℕ → ℕ → State → State → State → State
joined wp wq st l r = record {
  at = r.at;
  parts = r.parts;
  tests = bit_or st.tests (bit_or l.tests r.tests);
  writes = bit_or st.writes (bit_or wp wq);
}

-- the rule of a concurrent part with masks wp and wq, over two states
abbrev pub right_states : ℕ → ℕ → State → State → Bool
right_states wp wq p q = right_masks wp wq p.tests p.writes q.tests q.writes

-- ---- how a part stands
abbrev pub scope_at : List ℕ → Way → Scope
scope_at s w = scope_of (fields_of s) (tables_of s) (not w.in_table)

abbrev pub body_way : Bool → Way
body_way in_table = record { in_table = in_table; predicate = false; level = 0 }

-- a use of a table by itself, without the table's body
unfoldable pub shut : List ℕ → ℕ → Part
shut s x = Open x (reads_at s x) (writes_at s x)

-- ---- what a part adds
abbrev pub mark : List ℕ → Option ℕ
mark [] = None
mark (a ∷ l) = Some a

abbrev pub unused : Use
unused = record { count = 0; level = 0 }

abbrev pub one_more_use : ℕ → Use → Use
one_more_use o u = record { count = u.count + 1; level = max u.level o }

unfoldable pub note_use : ℕ → ℕ → List Use → List Use
note_use x o l = set l x (one_more_use o (get_or l x unused))

unfoldable pub noted : Part → ℕ → List Use → List Use
noted Id o l = l
noted Drop o l = l
noted (Test f v) o l = l
noted (Set f v) o l = l
noted (Not p) o l = noted p o l
noted (Sum p q) o l = noted q o (noted p o l)
noted (Seq p q) o l = noted q o (noted p o l)
noted (Beside wp wq p q) o l = noted q (o + 1) (noted p (o + 1) l)
noted (Table x r w start p) o l = note_use x o l
noted (Open x r w) o l = note_use x o l

abbrev pub told : Part → ℕ → Tally → Tally
told p o t = record {
  at = t.at + size p;
  parts = t.parts + parts p;
  tests = bit_or t.tests (tested p);
  writes = bit_or t.writes (written p);
  fault = option_or t.fault (mark (wrongs t.at p));
  deep = max t.deep (o + deep p);
  uses = noted p o t.uses;
}

-- ---- the walk: on with a tally, or off at the place of the first byte that cannot stand there
abbrev pub way_of : Result ℕ ℕ → Tally → Result Tally ℕ
way_of (Ok e) t = Ok t
way_of (Err a) t = Err a

abbrev pub and_on : Result Tally ℕ → (Tally → Result Tally ℕ) → Result Tally ℕ
and_on (Ok t) f = f t
and_on (Err a) f = Err a

unfoldable pub walked : List ℕ → Way → ℕ → Tally → Result Tally ℕ
walked s w d t =
    way_of (read_part s (scope_at s w) d w.predicate t.at) (told (part_at s (shut s) d t.at) w.level t)

-- what the code answers, as a tally
abbrev pub tallied : Result State ℕ → Notes → Result Tally ℕ
tallied (Ok st) n = Ok (tally_of st n)
tallied (Err a) n = Err a

-- ---- what a walk may rely on, and what it leaves
pub record Sound (s : List ℕ) : Type 0 where
  pub bytes : (i : ℕ) → get_or s i 0 ≤ 255
  pub fields : fields_of s ≤ most_fields
  pub tables : tables_of s ≤ most_tables
  pub head : first_body (tables_of s) ≤ length s
  pub size : length s ≤ most_bytes

-- below o concurrent parts
pub record Kept (s : List ℕ) (o : ℕ) (t : Tally) : Type 0 where
  pub start : 1 ≤ t.at
  pub within : t.at ≤ length s
  pub parts : t.parts ≤ t.at
  pub few : (x : ℕ) → (get_or t.uses x unused).count ≤ t.at
  pub room : length t.uses ≡ 16
  pub deep : o ≤ t.deep

pub record Asked (s : List ℕ) (n : Notes) (st : State) (d : ℕ) (w : Way) : Type 0 where
  pub sound : Sound s
  pub kept : Kept s w.level (tally_of st n)
  pub level : w.level + d ≤ most_depth

-- the first fault after a concurrent part's sides: its own comes before theirs, and after those before it
abbrev pub fault_after : Option ℕ → Bool → ℕ → Option ℕ → Option ℕ
fault_after None right at below = cond right below (Some at)
fault_after (Some a) right at below = below

-- a concurrent part at hand, and depth below it
pub record BesideAsked (s : List ℕ) (n : Notes) (st : State) (d : ℕ) (w : Way) : Type 0 where
  pub asked : Asked s n st (suc d) w
  pub inside : st.at < length s
  pub code : get_or s st.at 0 ≡ 7
  pub free : w.predicate ≡ false

-- ---- a part with no parts below it, by the reading of its operands
abbrev pub leafed : State → Part → Result ℕ ℕ → Result State ℕ
leafed st p (Ok e) = Ok (record {
  at = st.at + size p;
  parts = st.parts + parts p;
  tests = bit_or st.tests (tested p);
  writes = bit_or st.writes (written p);
})
leafed st p (Err a) = Err a

-- what stands where a code with no parts below it stands
abbrev pub leaf_read : List ℕ → Way → ℕ → Result ℕ ℕ
leaf_read s w at = read_part s (scope_at s w) 1 w.predicate at

abbrev pub leaf_at : List ℕ → ℕ → Part
leaf_at s at = part_at s (shut s) 1 at

pub record LeafAsked (s : List ℕ) (n : Notes) (st : State) (w : Way) : Type 0 where
  pub sound : Sound s
  pub kept : Kept s w.level (tally_of st n)
  pub inside : st.at < length s
  pub leaf : parts_of (get_or s st.at 0) ≡ 0

-- the notes with other uses, and what is noted of a part
abbrev pub noting : Notes → List Use → Notes
noting n u = record { fault = n.fault; deep = n.deep; uses = u }

abbrev pub Noted : ℕ → Part → Result State ℕ → Notes → Notes → Type 0
Noted o p r n after = IfOk r (λ _. after ≡ noting n (noted p o n.uses))

-- ---- a whole body: exactly one part, which ends where s ends
unfoldable pub Body : List ℕ → Bool → ℕ → Tally → Result State ℕ → Notes → Type 0
Body s in_table start t (Ok st) n =
    (read_body s (scope_at s (body_way in_table)) start ≡ Ok (length s))
    × (tally_of st n ≡ told (part_at s (shut s) most_depth start) 0 t)
    × Kept s 0 (tally_of st n)
Body s in_table start t (Err a) n = read_body s (scope_at s (body_way in_table)) start ≡ Err a
