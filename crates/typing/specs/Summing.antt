-- The verdict from the walks: what stands of a book after the bodies of its entries below y.
use Rattle.std.specs.Option.{option_or}
use Rattle.std.specs.Prelude.{ℕ, zero, suc, max, ◌+◌, ◌*◌, ◌-◌, ◌≤◌, ◌<◌, ◌≡◌, true, cond, List, eqb, length, get_or}
use Rattle.std.specs.Prelude.{Option, None, Result, Ok, Err}
use Rattle.std.proofs.Math.Option as math
use Rattle.rules.specs.Parts.{Part, parts, deep}
use Rattle.rules.specs.Books.{most_fields, most_tables, most_bytes, first_body, entries}
use Rattle.rules.specs.Reading.{fields_of, tables_of, body_start, masks_right, read_entries, body_at, main_of, tables_from, policy_of}
use Rattle.rules.specs.Reading.{wrongs_in, misfits_in}
use Rattle.typing.specs.declared.Sums.{Sums}
use Rattle.typing.specs.declared.Use.{Use}
use Rattle.typing.specs.declared.Notes.{Notes}
use Rattle.typing.specs.Walking.{mark, unused}

-- ---- n and D over the tables below n

-- what a use of a table adds: the parts and the depth of its body, if it has one
abbrev pub body_parts : math.Option Part → ℕ
body_parts math.none = 0
body_parts (math.some p) = parts p

abbrev pub body_deep : math.Option Part → ℕ
body_deep math.none = 0
body_deep (math.some p) = deep p

-- the counts, each times what a use of it adds
unfoldable pub total : (ℕ → ℕ) → List Use → ℕ → ℕ
total e l zero = 0
total e l (suc n) = total e l n + (get_or l n unused).count * e n

-- how deep a use of table x goes, if there is one
abbrev pub reach : (ℕ → ℕ) → List Use → ℕ → ℕ
reach e l x = let u = get_or l x unused in cond (eqb u.count 0) 0 (u.level + e x)

unfoldable pub top : (ℕ → ℕ) → List Use → ℕ → ℕ
top e l zero = 0
top e l (suc n) = max (top e l n) (reach e l n)

abbrev pub total_of : List ℕ → List Use → ℕ → ℕ
total_of s uses y = total (λ x. body_parts (body_at s x)) uses y

abbrev pub top_of : List ℕ → List Use → ℕ → ℕ
top_of s uses y = top (λ x. body_deep (body_at s x)) uses y

-- ---- the place of the first fault: of the whole book, and of the entries from y on

unfoldable pub wrongs_of : List ℕ → Option ℕ
wrongs_of s = mark (wrongs_in (first_body (length (policy_of s).tables)) (entries (policy_of s)))

unfoldable pub misfits_of : List ℕ → Option ℕ
misfits_of s = mark (misfits_in (first_body (length (policy_of s).tables)) (entries (policy_of s)))

unfoldable pub wrongs_from : List ℕ → ℕ → Option ℕ
wrongs_from s y = mark (wrongs_in (body_start s y) (tables_from s (suc (tables_of s) - y) y))

unfoldable pub misfits_from : List ℕ → ℕ → Option ℕ
misfits_from s y = mark (misfits_in (body_start s y) (tables_from s (suc (tables_of s) - y) y))

-- ---- what the bodies may rely on, and what stands after those below y

-- the tests 1 to 4
pub record Fronted (s : List ℕ) : Type 0 where
  pub bytes : (i : ℕ) → get_or s i 0 < 256
  pub long : (2 ≤ length s) × (length s ≤ most_bytes)
  pub fields : (1 ≤ fields_of s) × (fields_of s ≤ most_fields)
  pub tables : tables_of s ≤ most_tables
  pub lengths : body_start s (suc (tables_of s)) ≡ length s
  pub masks : masks_right s (suc (tables_of s)) 0 ≡ true

pub record Cleared (n : Notes) : Type 0 where
  pub right : n.fault ≡ None
  pub flat : n.deep ≡ 0
  pub clean : (x : ℕ) → get_or n.uses x unused ≡ unused
  pub room : length n.uses ≡ 16

pub record So (s : List ℕ) (y : ℕ) (z : Sums) (n : Notes) : Type 0 where
  pub own : ℕ
  pub own_deep : ℕ
  pub place : z.at ≡ body_start s y
  pub room : length n.uses ≡ 16
  pub few : (x : ℕ) → (get_or n.uses x unused).count ≤ z.at
  pub form : read_entries s (suc (tables_of s)) 0 ≡ read_entries s (suc (tables_of s) - y) y
  pub small : z.parts ≤ 4294967296 * y
  pub levels : (x : ℕ) → x < 16 → (get_or n.uses x unused).level ≤ own_deep
  pub count : z.parts ≡ own + total_of s n.uses y
  pub down : z.deep ≡ max own_deep (top_of s n.uses y)
  pub all : parts (main_of s) ≡ own + total_of s n.uses (suc (tables_of s))
  pub deepest : deep (main_of s) ≡ max own_deep (top_of s n.uses (suc (tables_of s)))
  pub fault : option_or n.fault (wrongs_from s y) ≡ wrongs_of s
  pub unfit : option_or z.unfit (misfits_from s y) ≡ misfits_of s

unfoldable pub Turned : List ℕ → ℕ → Result Sums ℕ → Notes → Type 0
Turned s y (Ok z) n = So s (suc y) z n
Turned s y (Err a) n = read_entries s (suc (tables_of s)) 0 ≡ Err a

-- all bodies are read: n, D, the first wrong concurrent part and the first body that does not fit
pub record Ends (s : List ℕ) (z : Sums) (fault : Option ℕ) : Type 0 where
  pub form : read_entries s (suc (tables_of s)) 0 ≡ Ok (length s)
  pub count : parts (main_of s) ≡ z.parts
  pub down : deep (main_of s) ≡ z.deep
  pub wrong : wrongs_of s ≡ fault
  pub unfit : misfits_of s ≡ z.unfit

unfoldable pub Ended : List ℕ → Result Sums ℕ → Notes → Type 0
Ended s (Ok z) n = Ends s z n.fault
Ended s (Err a) n = read_entries s (suc (tables_of s)) 0 ≡ Err a
