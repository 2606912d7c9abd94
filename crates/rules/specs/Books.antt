-- The policy book as it is written, and which policies a book may hold (document 01, "The policy book" and "Typing").
use Rattle.std.specs.Prelude.{ℕ, zero, suc, ◌+◌, ◌*◌, ◌/◌, ◌%◌, ◌^◌, ◌≤◌, ◌<◌, ◌≡◌, Bool, true, false, ◌&&◌, List, [], ◌∷◌, ◌++◌, length, get_or}
use Rattle.std.proofs.Math.Option.{Option, none, some}
use Rattle.rules.specs.Masks.{in_fields, apart}
use Rattle.rules.specs.Parts.{Part, Id, Drop, Test, Set, Not, Sum, Seq, Beside, Table, Open, write, parts, deep}
use Rattle.rules.specs.Typing.{Right, fits}

-- ---- the limits

abbrev pub most_fields : ℕ
most_fields = 8

abbrev pub most_tables : ℕ
most_tables = 15

abbrev pub most_bytes : ℕ
most_bytes = 4096

abbrev pub most_depth : ℕ
most_depth = 32

abbrev pub most_parts : ℕ
most_parts = 1023

abbrev pub most_beside : ℕ
most_beside = 4

-- every number of s is a byte
abbrev pub Bytes : List ℕ → Type 0
Bytes s = (i : ℕ) → get_or s i 0 < 256

-- ---- a policy with its tables, and the book that it is written as

-- a table's declared masks, and its body if it is populated
pub record Entry : Type 0 where
  pub reads : ℕ
  pub writes : ℕ
  pub body : Option Part

-- k, the main policy's masks R and W, the main policy, the tables 1 to m
pub record Policy : Type 0 where
  pub fields : ℕ
  pub reads : ℕ
  pub writes : ℕ
  pub main : Part
  pub tables : List Entry

-- "Entry 0 is the main policy, entry x is table x"
unfoldable pub entries : Policy → List Entry
entries P = record { reads = P.reads; writes = P.writes; body = some P.main } ∷ P.tables

unfoldable pub bytes_of : Option Part → List ℕ
bytes_of none = []
bytes_of (some p) = write p

-- "entries of four bytes: body length (two bytes), readable mask R, writable mask W"
unfoldable pub contents : List Entry → List ℕ
contents [] = []
contents (e ∷ es) =
    length (bytes_of e.body) / 256 ∷ length (bytes_of e.body) % 256 ∷ e.reads ∷ e.writes ∷ contents es

-- "The bodies, in entry order, with no gap and nothing after"
unfoldable pub bodies : List Entry → List ℕ
bodies [] = []
bodies (e ∷ es) = bytes_of e.body ++ bodies es

unfoldable pub write_book : Policy → List ℕ
write_book P = P.fields ∷ length P.tables ∷ (contents (entries P) ++ bodies (entries P))

-- where the bodies begin, with m tables, and where body x of these begins, if the first begins at a place
abbrev pub first_body : ℕ → ℕ
first_body m = 6 + 4 * m

unfoldable pub start_in : ℕ → List Entry → ℕ → ℕ
start_in at [] x = at
start_in at (e ∷ es) zero = at
start_in at (e ∷ es) (suc x) = start_in (at + length (bytes_of e.body)) es x

-- what a use of table x stands for
abbrev pub use_of : ℕ → ℕ → ℕ → ℕ → Option Part → Part
use_of x r w start none = Open x r w
use_of x r w start (some p) = Table x r w start p

abbrev pub no_entry : Entry
no_entry = record { reads = 0; writes = 0; body = none }

unfoldable pub table_of : Policy → ℕ → Part
table_of P x =
    let e = get_or (entries P) x no_entry in
    use_of x e.reads e.writes (start_in (first_body (length P.tables)) (entries P) x) e.body

-- ---- well-formed bodies

-- what a body may name: fields below k, tables 1 to m, and whether code 8 may stand at all ("only in the main body")
pub record Scope : Type 0 where
  pub fields : ℕ
  pub tables : ℕ
  pub main : Bool

-- a part at most d deep, of the scope c, where a use of table x stands for `named x`; a predicate if `pred` says so
unfoldable pub Fine : Scope → (ℕ → Part) → ℕ → Bool → Part → Type 0
Fine c named zero pred p = ⊥
Fine c named (suc d) pred Id = Unit {0}
Fine c named (suc d) pred Drop = Unit {0}
Fine c named (suc d) pred (Test f v) = (f < c.fields) × (v < 65536)
Fine c named (suc d) pred (Set f v) = (pred ≡ false) × (f < c.fields) × (v < 65536)
Fine c named (suc d) pred (Not p) = Fine c named d true p
Fine c named (suc d) pred (Sum p q) = Fine c named d pred p × Fine c named d pred q
Fine c named (suc d) pred (Seq p q) = Fine c named d pred p × Fine c named d pred q
Fine c named (suc d) pred (Beside wp wq p q) =
    (pred ≡ false) × (wp < 2 ^ c.fields) × (wq < 2 ^ c.fields) × Fine c named d pred p × Fine c named d pred q
Fine c named (suc d) pred (Table x r w start p) =
    (pred ≡ false) × (c.main ≡ true) × (0 < x) × (x ≤ c.tables) × (named x ≡ Table x r w start p)
Fine c named (suc d) pred (Open x r w) =
    (pred ≡ false) × (c.main ≡ true) × (0 < x) × (x ≤ c.tables) × (named x ≡ Open x r w)

abbrev pub scope_of : ℕ → ℕ → Bool → Scope
scope_of k m main = record { fields = k; tables = m; main = main }

-- in a table's body no table may stand
abbrev pub no_use : ℕ → Part
no_use x = Id

-- "R and W of an entry have no common field and no bit at k or above"
unfoldable pub masks_fit : ℕ → ℕ → ℕ → Bool
masks_fit k r w = apart r w && (in_fields k r && in_fields k w)

-- what holds of each entry that has a body
abbrev pub OfBody : (Part → Type 0) → Option Part → Type 0
OfBody C none = Unit {0}
OfBody C (some p) = C p

abbrev pub OfEach : (Entry → Type 0) → List Entry → Type 0
OfEach C [] = Unit {0}
OfEach C (e ∷ es) = C e × OfEach C es

-- the layout and its limits
pub record WellFormed (P : Policy) : Type 0 where
  pub fields : (1 ≤ P.fields) × (P.fields ≤ most_fields)
  pub tables : length P.tables ≤ most_tables
  pub bytes : length (write_book P) ≤ most_bytes
  pub masks : OfEach (λ e. masks_fit P.fields e.reads e.writes ≡ true) (entries P)
  pub main : Fine (scope_of P.fields (length P.tables) true) (table_of P) most_depth false P.main
  pub bodies : OfEach (λ e. OfBody (Fine (scope_of P.fields (length P.tables) false) no_use most_depth false) e.body) P.tables

pub record Limited (P : Policy) : Type 0 where
  pub parts : parts P.main ≤ most_parts
  pub deep : deep P.main ≤ most_beside

-- every body is right and fits its entry's masks
abbrev pub Typed : Policy → Type 0
Typed P = OfEach (λ e. OfBody (λ p. Right p × (fits e.reads e.writes p ≡ true)) e.body) (entries P)

pub record Book (P : Policy) : Type 0 where
  pub formed : WellFormed P
  pub limited : Limited P
  pub typed : Typed P
