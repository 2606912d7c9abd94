-- The book that the machine runs: which part stands at a place, and that the parts below it stand too.
use Rattle.std.specs.Prelude.{ℕ, ◌≤◌, ◌<◌, ◌≡◌, Bool, false, List, ◌++◌, length, drop, get_or}
use Rattle.std.proofs.Math.Option.{some}
use Rattle.rules.specs.Parts.{Part, write, names_open}
use Rattle.rules.specs.Books.{most_fields, most_bytes, most_depth, scope_of, Fine}
use Rattle.rules.specs.Codes.{parts_of}
use Rattle.rules.specs.Reading.{fields_of, tables_of, body_start, head, below, skip, after, part_at, body_at, use_at}
use Rattle.area.specs.declared.headers.Phase.{Phase}
use Rattle.area.specs.declared.headers.Phase.TheVariants.{Split, Paired}
use Rattle.rules.specs.States.{Join, entered, split, paired}

-- the part whose code byte is at a place
unfoldable pub part_of : List ℕ → ℕ → Part
part_of s at = part_at s (use_at s) most_depth at

-- how the two finished positions below become one, by the phase of the one above
unfoldable pub join_of : List ℕ → Phase → ℕ → Join
join_of s Split at = split
join_of s Paired at = paired (head s at).left (head s at).right
join_of s _ at = entered

-- the part at a place is well formed, written there, and names no unpopulated table
pub record Runnable (s : List ℕ) (at : ℕ) : Type 0 where
  pub main : Bool
  pub pred : Bool
  pub rest : List ℕ
  pub fine : Fine (scope_of (fields_of s) (tables_of s) main) (use_at s) most_depth pred (part_of s at)
  pub written : drop at s ≡ write (part_of s at) ++ rest
  pub closed : names_open (part_of s at) ≡ false

-- a book within its limits, each populated table's body standing where it starts
pub record Readable (s : List ℕ) : Type 0 where
  pub fields : fields_of s ≤ most_fields
  pub short : length s ≤ most_bytes
  pub bodies : (x : ℕ) (p : Part) → 0 < x → x ≤ tables_of s → body_at s x ≡ some p
      → (part_of s (body_start s x) ≡ p) × Runnable s (body_start s x)

-- ---- a table of the places where parts end

-- the place after the part at a place, where m has those of the parts below it
unfoldable pub end_by : List ℕ → List ℕ → ℕ → ℕ
end_by s m at = skip (parts_of (get_or s at 0)) (λ q. get_or m q 0) (below s at)

-- m has the place after each part that stands in the book, at the part's own place
pub record Marked (s m : List ℕ) : Type 0 where
  pub ends : (at : ℕ) → Runnable s at → get_or m at 0 ≡ after s most_depth at
