-- An array of sixteen rows, r values each, as the list of its rows. Only this file and `Arrays` name a place of an array.
use Rattle.std.specs.Prelude.{ℕ, zero, suc, ◌*◌, ◌-◌, ◌%◌, ◌≤◌, ◌<◌, ◌≡◌, List, [], ◌∷◌, ◌++◌, length, take, drop, set, replicate, Option, Some, None}
use Rattle.rules.specs.Packets.{Packet, Packets, most_packets, Ascending}

-- the first n rows of r values
unfoldable pub chunks : ℕ → ℕ → List ℕ → Packets
chunks r zero v = []
chunks r (suc n) v = take r v ∷ chunks r n (drop r v)

-- the sixteen rows of an array
abbrev pub rows_of : ℕ → List ℕ → Packets
rows_of r v = chunks r most_packets v

-- the row of zeros
abbrev pub blank : ℕ → Packet
blank r = replicate r 0

-- the most values of a row, in wide books
abbrev pub widest : ℕ
widest = 16

-- an array of sixteen rows of r values; narrow books have r 8, wide ones r 16
pub record Array (r : ℕ) (v : List ℕ) : Type 0 where
  pub least : 8 ≤ r
  pub most : r ≤ widest
  pub fours : r % 4 ≡ 0
  pub size : length v ≡ most_packets * r

-- an array of n packets, ascending, and zeros after them: the one `requires` of the operations
pub record Packed (r : ℕ) (v : List ℕ) (n : ℕ) : Type 0 where
  pub array : Array r v
  pub room : n ≤ most_packets
  pub zeros : drop n (rows_of r v) ≡ replicate (most_packets - n) (blank r)
  pub order : Ascending (take n (rows_of r v))

-- v is the array of the n packets s
pub record Held (r : ℕ) (v : List ℕ) (n : ℕ) (s : Packets) : Type 0 where
  pub packed : Packed r v n
  pub same : take n (rows_of r v) ≡ s

-- v is the array of the packets s, so many; or, where they are more than 16, there is no count, and v is empty
abbrev pub Fits : ℕ → List ℕ → Option ℕ → Packets → Type 0
Fits r v (Some n) s = Held r v n s
Fits r v None s = (most_packets < length s) × Held r v 0 []

-- w is the array of w₀ with x for row k
pub record Stored (r : ℕ) (w w₀ : List ℕ) (k : ℕ) (x : Packet) : Type 0 where
  pub array : Array r w
  pub rows : rows_of r w ≡ set (rows_of r w₀) k x

-- w is the array of w₀ with the first n rows of v in front
pub record Copied (r : ℕ) (w w₀ v : List ℕ) (n : ℕ) : Type 0 where
  pub array : Array r w
  pub rows : rows_of r w ≡ take n (rows_of r v) ++ drop n (rows_of r w₀)

-- w is the array of w₀ with zeros for rows k to n - 1
pub record Cleared (r : ℕ) (w w₀ : List ℕ) (k n : ℕ) : Type 0 where
  pub array : Array r w
  pub rows : rows_of r w ≡ take k (rows_of r w₀) ++ (replicate (n - k) (blank r) ++ drop n (rows_of r w₀))
