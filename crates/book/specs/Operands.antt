-- What the code says of a part's operands: places instead of the numbers of the rules.
use Rattle.std.specs.Prelude.{ℕ, ◌+◌, ◌≤◌, ◌≡◌, List, length, Option, None, Some, Err, Ok, Result}
use Rattle.std.proofs.Math.Option as math

-- the place of the operand of that number behind the code byte at a place
unfoldable pub WrongPlace : List ℕ → ℕ → math.Option ℕ → Option ℕ → Type 0
WrongPlace s at math.none r = r ≡ None
WrongPlace s at (math.some i) r = (r ≡ Some (at + 1 + i)) × (at + 1 + i ≤ length s)

-- a reading ends or stops within n bytes
unfoldable pub Within : ℕ → Result ℕ ℕ → Type 0
Within n (Ok e) = e ≤ n
Within n (Err a) = a ≤ n
