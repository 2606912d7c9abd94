-- Masks: a number whose bit f stands for field f (document 01, "Packets and sets").
use Rattle.std.specs.Prelude.{ℕ, ◌-◌, ◌/◌, ◌%◌, ◌^◌, ◌≡◌, Bool, true, eqb, ltb}
use Rattle.std.specs.Int.Bits.{bit_and, bit_or, bit_xor}

-- field f is in the mask m
unfoldable pub has : ℕ → ℕ → Bool
has m f = eqb (m / 2 ^ f % 2) 1

-- b has every field of a
abbrev pub Sub : ℕ → ℕ → Type 0
Sub a b = (f : ℕ) → has a f ≡ true → has b f ≡ true

-- the mask of one field, and of the fields 0 to k - 1
abbrev pub field : ℕ → ℕ
field f = 2 ^ f

abbrev pub all_fields : ℕ → ℕ
all_fields k = 2 ^ k - 1

-- no bit at k or above
abbrev pub in_fields : ℕ → ℕ → Bool
in_fields k m = ltb m (2 ^ k)

-- no field in common
unfoldable pub apart : ℕ → ℕ → Bool
apart a b = eqb (bit_and a b) 0

-- every field of a is in b
unfoldable pub within : ℕ → ℕ → Bool
within a b = eqb (bit_or a b) b

-- the fields of a that are not in b
unfoldable pub less : ℕ → ℕ → ℕ
less a b = bit_xor (bit_or a b) b
