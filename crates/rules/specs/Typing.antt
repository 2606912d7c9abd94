-- T and M of a part, right concurrent parts, and bodies that fit (document 01, "Typing").
use Rattle.std.specs.Prelude.{ℕ, ◌+◌, ◌≡◌, Bool, true, ◌&&◌, cond, List, [], ◌∷◌, ◌++◌}
use Rattle.std.specs.Int.Bits.{bit_or}
use Rattle.rules.specs.Masks.{field, apart, within}
use Rattle.rules.specs.Parts.{Part, Id, Drop, Test, Set, Not, Sum, Seq, Beside, Table, Open, size}

-- T, fields tested
unfoldable pub tested : Part → ℕ
tested Id = 0
tested Drop = 0
tested (Test f v) = field f
tested (Set f v) = 0
tested (Not p) = tested p
tested (Sum p q) = bit_or (tested p) (tested q)
tested (Seq p q) = bit_or (tested p) (tested q)
tested (Beside wp wq p q) = bit_or (tested p) (tested q)
tested (Table x r w start p) = bit_or r w
tested (Open x r w) = bit_or r w

-- M, fields that may be written
unfoldable pub written : Part → ℕ
written Id = 0
written Drop = 0
written (Test f v) = 0
written (Set f v) = field f
written (Not p) = written p
written (Sum p q) = bit_or (written p) (written q)
written (Seq p q) = bit_or (written p) (written q)
written (Beside wp wq p q) = bit_or wp wq
written (Table x r w start p) = w
written (Open x r w) = w

-- "It is right if M(p) lies in Wp, M(q) in Wq, and Wp and Wq, T(p) and Wq, T(q) and Wp have no field in common"
unfoldable pub right_masks : (wp wq tp mp tq mq : ℕ) → Bool
right_masks wp wq tp mp tq mq = within mp wp && (within mq wq && (apart wp wq && (apart tp wq && apart tq wp)))

abbrev pub right_beside : ℕ → ℕ → Part → Part → Bool
right_beside wp wq p q = right_masks wp wq (tested p) (written p) (tested q) (written q)

-- "A body fits (R, W) if T lies in R and W together and M lies in W"
unfoldable pub fit_masks : (r w t m : ℕ) → Bool
fit_masks r w t m = within t (bit_or r w) && within m w

abbrev pub fits : ℕ → ℕ → Part → Bool
fits r w p = fit_masks r w (tested p) (written p)

-- every concurrent part is right, and the bodies of the tables used are right and fit
abbrev pub Right : Part → Type 0
Right Id = Unit {0}
Right Drop = Unit {0}
Right (Test f v) = Unit {0}
Right (Set f v) = Unit {0}
Right (Not p) = Right p
Right (Sum p q) = Right p × Right q
Right (Seq p q) = Right p × Right q
Right (Beside wp wq p q) = (right_beside wp wq p q ≡ true) × Right p × Right q
Right (Table x r w start p) = (fits r w p ≡ true) × Right p
Right (Open x r w) = Unit {0}

-- the code bytes of the concurrent parts of a body that are not right, in book order; the part's own code byte is at a place
-- (the bodies of the tables used are bodies of their own)
unfoldable pub wrongs : ℕ → Part → List ℕ
wrongs at Id = []
wrongs at Drop = []
wrongs at (Test f v) = []
wrongs at (Set f v) = []
wrongs at (Not p) = wrongs (at + 1) p
wrongs at (Sum p q) = wrongs (at + 1) p ++ wrongs (at + 1 + size p) q
wrongs at (Seq p q) = wrongs (at + 1) p ++ wrongs (at + 1 + size p) q
wrongs at (Beside wp wq p q) = cond (right_beside wp wq p q) [] (at ∷ []) ++ (wrongs (at + 3) p ++ wrongs (at + 3 + size p) q)
wrongs at (Table x r w start p) = []
wrongs at (Open x r w) = []
