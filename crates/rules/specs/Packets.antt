-- Packets, their order, and sets of packets (document 01, "Packets and sets").
use Rattle.std.specs.Prelude.{ℕ, suc, ◌-◌, ◌≡◌, Bool, true, false, not, cond, ◌||◌, ◌⊎◌, List, [], ◌∷◌, ◌++◌, map, ltb, eqb, length, get_or, set, take, replicate}
use Rattle.std.specs.declared.cmp.Ordering.{Ordering}
use Rattle.std.specs.declared.cmp.Ordering.TheVariants.{Less, Equal, Greater}
use Rattle.rules.specs.Masks.{has}

-- a value for each field, field 0 first; a field that a position lacks holds 0
abbrev pub Packet : Type 0
Packet = List ℕ

-- the places of a packet inside the layers: those from k on hold 0
abbrev pub places : ℕ
places = 8

-- the most packets that a set has
abbrev pub most_packets : ℕ
most_packets = 16

unfoldable pub padded : Packet → Packet
padded a = a ++ replicate (places - length a) 0

-- "test field = value" passes, and "set field to value" gives
unfoldable pub passes : ℕ → ℕ → Packet → Bool
passes f v a = eqb (get_or a f 0) v

unfoldable pub put : ℕ → ℕ → Packet → Packet
put f v a = set a f v

-- a's fields, but those of the mask w from z
abbrev pub mix_from : ℕ → ℕ → Packet → Packet → Packet
mix_from w i [] z = []
mix_from w i (x ∷ a) z = cond (has w i) (get_or z i 0) x ∷ mix_from w (suc i) a z

unfoldable pub mix : ℕ → Packet → Packet → Packet
mix w a z = mix_from w 0 a z

-- a without the fields of w
abbrev pub without : ℕ → Packet → Packet
without w a = mix w a []

-- "compared by field 0 first, then field 1, and so on"
abbrev pub order_by : Bool → Bool → Ordering → Ordering
order_by true b o = Less
order_by false true o = Greater
order_by false false o = o

unfoldable pub order_of : Packet → Packet → Ordering
order_of [] [] = Equal
order_of [] (y ∷ b) = Less
order_of (x ∷ a) [] = Greater
order_of (x ∷ a) (y ∷ b) = order_by (ltb x y) (ltb y x) (order_of a b)

abbrev pub Before : Packet → Packet → Type 0
Before a b = order_of a b ≡ Less

-- a set is a list of packets; in the sets of the rules they ascend, so no two are equal
abbrev pub Packets : Type 0
Packets = List Packet

abbrev pub AllAfter : Packet → Packets → Type 0
AllAfter a [] = Unit {0}
AllAfter a (x ∷ s) = Before a x × AllAfter a s

abbrev pub Ascending : Packets → Type 0
Ascending [] = Unit {0}
Ascending (x ∷ s) = AllAfter x s × Ascending s

infix 40 ◌∈◌
abbrev pub ◌∈◌ : Packet → Packets → Type 0
b ∈ [] = ⊥
b ∈ (x ∷ s) = (b ≡ x) ⊎ (b ∈ s)

-- the set with x in its place, once; r is x put in after y
abbrev pub put_by : Ordering → Packet → Packet → Packets → Packets → Packets
put_by Less x y s r = x ∷ y ∷ s
put_by Equal x y s r = y ∷ s
put_by Greater x y s r = y ∷ r

unfoldable pub insert : Packet → Packets → Packets
insert x [] = x ∷ []
insert x (y ∷ s) = put_by (order_of x y) x y s (insert x s)

-- s with each of t in its place
unfoldable pub union : Packets → Packets → Packets
union s [] = s
union s (x ∷ t) = union (insert x s) t

abbrev pub cons_if : Bool → Packet → Packets → Packets
cons_if true x s = x ∷ s
cons_if false x s = s

-- the packets that pass
unfoldable pub keep : (Packet → Bool) → Packets → Packets
keep t [] = []
keep t (x ∷ s) = cons_if (t x) x (keep t s)

abbrev pub is_same : Ordering → Bool
is_same Less = false
is_same Equal = true
is_same Greater = false

unfoldable pub member : Packet → Packets → Bool
member b [] = false
member b (x ∷ s) = is_same (order_of b x) || member b s

abbrev pub lacks : Packets → Packet → Bool
lacks s b = not (member b s)

-- the set of a list of packets: what becomes equal is one
abbrev pub gathered : Packets → Packets
gathered s = union [] s

-- r, and every pairing of a packet of s and one of t: the fields w from t's, all others from s's
unfoldable pub pairs_into : ℕ → Packets → Packets → Packets → Packets
pairs_into w r [] t = r
pairs_into w r (x ∷ s) t = pairs_into w (union r (map (mix w x) t)) s t

abbrev pub pairs : ℕ → Packets → Packets → Packets
pairs w s t = pairs_into w [] s t

-- the first k values of each packet, one packet after the other: what a result buffer is given
unfoldable pub values_of : ℕ → Packets → List ℕ
values_of k [] = []
values_of k (x ∷ s) = take k x ++ values_of k s
