-- The published meaning (document 01, "Meaning"; document 001, Lemma 3 and Lemma 5): `Gives p a b` says that b is in ⟦p⟧ a.
use Rattle.std.specs.Prelude.{ℕ, ◌≡◌, true, ◌⊎◌}
use Rattle.rules.specs.Packets.{Packet, Packets, ◌∈◌, passes, put, mix, without}
use Rattle.rules.specs.Parts.{Part, Id, Drop, Test, Set, Not, Sum, Seq, Beside, Table, Open}

abbrev pub Gives : Part → Packet → Packet → Type 0
Gives Id a b = b ≡ a
Gives Drop a b = ⊥
Gives (Test f v) a b = (passes f v a ≡ true) × (b ≡ a)
Gives (Set f v) a b = b ≡ put f v a
Gives (Not p) a b = (b ≡ a) × ((c : Packet) → Gives p a c → ⊥)
Gives (Sum p q) a b = Gives p a b ⊎ Gives q a b
Gives (Seq p q) a b = (c : Packet) × Gives p a c × Gives q c b
Gives (Beside wp wq p q) a b = (c : Packet) × Gives p a c × Gives q c b
Gives (Table x r w start p) a b = Gives p a b
Gives (Open x r w) a b = ⊥

-- "The meaning on a set is the union over its packets"
abbrev pub Among : Part → Packets → Packet → Type 0
Among p s b = (a : Packet) × (a ∈ s) × Gives p a b

-- what the two sides of a concurrent part give of one packet by themselves, put together: b is a pairing of a packet that p gives of a
-- without the fields wq and one that q gives of a without wp
abbrev pub Paired : ℕ → ℕ → Part → Part → Packet → Packet → Type 0
Paired wp wq p q a b = (x : Packet) × (y : Packet) × Gives p (without wq a) x × Gives q (without wp a) y × (b ≡ mix wq x y)
