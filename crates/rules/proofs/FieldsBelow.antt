-- Every field that a part tests or sets lies below k, in the bodies of the tables used too.
use Prim.Native.Nat.{ℕ, ◌<◌}
use Rattle.rules.specs.Parts.{Part, Id, Drop, Test, Set, Not, Sum, Seq, Beside, Table, Open}

abbrev pub FieldsBelow : ℕ → Part → Type 0
FieldsBelow k Id = Unit {0}
FieldsBelow k Drop = Unit {0}
FieldsBelow k (Test f v) = f < k
FieldsBelow k (Set f v) = f < k
FieldsBelow k (Not p) = FieldsBelow k p
FieldsBelow k (Sum p q) = FieldsBelow k p × FieldsBelow k q
FieldsBelow k (Seq p q) = FieldsBelow k p × FieldsBelow k q
FieldsBelow k (Beside wp wq p q) = FieldsBelow k p × FieldsBelow k q
FieldsBelow k (Table x r w start p) = FieldsBelow k p
FieldsBelow k (Open x r w) = Unit {0}
