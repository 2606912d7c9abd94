-- Of a state: the set that it ends with, the steps that it has to go, the positions and the packets that it can still come to hold.
use Prim.Native.Nat.{ℕ, ◌+◌, max}
use lib.ListN.{length}
use Rattle.rules.specs.Packets.{Packets, keep, lacks}
use Rattle.rules.specs.Parts.{Part, Id, Drop, Test, Set, Not, Sum, Seq, Beside, Table, Open}
use Rattle.rules.specs.Working.{out, steps, room, width}
use Rattle.rules.specs.States.{Tree, placed, done, waiting, negated, both, join}

unfoldable pub final : Tree → Packets
final (placed o p s) = out p s
final (done s) = s
final (waiting t o q) = out q (final t)
final (negated k t) = keep (lacks (final t)) k
final (both j t u) = join j (final t) (final u)

-- one step more for the two placed parts that no run has
unfoldable pub extra : Part → ℕ
extra Id = 1
extra Drop = 0
extra (Test f v) = 0
extra (Set f v) = 0
extra (Not p) = 0
extra (Sum p q) = 0
extra (Seq p q) = 1
extra (Beside wp wq p q) = 0
extra (Table x r w start p) = 0
extra (Open x r w) = 0

-- the steps to go
unfoldable pub rest : Tree → ℕ
rest (placed o p s) = extra p + steps p s
rest (done s) = 0
rest (waiting t o q) = rest t + steps q (final t) + 1
rest (negated k t) = rest t + 1
rest (both j t u) = rest t + rest u + 1

-- the room to come: the most positions that the state can still come to have live
unfoldable pub peak : Tree → ℕ
peak (placed o p s) = room p s
peak (done s) = 1
peak (waiting t o q) = max (1 + peak t) (room q (final t))
peak (negated k t) = 1 + peak t
peak (both j t u) = 1 + (peak t + peak u)

-- the largest set that the state can still come to hold
unfoldable pub broad : Tree → ℕ
broad (placed o p s) = width p s
broad (done s) = length s
broad (waiting t o q) = max (broad t) (width q (final t))
broad (negated k t) = max (length k) (broad t)
broad (both j t u) = max (max (broad t) (broad u)) (length (join j (final t) (final u)))
