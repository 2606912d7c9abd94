-- No packet, and zeros.
use Rattle.sets.proofs.Whole.{none_held}
use Rattle.sets.proofs.packet_set.PacketSet.empty.Goals as goal

pub invariant_of-result : goal.invariant_of-result
invariant_of-result c = record { packed = none_held.packed }
