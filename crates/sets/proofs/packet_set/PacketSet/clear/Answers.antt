-- Zeros for the rows of the packets.
use Rattle.rows.proofs.Clearing.{cleared_all}
use Rattle.sets.proofs.packet_set.PacketSet.clear.Goals as goal

pub invariant_of-self : goal.invariant_of-self
invariant_of-self c =
    let was = c.args.self.now.packed in
    record { packed = (cleared_all c.clear_rows.ensures was.room was.zeros).packed }
