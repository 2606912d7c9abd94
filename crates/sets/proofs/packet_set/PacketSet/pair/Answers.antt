-- Where no packet is, zeros are.
use Rattle.sets.proofs.Whole.{is_none}
use Rattle.sets.proofs.packet_set.PacketSet.pair.Goals as goal

pub pairs_into-paired-requires : goal.pairs_into-paired-requires
pairs_into-paired-requires c =
    (is_none c.args.self.now c.requires, c.args.left.now.packed, c.args.right.now.packed)
