-- A packet set by value, as the packets and the fields that it has.
use Rattle.std.specs.Prelude.{ℕ, ◌≡◌, take}
use Rattle.rules.specs.Packets.{Packets, places}
use Rattle.rows.specs.Chunks.{rows_of}
use Rattle.sets.specs.declared.packet_set.PacketSet.{PacketSet}

-- the packets of a set
abbrev pub packets : PacketSet → Packets
packets x = take x.count (rows_of places x.values)

-- x is the set of the packets s with the fields m
pub record Is (x : PacketSet) (m : ℕ) (s : Packets) : Type 0 where
  pub same : packets x ≡ s
  pub fields : x.mask ≡ m
