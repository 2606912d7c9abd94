-- The row put into an array of zeros.
use mathlib.Core.Path.{ap, ◌∙◌}
use mathlib.Core.List.{[], ◌∷◌}
use Rattle.rules.specs.Packets.{Packet}
use Rattle.rows.proofs.Holding.{held_one}
use Rattle.sets.proofs.Whole.{none_held}
use Rattle.sets.proofs.packet_set.PacketSet.of.Goals as goal

pub invariant_of-result : goal.invariant_of-result
invariant_of-result c = record { packed = (held_one none_held c.put_row.ensures).packed }

pub returns : goal.returns
returns c = record {
  same = (held_one none_held c.put_row.ensures).same ∙ ap (λ (x : Packet). x ∷ []) c.padded.ensures;
  fields = c.all_fields.ensures;
}
