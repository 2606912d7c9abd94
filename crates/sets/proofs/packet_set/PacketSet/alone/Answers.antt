-- The row put into an array of zeros.
use mathlib.Core.Path.{◌≡◌, refl, ap}
use mathlib.Core.List.{[], ◌∷◌}
use lib.ListN.{take}
use Rattle.rules.specs.Masks.{less}
use Rattle.rules.specs.Packets.{Packet}
use Rattle.rows.proofs.Holding.{held_one, held_as}
use Rattle.sets.proofs.Whole.{none_held}
use Rattle.sets.proofs.packet_set.PacketSet.alone.Goals as goal

pub invariant_of-result : goal.invariant_of-result
invariant_of-result c = record { packed = (held_one none_held c.put_row.ensures).packed }

pub returns : goal.returns
unfolding less
returns c =
    let e : c.unwrap-row.result.now ≡ take 8 c.args.row.now = (rw c.unwrap-row.ensures at c.first_chunk.ensures.cases).same in
    let bare = rw (c.from.ensures, e) at c.bare-bare.ensures in
    record { same = (held_as (held_one none_held c.put_row.ensures) (ap (λ (x : Packet). x ∷ []) bare)).same; fields = refl }
