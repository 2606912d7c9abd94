-- The one pairing, put into an array of zeros.
use mathlib.Core.Path.{refl, ap, ◌∙◌}
use mathlib.Core.List.{[], ◌∷◌}
use Rattle.rules.specs.Packets.{Packet}
use Rattle.rows.proofs.Holding.{held_as, held_one}
use Rattle.sets.proofs.Pairing.{pairs_one}
use Rattle.sets.proofs.pair_one.Goals as goal

pub returns : goal.returns
returns g c =
    let k = held_one c.requires.0 c.put_row.ensures in
    pairs_one c.args.w c.args.a.now c.args.b.now (held_as k (ap (λ (y : Packet). y ∷ []) (c.mixed-q.ensures ∙ rw (c.row.ensures, c.row-2.ensures) refl)))
