-- The library's order is that of the rules.
use mathlib.Core.Path.{ap, ◌∙◌}
use Rattle.rules.specs.Packets.{Packet, order_of}
use Rattle.rows.proofs.Comparing.{order_of_lem}
use Rattle.rows.proofs.order_row.Goals as goal

pub returns : goal.returns
returns g c =
    c.cmp.ensures ∙ order_of_lem c.args.p.now c.row.result.now ∙ ap (λ (x : Packet). order_of c.args.p.now x) c.row.ensures
