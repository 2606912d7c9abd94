-- `slots::set_packets` meets its contract: one packet where it stands, more of them after zeros are put behind them.
use mathlib.Core.List.{map}
use Rattle.rules.specs.Packets.{Packets, put, gathered}
use Rattle.area.proofs.Lending.{back, lent_packed, tidied_then}
use Rattle.area.proofs.slots.set_packets.Goals as goal

pub set_in-requires : goal.set_in-requires
set_in-requires c = lent_packed c.slot_range.ensures c.tidy.ensures

pub returns : goal.returns
returns c =
    let s = c.slot_range.ensures in
    tidied_then (λ (z : Packets). gathered (map (put c.args.f c.args.x) z)) s c.tidy.ensures
    (back _ s _ c.set_in.new.v c.requires.there c.tidy.array_long c.set_in.auto.v) c.set_in.ensures
