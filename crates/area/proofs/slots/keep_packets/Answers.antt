-- `slots::keep_packets` meets its contract: one packet where it stands, more of them after zeros are put behind them.
use Rattle.rules.specs.Packets.{Packets, passes, keep}
use Rattle.area.proofs.Lending.{back, lent_packed, tidied_then}
use Rattle.area.proofs.slots.keep_packets.Goals as goal

pub keep_in-requires : goal.keep_in-requires
keep_in-requires c = lent_packed c.slot_range.ensures c.tidy.ensures

pub returns : goal.returns
returns c =
    let s = c.slot_range.ensures in
    tidied_then (λ (z : Packets). keep (passes c.args.f c.args.x) z) s c.tidy.ensures
    (back _ s _ c.keep_in.new.v c.requires.there c.tidy.array_long c.keep_in.auto.v) c.keep_in.ensures
