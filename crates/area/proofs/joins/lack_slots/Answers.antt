-- `joins::lack_slots` meets its contract: the second set copied out first.
use Rattle.rules.specs.Packets.{Packets, keep, lacks}
use Rattle.area.specs.Words.{rows_at}
use Rattle.area.proofs.Lending.{back, lent_packed, tidied_then}
use Rattle.area.proofs.joins.lack_slots.Goals as goal

pub difference_in-requires : goal.difference_in-requires
difference_in-requires c =
    (lent_packed c.slot_range.ensures c.tidy.ensures, c.copy_out-b.ensures.packed)

pub returns : goal.returns
returns c =
    let b = c.copy_out-b in
    let s = c.slot_range.ensures in
    tidied_then (λ (z : Packets). keep (lacks (rows_at c.args.work.now c.args.c c.args.m)) z) s c.tidy.ensures
    (back _ s _ c.difference_in.new.v c.requires.0.there c.tidy.array_long c.difference_in.auto.v)
    (rw b.ensures.same at c.difference_in.ensures)
