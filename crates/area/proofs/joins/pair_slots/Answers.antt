-- `joins::pair_slots` meets its contract: one pairing by itself, or all of them from copies.
use Rattle.area.proofs.Lending.{back}
use Rattle.area.proofs.Joining.{no_packets, lent_empty, paired_one, paired, pairs_some}
use Rattle.area.proofs.joins.pair_slots.Goals as goal

pub returns-then-b-eq1 : goal.returns-then-b-eq1
returns-then-b-eq1 c = rw (c.if-a-eq1.true, c.if-b-eq1.true) (paired_one _ _ _ c.pair_one.ensures)

pub tidy-requires : goal.tidy-requires
tidy-requires c = no_packets _ _ c.before.requires.0.there

pub pairs_into-requires : goal.pairs_into-requires
pairs_into-requires c =
    (lent_empty c.slot_range.ensures c.tidy.ensures, c.copy_out-x.ensures.packed, c.copy_out-y.ensures.packed)

pub unwrap-requires : goal.unwrap-requires
unwrap-requires c =
    let g = c.args in
    pairs_some g.work.now g.l g.r g.w _ _ c.copy_out-x.ensures c.copy_out-y.ensures c.before.requires.1 c.pairs_into.ensures

pub returns : goal.returns
returns c =
    let h = c.before.requires in
    let s = c.slot_range.ensures in
    paired _ _ _ s c.copy_out-x.ensures c.copy_out-y.ensures c.tidy.ensures
    (back _ s _ c.pairs_into.new.v h.0.there c.tidy.array_long c.pairs_into.auto.v) (rw c.unwrap.ensures at c.pairs_into.ensures)
