-- The lowest packet and the others, both placed at this same part.
use native.Mathlib.Omega.{arith}
use mathlib.Core.Path.{ap}
use Rattle.area.specs.declared.headers.Header.{Header}
use Rattle.machine.proofs.Sides.{split_room, first_small, second_small, second_own, split_entered}
use Rattle.machine.proofs.beside.enter_split.Goals as goal

pub take_free-l-requires : goal.take_free-l-requires
take_free-l-requires c =
    (omega (arith, split_room c.requires.entering c.requires.many), c.requires.entering.few)

pub take_free-r-requires : goal.take_free-r-requires
take_free-r-requires c =
    (omega (arith, split_room c.requires.entering c.requires.many), omega (arith, c.requires.entering.few))

pub lay_leaf-requires : goal.lay_leaf-requires
lay_leaf-requires c =
    let l = first_small c.requires.entering _ _ (split_room c.requires.entering c.requires.many) c.take_free-l.ensures
    c.take_free-r.ensures in
    (l, c.requires.entering.there, omega arith)

pub copy_packets-requires : goal.copy_packets-requires
copy_packets-requires c =
    let l = second_small c.requires.entering _ _ (split_room c.requires.entering c.requires.many) c.take_free-l.ensures
    c.take_free-r.ensures in
    let k = ap (λ (h : Header). h.count) c.head-h.ensures in
    let d = second_own c.requires.entering _ _ (split_room c.requires.entering c.requires.many) c.take_free-l.ensures
    c.take_free-r.ensures in
    (c.requires.entering.there, l, d, omega (arith, c.requires.many, k), omega (arith, c.requires.entering.slim, k))

pub put_head-requires : goal.put_head-requires
put_head-requires c =
    second_small c.requires.entering _ _ (split_room c.requires.entering c.requires.many) c.take_free-l.ensures c.take_free-r.ensures

pub returns : goal.returns
returns c =
    λ b h.
    split_entered h _ _ (split_room h c.requires.many) c.take_free-l.ensures c.take_free-r.ensures
    c.requires.many _ _ _ _
    (rw c.head-h.ensures at c.lay_leaf.ensures) (rw c.head-h.ensures at c.copy_packets.ensures)
    (rw c.head-h.ensures at c.put_head.ensures) (rw c.head-h.ensures at c.put_head-2.ensures)
