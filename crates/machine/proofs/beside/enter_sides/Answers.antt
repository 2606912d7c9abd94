-- The two sides, each on its packet, below this position.
use native.Mathlib.Omega.{arith}
use Rattle.machine.proofs.Sides.{beside_head, beside_first, sides_room, first_small, second_small, side_put}
use Rattle.machine.proofs.Sides.{first_lays, second_lays, sides_entered}
use Rattle.machine.proofs.beside.enter_sides.Goals as goal

pub take_free-l-requires : goal.take_free-l-requires
take_free-l-requires c =
    (omega (arith, sides_room c.requires.0 c.requires.1), c.requires.0.few)

pub take_free-r-requires : goal.take_free-r-requires
take_free-r-requires c =
    (omega (arith, sides_room c.requires.0 c.requires.1), omega (arith, c.requires.0.few))

pub bare_packet-requires : goal.bare_packet-requires
bare_packet-requires c = (
  c.requires.0.there,
  first_small c.requires.0 _ _ (sides_room c.requires.0 c.requires.1) c.take_free-l.ensures c.take_free-r.ensures,
)

pub bare_packet-requires-2 : goal.bare_packet-requires-2
bare_packet-requires-2 c = (
  c.requires.0.there,
  second_small c.requires.0 _ _ (sides_room c.requires.0 c.requires.1) c.take_free-l.ensures c.take_free-r.ensures,
)

pub end_at-q-requires : goal.end_at-q-requires
end_at-q-requires c =
    rw (beside_head c.requires.0 c.head-h.ensures c.head_at-part.ensures.head).from (beside_first c.requires.0)

pub lay-x-requires : goal.lay-x-requires
lay-x-requires c =
    let a = c.args in
    let o = beside_head c.requires.0 c.head-h.ensures c.head_at-part.ensures.head in
    rw o.from (first_lays c.requires.0 _ _ (sides_room c.requires.0 c.requires.1) c.take_free-l.ensures
    c.take_free-r.ensures c.requires.1 _ _
    (side_put a.i o.right c.bare_packet.ensures)
    (side_put a.i o.left c.bare_packet-2.ensures))

pub lay-y-requires : goal.lay-y-requires
lay-y-requires c =
    let a = c.args in
    let o = beside_head c.requires.0 c.head-h.ensures c.head_at-part.ensures.head in
    let q = rw o.from at c.end_at-q.ensures in
    rw q (second_lays c.requires.0 _ _ (sides_room c.requires.0 c.requires.1) c.take_free-l.ensures
    c.take_free-r.ensures c.requires.1 _ _
    (side_put a.i o.right c.bare_packet.ensures)
    (side_put a.i o.left c.bare_packet-2.ensures)
    _ _ _ (λ f. rw o.from at (c.lay-x.ensures f)))

pub returns : goal.returns
returns c =
    let a = c.args in
    let o = beside_head c.requires.0 c.head-h.ensures c.head_at-part.ensures.head in
    let q = rw o.from at c.end_at-q.ensures in
    rw c.two_ready.ensures (sides_entered c.requires.0 _ _ (sides_room c.requires.0 c.requires.1) c.take_free-l.ensures
    c.take_free-r.ensures c.requires.1 _ _
    (side_put a.i o.right c.bare_packet.ensures)
    (side_put a.i o.left c.bare_packet-2.ensures)
    _ _ _ (λ f. rw o.from at (c.lay-x.ensures f))
    _ _ _ _ (λ f. rw q at (c.lay-y.ensures f)) (rw c.head-h.ensures at c.put_head.ensures))
