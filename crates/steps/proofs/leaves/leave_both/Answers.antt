-- `leaves::leave_both` meets its contract.
use Rattle.steps.proofs.Leaving.{both_small, both_three, both_slim, both_turned}
use Rattle.steps.proofs.leaves.leave_both.Goals as goal

pub head-h-requires : goal.head-h-requires
head-h-requires c = (both_small c.requires).0

pub head-a-requires : goal.head-a-requires
head-a-requires c = (both_small c.before.requires).1

pub head-b-requires : goal.head-b-requires
head-b-requires c = (both_small c.before.before.requires).2

pub join_slots-c-requires : goal.join_slots-c-requires
join_slots-c-requires c =
    let h = c.before.before.requires in
    let e = c.head-h.ensures in
    let g₁ = rw e at c.give_back.ensures in
    let g₂ = rw e at c.give_back-2.ensures in
    rw (e, c.head-a.ensures, c.head-b.ensures) (both_three h g₁ g₂, both_slim h g₁ g₂)

pub finish-requires : goal.finish-requires
finish-requires c = ((both_small c.before.before.requires).0, c.join_slots-c.ensures.slim)

pub returns : goal.returns
returns c =
    let e = c.head-h.ensures in
    rw c.ended.ensures
    (both_turned c.before.before.requires (rw e at c.give_back.ensures) (rw e at c.give_back-2.ensures)
    (rw (e, c.head-a.ensures, c.head-b.ensures) at c.join_slots-c.ensures) (rw e at c.finish.ensures))
