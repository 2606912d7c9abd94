-- `leaves::leave_not` meets its contract.
use Rattle.steps.proofs.Leaving.{lack_small, lack_sets, lack_turned}
use Rattle.steps.proofs.leaves.leave_not.Goals as goal

pub head-h-requires : goal.head-h-requires
head-h-requires c = (lack_small c.requires).0

pub head-m-requires : goal.head-m-requires
head-m-requires c = (lack_small c.before.requires).1

pub lack_slots-k-requires : goal.lack_slots-k-requires
lack_slots-k-requires c =
    let e = c.head-h.ensures in
    rw (e, c.head-m.ensures) (lack_sets c.before.requires (rw e at c.give_back.ensures))

pub finish-requires : goal.finish-requires
finish-requires c = ((lack_small c.before.requires).0, c.lack_slots-k.ensures.slim)

pub returns : goal.returns
returns c =
    let e = c.head-h.ensures in
    rw c.ended.ensures
    (lack_turned c.before.requires (rw e at c.give_back.ensures)
    (rw (e, c.head-m.ensures) at c.lack_slots-k.ensures)
    (rw e at c.finish.ensures))
