-- `leaves::take_next` meets its contract.
use Rattle.steps.proofs.Leaving.{next_small, next_lays, next_turned}
use Rattle.steps.proofs.leaves.take_next.Goals as goal

pub head-h-requires : goal.head-h-requires
head-h-requires c = (next_small c.requires).0

pub head-k-requires : goal.head-k-requires
head-k-requires c = (next_small c.before.requires).1

pub lay-x-requires : goal.lay-x-requires
lay-x-requires c =
    let p = c.before.requires in
    let e = c.head-h.ensures in
    rw (e, c.head-k.ensures) (next_lays p (rw e at c.give_back.ensures))

pub returns : goal.returns
returns c =
    let e = c.head-h.ensures in
    rw c.from.ensures (next_turned c.before.requires (rw e at c.give_back.ensures)
    (λ f. rw (e, c.head-k.ensures) at (c.lay-x.ensures f)))
