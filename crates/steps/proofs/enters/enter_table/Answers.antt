-- `enters::enter_table` meets its contract.
use Rattle.steps.proofs.Entering.{table_at, table_lays, table_turned}
use Rattle.steps.proofs.enters.enter_table.Goals as goal

pub lay-x-requires : goal.lay-x-requires
lay-x-requires c =
    let e = c.head-h.ensures in
    rw e (table_lays _ _ _ _ c.requires c.body_start-start.ensures.readable _ _ (table_at _ _ _ e c.head_at-p.ensures.head) c.body_start-start.ensures.start)

pub returns : goal.returns
returns c =
    let e = c.head-h.ensures in
    rw c.from.ensures (table_turned _ _ _ _ c.requires c.body_start-start.ensures.readable _ _ (table_at _ _ _ e c.head_at-p.ensures.head) c.body_start-start.ensures.start
    c.lay-x.new.work _ _ (λ f. rw e at (c.lay-x.ensures f)))
