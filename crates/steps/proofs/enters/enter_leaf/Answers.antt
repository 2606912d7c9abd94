-- `enters::enter_leaf` meets its contract.
use Rattle.steps.proofs.Entering.{leaf_turned}
use Rattle.steps.proofs.enters.enter_leaf.Goals as goal

pub returns : goal.returns
returns c =
    let p = c.requires in
    let e = c.head-h.ensures in
    rw c.ended.ensures (leaf_turned p.0 p.1 p.2 (rw e at c.leaf_at-k.ensures) (rw e at c.finish.ensures))
