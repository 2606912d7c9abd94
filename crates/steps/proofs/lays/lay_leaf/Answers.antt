-- `lays::lay_leaf` meets its contract: the packets, then the header.
use Rattle.steps.proofs.Changes.{becomes}
use Rattle.steps.proofs.lays.lay_leaf.Goals as goal

pub returns : goal.returns
returns c = becomes c.requires.0 c.copy_set.ensures c.put_head.ensures
