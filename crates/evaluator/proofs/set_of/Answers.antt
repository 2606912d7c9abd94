-- `set_of` meets its contract.
use Rattle.evaluator.proofs.WorkLaws.{few, gives_set}
use Rattle.evaluator.proofs.set_of.Goals as goal

pub returns : goal.returns
returns c = rw c.leaf.ensures (gives_set (few c.args.set.now) _ (few c.set.new.self) _ _ c.set.ensures.same)
