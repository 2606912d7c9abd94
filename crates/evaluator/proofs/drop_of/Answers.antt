-- `drop_of` meets its contract.
use Rattle.evaluator.proofs.WorkLaws.{few, gives_drop}
use Rattle.evaluator.proofs.drop_of.Goals as goal

pub returns : goal.returns
returns c = rw c.leaf.ensures (gives_drop (few c.args.set.now) _ c.clear.ensures.same)
