-- `test_of` meets its contract.
use Rattle.evaluator.proofs.WorkLaws.{few, gives_test}
use Rattle.evaluator.proofs.test_of.Goals as goal

pub returns : goal.returns
returns c = rw c.leaf.ensures (gives_test (few c.args.set.now) _ (few c.keep.new.self) _ _ c.keep.ensures.same)
