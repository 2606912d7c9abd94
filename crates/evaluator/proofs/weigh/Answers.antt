-- `weigh` meets its contract: it is `pass` on a set of its own.
use Rattle.evaluator.proofs.Answering.{few_fields}
use Rattle.evaluator.proofs.weigh.Goals as goal

pub of-requires : goal.of-requires
of-requires c = few_fields _ _ c.requires
