-- `cut_head` meets its contract. Assumes nothing.
use Rattle.book.proofs.OperandLaws.{head_there}
use Rattle.book.proofs.cut_head.Goals as goal

pub returns : goal.returns
returns c =
    head_there _ _ _ _ _ _ c.requires c.byte_at-first.ensures c.number_at.ensures
    c.byte_at.ensures
    c.shape_of-shape.ensures
