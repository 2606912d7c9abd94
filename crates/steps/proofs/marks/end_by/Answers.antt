-- `marks::end_by` meets its contract: by how many parts stand below.
use native.Mathlib.Omega.{arith}
use Rattle.steps.proofs.Marking.{end_none, end_one, end_two, from_small}
use Rattle.steps.proofs.marks.end_by.Goals as goal

pub overflow_cast-result : goal.overflow_cast-result
overflow_cast-result c =
    omega (arith, from_small c.args.bytes.now c.args.at c.requires.0 c.head_at-p.ensures, c.requires.1)

pub returns-in-0 : goal.returns-in-0
returns-in-0 c =
    end_none _ _ _ c.requires.0 _ c.head_at-p.ensures _ c.shape_of-shape.ensures c.in-0.is

pub returns-in-1 : goal.returns-in-1
returns-in-1 c =
    end_one _ _ _ c.requires.0 _ c.head_at-p.ensures _ c.shape_of-shape.ensures _
    c.end_at.ensures c.in-1.is

pub returns-in_default : goal.returns-in_default
returns-in_default c =
    end_two _ _ _ c.requires.0 _ c.head_at-p.ensures _ c.shape_of-shape.ensures _ _
    c.end_at-middle.ensures c.end_at-in_default.ensures (λ z. omega (arith, z)) (λ z. omega (arith, z))
