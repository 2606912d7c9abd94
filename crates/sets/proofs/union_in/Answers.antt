-- The rows of v are raised, and merged with those of b.
use native.Mathlib.Omega.{arith}
use Rattle.sets.proofs.Merging.{raised_apart}
use Rattle.sets.proofs.union_in.Goals as goal

pub merge_in-requires : goal.merge_in-requires
merge_in-requires g c =
    let o = c.min-e.ensures in
    ((raised_apart c.args.n c.args.m _ c.min-e.result (omega (arith, c.requires.0.room)) (omega arith) (omega arith) c.requires.0 c.raise.ensures).0, c.requires.1)

pub returns : goal.returns
returns g c =
    let o = c.min-e.ensures in
    let e = (raised_apart c.args.n c.args.m _ c.min-e.result (omega (arith, c.requires.0.room)) (omega arith) (omega arith) c.requires.0 c.raise.ensures).1 in
    rw e at c.merge_in.ensures
