-- `head_at` meets its contract. Assumes nothing.
use Prim.Native.Nat.{◌+◌}
use native.Mathlib.Omega.{arith}
use mathlib.Core.Path.{◌≡◌, refl}
use borrow.Author.Rules.{rules}
use Rattle.book.proofs.OperandLaws.{head_none, head_there}
use Rattle.book.proofs.head_at.Goals as goal

pub returns-then-s-at : goal.returns-then-s-at
returns-then-s-at c = head_none _ _ c.if-s-at.true

pub returns : goal.returns
returns c =
    let e : c.args.at + 2 + 1 ≡ c.args.at + 3 = omega arith in
    head_there _ _ _ _ _ _ c.if-s-at.false refl (rw e (search rules)) refl c.shape_of-shape.ensures
