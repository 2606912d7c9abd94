-- `names_open` meets its contract: no table is open where all are populated; else the walk tells.
use Prim.Native.Nat.{ℕ}
use mathlib.Core.Path.{◌≡◌, sym, ◌∙◌}
use mathlib.Core.Bool.{Bool, true, false, not}
use Rattle.std.specs.Prelude.{Option, is_some, is_none}
use Rattle.evaluator.proofs.Opening.{all_closed}
use Rattle.evaluator.proofs.Answering.{open_is}
use Rattle.evaluator.proofs.names_open.Goals as goal

not_some : (r : Option ℕ) (b : Bool) → is_some r ≡ not b → b ≡ is_none r
not_some r true e = rw e
not_some r false e = rw e

pub returns-then-not-all_populated : goal.returns-then-not-all_populated
returns-then-not-all_populated c =
    not_some _ _ c.is_none.ensures ∙ sym (open_is _ _ c.body_start.ensures.place _ _ c.look_part.ensures)

pub returns-else-not-all_populated : goal.returns-else-not-all_populated
returns-else-not-all_populated c =
    rw c.if-not-all_populated.false (sym
    (all_closed c.args.book.now c.requires (λ i. (c.type_inv.book i).fits) (c.all_populated.ensures c.if-not-all_populated.false)))
