-- What the loop of `all_bodies` keeps.
use Prim.Native.Nat.{suc, ◌≤◌}
use mathlib.Core.Path.{◌≡◌}
use Rattle.rules.specs.Reading.{tables_of}
use Rattle.typing.specs.Summing.{So}
use Rattle.typing.proofs.all_bodies.Given as goal

abbrev pub invariant-loop-y : goal.invariant-loop-y
invariant-loop-y l = record {
  entries : (l.y-end ≡ tables_of l.book) × (1 ≤ l.y) × (l.y ≤ suc l.y-end);
  so : So l.book l.y l.z l.notes;
}
