-- What the loop of `body_start` keeps.
use Prim.Native.Nat.{◌+◌, ◌*◌, ◌≤◌}
use mathlib.Core.Path.{◌≡◌}
use Rattle.rules.specs.Reading.{body_start}
use Rattle.book.proofs.body_start.Given as goal

abbrev pub invariant-loop-i : goal.invariant-loop-i
invariant-loop-i l = (l.at ≡ body_start l.s l.i) × (l.at ≤ 1026 + 65535 * l.i)
