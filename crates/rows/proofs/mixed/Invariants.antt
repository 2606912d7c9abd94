-- What the loop of `mixed` keeps.
use mathlib.Core.Path.{◌≡◌}
use lib.ListN.{length, take}
use Rattle.rules.specs.Packets.{mix}
use Rattle.rows.proofs.mixed.Given as goal

abbrev pub invariant-loop-f : goal.invariant-loop-f
invariant-loop-f g l = (length l.t ≡ length l.p) × (take l.f l.t ≡ take l.f (mix l.w l.p l.q))
