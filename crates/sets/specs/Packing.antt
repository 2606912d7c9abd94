-- That an array is packed has one proof at most, so that a set by value can keep it.
use Rattle.std.specs.Prelude.{ℕ, List, [], ◌∷◌}
use Rattle.std.specs.Coded.{×_prop, Unit-prop}
use denote.Struct.Props.{props}
use mathlib.Core.Sum.{⊎_set}
use Rattle.rules.specs.Packets.{Packet, Packets, AllAfter, Ascending}
use Rattle.rows.specs.Chunks.{Packed}

AllAfter-prop : (a : Packet) (s : Packets) → IsProp (AllAfter a s)
AllAfter-prop a [] = Unit-prop
AllAfter-prop a (x ∷ s) = ×_prop (hlevel ⊎_set) (AllAfter-prop a s)

Ascending-prop : (s : Packets) → IsProp (Ascending s)
Ascending-prop [] = Unit-prop
Ascending-prop (x ∷ s) = ×_prop (AllAfter-prop x s) (Ascending-prop s)

pub Packed-prop : (r : ℕ) (v : List ℕ) (n : ℕ) → IsProp (Packed r v n)
Packed-prop r v n = hlevel (Ascending-prop, props)
