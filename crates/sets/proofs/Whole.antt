-- The array of zeros of a packet set, and: packets and mask fix a set to the last word.
use Prim.Native.Nat.{ℕ}
use mathlib.Core.Path.{◌≡◌, refl, sym, ◌∙◌}
use mathlib.Core.HLevel.{is_prop→PathP}
use mathlib.Core.List.{[]}
use native.Mathlib.Omega.{arith}
use lib.ListN.{replicate}
use Rattle.rules.specs.Packets.{Packets, places}
use Rattle.rows.specs.Chunks.{Packed, Held}
use Rattle.rows.proofs.Holding.{zeros_held, held_count, held_self, held_as}
use Rattle.rows.proofs.Words.{one_array}
use Rattle.sets.specs.declared.packet_set.PacketSet.{PacketSet}
use Rattle.sets.specs.Packing.{Packed-prop}
use Rattle.sets.specs.Whole.{packets, Is}

pub none_held : Held places (replicate 128 0) 0 []
none_held = zeros_held places (omega arith) (omega arith) refl

-- a set that has no packet is the array of zeros
pub is_none : (x : PacketSet) → packets x ≡ [] → Held places x.values 0 []
is_none x e =
    let k : Held places x.values x.count [] = record { packed = x.packed; same = e } in
    rw (held_count k) at k

set_eq : (x y : PacketSet) → x.values ≡ y.values → x.count ≡ y.count → x.mask ≡ y.mask → x ≡ y
set_eq x y e f g = λ i. record {
  values = e i;
  count = f i;
  mask = g i;
  packed = is_prop→PathP (λ j. Packed places (e j) (f j)) (λ j. Packed-prop places (e j) (f j)) x.packed y.packed i;
}

pub one_set : {x y : PacketSet} {m : ℕ} {s : Packets} → Is x m s → Is y m s → x ≡ y
one_set {x} {y} k l =
    let e = one_array (held_as (held_self x.packed) k.same) (held_as (held_self y.packed) l.same) in
    set_eq x y e.0 e.1 (k.fields ∙ sym l.fields)
