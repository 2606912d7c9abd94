-- `slots::copy_packets` meets its contract: packet by packet.
use Prim.Native.Nat.{◌-◌}
use mathlib.Core.Path.{◌≡◌}
use native.Mathlib.Omega.{arith}
use Rattle.area.proofs.Lending.{copying_start, copying_next, copying_end}
use Rattle.area.proofs.slots.copy_packets.Goals as goal

pub loop-k-init : goal.loop-k-init
loop-k-init c = copying_start _ _ _ _ _

pub loop-k-preserved : goal.loop-k-preserved
loop-k-preserved c =
    let h = c.requires in
    copying_next h.2 h.4 (omega arith) c.loop-k.invariant c.move_packet.ensures

pub returns : goal.returns
returns c =
    let e : c.loop-k.k ≡ c.args.n - c.args.m = omega arith in
    copying_end (rw e at c.loop-k.invariant)
