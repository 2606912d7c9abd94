-- The free numbers, the packet in slot 0, the main policy placed on it, and its ready number listed.
use native.Mathlib.Omega.{arith}
use Rattle.machine.proofs.Starting.{start_lays, start_relists, started}
use Rattle.machine.proofs.play.set_up.Goals as goal

pub lay-o-requires : goal.lay-o-requires
lay-o-requires c =
    rw c.body_start-at.ensures.start
    (start_lays _ _ _ _ c.requires.policy.0 c.requires.policy.1 c.free_all.ensures (rw c.padded-p.ensures at c.put_packet.ensures))

pub relist-ready-requires : goal.relist-ready-requires
relist-ready-requires c =
    rw c.from.ensures (start_relists _ _ _ _ c.requires.policy.0 c.requires.policy.1 c.free_all.ensures
    (rw c.padded-p.ensures at c.put_packet.ensures) _ _ _ (λ f. rw c.body_start-at.ensures.start at
    (c.lay-o.ensures f)))

pub returns : goal.returns
returns c =
    started _ _ _ _ c.requires.policy.0 c.requires.policy.1 c.free_all.ensures
    (rw c.padded-p.ensures at c.put_packet.ensures) _ _ _ (λ f. rw c.body_start-at.ensures.start at
    (c.lay-o.ensures f))
    _ _ (rw c.from.ensures at c.relist-ready.ensures.0) (rw c.from.ensures at c.relist-ready.ensures.1)
    (omega (arith, c.relist-ready.array_long))
