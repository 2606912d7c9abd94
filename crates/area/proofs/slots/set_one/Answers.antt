-- `slots::set_one` meets its contract.
use mathlib.Core.Path.{ap}
use native.Mathlib.Omega.{arith}
use Rattle.rules.specs.Packets.{Packet, put}
use Rattle.area.proofs.Lending.{back, lent_packet, rowed, set_one, set_none}
use Rattle.area.proofs.slots.set_one.Goals as goal

pub returns-then-f-lt-ROW_WORDS : goal.returns-then-f-lt-ROW_WORDS
returns-then-f-lt-ROW_WORDS c =
    let s = c.slot_range.ensures in
    set_one c.args.f c.args.x
    (rowed (back _ s _ c.put_at.new.v c.requires c.told-work c.put_at.auto.v) s (omega arith)
    (ap (λ (p : Packet). put c.args.f c.args.x p) (lent_packet _ s _ _)) c.put_at.ensures)

pub returns-else-f-lt-ROW_WORDS : goal.returns-else-f-lt-ROW_WORDS
returns-else-f-lt-ROW_WORDS c = set_one _ _ (set_none _ _ _ _ (omega (arith, c.if-f-lt-ROW_WORDS.false)))
