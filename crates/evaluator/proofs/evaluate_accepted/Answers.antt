-- `evaluate_accepted` meets its contract: one law for each number, and for the packets.
use native.Mathlib.Omega.{arith}
use Rattle.rules.proofs.HandingUp.{handed_up}
use Rattle.evaluator.proofs.WorkLaws.{few}
use Rattle.evaluator.proofs.Answering.{fields_some, passable, wrong_packet, wrong_buffer, stopped, given_is}
use Rattle.evaluator.proofs.evaluate_accepted.Goals as goal

pub returns-then-packet-k : goal.returns-then-packet-k
returns-then-packet-k c =
    rw c.into.ensures (wrong_packet _ _ _ _ c.requires c.if-packet-k.true)

pub overflow_mul-k : goal.overflow_mul-k
overflow_mul-k c = omega (arith, (fields_some _ _ c.requires).1)

pub returns-then-res-k : goal.returns-then-res-k
returns-then-res-k c =
    rw c.into-then-res-k.ensures (wrong_buffer _ _ _ _ c.requires c.if-packet-k.false c.if-res-k.true)

pub of-set-requires : goal.of-set-requires
of-set-requires c = omega (arith, (fields_some _ _ c.requires).1, c.if-packet-k.false)

pub pass-requires : goal.pass-requires
pass-requires c = record { passable = passable _ _ _ c.requires c.if-packet-k.false; alone = c.of-set.ensures.same }

pub returns-in_err-weight : goal.returns-in_err-weight
returns-in_err-weight c =
    rw (handed_up c.from_residual.ensures.1)
    (stopped _ _ _ _ c.requires c.if-packet-k.false c.if-res-k.false _ c.in_err-weight.ensures)

pub returns : goal.returns
returns c =
    given_is _ _ _ _ c.requires c.if-packet-k.false c.if-res-k.false _ _ (few c.pass.new.set) c.in_ok-weight.ensures _ _
    c.emit-fits.ensures
