-- Nothing is ready: the set of number 0 is the answer; else what is counted.
use mathlib.Core.Path.{refl, ap}
use Rattle.area.specs.declared.headers.Header.{Header}
use Rattle.machine.proofs.Ending.{running_answer, can_read, finished_answer, finished_result}
use Rattle.machine.proofs.ends.answer.Goals as goal

pub emit_packets-requires : goal.emit_packets-requires
emit_packets-requires c =
    can_read _ _ _ _ _ _ _ c.requires.ended c.requires.policy.0 c.if-c-eq0.true _ (ap (λ (h : Header). h.count) c.head-h.ensures)

pub returns-then-c-eq0 : goal.returns-then-c-eq0
returns-then-c-eq0 c =
    let e = ap (λ (h : Header). h.count) c.head-h.ensures in (
      finished_answer _ _ _ _ _ _ _ c.requires.ended c.requires.policy.0 c.if-c-eq0.true _ e,
      finished_result _ _ _ _ _ _ _ c.requires.ended c.requires.policy.0 c.if-c-eq0.true _ e _ _ _ _ _ (rw c.bytes.ensures at c.byte_at-k.ensures)
          c.requires.policy.1
          c.emit_packets.ensures,
    )

pub returns : goal.returns
returns c =
    (running_answer _ _ _ _ _ _ _ c.requires.ended c.requires.policy.0 c.if-c-eq0.false, refl)
