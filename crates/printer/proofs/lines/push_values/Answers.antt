-- The line's values from the front.
use Rattle.std.proofs.Common.{append_assoc, arith}
use Rattle.printer.proofs.LineLaws.{further_next}
use Rattle.printer.proofs.lines.push_values.Goals as goal

pub loop-value-preserved : goal.loop-value-preserved
loop-value-preserved c =
    let v = c.in-Some.others.now in
    let i = c.loop-value.value-index in
    let more = rw (further_next v i c.loop-value-test.true) at c.loop-value.invariant.0 in
    (rw (c.push_next.ensures.bytes, append_assoc, c.from-in-loop-value.ensures) more, omega arith)
