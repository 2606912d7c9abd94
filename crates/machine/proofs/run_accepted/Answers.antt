-- `run_accepted` meets its contract: one law for each number, and the conducted run.
use mathlib.Core.Path.{refl}
use native.Mathlib.Omega.{arith}
use Rattle.rules.proofs.HandingUp.{handed_up}
use Rattle.machine.proofs.Ending.{cleared, given_back}
use Rattle.machine.proofs.Running.{fields_are, passable, refused_packet, refused_result, refused_area, refused_stopped, weighed}
use Rattle.machine.proofs.Running.{refused_positions, few_words, runs, conducted}
use Rattle.machine.proofs.run_accepted.Goals as goal

pub returns-then-packet-k : goal.returns-then-packet-k
returns-then-packet-k c =
    rw c.into.ensures (refused_packet _ _ _ _ _ _ c.requires c.if-packet-k.true)

pub overflow_mul-k : goal.overflow_mul-k
overflow_mul-k c = omega (arith, (fields_are _ _ c.requires).1)

pub returns-then-res-k : goal.returns-then-res-k
returns-then-res-k c =
    rw c.into-then-res-k.ensures (refused_result _ _ _ _ _ _ c.requires c.if-packet-k.false c.if-res-k.true)

pub returns-in_default : goal.returns-in_default
returns-in_default c =
    rw c.into-in_default.ensures (refused_area _ _ _ _ _ _ c.requires c.if-packet-k.false c.in_default.ensures.cases)

pub weigh-requires : goal.weigh-requires
weigh-requires c =
    let a = c.args in
    passable (a.book).now (a.packet).now (a.schedule).now (a.res).now (a.work).now _ c.requires c.if-packet-k.false

pub returns-in_err-weight : goal.returns-in_err-weight
returns-in_err-weight c =
    rw (given_back c.in-Some.ensures.cases, handed_up c.from_residual.ensures.1)
    (refused_stopped _ _ _ _ _ _ c.requires c.if-packet-k.false c.if-res-k.false (c.in-Some.ensures.variant.0 refl) _
    c.in_err-weight.ensures.1)

pub returns-then-weight : goal.returns-then-weight
returns-then-weight c =
    let w = weighed _ _ c.args.schedule.now _ _ _ c.requires c.if-packet-k.false c.if-res-k.false (c.in-Some.ensures.variant.0 refl) _ _
    c.in_ok-weight.ensures.1 in
    rw (given_back c.in-Some.ensures.cases, c.into-then-weight.ensures) (refused_positions _ _ _ _ _ _ w c.if-weight.true)

pub conduct-requires : goal.conduct-requires
conduct-requires c =
    let a = c.args in
    let w = weighed a.book.now a.packet.now a.schedule.now a.res.now a.work.now _ c.requires c.if-packet-k.false c.if-res-k.false
    (c.in-Some.ensures.variant.0 refl) _ _ c.in_ok-weight.ensures.1 in
    let room = runs a.book.now a.packet.now a.schedule.now a.res.now a.work.now _ w in
    let few = few_words a.book.now a.packet.now a.schedule.now a.res.now a.work.now _ w in
    record { policy = room (λ j. omega (arith, c.type_inv.book j)) c.if-weight.false; buffers = (few, w.fits) }

pub returns : goal.returns
returns c =
    let a = c.args in
    let w = weighed a.book.now a.packet.now a.schedule.now a.res.now a.work.now _ c.requires c.if-packet-k.false c.if-res-k.false
    (c.in-Some.ensures.variant.0 refl) _ _ c.in_ok-weight.ensures.1 in
    conducted a.book.now a.packet.now a.schedule.now a.res.now a.work.now _ w
    (λ j. omega (arith, c.type_inv.book j)) c.if-weight.false c.conduct.result c.conduct.new.res
    _ c.conduct.ensures.0 c.conduct.ensures.1 (cleared _ _ c.conduct.ensures.2)
