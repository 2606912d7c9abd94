-- `tally_of` meets its contract: what was counted so far, and one vector more.
use Rattle.std.proofs.Common.{arith}
use Rattle.trials.specs.Tallies.{tallied}
use Rattle.trials.proofs.Counting.{begun, one_more, room, ended, vectors_few}
use Rattle.trials.proofs.tallies.tally_of.Goals as goal

pub loop-v-init : goal.loop-v-init
loop-v-init c = (tt, tt, rw c.into_iter-v-iterator.ensures.into_iter_gives (begun _ _))

pub overflow_add-found : goal.overflow_add-found
overflow_add-found c =
    let few = room _ _ (rw c.in-Some.ensures.steps at c.loop-v.invariant.2) in
    let most = vectors_few c.args.set.now in
    rw (c.from-found.ensures, c.ask-yes.ensures) (omega (arith, few.1))

pub overflow_add-cases : goal.overflow_add-cases
overflow_add-cases c =
    let few = room _ _ (rw c.in-Some.ensures.steps at c.loop-v.invariant.2) in
    omega (arith, few.0, vectors_few c.args.set.now)

pub loop-v-preserved : goal.loop-v-preserved
loop-v-preserved c =
    let more = one_more _ _ (rw c.in-Some.ensures.steps at c.loop-v.invariant.2) in
    (tt, tt, rw (c.or-first.ensures, c.then_some.ensures, c.from-found.ensures, c.ask-yes.ensures) more)

pub returns : goal.returns
unfolding tallied
returns c =
    let all = ended _ c.loop-v.invariant.2 c.in-None.ensures.steps.0 in
    rw (all.0, all.1, all.2)
