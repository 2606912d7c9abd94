-- The first k packets of v, with the pairings of the packets of a from i on, are all.
use Rattle.sets.proofs.Pairing.{pairing_next, pairing_many, pairing_done, cleared_whole}
use borrow.Author.Rules.{rules}
use Rattle.sets.proofs.pair_all.Goals as goal

pub returns-in_default : goal.returns-in_default
returns-in_default g c =
    let x = c.args in
    let e = rw c.in_default.is at c.pair_in.ensures in
    (pairing_many x.a.now x.n c.loop-i.i _ c.requires.1 c.loop-i.invariant (search rules) e, cleared_whole c.clear_rows.ensures)

pub loop-i-preserved : goal.loop-i-preserved
loop-i-preserved g c =
    let x = c.args in
    let e = rw c.in-Some.is at c.pair_in.ensures in
    pairing_next x.a.now x.n c.loop-i.i _ c.requires.1 c.loop-i.invariant (search rules) e

pub returns : goal.returns
returns g c =
    let x = c.args in
    pairing_done x.a.now x.n c.loop-i.i _ c.requires.1 c.loop-i.invariant (search rules)
