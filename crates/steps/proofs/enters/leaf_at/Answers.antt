-- `enters::leaf_at` meets its contract: by the code.
use native.Mathlib.Omega.{arith}
use Rattle.area.specs.Words.{rows_at}
use Rattle.area.proofs.Lending.{emptied}
use Rattle.steps.proofs.Heads.{head_reads}
use Rattle.steps.proofs.Entering.{out_drop, out_test, out_set}
use Rattle.steps.proofs.enters.leaf_at.Goals as goal

pub returns-in-1 : goal.returns-in-1
returns-in-1 c =
    let a = c.args in
    rw (← (out_drop a.book.now a.at a.code c.requires.1 (rows_at a.work.now a.i a.n) c.in-1.is)) (emptied _ _)

pub returns-in-2 : goal.returns-in-2
returns-in-2 c =
    let a = c.args in
    let r = head_reads _ _ c.head_at-p.ensures.head in
    rw (out_test a.book.now a.at a.code c.requires.1 (rows_at a.work.now a.i a.n) _ _ c.in-2.is r.field
    r.value) at c.keep_packets.ensures

pub returns-in_default : goal.returns-in_default
returns-in_default c =
    let a = c.args in
    let r = head_reads _ _ c.head_at-p.ensures.head in
    rw (out_set a.book.now a.at a.code c.requires.1 (rows_at a.work.now a.i a.n) _ _
    (omega (arith, c.requires.2, c.requires.3)) r.field r.value)
    at c.set_packets.ensures
