-- `leaves::join_slots` meets its contract: by the phase.
use Rattle.area.specs.Words.{rows_at}
use Rattle.steps.proofs.Heads.{head_reads}
use Rattle.steps.proofs.Leaving.{join_paired, join_other}
use Rattle.steps.proofs.leaves.join_slots.Goals as goal

pub pair_slots-requires : goal.pair_slots-requires
pair_slots-requires c =
    let a = c.args in
    let S = rows_at a.work.now a.l a.a in
    let T = rows_at a.work.now a.r a.b in
    (c.requires.0, rw (head_reads _ _ c.head_at-p.ensures.head).right (rw (c.in-Paired.is, join_paired a.book.now a.at S T) at c.requires.1))

pub returns-in-Paired : goal.returns-in-Paired
returns-in-Paired c =
    let a = c.args in
    let S = rows_at a.work.now a.l a.a in
    let T = rows_at a.work.now a.r a.b in
    rw (c.in-Paired.is, join_paired a.book.now a.at S T) (rw (head_reads _ _ c.head_at-p.ensures.head).right at c.pair_slots.ensures)

pub union_slots-requires : goal.union_slots-requires
union_slots-requires c =
    let a = c.args in
    let S = rows_at a.work.now a.l a.a in
    let T = rows_at a.work.now a.r a.b in
    (c.requires.0, rw (join_other a.book.now a.phase a.at S T c.in_default.not-Paired) at c.requires.1)

pub returns-in_default : goal.returns-in_default
returns-in_default c =
    let a = c.args in
    let S = rows_at a.work.now a.l a.a in
    let T = rows_at a.work.now a.r a.b in
    rw (join_other a.book.now a.phase a.at S T c.in_default.not-Paired) c.union_slots.ensures
