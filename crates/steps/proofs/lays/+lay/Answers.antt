-- `lays::lay` meets its contract: a sequence by the part below it; the measure is the free numbers.
use native.Mathlib.Omega.{arith}
use mathlib.Core.Path.{refl}
use Rattle.steps.proofs.Laying.{laid_id, laid_rest, laid_seq, seq_room, seq_first, seq_next}
use Rattle.steps.proofs.Standing.{inside}
use Rattle.steps.proofs.Heads.{head_reads, code_at, from_next}
use Rattle.steps.proofs.lays.+lay.Goals as goal

pub take_free-c-requires : goal.take_free-c-requires
take_free-c-requires t c =
    let h = c.requires in
    (seq_room _ _ _ _ _ _ _ h (code_at _ _ c.head_at-p.ensures.head c.in-6.is), h.few)

pub end_at-requires : goal.end_at-requires
end_at-requires t c =
    let h = c.requires in
    let six = code_at _ _ c.head_at-p.ensures.head c.in-6.is in
    rw (from_next h.stands c.head_at-p.ensures.head six refl) (seq_first h six)

pub lay-first-requires : goal.lay-first-requires
lay-first-requires t c =
    let h = c.requires in
    let six = code_at _ _ c.head_at-p.ensures.head c.in-6.is in
    let from = from_next h.stands c.head_at-p.ensures.head six refl in
    let next = rw from at c.end_at.ensures in (
      omega (arith, seq_room _ _ _ _ _ _ _ h six),
      rw from (seq_next _ _ c.put_head.new.work _ _ _ _ _ _ _ _ h six c.take_free-c.ensures next c.put_head.ensures),
    )

pub returns-in-6 : goal.returns-in-6
returns-in-6 t c =
    let h = c.requires in
    let six = code_at _ _ c.head_at-p.ensures.head c.in-6.is in
    let from = from_next h.stands c.head_at-p.ensures.head six refl in
    let next = rw from at c.end_at.ensures in
    λ f. laid_seq _ _ c.put_head.new.work _ _ _ _ _ _ _ _ h six c.take_free-c.ensures next c.put_head.ensures
    c.lay-first.new.work _ _ _ f (rw from at (c.lay-first.ensures f)) c.or.ensures

pub overflow_cast-at : goal.overflow_cast-at
overflow_cast-at t c = omega (arith, c.head_at-p.ensures.near (inside c.requires.stands))

pub overflow_cast-at-in_default : goal.overflow_cast-at-in_default
overflow_cast-at-in_default t c = omega (arith, c.head_at-p.ensures.near (inside c.requires.stands))

pub returns-in-0 : goal.returns-in-0
returns-in-0 t c =
    let h = c.requires in
    λ f. laid_id _ _ _ _ _ _ _ _ _ f (code_at _ _ c.head_at-p.ensures.head c.in-0.is) h.few
    c.lay_leaf.ensures

pub returns-in_default : goal.returns-in_default
returns-in_default t c =
    let h = c.requires in
    let e = (head_reads _ _ c.head_at-p.ensures.head).code in
    λ f. laid_rest _ _ _ _ _ _ _ _ _ f h.stands (λ z. omega (arith, e, z)) (λ z. omega (arith, e, z)) h.there
    h.few c.lay_leaf-in_default.ensures
