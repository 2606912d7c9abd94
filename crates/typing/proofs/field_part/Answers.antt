-- `field_part` meets its contract. Assumes nothing.
use native.Mathlib.Omega.{arith}
use mathlib.Core.Path.{sym, ap, ◌∙◌}
use Rattle.rules.specs.declared.Head.{Head}
use Rattle.rules.specs.Masks.{field}
use Rattle.rules.proofs.ReadingLaws.{field_known}
use Rattle.typing.proofs.PackLaws.{past_answer}
use Rattle.typing.proofs.LeafLaws.{shown, bit_is, read_within, ends_within, field_on}
use Rattle.typing.specs.Walking.{state}
use Rattle.typing.proofs.field_part.Goals as goal

pub refusal-requires : goal.refusal-requires
refusal-requires c = read_within c.args.s.now _ _ c.requires.0.size c.read_operands.ensures.within c.in-Err.is

pub overflow_shl-bit : goal.overflow_shl-bit
overflow_shl-bit c =
    let h = ap (λ (h : Head). h.field) (shown _ _ _ c.requires.1 (rw c.place-2.ensures at c.head_at-bit.ensures)) in
    let read = sym (rw c.place.ensures at c.read_operands.ensures.read) ∙ c.in_default.is in
    omega (arith, h, field_known _ _ _ _ _ _ c.requires.3 c.requires.4 read, c.requires.0.fields)

pub returns-clause-read : goal.returns-clause-read
returns-clause-read c =
    let h = ap (λ (h : Head). h.field) (shown _ _ _ c.requires.1 (rw c.place-2.ensures at c.head_at-bit.ensures)) in
    let ops = rw c.place.ensures at c.read_operands.ensures.read in
    let known = field_known _ _ _ _ _ _ c.requires.3 c.requires.4 (sym ops ∙ c.in_default.is) in
    rw (past_answer _ _ _ _ _ (state c.args.st) c.with_masks.ensures c.past.ensures)
    (field_on _ (state c.args.st) _ c.requires.3 c.requires.4 _ _ ops c.in_default.is _
    (bit_is _ (omega (arith, h, known, c.requires.0.fields)) ∙ ap field h) _ _ c.mask_if-t.ensures c.mask_if.ensures)

pub returns-clause-within : goal.returns-clause-within
returns-clause-within c =
    let ops = rw c.place.ensures at c.read_operands.ensures.read in
    rw (past_answer _ _ _ _ _ (state c.args.st) c.with_masks.ensures c.past.ensures)
    (ends_within _ (state c.args.st) c.args.code _ _ ops c.in_default.is)
