-- The one walk meets its contract: the walk, its sides and its concurrent parts. The measure is the depth that is left. Assumes nothing.
use native.Mathlib.Omega.{arith}
use mathlib.Core.Path.{sym, ap, ◌∙◌}
use mathlib.Core.Logic.{inl, inr}
use lib.ListN.{get_or}
use Rattle.typing.specs.Walking.{state, moved, bare}
use Rattle.typing.proofs.PackLaws.{opened_off, opened_on, asked_from, told_from}
use Rattle.typing.proofs.LeafLaws.{read_within, beside_stops, five_six, other_codes}
use Rattle.typing.proofs.WalkLaws.{walk_short, walk_deep}
use Rattle.typing.proofs.CycleLaws.{leaf_is_told, leaf_is_kept, round_short, round_deep, round_stop, round_told, kept_as, round_not}
use Rattle.typing.proofs.CycleLaws.{round_off, round_on}
use Rattle.typing.proofs.BesideLaws.{beside_refused, first_asked, first_off, second_off, both_told, both_kept, joined_is}
use Rattle.typing.proofs.+walking.Goals as goal
use Rattle.typing.proofs.+walking.Goals.{side-in_default-via-then-code-lt4, side-in_default-via-else-code-lt4+else-code-lt8}
use Rattle.typing.proofs.+walking.Goals.{walk-in_default-via-then-code-lt4, walk-in_default-via-else-code-lt4+else-code-lt7}

pub beside_part-refusal-requires : goal.beside_part-refusal-requires
beside_part-refusal-requires t c =
    read_within c.args.s.now _ _ c.requires.asked.sound.size c.read_operands.ensures.within c.in-Err.is

pub beside_part-returns-in-Err-clause-told : goal.beside_part-returns-in-Err-clause-told
beside_part-returns-in-Err-clause-told t c =
    rw c.refusal.ensures
    (beside_refused _ _ (state c.args.st) _ _ c.requires _ (rw c.place.ensures at c.read_operands.ensures.read) _ c.in-Err.is)

pub beside_part-walk-left-requires : goal.beside_part-walk-left-requires
beside_part-walk-left-requires t c =
    let ops = rw c.place.ensures at c.read_operands.ensures.read in (
      omega arith,
      rw c.max-notes.ensures
          (asked_from _ _ _ _ _ (moved 2 (bare (state c.args.st))) (c.past.ensures ∙ ap (moved 2) c.bare.ensures)
          (first_asked _ _ (state c.args.st) _ _ c.requires _ ops _ c.in_default.is)),
    )

pub beside_part-returns-in_default-opened-clause-told : goal.beside_part-returns-in_default-opened-clause-told
beside_part-returns-in_default-opened-clause-told t c =
    let ops = rw c.place.ensures at c.read_operands.ensures.read in
    let first = c.past.ensures ∙ ap (moved 2) c.bare.ensures in
    let t1 = told_from _ _ _ _ _ (moved 2 (bare (state c.args.st))) first _ _ (rw c.max-notes.ensures at c.walk-left.ensures.told) in
    first_off _ _ (state c.args.st) _ _ c.requires _ ops _ c.in_default.is _ _ t1 c.walk-left.ensures.kept _
    (opened_off _ _ c.opened.ensures _ c.in_default-opened.is)

pub beside_part-returns-in_default-opened-2-clause-told : goal.beside_part-returns-in_default-opened-2-clause-told
beside_part-returns-in_default-opened-2-clause-told t c =
    let ops = rw c.place.ensures at c.read_operands.ensures.read in
    let first = c.past.ensures ∙ ap (moved 2) c.bare.ensures in
    let t1 = told_from _ _ _ _ _ (moved 2 (bare (state c.args.st))) first _ _ (rw c.max-notes.ensures at c.walk-left.ensures.told) in
    let l = opened_on _ _ c.opened.ensures _ c.in-Ok.is in
    let t2 = told_from _ _ _ _ _ (bare (state c.in-Ok.l)) c.bare-2.ensures _ _ c.walk-right.ensures.told in
    second_off _ _ (state c.args.st) _ _ c.requires _ ops _ c.in_default.is _ _ t1 c.walk-left.ensures.kept _ l _ _
    t2 c.walk-right.ensures.kept _ (opened_off _ _ c.opened-2.ensures _ c.in_default-opened-2.is)

pub beside_part-returns : goal.beside_part-returns
beside_part-returns t c =
    let ops = rw c.place.ensures at c.read_operands.ensures.read in
    let first = c.past.ensures ∙ ap (moved 2) c.bare.ensures in
    let t1 = told_from _ _ _ _ _ (moved 2 (bare (state c.args.st))) first _ _ (rw c.max-notes.ensures at c.walk-left.ensures.told) in
    let l = opened_on _ _ c.opened.ensures _ c.in-Ok.is in
    let t2 = told_from _ _ _ _ _ (bare (state c.in-Ok.l)) c.bare-2.ensures _ _ c.walk-right.ensures.told in
    let r = opened_on _ _ c.opened-2.ensures _ c.in-Ok-opened.is in
    let i = rw c.place-2.ensures at c.head_at-h.ensures in
    let z = joined_is _ _ (state c.args.st) _ _ c.requires _ ops _ c.in_default.is _ _ t1 c.walk-left.ensures.kept _ l _ _
    t2 c.walk-right.ensures.kept _ r _ i _ c.joined.ensures in
    record {
      told
          = rw (z, c.fault_after-notes.ensures, c.right_states-apart.ensures, c.place-3.ensures)
          (both_told _ _ (state c.args.st) _ _ c.requires _ ops _ c.in_default.is _ _ t1 c.walk-left.ensures.kept _ l _ _
          t2 c.walk-right.ensures.kept _ r _ i);
      kept
          = rw z
          (both_kept _ _ (state c.args.st) _ _ c.requires _ ops _ c.in_default.is _ _ t1 c.walk-left.ensures.kept _ l _ _
          t2 c.walk-right.ensures.kept _ r _ i _);
    }

pub side-returns-then-s-place-clause-told : goal.side-returns-then-s-place-clause-told
side-returns-then-s-place-clause-told t c = rw c.refusal.ensures (sym (walk_short _ c.args.way _ _ (omega arith)))

pub side-returns-then-depth-eq0-clause-told : goal.side-returns-then-depth-eq0-clause-told
side-returns-then-depth-eq0-clause-told t c =
    rw (c.refusal-then-depth-eq0.ensures, c.place-then-depth-eq0.ensures)
    (sym (walk_deep _ c.args.way _ _ (omega arith) c.if-depth-eq0.true))

pub side-returns-in_default : goal.side-returns-in_default
side-returns-in_default t c =
    let code = get_or c.args.s.now c.place-2.result 0 in
    let none = rw c.place-2.ensures at (other_codes code (λ e. omega arith) (λ e. omega arith)
    (elim c.in_default.branch [
      | side-in_default-via-then-code-lt4 w ↦ inl (omega arith)
      | side-in_default-via-else-code-lt4+else-code-lt8 w ↦ inr (omega arith)
    ])) in
    let l = c.leaf.ensures in
    record {
      told = leaf_is_told _ _ (state c.args.st) _ _ c.requires.kept (omega arith) none _ c.if-depth-eq0.false _ l.read l.noted;
      kept = leaf_is_kept _ _ (state c.args.st) _ _ c.requires.kept (omega arith) none _ c.if-depth-eq0.false _ l.read l.noted l.within;
    }

pub walk-returns-then-s-place-clause-told : goal.walk-returns-then-s-place-clause-told
walk-returns-then-s-place-clause-told t c =
    rw c.refusal.ensures (round_short _ _ _ _ _ _ _ _ c.loop-way.invariant (omega arith))

pub walk-returns-then-depth-eq0-clause-told : goal.walk-returns-then-depth-eq0-clause-told
walk-returns-then-depth-eq0-clause-told t c =
    rw (c.refusal-then-depth-eq0.ensures, c.place-then-depth-eq0.ensures)
    (round_deep _ _ _ _ _ _ _ _ c.loop-way.invariant (omega arith) c.if-depth-eq0.true)

pub walk-loop-way-preserved-in-4 : goal.walk-loop-way-preserved-in-4
walk-loop-way-preserved-in-4 t c =
    rw c.past-st.ensures
    (round_not _ _ _ _ _ _ _ _ c.loop-way.invariant (omega arith) c.if-depth-eq0.false (rw c.place-in-loop-way.ensures at c.in-4.is))

pub walk-returns-then-way-clause-told : goal.walk-returns-then-way-clause-told
walk-returns-then-way-clause-told t c =
    rw (c.refusal-then-way.ensures, c.place-then-way.ensures)
    (round_stop _ _ _ _ _ _ _ _ c.loop-way.invariant (omega arith) c.if-depth-eq0.false
    (rw (rw c.place-in-loop-way.ensures at c.in-7.is) (beside_stops _ _ c.if-way.true)))

pub walk-returns-in_default-opened-clause-told : goal.walk-returns-in_default-opened-clause-told
walk-returns-in_default-opened-clause-told t c =
    let code = get_or c.args.s.now c.place-in-loop-way.result 0 in
    let two = rw c.place-in-loop-way.ensures at (five_six code (omega arith) (omega arith)) in
    let t1 = told_from _ _ _ _ _ (moved 0 (state c.loop-way.st)) c.past.ensures _ _ c.side-left.ensures.told in
    round_off _ _ _ _ _ _ _ _ c.loop-way.invariant (omega arith) c.if-depth-eq0.false two _ _ t1 _
    (opened_off _ _ c.opened.ensures _ c.in_default-opened.is)

pub walk-loop-way-preserved : goal.walk-loop-way-preserved
walk-loop-way-preserved t c =
    let code = get_or c.args.s.now c.place-in-loop-way.result 0 in
    let two = rw c.place-in-loop-way.ensures at (five_six code (omega arith) (omega arith)) in
    let t1 = told_from _ _ _ _ _ (moved 0 (state c.loop-way.st)) c.past.ensures _ _ c.side-left.ensures.told in
    round_on _ _ _ _ _ _ _ _ c.loop-way.invariant (omega arith) c.if-depth-eq0.false two _ _ t1 _
    (opened_on _ _ c.opened.ensures _ c.in-Ok.is) c.side-left.ensures.kept

pub walk-returns-in_default : goal.walk-returns-in_default
walk-returns-in_default t c =
    let code = get_or c.args.s.now c.place-in-loop-way.result 0 in
    let none = rw c.place-in-loop-way.ensures at (other_codes code (λ e. omega arith) (λ e. omega arith)
    (elim c.in_default.branch [
      | walk-in_default-via-then-code-lt4 w ↦ inl (omega arith)
      | walk-in_default-via-else-code-lt4+else-code-lt7 w ↦ inr (omega arith)
    ])) in
    let l = c.leaf.ensures in
    let kept = c.loop-way.invariant.asked.kept in
    record {
      told
          = round_told _ _ _ _ _ _ _ _ c.loop-way.invariant (omega arith) c.if-depth-eq0.false _ _
          (leaf_is_told _ _ (state c.loop-way.st) _ _ kept (omega arith) none _ c.if-depth-eq0.false _ l.read l.noted);
      kept
          = kept_as _ _ _ _ _ _ _ _ c.loop-way.invariant (omega arith) c.if-depth-eq0.false _ _
          (leaf_is_kept _ _ (state c.loop-way.st) _ _ kept (omega arith) none _ c.if-depth-eq0.false _ l.read l.noted l.within);
    }
