-- `table_body` meets its contract. Assumes nothing.
use native.Mathlib.Omega.{arith}
use mathlib.Core.Bool.{true}
use mathlib.Core.Path.{refl, sym, ap}
use Rattle.typing.specs.Walking.{state, states}
use lib.Seq.{length-take-le}
use Rattle.rules.proofs.HandingUp.{handed_up}
use Rattle.typing.proofs.TurnLaws.{end_in, entry_asked, flat, table_open, table_on, table_off}
use Rattle.typing.proofs.table_body.Goals as goal

pub returns-then-size-eq0 : goal.returns-then-size-eq0
returns-then-size-eq0 c =
    table_open _ c.requires.0 _ _ _ c.requires.1 c.requires.2 c.requires.3 _ c.length_of-size.ensures.length c.if-size-eq0.true

pub overflow_add-end : goal.overflow_add-end
overflow_add-end c =
    omega (
      arith,
      end_in _ c.requires.0 true _ c.requires.3 _ _ c.requires.1.place c.length_of-size.ensures.length,
      c.requires.0.long.1,
    )

pub slice_bounds-whole-end : goal.slice_bounds-whole-end
slice_bounds-whole-end c =
    sym
    (length-take-le _ _
    (end_in _ c.requires.0 true _ c.requires.3 _ _ c.requires.1.place c.length_of-size.ensures.length))

pub whole-requires : goal.whole-requires
whole-requires c =
    entry_asked _ c.requires.0 true _ c.requires.3 _ _ c.requires.1.place c.length_of-size.ensures.length (flat c.args.notes.now)
    c.requires.1.room c.requires.1.few

pub returns-in_err-st : goal.returns-in_err-st
returns-in_err-st c =
    rw (handed_up c.from_residual.ensures.1)
    (table_off _ c.requires.0 _ _ _ c.requires.1 c.requires.2 c.requires.3 _ c.length_of-size.ensures.length
    c.if-size-eq0.false _ _ c.whole.ensures _ (ap states c.in_err-st.was))

pub returns : goal.returns
returns c =
    table_on _ c.requires.0 _ _ _ c.requires.1 c.requires.2 c.requires.3 _ c.length_of-size.ensures.length
    c.if-size-eq0.false _ _ c.whole.ensures (state c.in_ok-st.st) (ap states c.in_ok-st.was) _ _ _ c.reads_of.ensures
    c.writes_of.ensures c.fit_state-fits.ensures _ refl (rw c.from.ensures at c.more_parts.ensures.value)
    c.more_parts.ensures.small (rw c.from.ensures at c.deeper.ensures) c.first_unfit.ensures
