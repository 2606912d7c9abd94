-- `main_body` meets its contract. Assumes nothing.
use native.Mathlib.Omega.{arith}
use mathlib.Core.Bool.{false}
use mathlib.Core.Path.{refl, sym, ap}
use Rattle.typing.specs.Walking.{state, states}
use lib.Seq.{length-take-le}
use Rattle.rules.proofs.HandingUp.{handed_up}
use Rattle.typing.proofs.TurnLaws.{end_in, entry_asked, main_on, main_off}
use Rattle.typing.proofs.main_body.Goals as goal

pub slice_bounds-whole-end : goal.slice_bounds-whole-end
slice_bounds-whole-end c =
    sym
    (length-take-le _ _
    (end_in _ c.requires.0 false 0 (omega arith) _ _ c.body_start-at.ensures.place c.length_of.ensures.length))

pub whole-requires : goal.whole-requires
whole-requires c =
    entry_asked _ c.requires.0 false 0 (omega arith) _ _ c.body_start-at.ensures.place c.length_of.ensures.length _
    c.requires.1.room (λ x. rw (c.requires.1.clean x) (omega arith))

pub returns-in_err-st : goal.returns-in_err-st
returns-in_err-st c =
    rw (handed_up c.from_residual.ensures.1)
    (main_off _ c.requires.0 _ _ c.body_start-at.ensures.place c.length_of.ensures.length _ c.requires.1 _ _ c.whole.ensures _ (ap states c.in_err-st.was))

pub returns : goal.returns
returns c =
    main_on _ c.requires.0 _ _ c.body_start-at.ensures.place c.length_of.ensures.length _ c.requires.1 _ _ c.whole.ensures (state c.in_ok-st.st) (ap states c.in_ok-st.was)
    _ _ _ c.reads_of.ensures c.writes_of.ensures c.fit_state-fits.ensures _ refl c.parts.ensures c.from.ensures
    c.first_unfit.ensures
