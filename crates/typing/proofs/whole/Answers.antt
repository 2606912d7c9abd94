-- `whole` meets its contract. Assumes nothing.
use mathlib.Core.Path.{sym, ap, ◌∙◌}
use Rattle.typing.specs.Walking.{state, states, begun}
use Rattle.typing.proofs.PackLaws.{begins, asked_from, told_from}
use Rattle.typing.proofs.BodyLaws.{body_off, body_on, body_more}
use Rattle.typing.proofs.whole.Goals as goal

pub walk-requires : goal.walk-requires
walk-requires c =
    asked_from _ _ _ _ _ (begun c.args.start) (begins _ _ _ _ c.args.start c.requires) c.requires

pub returns-in_default : goal.returns-in_default
returns-in_default c =
    let told = told_from _ _ _ _ _ (begun c.args.start) (begins _ _ _ _ c.args.start c.requires) _ _ c.walk.ensures.told in
    rw c.opened-part.ensures
    (body_off _ _ _ _ c.requires _ _ told c.walk.ensures.kept _ (ap states (sym c.opened-part.ensures ∙ c.in_default.is)))

pub returns-then-place-s : goal.returns-then-place-s
returns-then-place-s c =
    let told = told_from _ _ _ _ _ (begun c.args.start) (begins _ _ _ _ c.args.start c.requires) _ _ c.walk.ensures.told in
    body_on _ _ _ _ c.requires _ _ told c.walk.ensures.kept (state c.in-Ok.st) (ap states (sym c.opened-part.ensures ∙ c.in-Ok.is))
    (sym c.place.ensures ∙ c.if-place-s.true)

pub returns-else-place-s : goal.returns-else-place-s
returns-else-place-s c =
    let told = told_from _ _ _ _ _ (begun c.args.start) (begins _ _ _ _ c.args.start c.requires) _ _ c.walk.ensures.told in
    rw c.place-else-place-s.ensures
    (body_more _ _ _ _ c.requires _ _ told c.walk.ensures.kept (state c.in-Ok.st) (ap states (sym c.opened-part.ensures ∙ c.in-Ok.is))
    (λ e. c.if-place-s.false (c.place.ensures ∙ e)))
