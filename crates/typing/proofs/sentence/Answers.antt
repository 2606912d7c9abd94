-- `sentence` meets its contract. Assumes nothing.
use mathlib.Core.Path.{◌∙◌}
use mathlib.Core.Logic.{⊎_elim, inl, inr}
use Rattle.typing.proofs.EndLaws.{over_limits, not_typed, accepted}
use Rattle.typing.proofs.sentence.Goals as goal

pub returns-then-z-gt-MOST_PARTS : goal.returns-then-z-gt-MOST_PARTS
returns-then-z-gt-MOST_PARTS c =
    rw c.into.ensures (over_limits _ c.requires.0 _ _ c.requires.1 (⊎_elim inl (λ h. inr h.1) c.then-z-gt-MOST_PARTS.either))

pub returns-in-Some : goal.returns-in-Some
returns-in-Some c =
    not_typed _ c.requires.0 _ _ c.requires.1 c.if-z-gt-MOST_PARTS.false c.if-z-gt-MOST_BESIDE.false _ c.or.ensures _ c.in-Some.is

pub returns : goal.returns
returns c =
    accepted _ c.requires.0 _ _ c.requires.1 c.if-z-gt-MOST_PARTS.false c.if-z-gt-MOST_BESIDE.false _ c.or.ensures c.in_default.is _ _
    (c.from.ensures ∙ c.byte_at.ensures) (c.from-2.ensures ∙ c.byte_at-2.ensures)
