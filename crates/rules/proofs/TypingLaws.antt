-- The typing tests taken apart into what they say of fields, and the test with the sides exchanged.
use mathlib.Core.Path.{◌≡◌, refl, ap, ◌∙◌}
use mathlib.Core.Bool.{Bool, true, false, ◌&&◌, and_comm}
use Prim.Native.Nat.{ℕ}
use lib.Bits.{bit_or}
use Rattle.rules.specs.Masks.{apart, within, Sub}
use Rattle.rules.specs.Parts.{Part}
use Rattle.rules.specs.Typing.{tested, written, right_masks, right_beside, fit_masks, fits}
use Rattle.rules.proofs.ReadingLaws.{and_was}
use Rattle.rules.proofs.MaskLaws.{Off, apart_off, apart_off_r, apart_turned, within_sub}

-- a concurrent part is right: what each side writes, and that neither side sees the other's fields
pub record RightParts (wp wq tp mp tq mq : ℕ) : Type 0 where
  pub writes_p : Sub mp wp
  pub writes_q : Sub mq wq
  pub apart_p : Off wp wq
  pub apart_q : Off wq wp
  pub reads_p : Off wq tp
  pub reads_q : Off wp tq

pub right_parts : (wp wq tp mp tq mq : ℕ) → right_masks wp wq tp mp tq mq ≡ true → RightParts wp wq tp mp tq mq
unfolding right_masks
right_parts wp wq tp mp tq mq e =
    let a = and_was (within mp wp) _ e in
    let b = and_was (within mq wq) _ a.1 in
    let c = and_was (apart wp wq) _ b.1 in
    let d = and_was (apart tp wq) _ c.1 in record {
      writes_p = within_sub mp wp a.0;
      writes_q = within_sub mq wq b.0;
      apart_p = apart_off wp wq c.0;
      apart_q = apart_off_r wp wq c.0;
      reads_p = apart_off_r tp wq d.0;
      reads_q = apart_off_r tq wp d.1;
    }

-- a body fits its masks
pub record FitParts (r w t m : ℕ) : Type 0 where
  pub reads : Sub t (bit_or r w)
  pub writes : Sub m w

pub fit_parts : (r w t m : ℕ) → fit_masks r w t m ≡ true → FitParts r w t m
unfolding fit_masks
fit_parts r w t m e =
    let a = and_was (within t (bit_or r w)) _ e in
    record { reads = within_sub t (bit_or r w) a.0; writes = within_sub m w a.1 }

-- the same, of parts
pub right_sides : (wp wq : ℕ) (p q : Part) → right_beside wp wq p q ≡ true
    → RightParts wp wq (tested p) (written p) (tested q) (written q)
right_sides wp wq p q e = right_parts wp wq (tested p) (written p) (tested q) (written q) e

pub fit_body : (r w : ℕ) (p : Part) → fits r w p ≡ true → FitParts r w (tested p) (written p)
fit_body r w p e = fit_parts r w (tested p) (written p) e

exchanged : (a b c d e : Bool) → (b && (a && (c && (e && d)))) ≡ (a && (b && (c && (d && e))))
exchanged true true true d e = and_comm e d
exchanged true true false d e = refl
exchanged true false c d e = refl
exchanged false true c d e = refl
exchanged false false c d e = refl

masks_turned : (wp wq tp mp tq mq : ℕ) → right_masks wq wp tq mq tp mp ≡ right_masks wp wq tp mp tq mq
unfolding right_masks
masks_turned wp wq tp mp tq mq =
    ap (λ (x : Bool). within mq wq && (within mp wp && (x && (apart tq wp && apart tp wq)))) (apart_turned wq wp)
    ∙ exchanged (within mp wp) (within mq wq) (apart wp wq) (apart tp wq) (apart tq wp)

-- a concurrent part with its sides exchanged is right as it was
pub right_turned : (wp wq : ℕ) (p q : Part) → right_beside wq wp q p ≡ right_beside wp wq p q
right_turned wp wq p q = masks_turned wp wq (tested p) (written p) (tested q) (written q)
