-- Masks as sets of fields: what the mask operations say of a field, over masks of any width.
use mathlib.Core.Path.{◌≡◌, refl, sym, ap, ◌∙◌}
use mathlib.Core.Bool.{Bool, true, false, not, ◌&&◌, ◌||◌, true≢false, false≢true}
use Prim.Native.Nat.{ℕ, zero, suc, ◌/◌, ◌%◌, ◌^◌, ◌<◌}
use native.Mathlib.Omega.{arith}
use native.Mathlib.Nat.{mod-lt, zero-div, div_self}
use lib.Dec.{eqb}
use lib.Bits.{bit_and, bit_or, bit_xor, xor_shr, xor_mod, or_shr, and_shr, or_mod, and_mod, and_comm}
use lib.Pow.{pow_pos}
use borrow.Author.Tests.{eqb-true}
use Rattle.rules.specs.Masks.{has, Sub, field, apart, within, less}

-- ---- one bit

two_bits : (P : ℕ → ℕ → Type 0) → P 0 0 → P 0 1 → P 1 0 → P 1 1 → (u v : ℕ) → u < 2 → v < 2 → P u v
two_bits P a b c d zero zero h k = a
two_bits P a b c d zero (suc zero) h k = b
two_bits P a b c d (suc zero) zero h k = c
two_bits P a b c d (suc zero) (suc zero) h k = d
two_bits P a b c d zero (suc (suc v)) h k = absurd (omega arith)
two_bits P a b c d (suc zero) (suc (suc v)) h k = absurd (omega arith)
two_bits P a b c d (suc (suc u)) v h k = absurd (omega arith)

or_bits : (u v : ℕ) → u < 2 → v < 2 → eqb (bit_or u v) 1 ≡ (eqb u 1 || eqb v 1)
or_bits = two_bits (λ u v. eqb (bit_or u v) 1 ≡ (eqb u 1 || eqb v 1)) refl refl refl refl

and_bits : (u v : ℕ) → u < 2 → v < 2 → eqb (bit_and u v) 1 ≡ (eqb u 1 && eqb v 1)
and_bits = two_bits (λ u v. eqb (bit_and u v) 1 ≡ (eqb u 1 && eqb v 1)) refl refl refl refl

less_bits : (u v : ℕ) → u < 2 → v < 2 → eqb (bit_xor (bit_or u v) v) 1 ≡ (eqb u 1 && not (eqb v 1))
less_bits = two_bits (λ u v. eqb (bit_xor (bit_or u v) v) 1 ≡ (eqb u 1 && not (eqb v 1))) refl refl refl refl

-- ---- each operation at a field

pub has_or : (a b f : ℕ) → has (bit_or a b) f ≡ (has a f || has b f)
unfolding has
has_or a b f =
    ap (λ (x : ℕ). eqb (x % 2) 1) (or_shr a b f) ∙ ap (λ (x : ℕ). eqb x 1) (or_mod (a / 2 ^ f) (b / 2 ^ f) 1)
    ∙ or_bits (a / 2 ^ f % 2) (b / 2 ^ f % 2) (mod-lt _ (omega arith)) (mod-lt _ (omega arith))

pub has_and : (a b f : ℕ) → has (bit_and a b) f ≡ (has a f && has b f)
unfolding has
has_and a b f =
    ap (λ (x : ℕ). eqb (x % 2) 1) (and_shr a b f) ∙ ap (λ (x : ℕ). eqb x 1) (and_mod (a / 2 ^ f) (b / 2 ^ f) 1)
    ∙ and_bits (a / 2 ^ f % 2) (b / 2 ^ f % 2) (mod-lt _ (omega arith)) (mod-lt _ (omega arith))

pub has_less : (a b f : ℕ) → has (less a b) f ≡ (has a f && not (has b f))
unfolding has less
has_less a b f =
    ap (λ (x : ℕ). eqb (x % 2) 1) (xor_shr (bit_or a b) b f)
    ∙ ap (λ (x : ℕ). eqb x 1) (xor_mod (bit_or a b / 2 ^ f) (b / 2 ^ f) 1)
    ∙ ap (λ (x : ℕ). eqb (bit_xor (x % 2) (b / 2 ^ f % 2)) 1) (or_shr a b f)
    ∙ ap (λ (x : ℕ). eqb (bit_xor x (b / 2 ^ f % 2)) 1) (or_mod (a / 2 ^ f) (b / 2 ^ f) 1)
    ∙ less_bits (a / 2 ^ f % 2) (b / 2 ^ f % 2) (mod-lt _ (omega arith)) (mod-lt _ (omega arith))

pub has_zero : (f : ℕ) → has 0 f ≡ false
unfolding has
has_zero f = rw zero-div

pub has_field : (f : ℕ) → has (field f) f ≡ true
unfolding has
has_field f = rw (div_self (pow_pos f))

-- ---- what the tests of the typing say of fields

-- w has no field of m
abbrev pub Off : ℕ → ℕ → Type 0
Off w m = (f : ℕ) → has m f ≡ true → has w f ≡ false

pub bits {ℓ} : {P : Type ℓ} (b : Bool) → (b ≡ true → P) → (b ≡ false → P) → P
bits true h k = h refl
bits false h k = k refl

not_both : (x y : Bool) → (x && y) ≡ false → y ≡ true → x ≡ false
not_both false y e h = refl
not_both true y e h = absurd (true≢false (sym h ∙ e))

or_in : (x y : Bool) → (x || y) ≡ y → x ≡ true → y ≡ true
or_in true y e h = sym e
or_in false y e h = absurd (false≢true h)

or_l : (x y : Bool) → x ≡ true → (x || y) ≡ true
or_l true y h = refl
or_l false y h = absurd (false≢true h)

or_r : (x y : Bool) → y ≡ true → (x || y) ≡ true
or_r true y h = refl
or_r false y h = h

false_of : (x y : Bool) → (x ≡ true → y ≡ true) → y ≡ false → x ≡ false
false_of true y h e = absurd (true≢false (sym (h refl) ∙ e))
false_of false y h e = refl

pub apart_off : (w m : ℕ) → apart w m ≡ true → Off w m
unfolding apart
apart_off w m e f h =
    not_both (has w f) (has m f) (sym (has_and w m f) ∙ ap (λ (x : ℕ). has x f) (eqb-true (bit_and w m) 0 e) ∙ has_zero f) h

pub apart_turned : (a b : ℕ) → apart a b ≡ apart b a
unfolding apart
apart_turned a b = ap (λ (x : ℕ). eqb x 0) (and_comm a b)

pub apart_off_r : (m w : ℕ) → apart m w ≡ true → Off w m
apart_off_r m w e = apart_off w m (apart_turned w m ∙ e)

pub within_sub : (a b : ℕ) → within a b ≡ true → Sub a b
unfolding within
within_sub a b e f h =
    or_in (has a f) (has b f) (sym (has_or a b f) ∙ ap (λ (x : ℕ). has x f) (eqb-true (bit_or a b) b e)) h

pub sub_or_l : (a b : ℕ) → Sub a (bit_or a b)
sub_or_l a b f h = has_or a b f ∙ or_l (has a f) (has b f) h

pub sub_or_r : (a b : ℕ) → Sub b (bit_or a b)
sub_or_r a b f h = has_or a b f ∙ or_r (has a f) (has b f) h

pub off_sub : (w m n : ℕ) → Sub m n → Off w n → Off w m
off_sub w m n s o f h = o f (s f h)

pub sub_false : (a b f : ℕ) → Sub a b → has b f ≡ false → has a f ≡ false
sub_false a b f s e = false_of (has a f) (has b f) (s f) e

and_not : (x y : Bool) → x ≡ true → y ≡ false → (x && not y) ≡ true
and_not true true h k = sym k
and_not true false h k = refl
and_not false y h k = h

and_not_false : (x y : Bool) → (x && not y) ≡ false → y ≡ false → x ≡ false
and_not_false true true h k = k
and_not_false true false h k = h
and_not_false false y h k = refl

pub less_in : (a b f : ℕ) → has a f ≡ true → has b f ≡ false → has (less a b) f ≡ true
less_in a b f h k = has_less a b f ∙ and_not (has a f) (has b f) h k

pub less_out : (a b f : ℕ) → has (less a b) f ≡ false → has b f ≡ false → has a f ≡ false
less_out a b f h k = and_not_false (has a f) (has b f) (sym (has_less a b f) ∙ h) k
