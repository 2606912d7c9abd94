-- A mask whose fields are all in another passes the typing's test, over masks of any width.
use Prim.Native.Nat.{ℕ, zero, suc, ◌+◌, ◌*◌, ◌/◌, ◌%◌, ◌^◌, ◌≤◌, ◌<◌, max}
use native.Mathlib.Nat.{mod-lt, div-one, div-add-mod', div-div-eq-div-mul, pow-succ'}
use native.Mathlib.Omega.{arith}
use mathlib.Core.Path.{◌≡◌, refl, sym, ap, ◌∙◌}
use mathlib.Core.Bool.{true}
use lib.Dec.{eqb}
use lib.Bits.{bit_or, or_step, or_zero_l}
use borrow.Author.Tests.{eqb-true, eq-eqb}
use Rattle.rules.specs.Masks.{has, within, Sub}

-- field 0 is the lowest bit, and the fields above it are those of the half
has_first : (a : ℕ) → has a 0 ≡ eqb (a % 2) 1
unfolding has
has_first a = ap (λ (x : ℕ). eqb (x % 2) 1) (div-one a)

has_half : (a f : ℕ) → has (a / 2) f ≡ has a (suc f)
unfolding has
has_half a f =
    ap (λ (x : ℕ). eqb (x % 2) 1) (div-div-eq-div-mul a 2 (2 ^ f)) ∙ ap (λ (x : ℕ). eqb (a / x % 2) 1) (sym (pow-succ' 2 f))

sub_half : (a b : ℕ) → Sub a b → Sub (a / 2) (b / 2)
sub_half a b s f h = has_half b f ∙ s (suc f) (sym (has_half a f) ∙ h)

max_bits : (u v : ℕ) → u < 2 → v < 2 → (u ≡ 1 → v ≡ 1) → max u v ≡ v
max_bits zero v h k s = omega arith
max_bits (suc zero) v h k s = omega (arith, s refl)
max_bits (suc (suc u)) v h k s = absurd (omega arith)

sub_first : (a b : ℕ) → Sub a b → max (a % 2) (b % 2) ≡ b % 2
sub_first a b s =
    max_bits (a % 2) (b % 2) (mod-lt a (omega arith)) (mod-lt b (omega arith))
    (λ e. eqb-true (b % 2) 1 (sym (has_first b) ∙ s 0 (has_first a ∙ eq-eqb (a % 2) 1 e)))

or_of_sub : (n a b : ℕ) → a ≤ n → Sub a b → bit_or a b ≡ b
or_of_sub zero a b h s =
    let e : a ≡ 0 = omega arith in
    ap (λ (x : ℕ). bit_or x b) e ∙ or_zero_l b
or_of_sub (suc n) a b h s =
    let l : a / 2 ≤ n = omega arith in
    or_step a b
    ∙ (ap (λ (x : ℕ). x * 2 + max (a % 2) (b % 2)) (or_of_sub n (a / 2) (b / 2) l (sub_half a b s))
    ∙ (ap (λ (x : ℕ). b / 2 * 2 + x) (sub_first a b s) ∙ div-add-mod' b 2))

pub sub_within : (a b : ℕ) → Sub a b → within a b ≡ true
unfolding within
sub_within a b s = eq-eqb (bit_or a b) b (or_of_sub a a b (omega arith) s)
