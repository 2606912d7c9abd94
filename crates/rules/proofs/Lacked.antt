-- Positions that lack fields: a lacked field holds 0 and stays so, and so the order passes lacked fields over.
use Rattle.std.specs.declared.cmp.Ordering.{Ordering}
use Rattle.std.specs.declared.cmp.Ordering.TheVariants.{Less, Equal, Greater}
use mathlib.Core.Path.{◌≡◌, refl, ap, ◌∙◌}
use mathlib.Core.Bool.{Bool, true, false, cond}
use mathlib.Core.List.{[], ◌∷◌}
use Prim.Native.Nat.{ℕ, suc, ◌+◌}
use native.Mathlib.Nat.{add-zero, add-suc, suc-add, zero-add}
use lib.Dec.{ltb}
use lib.ListN.{get_or}
use Rattle.rules.specs.Masks.{has, less, Sub}
use Rattle.rules.specs.Packets.{Packet, Packets, ◌∈◌, without, order_by, order_of}
use Rattle.rules.specs.Parts.{Part, Formed}
use Rattle.rules.specs.Typing.{written, Right}
use Rattle.rules.specs.Meaning.{Gives}
use Rattle.rules.specs.Working.{out}
use Rattle.rules.proofs.MaskLaws.{bits, sub_false, less_out}
use Rattle.rules.proofs.PacketLaws.{mix_off, without_on}
use Rattle.rules.proofs.Frame.{keeps}
use Rattle.rules.proofs.Exact.{meaning}

-- the fields outside h hold 0
abbrev pub Bare : ℕ → Packet → Type 0
Bare h a = (i : ℕ) → has h i ≡ false → get_or a i 0 ≡ 0

-- ---- a lacked field stays 0

pub bare_without : (h w : ℕ) (a : Packet) → Bare h a → Bare (less h w) (without w a)
bare_without h w a b i e = bits (has w i) (without_on w a i) (λ k. mix_off w a [] i k ∙ b i (less_out h w i e k))

pub bare_gives : (p : Part) → Right p → (h : ℕ) → Sub (written p) h → (a b : Packet) → Bare h a → Gives p a b → Bare h b
bare_gives p r h m a b z g i e = (keeps p r a b g).same i (sub_false (written p) h i m e) ∙ z i e

pub bare_out : (p : Part) → Formed p → Right p → (h : ℕ) → Sub (written p) h → (s : Packets) → ((a : Packet) → a ∈ s → Bare h a)
    → (b : Packet) → b ∈ out p s → Bare h b
bare_out p w r h m s z b k = let g = (meaning p w r s b).0 k in bare_gives p r h m g.0 b (z g.0 g.1) g.2

-- ---- the published order

-- "fields that a position lacks are passed over": from field i on, those outside h
abbrev pub order_from : ℕ → ℕ → Packet → Packet → Ordering
order_from h i [] [] = Equal
order_from h i [] (y ∷ b) = Less
order_from h i (x ∷ a) [] = Greater
order_from h i (x ∷ a) (y ∷ b) =
    cond (has h i) (order_by (ltb x y) (ltb y x) (order_from h (suc i) a b)) (order_from h (suc i) a b)

abbrev pub order_on : ℕ → Packet → Packet → Ordering
order_on h a b = order_from h 0 a b

-- fields from i on
BareFrom : ℕ → ℕ → Packet → Type 0
BareFrom h i a = (j : ℕ) → has h (i + j) ≡ false → get_or a j 0 ≡ 0

bare_tail : (h i x : ℕ) (a : Packet) → BareFrom h i (x ∷ a) → BareFrom h (suc i) a
unfolding BareFrom
bare_tail h i x a b j e = b (suc j) (rw (add-suc i j, ← suc-add i j) e)

bare_head : (h i x : ℕ) (a : Packet) → BareFrom h i (x ∷ a) → has h i ≡ false → x ≡ 0
unfolding BareFrom
bare_head h i x a b e = b 0 (rw (add-zero i) e)

passed_over : (c : Bool) (x y : ℕ) (o : Ordering) → (c ≡ false → x ≡ 0) → (c ≡ false → y ≡ 0)
    → cond c (order_by (ltb x y) (ltb y x) o) o ≡ order_by (ltb x y) (ltb y x) o
passed_over true x y o hx hy = refl
passed_over false x y o hx hy = rw (hx refl, hy refl)

order_from_lem : (h i : ℕ) (a b : Packet) → BareFrom h i a → BareFrom h i b → order_from h i a b ≡ order_of a b
unfolding order_of
order_from_lem h i [] [] ha hb = refl
order_from_lem h i [] (y ∷ b) ha hb = refl
order_from_lem h i (x ∷ a) [] ha hb = refl
order_from_lem h i (x ∷ a) (y ∷ b) ha hb =
    passed_over (has h i) x y (order_from h (suc i) a b) (bare_head h i x a ha) (bare_head h i y b hb)
    ∙ ap (λ (o : Ordering). order_by (ltb x y) (ltb y x) o) (order_from_lem h (suc i) a b (bare_tail h i x a ha) (bare_tail h i y b hb))

-- where the lacked fields hold 0, passing them over changes nothing
pub order_on_lem : (h : ℕ) (a b : Packet) → Bare h a → Bare h b → order_on h a b ≡ order_of a b
unfolding BareFrom
order_on_lem h a b ha hb = order_from_lem h 0 a b (λ j e. ha j (rw (zero-add j) at e)) (λ j e. hb j (rw (zero-add j) at e))
