-- The order of packets is a strict order: field by field, one of Less, Equal (only a packet and itself) and Greater.
use Rattle.std.specs.declared.cmp.Ordering.{Ordering}
use Rattle.std.specs.declared.cmp.Ordering.TheVariants.{Less, Equal, Greater}
use Prim.Native.Nat.{ℕ, ◌≤◌, ◌<◌}
use mathlib.Core.Path.{◌≡◌, refl, sym, ap, ap₂, ◌∙◌}
use mathlib.Core.Bool.{Bool, true, false}
use mathlib.Core.List.{[], ◌∷◌}
use native.Mathlib.Omega.{arith}
use borrow.Author.Tests.{le-ltb, ltb-true, ltb-false}
use lib.Dec.{ltb}
use Rattle.rules.specs.Packets.{Packet, Packets, order_by, order_of, Before, AllAfter}

-- ---- how two packets lie goes by their first values

data Heads (x y : ℕ) (o r : Ordering) : Type 0 where
  below : x < y → r ≡ Less → Heads x y o r
  above : y < x → r ≡ Greater → Heads x y o r
  equal : x ≡ y → r ≡ o → Heads x y o r

heads : (x y : ℕ) (o : Ordering) → Heads x y o (order_by (ltb x y) (ltb y x) o)
heads x y o = go (ltb x y) (ltb y x) refl refl
  where
    go : (a b : Bool) → ltb x y ≡ a → ltb y x ≡ b → Heads x y o (order_by a b o)
    go true b e f = below (ltb-true x y e) refl
    go false true e f = above (ltb-true y x f) refl
    go false false e f = equal (omega (arith, ltb-false x y e, ltb-false y x f)) refl

pub order_refl : (a : Packet) → order_of a a ≡ Equal
unfolding order_of
order_refl [] = refl
order_refl (x ∷ a) = let h : x ≤ x = omega arith in rw (le-ltb x x h) (order_refl a)

pub order_same : (a b : Packet) → order_of a b ≡ Equal → a ≡ b
unfolding order_of
order_same [] [] e = refl
order_same [] (y ∷ b) e = cc
order_same (x ∷ a) [] e = cc
order_same (x ∷ a) (y ∷ b) e = go (heads x y (order_of a b)) (order_same a b)
  where
    go : Heads x y (order_of a b) (order_by (ltb x y) (ltb y x) (order_of a b)) → (order_of a b ≡ Equal → a ≡ b) → x ∷ a ≡ y ∷ b
    go (below h f) ih = cc
    go (above h f) ih = cc
    go (equal h f) ih = ap₂ (λ (z : ℕ) (c : Packet). z ∷ c) h (ih (sym f ∙ e))

abbrev pub flip : Ordering → Ordering
flip Less = Greater
flip Equal = Equal
flip Greater = Less

pub order_flip : (a b : Packet) → order_of b a ≡ flip (order_of a b)
unfolding order_of
order_flip [] [] = refl
order_flip [] (y ∷ b) = refl
order_flip (x ∷ a) [] = refl
order_flip (x ∷ a) (y ∷ b) = go (heads x y (order_of a b)) (heads y x (order_of b a)) (order_flip a b)
  where
    go : {r t : Ordering} → Heads x y (order_of a b) r → Heads y x (order_of b a) t → order_of b a ≡ flip (order_of a b) → t ≡ flip r
    go (below h f) (below h' f') ih = absurd (omega arith)
    go (below h f) (above h' f') ih = rw (f, f')
    go (below h f) (equal h' f') ih = absurd (omega arith)
    go (above h f) (below h' f') ih = rw (f, f')
    go (above h f) (above h' f') ih = absurd (omega arith)
    go (above h f) (equal h' f') ih = absurd (omega arith)
    go (equal h f) (below h' f') ih = absurd (omega arith)
    go (equal h f) (above h' f') ih = absurd (omega arith)
    go (equal h f) (equal h' f') ih = rw (f, f') ih

-- the other way round
pub order_turned : (a b : Packet) (o : Ordering) → order_of a b ≡ o → order_of b a ≡ flip o
order_turned a b o e = order_flip a b ∙ ap flip e

pub before_irrefl : (a : Packet) → Before a a → ⊥
before_irrefl a e = let s = order_refl a in let z : ◌≡◌ {A = ℕ} 0 1 = cc in absurd (omega arith)

pub before_trans : (a b c : Packet) → Before a b → Before b c → Before a c
unfolding order_of
before_trans [] [] c e f = cc
before_trans [] (y ∷ b) [] e f = cc
before_trans [] (y ∷ b) (z ∷ c) e f = refl
before_trans (x ∷ a) [] c e f = cc
before_trans (x ∷ a) (y ∷ b) [] e f = cc
before_trans (x ∷ a) (y ∷ b) (z ∷ c) e f =
    go (heads x y (order_of a b)) (heads y z (order_of b c)) (heads x z (order_of a c)) e f (before_trans a b c)
  where
    go : {r s t : Ordering} → Heads x y (order_of a b) r → Heads y z (order_of b c) s → Heads x z (order_of a c) t → r ≡ Less → s ≡ Less
        → (Before a b → Before b c → Before a c) → t ≡ Less
    go (above h p) k l e f ih = cc
    go (below h p) (above h' q) l e f ih = cc
    go (equal h p) (above h' q) l e f ih = cc
    go (below h p) (below h' q) (below i d) e f ih = d
    go (below h p) (below h' q) (above i d) e f ih = absurd (omega arith)
    go (below h p) (below h' q) (equal i d) e f ih = absurd (omega arith)
    go (below h p) (equal h' q) (below i d) e f ih = d
    go (below h p) (equal h' q) (above i d) e f ih = absurd (omega arith)
    go (below h p) (equal h' q) (equal i d) e f ih = absurd (omega arith)
    go (equal h p) (below h' q) (below i d) e f ih = d
    go (equal h p) (below h' q) (above i d) e f ih = absurd (omega arith)
    go (equal h p) (below h' q) (equal i d) e f ih = absurd (omega arith)
    go (equal h p) (equal h' q) (below i d) e f ih = d
    go (equal h p) (equal h' q) (above i d) e f ih = absurd (omega arith)
    go (equal h p) (equal h' q) (equal i d) e f ih = d ∙ ih (sym p ∙ e) (sym q ∙ f)

pub before_not_after : (a b : Packet) → Before a b → Before b a → ⊥
before_not_after a b e f = before_irrefl a (before_trans a b a e f)

pub after_trans : (a b : Packet) (s : Packets) → Before a b → AllAfter b s → AllAfter a s
after_trans a b [] e h = tt
after_trans a b (x ∷ s) e h = (before_trans a b x e h.0, after_trans a b s e h.1)
