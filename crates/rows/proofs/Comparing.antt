-- The library's order of two rows is that of the rules, and so is what is equal.
use Prim.Native.Nat.{ℕ}
use mathlib.Core.Path.{◌≡◌, refl, sym, ap, ap₂, ◌∙◌}
use mathlib.Core.Bool.{Bool, true, false, ◌||◌}
use mathlib.Core.List.{List, [], ◌∷◌}
use native.Mathlib.Omega.{arith}
use native.Mathlib.Decide.{dec_lt}
use borrow.Author.Tests.{lt-ltb, le-ltb, eq-eqb, ne_eqb}
use lib.Dec.{ltb}
use Rattle.std.specs.declared.cmp.Ordering.{Ordering}
use Rattle.std.specs.declared.cmp.Ordering.TheVariants.{Less, Equal, Greater}
use Rattle.std.specs.Bool.{Decides}
use Rattle.std.specs.List.{list_any}
use Rattle.std.specs.Str.{bytes_eq}
use Rattle.std.proofs.lemmas.Slice.Eq.{bytes_eq-Decides}
use Rattle.std.specs.Ordering.{nat_cmp, ordering_then}
use Rattle.std.specs.Cmp.Lexicographic.{slice_cmp}
use Rattle.rules.specs.Packets.{Packets, order_by, order_of, is_same, member}
use Rattle.rules.proofs.Orders.{order_same, order_refl}

by_value : (x y : ℕ) (o : Ordering) → ordering_then (nat_cmp x y) o ≡ order_by (ltb x y) (ltb y x) o
by_value x y o =
    elim (dec_lt x y) [
      | yes l ↦ rw (lt-ltb x y l) refl
      | no l ↦ elim (dec_lt y x) [
        | yes m ↦
            let n : x ≡ y → ⊥ = λ e. omega arith in
            rw (le-ltb x y (omega arith), lt-ltb y x m, ne_eqb x y n) refl
        | no m ↦ let e : x ≡ y = omega arith in rw (le-ltb x y (omega arith), le-ltb y x (omega arith), eq-eqb x y e) refl
      ]
    ]

pub order_of_lem : (p q : List ℕ) → slice_cmp nat_cmp p q ≡ order_of p q
unfolding order_of
order_of_lem [] [] = refl
order_of_lem [] (y ∷ q) = refl
order_of_lem (x ∷ p) [] = refl
order_of_lem (x ∷ p) (y ∷ q) = by_value x y (slice_cmp nat_cmp p q) ∙ ap (λ (o : Ordering). order_by (ltb x y) (ltb y x) o) (order_of_lem p q)

-- ---- a row among others

same_by : (b : Bool) (p y : List ℕ) → Decides b (y ≡ p) → b ≡ is_same (order_of p y)
same_by true p y d = rw (d.0 refl, order_refl p) refl
same_by false p y d = go (order_of p y) refl
  where
    go : (o : Ordering) → order_of p y ≡ o → false ≡ is_same o
    go Less e = refl
    go Greater e = refl
    go Equal e = d.1 (sym (order_same p y e))

pub member_lem : (p : List ℕ) (s : Packets) → list_any (λ y. bytes_eq y p) s ≡ member p s
unfolding member
member_lem p [] = refl
member_lem p (y ∷ s) = ap₂ (λ (b c : Bool). b || c) (same_by (bytes_eq y p) p y (bytes_eq-Decides y p)) (member_lem p s)
