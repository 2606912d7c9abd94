-- Plain laws of the reader's definitions, each over numbers and lists alone.
use Rattle.std.specs.Prelude.{Err, Ok, Result, ℕ}
use Prim.Native.Nat.{ℕ, zero, suc, ◌+◌, ◌<◌, ◌≤◌}
use native.Mathlib.Omega.{arith}
use native.Mathlib.Numerals.{add-one}
use mathlib.Core.Path.{◌≡◌, refl, sym, ap, ◌∙◌}
use mathlib.Core.Bool.{Bool, true, false, not, ◌&&◌, cond}
use mathlib.Core.Logic.{◌⊎◌, ⊎_elim}
use mathlib.Core.List.{List, [], ◌∷◌}
use mathlib.Core.Option.{Option, none, some, none-ne-some}
use lib.ListN.{length, get_or, take, drop, drop_of_length-le, get_or-eq_default}
use lib.Seq.{drop-cons, take-nil}
use lib.Dec.{ltb, leb, lit≤}
use Rattle.rules.specs.Codes.{operands_of, parts_of}
use borrow.Author.Tests.{ltb-true, leb-true, lt-ltb, le-ltb, le-leb, lt-leb, eq-eqb, ne_eqb}
use Rattle.rules.specs.Books.{Scope, most_depth}
use Rattle.rules.proofs.CodeLaws.{by_code}
use Rattle.rules.specs.Reading.{and_then, byte_if, standing, stands, later, field_wrong, operands_wrong, judged, operands_at, read_operands}
use Rattle.rules.specs.Reading.{read_part, read_body, head, head_at}

-- the three answers at a byte
module _ (s : List ℕ) (ok : ℕ → Bool) (at : ℕ) where
  pub byte_short : length s ≤ at → Err (length s) ≡ byte_if s ok at
  unfolding byte_if
  byte_short h = rw (le-ltb at (length s) h)

  pub byte_wrong : at < length s → ok (get_or s at 0) ≡ false → Err at ≡ byte_if s ok at
  unfolding byte_if
  byte_wrong h e = rw (lt-ltb at (length s) h, e)

  pub byte_next : at < length s → ok (get_or s at 0) ≡ true → Ok (at + 1) ≡ byte_if s ok at
  unfolding byte_if
  byte_next h e = rw (lt-ltb at (length s) h, e)

-- which codes stand
module _ (t p : Bool) where
  pub stands_known : (c : ℕ) → c < 7 → (c ≡ 3 → ⊥) → stands t p c ≡ true
  unfolding stands
  stands_known zero h n = refl
  stands_known (suc zero) h n = refl
  stands_known (suc (suc zero)) h n = refl
  stands_known (suc (suc (suc zero))) h n = absurd (n refl)
  stands_known (suc (suc (suc (suc zero)))) h n = refl
  stands_known (suc (suc (suc (suc (suc zero))))) h n = refl
  stands_known (suc (suc (suc (suc (suc (suc zero)))))) h n = refl
  stands_known (suc (suc (suc (suc (suc (suc (suc c))))))) h n = absurd (omega arith)

  pub stands_unknown : (c : ℕ) → 9 ≤ c → stands t p c ≡ false
  unfolding stands
  stands_unknown c h = get_or-eq_default (standing t p) false h

pub and_was : (a b : Bool) → (a && b) ≡ true → (a ≡ true) × (b ≡ true)
and_was true b h = (refl, h)
and_was false b h = let z : ◌≡◌ {A = ℕ} 0 1 = cc in absurd (omega arith)

-- ---- heads and operands

pub head_is : (s : List ℕ) (at : ℕ) → at < length s → head_at s at ≡ head s at
unfolding head_at
head_is s at h = rw (lt-ltb at (length s) h)

-- of n + 1 bytes from a place on, the first that is there, or none
pub none_there : (s : List ℕ) (n a : ℕ) → length s ≤ a → take n (drop a s) ≡ []
none_there s n a h = ap (take n) (drop_of_length-le s h) ∙ take-nil n

pub some_there : (s : List ℕ) (n a : ℕ) → a < length s → take (suc n) (drop a s) ≡ get_or s a 0 ∷ take n (drop (a + 1) s)
some_there s n a h =
    let e : drop a s ≡ get_or s a 0 ∷ drop (a + 1) s = rw add-one (drop-cons s a 0 h) in
    ap (take (suc n)) e

-- none is wrong: the first fits, and no later one is wrong
pub none_wrong : (fits : Bool) (o : Option ℕ) → cond fits o (some 0) ≡ none → (fits ≡ true) × (o ≡ none)
none_wrong true o h = (refl, h)
none_wrong false o h = absurd (none-ne-some 0 (sym h))

pub none_later : (o : Option ℕ) → later o ≡ none → o ≡ none
none_later none h = refl
none_later (some i) h = absurd (none-ne-some (suc i) (sym h))

module _ (s : List ℕ) (k m code at : ℕ) where
  pub operands_next : at + 1 + operands_of code ≤ length s → operands_wrong k m code (operands_at s code at) ≡ none
      → read_operands s k m code at ≡ Ok (at + 1 + operands_of code)
  unfolding read_operands
  operands_next h e = rw (e, le-leb (at + 1 + operands_of code) (length s) h)

  pub operands_cut : length s < at + 1 + operands_of code → operands_wrong k m code (operands_at s code at) ≡ none
      → read_operands s k m code at ≡ Err (length s)
  unfolding read_operands
  operands_cut h e = rw (e, lt-leb (at + 1 + operands_of code) (length s) h)

  pub operands_wrong_lem : (i : ℕ) → operands_wrong k m code (operands_at s code at) ≡ some i → read_operands s k m code at ≡ Err (at + 1 + i)
  unfolding read_operands
  operands_wrong_lem i e = rw e

  -- what is known once they are read
  pub operands_were : (b : ℕ) → read_operands s k m code at ≡ Ok b
      → (b ≡ at + 1 + operands_of code) × (at + 1 + operands_of code ≤ length s) × (operands_wrong k m code (operands_at s code at) ≡ none)
  unfolding read_operands
  operands_were b = go (operands_wrong k m code (operands_at s code at)) refl (leb (at + 1 + operands_of code) (length s)) refl
    where
      go : (o : Option ℕ) → operands_wrong k m code (operands_at s code at) ≡ o → (x : Bool) → leb (at + 1 + operands_of code) (length s) ≡ x
          → judged s (operands_of code) (at + 1) o ≡ Ok b
          → (b ≡ at + 1 + operands_of code) × (at + 1 + operands_of code ≤ length s) × (operands_wrong k m code (operands_at s code at) ≡ none)
      go (some i) e x f q = let z : ◌≡◌ {A = ℕ} 0 1 = cc in absurd (omega arith)
      go none e true f q =
          let n : Ok (at + 1 + operands_of code) ≡ Ok b = rw f at q in
          (cc, leb-true (at + 1 + operands_of code) (length s) f, e)
      go none e false f q =
          let n : Err (length s) ≡ Ok b = rw f at q in
          let z : ◌≡◌ {A = ℕ} 0 1 = cc in absurd (omega arith)

-- of no operands none is wrong
pub empty_right : (k m code : ℕ) → operands_wrong k m code [] ≡ none
unfolding operands_wrong
empty_right k m = by_code (λ c. operands_wrong k m c [] ≡ none) refl refl refl refl refl refl refl refl refl (λ c. refl)

pub operands_none : (s : List ℕ) (k m code at : ℕ) → operands_of code ≡ 0 → at < length s → read_operands s k m code at ≡ Ok (at + 1)
operands_none s k m code at z h =
    let e : at + 1 + operands_of code ≡ at + 1 = omega arith in
    let n : operands_wrong k m code (operands_at s code at) ≡ none = rw z (empty_right k m code) in
    operands_next s k m code at (omega arith) n ∙ ap (λ (x : ℕ). Ok x) e

-- what the operands of a test, a set and a use of a table are known to be
module _ (s : List ℕ) (k m at e : ℕ) where
  known : at + 1 + 3 ≤ length s → field_wrong k (take 3 (drop (at + 1) s)) ≡ none → (head s at).field < k
  known h w =
      let there : take 3 (drop (at + 1) s) ≡ (head s at).field ∷ take 2 (drop (at + 1 + 1) s) = some_there s 2 (at + 1) (omega arith) in
      ltb-true (head s at).field k (none_wrong _ _ (rw there at w)).0

  pub field_known : (code : ℕ) → 2 ≤ code → code < 4 → read_operands s k m code at ≡ Ok e → (head s at).field < k
  unfolding operands_wrong
  field_known code h l q =
      let w = operands_were s k m code at e q in
      go code h l w.1 w.2
    where
      go : (code : ℕ) → 2 ≤ code → code < 4 → at + 1 + operands_of code ≤ length s → operands_wrong k m code (operands_at s code at) ≡ none
          → (head s at).field < k
      go =
          by_code (λ c. 2 ≤ c → c < 4 → at + 1 + operands_of c ≤ length s → operands_wrong k m c (operands_at s c at) ≡ none
          → (head s at).field < k)
          (λ a b x y. absurd (omega arith)) (λ a b x y. absurd (omega arith)) (λ a b. known) (λ a b. known)
          (λ a b x y. absurd (omega arith)) (λ a b x y. absurd (omega arith)) (λ a b x y. absurd (omega arith))
          (λ a b x y. absurd (omega arith)) (λ a b x y. absurd (omega arith)) (λ c a b x y. absurd (omega arith))

  pub use_known : read_operands s k m 8 at ≡ Ok e → (0 < (head s at).table) × ((head s at).table ≤ m)
  unfolding operands_wrong
  use_known q =
      let w = operands_were s k m 8 at e q in
      let x : ℕ = (head s at).table in
      let there : operands_at s 8 at ≡ x ∷ take 0 (drop (at + 1 + 1) s) = some_there s 0 (at + 1) (omega (arith, w.1)) in
      let v = and_was (ltb 0 x) (leb x m) (none_wrong _ _ (rw there at w.2)).0 in
      (ltb-true 0 x v.0, leb-true x m v.1)

pub stands_37 : (t p : Bool) (x : ℕ) → (x ≡ 3) ⊎ (x ≡ 7) → stands t p x ≡ not p
unfolding stands
stands_37 t p x = ⊎_elim (λ e. rw e) (λ e. rw e)

pub stands_8 : (t p : Bool) (x : ℕ) → x ≡ 8 → stands t p x ≡ (not p && t)
unfolding stands
stands_8 t p x e = rw e

-- what stands after a byte that was read
pub byte_was : (s : List ℕ) (ok : ℕ → Bool) (at a : ℕ) → byte_if s ok at ≡ Ok a
    → (at < length s) × (ok (get_or s at 0) ≡ true) × (a ≡ at + 1)
unfolding byte_if
byte_was s ok at a = go (ltb at (length s)) refl (ok (get_or s at 0)) refl
  where
    go : (x : Bool) → ltb at (length s) ≡ x → (y : Bool) → ok (get_or s at 0) ≡ y
        → cond x (cond y (Ok (at + 1)) (Err at)) (Err (length s)) ≡ Ok a
        → (at < length s) × (ok (get_or s at 0) ≡ true) × (a ≡ at + 1)
    go true e true f q = (ltb-true at (length s) e, f, cc)
    go true e false f q = let z : ◌≡◌ {A = ℕ} 0 1 = cc in absurd (omega arith)
    go false e y f q = let z : ◌≡◌ {A = ℕ} 0 1 = cc in absurd (omega arith)

pub then_next : (x : Result ℕ ℕ) → and_then x (λ a. Ok a) ≡ x
then_next (Ok a) = refl
then_next (Err a) = refl

-- no code has more operands or parts
pub row_small : (c : ℕ) → (operands_of c ≤ 3) × (parts_of c ≤ 2)
row_small zero = (lit≤ tt, lit≤ tt)
row_small (suc zero) = (lit≤ tt, lit≤ tt)
row_small (suc (suc zero)) = (lit≤ tt, lit≤ tt)
row_small (suc (suc (suc zero))) = (lit≤ tt, lit≤ tt)
row_small (suc (suc (suc (suc zero)))) = (lit≤ tt, lit≤ tt)
row_small (suc (suc (suc (suc (suc zero))))) = (lit≤ tt, lit≤ tt)
row_small (suc (suc (suc (suc (suc (suc zero)))))) = (lit≤ tt, lit≤ tt)
row_small (suc (suc (suc (suc (suc (suc (suc zero))))))) = (lit≤ tt, lit≤ tt)
row_small (suc (suc (suc (suc (suc (suc (suc (suc zero)))))))) = (lit≤ tt, lit≤ tt)
row_small (suc (suc (suc (suc (suc (suc (suc (suc (suc c))))))))) = (lit≤ tt, lit≤ tt)

pub parts_small : (c : ℕ) → parts_of c ≤ 2
parts_small c = (row_small c).1

-- one part, by the depth that is left
module _ (s : List ℕ) (c : Scope) (d : ℕ) (pred : Bool) (at : ℕ) where
  pub part_wrong : (r : ℕ) → byte_if s (stands c.main pred) at ≡ Err r → read_part s c d pred at ≡ Err r
  unfolding read_part
  part_wrong r = go d
    where
      go : (d : ℕ) → byte_if s (stands c.main pred) at ≡ Err r → read_part s c d pred at ≡ Err r
      go zero e = rw e
      go (suc d) e = rw e

  pub part_deep : (a : ℕ) → byte_if s (stands c.main pred) at ≡ Ok a → d ≡ 0 → read_part s c d pred at ≡ Err at
  unfolding read_part
  part_deep a e z = rw (z, e)

-- a whole body
module _ (s : List ℕ) (c : Scope) (start : ℕ) where
  pub body_wrong : (r : ℕ) → read_part s c most_depth false start ≡ Err r → read_body s c start ≡ Err r
  unfolding read_body
  body_wrong r e = rw e

  pub body_whole : (a : ℕ) → read_part s c most_depth false start ≡ Ok a → a ≡ length s → read_body s c start ≡ Ok a
  unfolding read_body
  body_whole a e q = rw (e, eq-eqb a (length s) q)

  pub body_rest : (a : ℕ) → read_part s c most_depth false start ≡ Ok a → (a ≡ length s → ⊥) → read_body s c start ≡ Err a
  unfolding read_body
  body_rest a e q = rw (e, ne_eqb a (length s) q)
