-- A state in one number, and an answer in one.
use Prim.Native.Nat.{ℕ, ◌/◌, ◌%◌, ◌≤◌}
use native.Mathlib.Omega.{arith}
use mathlib.Core.Path.{◌≡◌, sym, ap, ◌∙◌}
use borrow.Author.Tests.{ne_eqb}
use Rattle.std.specs.Prelude.{Result, Ok, Err}
use mathlib.Core.List.{List}
use Rattle.rules.specs.Books.{most_bytes}
use Rattle.typing.specs.declared.Way.{Way}
use Rattle.typing.specs.declared.Notes.{Notes}
use Rattle.typing.specs.Walking.{State, state, moved, masked, begun, unpacked, states, answer, tallied, walked, tally_of, Asked}

pub same_state : (a b c d e f g h : ℕ) → a ≡ e → b ≡ f → c ≡ g → d ≡ h
    → ◌≡◌ {A = State} (record { at = a; parts = b; tests = c; writes = d }) (record { at = e; parts = f; tests = g; writes = h })
same_state a b c d e f g h i j k l = rw (i, j, k, l)

-- the number that is a body's start is the state before it
pub begins : (s : List ℕ) (n : Notes) (d : ℕ) (w : Way) (start : ℕ) → Asked s n (begun start) d w → state start ≡ begun start
begins s n d w start a =
    let few : start ≤ most_bytes = omega (arith, a.kept.within, a.sound.size) in
    same_state (start % 65536) (start / 65536 % 65536) (start / 4294967296 % 65536) (start / 281474976710656) start 0 0 0
    (omega (arith, few)) (omega (arith, few)) (omega (arith, few)) (omega (arith, few))

-- a number is a state or a refusal by its place
pub is_state : (r : ℕ) (st : State) → state r ≡ st → 1 ≤ st.at → answer r ≡ Ok st
is_state r st e h =
    let n : r % 65536 ≡ st.at = ap (λ (i : State). i.at) e in
    rw (ne_eqb (r % 65536) 0 (λ z. omega (arith, n, z))) (ap Ok e)

pub past_answer : (y z k t w : ℕ) (st : State) → state y ≡ masked t w st → state z ≡ moved k (state y) → answer z ≡ Ok (moved k (masked t w st))
past_answer y z k t w st ey ez = is_state z (moved k (masked t w st)) (ez ∙ ap (moved k) ey) (omega arith)

-- an answer that is taken apart
module _ (r : ℕ) (x : Result ℕ ℕ) (e : x ≡ unpacked r) where
  pub opened_off : (a : ℕ) → x ≡ Err a → answer r ≡ Err a
  opened_off a q = ap states (sym e ∙ q)

  pub opened_on : (l : ℕ) → x ≡ Ok l → answer r ≡ Ok (state l)
  opened_on l q = ap states (sym e ∙ q)

-- what is asked and told of a state, of another that is the same
module _ (s : List ℕ) (n : Notes) (d : ℕ) (w : Way) (a b : State) (e : a ≡ b) where
  pub asked_from : Asked s n b d w → Asked s n a d w
  asked_from h = rw e h

  pub told_from : (v : Notes) (x : Result State ℕ) → tallied x v ≡ walked s w d (tally_of a n) → tallied x v ≡ walked s w d (tally_of b n)
  told_from v x h = rw e at h
