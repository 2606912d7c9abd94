-- The sums over the bodies: where they start, the faults from entry y on, and what one walk tells of a body.
use Prim.Native.Nat.{ℕ, zero, suc, max, ◌+◌, ◌-◌, ◌≤◌}
use native.Mathlib.Omega.{arith}
use mathlib.Core.Path.{◌≡◌, refl, ap, ◌∙◌}
use mathlib.Core.Bool.{Bool, true, false, cond}
use mathlib.Core.List.{List, [], ◌∷◌}
use mathlib.Core.Option.{none, some}
use lib.Bits.{bit_or, or_zero_l}
use lib.ListN.{length}
use Rattle.std.specs.Option.{option_or}
use Rattle.rules.specs.Parts.{Part, size, parts, deep}
use Rattle.rules.specs.Typing.{tested, written, fits, wrongs}
use Rattle.rules.specs.Books.{Entry, bytes_of, first_body, entries}
use Rattle.rules.specs.Reading.{tables_of, length_at, reads_at, writes_at, body_start, body_at, main_of, tables_from, policy_of}
use Rattle.rules.specs.Reading.{wrong_body, misfit, wrongs_in, misfits_in}
use Rattle.rules.proofs.Whole.{table_at, tables_length}
use Rattle.std.specs.Prelude.{None, Some}
use Rattle.typing.specs.Walking.{State}
use Rattle.typing.specs.declared.Notes.{Notes}
use Rattle.typing.specs.Walking.{Tally, told, tally_of, begun, mark, noted}
use Rattle.typing.specs.Summing.{wrongs_of, misfits_of, wrongs_from, misfits_from}
use Rattle.typing.proofs.TallyLaws.{mark_append}

-- ---- where the bodies start

pub starts_rise : (s : List ℕ) (x n : ℕ) → body_start s x ≤ body_start s (x + n)
unfolding body_start
starts_rise s x zero = let q : x + 0 ≡ x = omega arith in rw q (omega arith)
starts_rise s x (suc n) = let q : x + suc n ≡ suc (x + n) = omega arith in rw q (omega (arith, starts_rise s x n))

pub starts_up : (s : List ℕ) (x y : ℕ) → x ≤ y → body_start s x ≤ body_start s y
starts_up s x y h = let q : x + (y - x) ≡ y = omega arith in rw q at (starts_rise s x (y - x))

pub start_zero : (s : List ℕ) → body_start s 0 ≡ first_body (tables_of s)
unfolding body_start
start_zero s = refl

pub start_next : (s : List ℕ) (x : ℕ) → body_start s (suc x) ≡ body_start s x + length_at s x
unfolding body_start
start_next s x = refl

-- ---- the faults from entry y on

mark_fits : (t : Bool) (at : ℕ) → mark (cond t [] (at ∷ [])) ≡ cond t None (Some at)
mark_fits true at = refl
mark_fits false at = refl

module _ (s : List ℕ) (y : ℕ) (h : y ≤ tables_of s) (e : body_start s (suc y) ≡ body_start s y + length (bytes_of (body_at s y))) where
  left_one : suc (tables_of s) - y ≡ suc (suc (tables_of s) - suc y)
  left_one = omega arith

  pub wrongs_step : wrongs_from s y ≡ option_or (mark (wrong_body (body_start s y) (body_at s y))) (wrongs_from s (suc y))
  unfolding wrongs_from tables_from wrongs_in
  wrongs_step =
      rw (left_one, e)
      (mark_append (wrong_body (body_start s y) (body_at s y))
      (wrongs_in (body_start s y + length (bytes_of (body_at s y))) (tables_from s (suc (tables_of s) - suc y) (suc y))))

  pub misfits_step : misfits_from s y ≡ option_or (mark (misfit (body_start s y) (table_at s y) (body_at s y))) (misfits_from s (suc y))
  unfolding misfits_from tables_from misfits_in
  misfits_step =
      rw (left_one, e)
      (mark_append (misfit (body_start s y) (table_at s y) (body_at s y))
      (misfits_in (body_start s y + length (bytes_of (body_at s y))) (tables_from s (suc (tables_of s) - suc y) (suc y))))

-- what the body of an entry adds, if it has one
pub misfit_some : (at : ℕ) (e : Entry) (p : Part) → mark (misfit at e (some p)) ≡ cond (fits e.reads e.writes p) None (Some at)
unfolding misfit
misfit_some at e p = mark_fits (fits e.reads e.writes p) at

pub misfit_none : (at : ℕ) (e : Entry) → mark (misfit at e none) ≡ None
unfolding misfit
misfit_none at e = refl

pub wrong_some : (at : ℕ) (p : Part) → wrong_body at (some p) ≡ wrongs at p
unfolding wrong_body
wrong_some at p = refl

pub wrong_none : (at : ℕ) → mark (wrong_body at none) ≡ None
unfolding wrong_body
wrong_none at = refl

module _ (s : List ℕ) (e : body_start s 1 ≡ body_start s 0 + size (main_of s)) where
  one_less : suc (tables_of s) - 1 ≡ tables_of s
  one_less = omega arith

  pub wrongs_main : wrongs_of s ≡ option_or (mark (wrongs (body_start s 0) (main_of s))) (wrongs_from s 1)
  unfolding wrongs_of wrongs_from policy_of entries wrongs_in wrong_body bytes_of
  wrongs_main =
      rw (tables_length s (tables_of s) 1, one_less, e, start_zero s)
      (mark_append (wrongs (first_body (tables_of s)) (main_of s))
      (wrongs_in (first_body (tables_of s) + size (main_of s)) (tables_from s (tables_of s) 1)))

  pub misfits_main : misfits_of s
      ≡ option_or (cond (fits (reads_at s 0) (writes_at s 0) (main_of s)) None (Some (body_start s 0))) (misfits_from s 1)
  unfolding misfits_of misfits_from policy_of entries misfits_in misfit bytes_of
  misfits_main =
      rw (
        tables_length s (tables_of s) 1,
        one_less,
        e,
        start_zero s,
        ← mark_fits (fits (reads_at s 0) (writes_at s 0) (main_of s)) (first_body (tables_of s)),
      )
      (mark_append (cond (fits (reads_at s 0) (writes_at s 0) (main_of s)) [] (first_body (tables_of s) ∷ []))
      (misfits_in (first_body (tables_of s) + size (main_of s)) (tables_from s (tables_of s) 1)))

module _ (s : List ℕ) where
  none_left : suc (tables_of s) - suc (tables_of s) ≡ 0
  none_left = omega arith

  pub wrongs_end : wrongs_from s (suc (tables_of s)) ≡ None
  unfolding wrongs_from tables_from wrongs_in
  wrongs_end = rw none_left

  pub misfits_end : misfits_from s (suc (tables_of s)) ≡ None
  unfolding misfits_from tables_from misfits_in
  misfits_end = rw none_left

-- ---- one walk of a body, begun with no parts and no masks

pub record Found (p : Part) (at : ℕ) (st : State) (n v : Notes) : Type 0 where
  pub count : st.parts ≡ parts p
  pub tests : st.tests ≡ tested p
  pub writes : st.writes ≡ written p
  pub fault : v.fault ≡ option_or n.fault (mark (wrongs at p))
  pub down : v.deep ≡ max n.deep (deep p)
  pub uses : v.uses ≡ noted p 0 n.uses

pub found : (p : Part) (at : ℕ) (st : State) (n v : Notes) → tally_of st v ≡ told p 0 (tally_of (begun at) n) → Found p at st n v
found p at st n v e =
    let q : st.parts ≡ 0 + parts p = ap (λ (t : Tally). t.parts) e in
    let t : st.tests ≡ bit_or 0 (tested p) = ap (λ (t : Tally). t.tests) e in
    let w : st.writes ≡ bit_or 0 (written p) = ap (λ (t : Tally). t.writes) e in
    let d : v.deep ≡ max n.deep (0 + deep p) = ap (λ (t : Tally). t.deep) e in
    record {
      count = omega (arith, q);
      tests = t ∙ or_zero_l (tested p);
      writes = w ∙ or_zero_l (written p);
      fault = ap (λ (t : Tally). t.fault) e;
      down = omega (arith, d);
      uses = ap (λ (t : Tally). t.uses) e;
    }
