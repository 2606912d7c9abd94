-- n and D of a book from its main body, walked once with nothing noted before it, and the parts and depths of its tables' bodies.
use Prim.Native.Nat.{ℕ, zero, suc, max, ◌+◌, ◌≤◌}
use native.Mathlib.Omega.{arith}
use native.Mathlib.Nat.{zero-mul}
use mathlib.Core.Path.{◌≡◌, refl, ap, ◌∙◌}
use mathlib.Core.Bool.{true, false}
use mathlib.Core.List.{List}
use mathlib.Core.Option.{Option, none, some}
use lib.ListN.{get_or, take}
use Rattle.std.specs.Prelude.{Ok}
use Rattle.rules.specs.Parts.{Part, parts, deep}
use Rattle.rules.specs.Books.{scope_of, first_body, use_of, most_depth, most_tables, Bytes}
use Rattle.rules.specs.Reading.{read_part, part_at, fields_of, tables_of, reads_at, writes_at, body_start, body_at, use_at, main_of}
use Rattle.typing.specs.Walking.{State}
use Rattle.typing.specs.declared.Use.{Use}
use Rattle.typing.specs.declared.Notes.{Notes}
use Rattle.typing.specs.Summing.{total, top, body_parts, body_deep, Cleared}
use Rattle.typing.specs.Walking.{Tally, told, shut, noted, unused, tally_of, begun}
use Rattle.typing.proofs.CountLaws.{Fresh, whole_parts, whole_deep, fine_shut}
use Rattle.typing.proofs.FrontLaws.{front_part}

use_size : (x r w start : ℕ) (b : Option Part)
    → (parts (use_of x r w start b) ≡ 1 + body_parts b) × (deep (use_of x r w start b) ≡ body_deep b)
unfolding parts deep
use_size x r w start none = (refl, refl)
use_size x r w start (some p) = (refl, refl)

module _ (l : List Use) (z : (x : ℕ) → get_or l x unused ≡ unused) where
  total_zero : (e : ℕ → ℕ) (n : ℕ) → total e l n ≡ 0
  unfolding total
  total_zero e zero = refl
  total_zero e (suc n) = rw (total_zero e n, z n, zero-mul (e n))

  top_zero : (e : ℕ → ℕ) (n : ℕ) → top e l n ≡ 0
  unfolding top
  top_zero e zero = refl
  top_zero e (suc n) = rw (top_zero e n, z n)

  fresh_zero : Fresh l
  fresh_zero x h e = ap (λ (u : Use). u.level) (z x)

module _ (s : List ℕ) (small : Bytes s) (m : tables_of s ≤ most_tables) (e : ℕ) (h : first_body (tables_of s) ≤ e) (st : State) (n v : Notes)
    (clear : Cleared n) (a : ℕ)
    (read : read_part (take e s) (scope_of (fields_of s) (tables_of s) true) most_depth false (body_start s 0) ≡ Ok a)
    (walk : tally_of st v ≡ told (part_at (take e s) (shut (take e s)) most_depth (body_start s 0)) 0 (tally_of (begun (body_start s 0)) n)) where
  same : tally_of st v ≡ told (part_at s (shut s) most_depth (body_start s 0)) 0 (tally_of (begun (body_start s 0)) n)
  same =
      let f = front_part s e h small (scope_of (fields_of s) (tables_of s) true) refl most_depth false (body_start s 0) a read in
      rw f.0 at walk

  -- n: the walk's parts, and for each table its uses times the parts of its body
  pub main_parts : parts (main_of s) ≡ st.parts + total (λ x. body_parts (body_at s x)) v.uses (suc (tables_of s))
  unfolding main_of use_at
  main_parts =
      let f = front_part s e h small (scope_of (fields_of s) (tables_of s) true) refl most_depth false (body_start s 0) a read in
      let p = part_at s (shut s) most_depth (body_start s 0) in
      let k = whole_parts s (use_at s) (λ x. body_parts (body_at s x)) (suc (tables_of s)) most_depth (body_start s 0) n.uses
      (λ x. (use_size x (reads_at s x) (writes_at s x) (body_start s x) (body_at s x)).0) (omega arith)
      (fine_shut s (scope_of (fields_of s) (tables_of s) true) (suc (tables_of s)) (omega arith) most_depth false p f.1) clear.room
      (total_zero n.uses clear.clean (λ x. body_parts (body_at s x)) (suc (tables_of s))) in
      let q : st.parts ≡ 0 + parts p = ap (λ (t : Tally). t.parts) same in
      let r : v.uses ≡ noted p 0 n.uses = ap (λ (t : Tally). t.uses) same in
      rw r (k ∙ ap (λ (i : ℕ). i + total (λ x. body_parts (body_at s x)) (noted p 0 n.uses) (suc (tables_of s))) (omega (arith, q)))

  -- D: the walk's depth, or that of the deepest use with the table's body below it
  pub main_deep : deep (main_of s) ≡ max v.deep (top (λ x. body_deep (body_at s x)) v.uses (suc (tables_of s)))
  unfolding main_of use_at
  main_deep =
      let f = front_part s e h small (scope_of (fields_of s) (tables_of s) true) refl most_depth false (body_start s 0) a read in
      let p = part_at s (shut s) most_depth (body_start s 0) in
      let k = whole_deep s (use_at s) (λ x. body_deep (body_at s x)) (suc (tables_of s)) most_depth (body_start s 0) n.uses
      (λ x. (use_size x (reads_at s x) (writes_at s x) (body_start s x) (body_at s x)).1) (omega arith)
      (fine_shut s (scope_of (fields_of s) (tables_of s) true) (suc (tables_of s)) (omega arith) most_depth false p f.1) clear.room
      (fresh_zero n.uses clear.clean) (top_zero n.uses clear.clean (λ x. body_deep (body_at s x)) (suc (tables_of s))) in
      let q : v.deep ≡ max n.deep (0 + deep p) = ap (λ (t : Tally). t.deep) same in
      let r : v.uses ≡ noted p 0 n.uses = ap (λ (t : Tally). t.uses) same in
      rw r (k ∙ ap (λ (i : ℕ). max i (top (λ x. body_deep (body_at s x)) (noted p 0 n.uses) (suc (tables_of s)))) (omega (arith, q, clear.flat)))
