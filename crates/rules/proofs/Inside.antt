-- Walking an accepted book stays inside it: each part that a walk comes to is written at its place, and decoded there.
use Rattle.std.specs.Prelude.{Ok}
use Prim.Native.Nat.{ℕ, suc, ◌+◌}
use native.Mathlib.Omega.{arith}
use mathlib.Core.Path.{◌≡◌, ◌∙◌}
use mathlib.Core.Bool.{Bool, true, false}
use mathlib.Core.List.{List, ◌∷◌, ◌++◌, append_assoc}
use lib.ListN.{drop}
use Rattle.rules.specs.declared.Sizes.{Sizes}
use Rattle.rules.specs.Parts.{Part, Not, Sum, Seq, Beside, write, size}
use Rattle.rules.specs.Books.{Scope, scope_of, Fine, most_depth, bytes_of, entries, Bytes}
use Rattle.rules.specs.Reading.{fields_of, tables_of, body_start, use_at, main_of, policy_of, verdict}
use Rattle.rules.proofs.Decoding.{reads, drop_head}
use Rattle.rules.proofs.Whole.{entries_read}
use Rattle.rules.proofs.AcceptedBooks.{accepted_readable}

-- a fine part, written at a place
pub record Placed (s : List ℕ) (c : Scope) (named : ℕ → Part) (d : ℕ) (pred : Bool) (at : ℕ) (p : Part) : Type 0 where
  pub fine : Fine c named d pred p
  pub rest : List ℕ
  pub bytes : drop at s ≡ write p ++ rest

-- the parts below are placed too, one level less deep
module _ (s : List ℕ) (c : Scope) (named : ℕ → Part) (d : ℕ) (pred : Bool) (at : ℕ) where
  pub placed_not : (p : Part) → Placed s c named (suc d) pred at (Not p) → Placed s c named d true (at + 1) p
  unfolding Fine write
  placed_not p h = record { fine = h.fine; rest = h.rest; bytes = (drop_head s at 4 (write p ++ h.rest) h.bytes).2 }

  two_placed : (b : ℕ) (p q : Part) (rest : List ℕ) → Fine c named d pred p → Fine c named d pred q
      → drop b s ≡ (write p ++ write q) ++ rest
      → Placed s c named d pred b p × Placed s c named d pred (b + size p) q
  two_placed b p q rest f g e =
      let e' = e ∙ append_assoc (write p) (write q) rest in (
        record { fine = f; rest = write q ++ rest; bytes = e' },
        record { fine = g; rest = rest; bytes = (reads s c named d pred b p (write q ++ rest) f e').3 },
      )

  module _ (p q : Part) where
    pub placed_sum : Placed s c named (suc d) pred at (Sum p q)
        → Placed s c named d pred (at + 1) p × Placed s c named d pred (at + 1 + size p) q
    unfolding Fine write
    placed_sum h =
        two_placed (at + 1) p q h.rest h.fine.0 h.fine.1 (drop_head s at 5 ((write p ++ write q) ++ h.rest) h.bytes).2

    pub placed_seq : Placed s c named (suc d) pred at (Seq p q)
        → Placed s c named d pred (at + 1) p × Placed s c named d pred (at + 1 + size p) q
    unfolding Fine write
    placed_seq h =
        two_placed (at + 1) p q h.rest h.fine.0 h.fine.1 (drop_head s at 6 ((write p ++ write q) ++ h.rest) h.bytes).2

    pub placed_beside : (wp wq : ℕ) → Placed s c named (suc d) pred at (Beside wp wq p q)
        → Placed s c named d pred (at + 3) p × Placed s c named d pred (at + 3 + size p) q
    unfolding Fine write
    placed_beside wp wq h =
        let body : List ℕ = (write p ++ write q) ++ h.rest in
        let a = drop_head s at 7 (wp ∷ wq ∷ body) h.bytes in
        let b = drop_head s (at + 1) wp (wq ∷ body) a.2 in
        let e = drop_head s (at + 1 + 1) wq body b.2 in
        let three : at + 1 + 1 + 1 ≡ at + 3 = omega arith in
        two_placed (at + 3) p q h.rest h.fine.3 h.fine.4 (rw three at e.2)

-- the main policy of an accepted book is placed where its body starts
pub main_placed : (s : List ℕ) (z : Sizes) → verdict s ≡ Ok z → Bytes s
    → Placed s (scope_of (fields_of s) (tables_of s) true) (use_at s) most_depth false (body_start s 0) (main_of s)
unfolding policy_of entries bytes_of
main_placed s z v small =
    let w = entries_read s small (accepted_readable s z v) in
    record { fine = w.1; rest = drop (body_start s 1) s; bytes = w.0.0.bytes }
