-- The words of a packet with zeros after them.
use Prim.Native.Nat.{ℕ, ◌+◌, ◌-◌, ◌≤◌}
use native.Mathlib.Omega.{arith}
use mathlib.Core.Path.{◌≡◌, ap, ◌∙◌}
use mathlib.Core.List.{List, ◌++◌}
use lib.ListN.{length, drop, replicate}
use Rattle.rules.specs.Packets.{padded}
use Rattle.rows.proofs.Chunks.{drop_replicate}

pub padded_lem : (l x : List ℕ) → length l ≤ 8 → x ≡ l → x ++ drop (length l) (replicate 8 0) ≡ padded l
unfolding padded
padded_lem l x h e =
    let n : 8 ≡ length l + (8 - length l) = omega arith in
    rw e (ap (λ (y : List ℕ). l ++ y) (ap (λ (m : ℕ). drop (length l) (replicate {A = ℕ} m 0)) n ∙ drop_replicate {A = ℕ} (length l) (8 - length l) 0))
