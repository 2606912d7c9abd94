-- What the head at a place shows: its code and its operands at any place, and where the parts below begin where a part stands.
use Prim.Native.Nat.{ℕ, ◌+◌, ◌≤◌}
use native.Mathlib.Omega.{arith}
use mathlib.Core.Path.{◌≡◌, refl, sym, ap, ◌∙◌}
use mathlib.Core.Bool.{Bool, true, false, cond}
use mathlib.Core.List.{List}
use lib.Dec.{ltb}
use lib.ListN.{length, get_or, get_or-eq_default}
use borrow.Author.Tests.{ltb-false}
use Rattle.rules.specs.declared.Head.{Head}
use Rattle.rules.specs.Codes.{operands_of}
use Rattle.rules.specs.Reading.{head, no_head, head_at}
use Rattle.rules.proofs.ReadingLaws.{head_is}
use Rattle.steps.specs.Standing.{Runnable}
use Rattle.steps.proofs.Standing.{inside}

-- what stands behind the code byte
pub record HeadReads (s : List ℕ) (at : ℕ) (p : Head) : Type 0 where
  pub code : p.code ≡ get_or s at 0
  pub field : p.field ≡ (head s at).field
  pub value : p.value ≡ (head s at).value
  pub right : p.right ≡ (head s at).right
  pub table : p.table ≡ (head s at).table

-- past the end every byte is 0
pub head_reads : (s : List ℕ) (at : ℕ) {p : Head} → p ≡ head_at s at → HeadReads s at p
unfolding head_at
head_reads s at {p} e = rw e (go (ltb at (length s)) refl)
  where
    go : (there : Bool) → ltb at (length s) ≡ there → HeadReads s at (cond there (head s at) (no_head at))
    go true h = record { code = refl; field = refl; value = refl; right = refl; table = refl }
    go false h =
        let l : length s ≤ at = ltb-false at (length s) h in
        let l1 : length s ≤ at + 1 = omega (arith, l) in
        let l2 : length s ≤ at + 2 = omega (arith, l) in
        let l3 : length s ≤ at + 2 + 1 = omega (arith, l) in
        let d1 = get_or-eq_default s 0 l1 in
        let d2 = get_or-eq_default s 0 l2 in
        let d3 = get_or-eq_default s 0 l3 in
        record { code = sym (get_or-eq_default s 0 l); field = sym d1; value = rw (d2, d3) refl; right = sym d2; table = sym d1 }

pub code_at : (s : List ℕ) (at : ℕ) {c : ℕ} {p : Head} → p ≡ head_at s at → p.code ≡ c → get_or s at 0 ≡ c
code_at s at e q = sym (head_reads s at e).code ∙ q

pub from_next : {s : List ℕ} {at c : ℕ} {p : Head} → Runnable s at → p ≡ head_at s at → get_or s at 0 ≡ c → operands_of c ≡ 0
    → p.from ≡ at + 1
from_next {s} {at} {c} {p} h e q z =
    let f : p.from ≡ at + 1 + operands_of (get_or s at 0) = ap (λ (p : Head). p.from) (e ∙ head_is s at (inside h)) in
    let o : operands_of (get_or s at 0) ≡ 0 = rw q z in
    omega (arith, f, o)
