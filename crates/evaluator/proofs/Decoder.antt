-- Which part stands at a place, code by code, over its head, and the place after it; what a use of a table stands for.
use Prim.Native.Nat.{ℕ, ◌-◌}
use mathlib.Core.Path.{◌≡◌, refl}
use mathlib.Core.Bool.{Bool, true, false, cond}
use mathlib.Core.Option.{none, some}
use mathlib.Core.List.{List}
use lib.Dec.{eqb}
use Rattle.rules.specs.declared.Head.{Head}
use Rattle.rules.specs.Parts.{Part, Id, Drop, Test, Set, Table, names_open}
use Rattle.rules.specs.Books.{use_of, no_use, most_depth}
use Rattle.rules.specs.Reading.{after, head_at, built, part_at, body_at, use_at, length_at, reads_at, writes_at, body_start}
use Rattle.rules.proofs.CodeLaws.{PartThere, stands_as}
use Rattle.evaluator.specs.declared.Body.{Body}
use Rattle.evaluator.specs.declared.Body.TheVariants.{Main, Table as OfTable}
use Rattle.evaluator.specs.Work.{named_in, part_in, not_from, sum_from, seq_from, beside_of, after_two}
use Rattle.evaluator.proofs.WorkLaws.{no}

module _ (s : List ℕ) (body : Body) (d at : ℕ) (hd : d ≡ 0 → ⊥) (h : Head) (eh : h ≡ head_at s at) where
  abbrev At : Part → ℕ → Type 0
  At p n = PartThere s (named_in s body) d at p n

  pub stands_drop : h.code ≡ 1 → At Drop h.from
  unfolding built
  stands_drop = stands_as s (named_in s body) d at hd h eh 1

  pub stands_test : h.code ≡ 2 → At (Test h.field h.value) h.from
  unfolding built
  stands_test = stands_as s (named_in s body) d at hd h eh 2

  pub stands_set : h.code ≡ 3 → At (Set h.field h.value) h.from
  unfolding built
  stands_set = stands_as s (named_in s body) d at hd h eh 3

  pub stands_not : h.code ≡ 4 → At (not_from s body (d - 1) h.from) (after s (d - 1) h.from)
  unfolding built
  stands_not = stands_as s (named_in s body) d at hd h eh 4

  pub stands_sum : h.code ≡ 5 → At (sum_from s body (d - 1) h.from) (after_two s (d - 1) h.from)
  unfolding built
  stands_sum = stands_as s (named_in s body) d at hd h eh 5

  pub stands_seq : h.code ≡ 6 → At (seq_from s body (d - 1) h.from) (after_two s (d - 1) h.from)
  unfolding built
  stands_seq = stands_as s (named_in s body) d at hd h eh 6

  pub stands_beside : h.code ≡ 7 → At (beside_of s body (d - 1) h) (after_two s (d - 1) h.from)
  unfolding built
  stands_beside = stands_as s (named_in s body) d at hd h eh 7

  pub stands_table : h.code ≡ 8 → At (named_in s body h.table) h.from
  unfolding built
  stands_table = stands_as s (named_in s body) d at hd h eh 8

-- what a use of a table stands for: its body, if it is populated
pub used : (s : List ℕ) (x : ℕ) → names_open (use_at s x) ≡ false
    → use_at s x ≡ Table x (reads_at s x) (writes_at s x) (body_start s x) (part_at s no_use most_depth (body_start s x))
unfolding use_at body_at names_open
used s x = go (eqb (length_at s x) 0)
  where
    go : (b : Bool)
        → names_open (use_of x (reads_at s x) (writes_at s x) (body_start s x) (cond b none (some (part_at s no_use most_depth (body_start s x)))))
        ≡ false
        → use_of x (reads_at s x) (writes_at s x) (body_start s x) (cond b none (some (part_at s no_use most_depth (body_start s x))))
        ≡ Table x (reads_at s x) (writes_at s x) (body_start s x) (part_at s no_use most_depth (body_start s x))
    go true e = no e
    go false e = refl

module _ (s : List ℕ) (body : Body) (x : ℕ) where
  pub table_used : (start : ℕ) → body ≡ Main → start ≡ body_start s x → names_open (named_in s body x) ≡ false
      → named_in s body x ≡ Table x (reads_at s x) (writes_at s x) start (part_in s OfTable most_depth start)
  unfolding named_in
  table_used start e es c = rw (e, es) (used s x (rw e at c))

  pub table_none : body ≡ OfTable → named_in s body x ≡ Id
  unfolding named_in
  table_none e = rw e
