-- A well-formed policy has no typing fault exactly if every body is right and fits (document 01, "Typing" and number 7).
use Prim.Native.Nat.{ℕ, zero, suc, ◌+◌}
use native.Mathlib.Omega.{arith}
use mathlib.Core.Path.{◌≡◌, refl}
use mathlib.Core.Bool.{Bool, true, false, cond}
use mathlib.Core.Logic.{◌↔◌}
use mathlib.Core.List.{List, [], ◌∷◌, ◌++◌}
use mathlib.Core.Option.{Option, none, some}
use lib.ListN.{length}
use Rattle.rules.specs.Parts.{Part, Id, Drop, Test, Set, Not, Sum, Seq, Beside, Table, Open, size}
use Rattle.rules.specs.Typing.{right_beside, fits, Right, wrongs}
use Rattle.rules.specs.Books.{most_depth, Entry, Policy, entries, bytes_of, first_body, use_of, table_of, Scope}
use Rattle.rules.specs.Books.{scope_of, no_use, Fine, OfBody, OfEach, WellFormed, Typed}
use Rattle.rules.specs.Reading.{wrong_body, misfit, wrongs_in, misfits_in, typing_faults}
use Rattle.rules.proofs.Whole.{FineBody}
use Rattle.rules.proofs.FineLaws.{OfUses, no_uses, of_tables}

append_empty : (l m : List ℕ) → l ++ m ≡ [] → (l ≡ []) × (m ≡ [])
append_empty [] m e = (refl, e)
append_empty (x ∷ l) m e = let z : ◌≡◌ {A = ℕ} 0 1 = cc in absurd (omega arith)

fault_none : (b : Bool) (at : ℕ) → cond b [] (at ∷ []) ≡ [] → b ≡ true
fault_none true at e = refl
fault_none false at e = let z : ◌≡◌ {A = ℕ} 0 1 = cc in absurd (omega arith)

-- ---- one body

module _ (c : Scope) (named : ℕ → Part) (uses : OfUses Right c named) where
  right_two : (p q : Part) (a b : ℕ) → wrongs a p ++ wrongs b q ≡ [] → (wrongs a p ≡ [] → Right p) → (wrongs b q ≡ [] → Right q)
      → Right p × Right q
  right_two p q a b e f g = let w = append_empty (wrongs a p) (wrongs b q) e in (f w.0, g w.1)

  wrongs_right : (d : ℕ) (pred : Bool) (at : ℕ) (p : Part) → Fine c named d pred p → wrongs at p ≡ [] → Right p
  unfolding Fine wrongs
  wrongs_right zero pred at p f e = absurd f
  wrongs_right (suc d) pred at Id f e = tt
  wrongs_right (suc d) pred at Drop f e = tt
  wrongs_right (suc d) pred at (Test i v) f e = tt
  wrongs_right (suc d) pred at (Set i v) f e = tt
  wrongs_right (suc d) pred at (Not p) f e = wrongs_right d true (at + 1) p f e
  wrongs_right (suc d) pred at (Sum p q) f e =
      right_two p q (at + 1) (at + 1 + size p) e (wrongs_right d pred (at + 1) p f.0) (wrongs_right d pred (at + 1 + size p) q f.1)
  wrongs_right (suc d) pred at (Seq p q) f e =
      right_two p q (at + 1) (at + 1 + size p) e (wrongs_right d pred (at + 1) p f.0) (wrongs_right d pred (at + 1 + size p) q f.1)
  wrongs_right (suc d) pred at (Beside wp wq p q) f e =
      let w = append_empty (cond (right_beside wp wq p q) [] (at ∷ [])) (wrongs (at + 3) p ++ wrongs (at + 3 + size p) q) e in
      let b : ℕ = at + 3 + size p in
      let r = right_two p q (at + 3) b w.1 (wrongs_right d pred (at + 3) p f.3) (wrongs_right d pred b q f.4) in
      (fault_none (right_beside wp wq p q) at w.0, r.0, r.1)
  wrongs_right (suc d) pred at (Table x r w start p) f e = rw f.4 at (uses f.1 x f.2 f.3)
  wrongs_right (suc d) pred at (Open x r w) f e = tt

pub right_wrongs : (at : ℕ) (p : Part) → Right p → wrongs at p ≡ []
unfolding wrongs
right_wrongs at Id h = refl
right_wrongs at Drop h = refl
right_wrongs at (Test i v) h = refl
right_wrongs at (Set i v) h = refl
right_wrongs at (Not p) h = right_wrongs (at + 1) p h
right_wrongs at (Sum p q) h = rw (right_wrongs (at + 1) p h.0) (right_wrongs (at + 1 + size p) q h.1)
right_wrongs at (Seq p q) h = rw (right_wrongs (at + 1) p h.0) (right_wrongs (at + 1 + size p) q h.1)
right_wrongs at (Beside wp wq p q) h = rw (h.0, right_wrongs (at + 3) p h.1) (right_wrongs (at + 3 + size p) q h.2)
right_wrongs at (Table x r w start p) h = refl
right_wrongs at (Open x r w) h = refl

-- ---- the bodies

-- a body is right and fits its entry's masks
abbrev pub TypedAs : Entry → Option Part → Type 0
TypedAs e b = OfBody (λ p. Right p × (fits e.reads e.writes p ≡ true)) b

abbrev pub TypedBody : Entry → Type 0
TypedBody e = TypedAs e e.body

module _ (F : Part → Type 0) (right : (at : ℕ) (p : Part) → F p → wrongs at p ≡ [] → Right p) where
  typed_entry : (at : ℕ) (e : Entry) → OfBody F e.body → wrong_body at e.body ≡ [] → misfit at e e.body ≡ [] → TypedBody e
  unfolding wrong_body misfit
  typed_entry at e = go e.body
    where
      go : (b : Option Part) → OfBody F b → wrong_body at b ≡ [] → misfit at e b ≡ [] → TypedAs e b
      go none f h k = tt
      go (some p) f h k = (right at p f h, fault_none (fits e.reads e.writes p) at k)

  typed_entries : (at : ℕ) (es : List Entry) → OfEach (λ e. OfBody F e.body) es → wrongs_in at es ≡ [] → misfits_in at es ≡ []
      → OfEach TypedBody es
  unfolding wrongs_in misfits_in
  typed_entries at [] f h k = tt
  typed_entries at (e ∷ es) f h k =
      let next : ℕ = at + length (bytes_of e.body) in
      let w = append_empty (wrong_body at e.body) (wrongs_in next es) h in
      let v = append_empty (misfit at e e.body) (misfits_in next es) k in
      (typed_entry at e f.0 w.0 v.0, typed_entries next es f.1 w.1 v.1)

entry_typed : (at : ℕ) (e : Entry) → TypedBody e → (wrong_body at e.body ≡ []) × (misfit at e e.body ≡ [])
unfolding wrong_body misfit
entry_typed at e = go e.body
  where
    go : (b : Option Part) → TypedAs e b → (wrong_body at b ≡ []) × (misfit at e b ≡ [])
    go none h = (refl, refl)
    go (some p) h = (right_wrongs at p h.0, rw h.1)

entries_typed : (at : ℕ) (es : List Entry) → OfEach TypedBody es → (wrongs_in at es ≡ []) × (misfits_in at es ≡ [])
unfolding wrongs_in misfits_in
entries_typed at [] h = (refl, refl)
entries_typed at (e ∷ es) h =
    let w = entry_typed at e h.0 in
    let v = entries_typed (at + length (bytes_of e.body)) es h.1 in
    (rw w.0 v.0, rw w.1 v.1)

-- ---- the whole policy

right_use : (x start : ℕ) (e : Entry) → TypedBody e → Right (use_of x e.reads e.writes start e.body)
right_use x start e = go e.body
  where
    go : (b : Option Part) → TypedAs e b → Right (use_of x e.reads e.writes start b)
    go none h = tt
    go (some p) h = (h.1, h.0)

-- a fine main policy without a wrong part is right, where the tables' bodies are right and fit
pub main_right : (P : Policy) → Fine (scope_of P.fields (length P.tables) true) (table_of P) most_depth false P.main
    → OfEach TypedBody P.tables → (at : ℕ) → wrongs at P.main ≡ [] → Right P.main
main_right P f t at =
    let c : Scope = scope_of P.fields (length P.tables) true in
    wrongs_right c (table_of P) (of_tables Right TypedBody right_use P t) most_depth false at P.main f

module _ (P : Policy) (w : WellFormed P) where
  typed : typing_faults P ≡ [] → Typed P
  unfolding typing_faults entries wrongs_in misfits_in wrong_body misfit
  typed h =
      let k : ℕ = P.fields in
      let m : ℕ = length P.tables in
      let at : ℕ = first_body m in
      let next : ℕ = at + length (bytes_of (some P.main)) in
      let main : Entry = record { reads = P.reads; writes = P.writes; body = some P.main } in
      let f = append_empty (wrongs_in at (entries P)) (misfits_in at (entries P)) h in
      let a = append_empty (wrongs at P.main) (wrongs_in next P.tables) f.0 in
      let b = append_empty (misfit at main (some P.main)) (misfits_in next P.tables) f.1 in
      let tables : OfEach TypedBody P.tables
      = typed_entries (FineBody k m) (λ i p g. wrongs_right (scope_of k m false) no_use (no_uses Right k m) most_depth false i p g)
      next P.tables w.bodies a.1 b.1 in
      ((main_right P w.main tables at a.0, fault_none (fits P.reads P.writes P.main) at b.0), tables)

  pub faults : typing_faults P ≡ [] ↔ Typed P
  unfolding typing_faults
  faults = (typed, λ t. (let e = entries_typed (first_body (length P.tables)) (entries P) t in rw e.0 e.1))
