-- A well-formed policy is written in bytes.
use Prim.Native.Nat.{ℕ, zero, suc, ◌+◌, ◌/◌, ◌%◌, ◌^◌, ◌<◌, ◌≤◌}
use native.Mathlib.Omega.{arith}
use mathlib.Core.Path.{◌≡◌}
use mathlib.Core.Bool.{Bool, true, false}
use mathlib.Core.List.{List, [], ◌∷◌, ◌++◌}
use mathlib.Core.Option.{Option, none, some}
use lib.Dec.{lit≤}
use lib.ListN.{length, length-append}
use lib.Pow.{pow_mono}
use borrow.Author.Tests.{ltb-true}
use Rattle.rules.specs.Masks.{apart, in_fields}
use Rattle.rules.specs.Parts.{Part, Id, Drop, Test, Set, Not, Sum, Seq, Beside, Table, Open, write}
use Rattle.rules.specs.Books.{most_fields, most_tables, Entry, Policy, entries, bytes_of, contents, bodies, Bytes}
use Rattle.rules.specs.Books.{write_book, Scope, scope_of, Fine, masks_fit, OfBody, OfEach, WellFormed}
use Rattle.rules.proofs.ReadingLaws.{and_was}
use Rattle.rules.proofs.Whole.{FineBody}

bytes_none : Bytes []
bytes_none i = lit≤ tt

bytes_also : (x : ℕ) (s : List ℕ) → x < 256 → Bytes s → Bytes (x ∷ s)
bytes_also x s h k zero = h
bytes_also x s h k (suc i) = k i

bytes_append : (s t : List ℕ) → Bytes s → Bytes t → Bytes (s ++ t)
bytes_append [] t h k i = k i
bytes_append (x ∷ s) t h k zero = h 0
bytes_append (x ∷ s) t h k (suc i) = bytes_append s t (λ j. h (suc j)) k i

-- a mask of at most eight fields
pub mask_byte : (k w : ℕ) → k ≤ most_fields → w < 2 ^ k → w < 256
mask_byte k w h l = omega (arith, pow_mono h)

module _ (c : Scope) (named : ℕ → Part) (hk : c.fields ≤ most_fields) (hm : c.tables ≤ most_tables) where
  value_written : (code f v : ℕ) → code < 256 → f < c.fields → v < 65536 → Bytes (code ∷ f ∷ v / 256 ∷ v % 256 ∷ [])
  value_written code f v h l u =
      bytes_also code (f ∷ v / 256 ∷ v % 256 ∷ []) h
      (bytes_also f (v / 256 ∷ v % 256 ∷ []) (omega arith)
      (bytes_also (v / 256) (v % 256 ∷ []) (omega arith) (bytes_also (v % 256) [] (omega arith) bytes_none)))

  use_bytes : (x : ℕ) → x ≤ c.tables → Bytes (8 ∷ x ∷ [])
  use_bytes x u = bytes_also 8 (x ∷ []) (omega arith) (bytes_also x [] (omega arith) bytes_none)

  pub part_bytes : (d : ℕ) (pred : Bool) (p : Part) → Fine c named d pred p → Bytes (write p)
  unfolding Fine write
  part_bytes zero pred p f = absurd f
  part_bytes (suc d) pred Id f = bytes_also 0 [] (omega arith) bytes_none
  part_bytes (suc d) pred Drop f = bytes_also 1 [] (omega arith) bytes_none
  part_bytes (suc d) pred (Test i v) f = value_written 2 i v (omega arith) f.0 f.1
  part_bytes (suc d) pred (Set i v) f = value_written 3 i v (omega arith) f.1 f.2
  part_bytes (suc d) pred (Not p) f = bytes_also 4 (write p) (omega arith) (part_bytes d true p f)
  part_bytes (suc d) pred (Sum p q) f =
      bytes_also 5 (write p ++ write q) (omega arith)
      (bytes_append (write p) (write q) (part_bytes d pred p f.0) (part_bytes d pred q f.1))
  part_bytes (suc d) pred (Seq p q) f =
      bytes_also 6 (write p ++ write q) (omega arith)
      (bytes_append (write p) (write q) (part_bytes d pred p f.0) (part_bytes d pred q f.1))
  part_bytes (suc d) pred (Beside wp wq p q) f =
      let l : List ℕ = write p ++ write q in
      bytes_also 7 (wp ∷ wq ∷ l) (omega arith)
      (bytes_also wp (wq ∷ l) (mask_byte c.fields wp hk f.1) (bytes_also wq l (mask_byte c.fields wq hk f.2)
      (bytes_append (write p) (write q) (part_bytes d pred p f.3) (part_bytes d pred q f.4))))
  part_bytes (suc d) pred (Table x r w start p) f = use_bytes x f.3
  part_bytes (suc d) pred (Open x r w) f = use_bytes x f.3

body_bytes : (F : Part → Type 0) → ((p : Part) → F p → Bytes (write p)) → (b : Option Part) → OfBody F b → Bytes (bytes_of b)
unfolding bytes_of
body_bytes F h none f = bytes_none
body_bytes F h (some p) f = h p f

bodies_bytes : (F : Part → Type 0) → ((p : Part) → F p → Bytes (write p)) → (es : List Entry)
    → OfEach (λ e. OfBody F e.body) es → Bytes (bodies es)
unfolding bodies
bodies_bytes F h [] f = bytes_none
bodies_bytes F h (e ∷ es) f = bytes_append (bytes_of e.body) (bodies es) (body_bytes F h e.body f.0) (bodies_bytes F h es f.1)

-- the masks of an entry that fit lie below 2 ^ k
pub masks_below : (k r w : ℕ) → masks_fit k r w ≡ true → (apart r w ≡ true) × (r < 2 ^ k) × (w < 2 ^ k)
unfolding masks_fit
masks_below k r w h =
    let a = and_was (apart r w) _ h in
    let b = and_was (in_fields k r) (in_fields k w) a.1 in
    (a.0, ltb-true r (2 ^ k) b.0, ltb-true w (2 ^ k) b.1)

contents_bytes : (k : ℕ) → k ≤ most_fields → (es : List Entry) → OfEach (λ e. masks_fit k e.reads e.writes ≡ true) es
    → length (bodies es) < 65536 → Bytes (contents es)
unfolding contents bodies
contents_bytes k h [] f n = bytes_none
contents_bytes k h (e ∷ es) f n =
    let l : ℕ = length (bytes_of e.body) in
    let a : length (bytes_of e.body ++ bodies es) ≡ l + length (bodies es) = length-append (bytes_of e.body) (bodies es) in
    let m = masks_below k e.reads e.writes f.0 in
    bytes_also (l / 256) (l % 256 ∷ e.reads ∷ e.writes ∷ contents es) (omega arith)
    (bytes_also (l % 256) (e.reads ∷ e.writes ∷ contents es) (omega arith)
    (bytes_also e.reads (e.writes ∷ contents es) (mask_byte k e.reads h m.1)
    (bytes_also e.writes (contents es) (mask_byte k e.writes h m.2) (contents_bytes k h es f.1 (omega arith)))))

pub book_bytes_lem : (P : Policy) → WellFormed P → Bytes (write_book P)
unfolding write_book entries bodies bytes_of
book_bytes_lem P w =
    let k : ℕ = P.fields in
    let m : ℕ = length P.tables in
    let es : List Entry = entries P in
    let n : length (bodies es) < 65536 = omega (arith, w.bytes, length-append (contents es) (bodies es)) in
    let c : Bytes (contents es) = contents_bytes k w.fields.1 es w.masks n in
    let main : Bytes (write P.main) = part_bytes (scope_of k m true) _ w.fields.1 w.tables _ _ P.main w.main in
    let tables : Bytes (bodies P.tables)
    = bodies_bytes (FineBody k m) (λ p f. part_bytes (scope_of k m false) _ w.fields.1 w.tables _ _ p f) P.tables w.bodies in
    bytes_also k (m ∷ (contents es ++ bodies es)) (omega (arith, w.fields.1))
    (bytes_also m (contents es ++ bodies es) (omega (arith, w.tables))
    (bytes_append (contents es) (bodies es) c (bytes_append (write P.main) (bodies P.tables) main tables)))
