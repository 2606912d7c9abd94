-- The part level of acceptance: what the reader of a part lets through is a fine part, written, and the decoder gives it (`read`);
-- and a fine part, written, is let through and decodes to itself (`reads`).
use Rattle.std.specs.Prelude.{Err, Ok, Result, ℕ}
use Prim.Native.Nat.{ℕ, zero, suc, ◌+◌, ◌/◌, ◌%◌, ◌^◌, ◌<◌, ◌≤◌}
use native.Mathlib.Omega.{arith}
use native.Mathlib.Numerals.{add-one}
use native.Mathlib.Nat.{add-zero, zero-add, suc-add}
use mathlib.Core.Path.{◌≡◌, refl, sym, ap, ◌∙◌, subst}
use mathlib.Core.Bool.{Bool, true, false, not, cond, ◌&&◌, ◌||◌}
use mathlib.Core.List.{List, [], ◌∷◌, ◌++◌, append_assoc, append-nil}
use mathlib.Core.Option.{none}
use lib.Dec.{ltb, leb, eqb, lit≤}
use lib.ListN.{length, get_or, take, drop, length-drop, length-append, take-append-drop}
use lib.Seq.{drop-cons, drop-drop, drop-append-le, drop-append_seam, length-take-le, take-append_seam, take-nil}
use borrow.Author.Tests.{lt-ltb, le-leb, ltb-true, leb-true, eqb-true, not-true}
use Rattle.rules.specs.Codes.{operands_of, parts_of}
use Rattle.rules.specs.Parts.{Part, Id, Drop, Test, Set, Not, Sum, Seq, Beside, Table, Open, write, size}
use Rattle.rules.specs.Books.{most_depth, Bytes, Scope, Fine}
use Rattle.rules.specs.Reading.{and_then, byte_if, stands, operands_wrong, read_operands, read_times, read_part, read_body}
use Rattle.rules.specs.Reading.{number_at, skip, after, head, built, part_at}
use Rattle.rules.proofs.ReadingLaws.{and_was, byte_was, byte_next, none_wrong, none_later, operands_were, operands_next}
use Rattle.rules.proofs.ReadingLaws.{parts_small, body_whole}

pub bytes_take : (n : ℕ) (s : List ℕ) → Bytes s → Bytes (take n s)
bytes_take zero s h i = lit≤ tt
bytes_take (suc n) [] h i = lit≤ tt
bytes_take (suc n) (x ∷ s) h zero = h 0
bytes_take (suc n) (x ∷ s) h (suc i) = bytes_take n s (λ j. h (suc j)) i

pub size_positive : (p : Part) → 0 < size p
unfolding write
size_positive Id = omega arith
size_positive Drop = omega arith
size_positive (Test f v) = omega arith
size_positive (Set f v) = omega arith
size_positive (Not p) = omega arith
size_positive (Sum p q) = omega arith
size_positive (Seq p q) = omega arith
size_positive (Beside wp wq p q) = omega arith
size_positive (Table x r w start p) = omega arith
size_positive (Open x r w) = omega arith

-- what a use of table x may stand for
pub data Named (x : ℕ) : Part → Type 0 where
  populated : (r w start : ℕ) (p : Part) → Named x (Table x r w start p)
  unpopulated : (r w : ℕ) → Named x (Open x r w)

-- where code 8 may stand, each table's number stands for that table
abbrev pub Names : Scope → (ℕ → Part) → Type 0
Names c named = c.main ≡ true → (x : ℕ) → 0 < x → x ≤ c.tables → Named x (named x)

pub named_written : (x : ℕ) (p : Part) → Named x p → write p ≡ 8 ∷ x ∷ []
unfolding write
named_written x _ (populated r w start p) = refl
named_written x _ (unpopulated r w) = refl

pub named_fine : (c : Scope) (named : ℕ → Part) (d x : ℕ) (pred : Bool) (p : Part) → named x ≡ p → Named x p
    → pred ≡ false → c.main ≡ true → 0 < x → x ≤ c.tables → Fine c named (suc d) pred p
unfolding Fine
named_fine c named d x pred _ e (populated r w start p) h m l u = (h, m, l, u, e)
named_fine c named d x pred _ e (unpopulated r w) h m l u = (h, m, l, u, e)

-- ---- what is read was written

pub then_was : (x : Result ℕ ℕ) (f : ℕ → Result ℕ ℕ) (e : ℕ) → and_then x f ≡ Ok e → (a : ℕ) × (x ≡ Ok a) × (f a ≡ Ok e)
then_was (Ok a) f e q = (a, refl, q)
then_was (Err a) f e q = let z : ◌≡◌ {A = ℕ} 0 1 = cc in absurd (omega arith)

-- n bytes from a place on
unfoldable bytes : List ℕ → ℕ → ℕ → List ℕ
bytes s a zero = []
bytes s a (suc n) = get_or s a 0 ∷ bytes s (a + 1) n

bytes_drop : (s : List ℕ) (n a : ℕ) → a + n ≤ length s → drop a s ≡ bytes s a n ++ drop (a + n) s
unfolding bytes
bytes_drop s zero a h = ap (λ (x : ℕ). drop x s) (sym (add-zero a))
bytes_drop s (suc n) a h =
    let q : a + 1 + n ≡ a + suc n = omega arith in
    rw add-one (drop-cons s a 0 (omega arith))
    ∙ ap (λ (l : List ℕ). get_or s a 0 ∷ l) (bytes_drop s n (a + 1) (omega arith) ∙ ap (λ (x : ℕ). bytes s (a + 1) n ++ drop x s) q)

bytes_length : (s : List ℕ) (n a : ℕ) → length (bytes s a n) ≡ n
unfolding bytes
bytes_length s zero a = refl
bytes_length s (suc n) a = ap suc (bytes_length s n (a + 1))

-- the n bytes that are there
bytes_are : (s : List ℕ) (n a : ℕ) → a + n ≤ length s → take n (drop a s) ≡ bytes s a n
bytes_are s n a h =
    ap (take n) (bytes_drop s n a h)
    ∙ ap (λ (x : ℕ). take x (bytes s a n ++ drop (a + n) s)) (sym (bytes_length s n a))
    ∙ take-append_seam (bytes s a n) (drop (a + n) s)

byte_drop : (s : List ℕ) (ok : ℕ → Bool) (at a : ℕ) → byte_if s ok at ≡ Ok a
    → (a ≡ at + 1) × (ok (get_or s at 0) ≡ true) × (drop at s ≡ get_or s at 0 ∷ drop (at + 1) s) × (at < length s)
byte_drop s ok at a q =
    let w : (at < length s) × (ok (get_or s at 0) ≡ true) × (a ≡ at + 1) = byte_was s ok at a q in
    (w.2, w.1, rw add-one (drop-cons s at 0 w.0), w.0)

-- a code's operands are there, and none is wrong
module _ (s : List ℕ) (k m code at b : ℕ) where
  abbrev OperandsRead : Type 0
  OperandsRead =
      (b ≡ at + 1 + operands_of code) × (drop (at + 1) s ≡ bytes s (at + 1) (operands_of code) ++ drop b s)
      × (operands_wrong k m code (bytes s (at + 1) (operands_of code)) ≡ none)

  operands_read : read_operands s k m code at ≡ Ok b → OperandsRead
  operands_read q =
      let w = operands_were s k m code at b q in
      let n : ℕ = operands_of code in (
        w.0,
        bytes_drop s n (at + 1) w.1 ∙ ap (λ (x : ℕ). bytes s (at + 1) n ++ drop x s) (sym w.0),
        ap (operands_wrong k m code) (sym (bytes_are s n (at + 1) w.1)) ∙ w.2,
      )

-- no code above 8 stands
none_above : (t p : Bool) (code : ℕ) → stands t p (suc (suc (suc (suc (suc (suc (suc (suc (suc code))))))))) ≡ true → ⊥
unfolding stands
none_above t p code h = let z : ◌≡◌ {A = ℕ} 0 1 = cc in omega arith

-- the bytes of n parts, and that they are fine
abbrev part_bytes : ℕ → List ℕ → List ℕ → List ℕ
part_bytes zero l r = []
part_bytes (suc zero) l r = l
part_bytes (suc (suc n)) l r = l ++ r

abbrev FineParts : (Part → Type 0) → ℕ → Part → Part → Type 0
FineParts F zero l r = Unit {0}
FineParts F (suc zero) l r = F l
FineParts F (suc (suc n)) l r = F l × F r

-- the two bytes of a value
value_bytes : (code : ℕ) (s : List ℕ) → Bytes s → (at : ℕ)
    → code ∷ get_or s (at + 1) 0 ∷ number_at s (at + 2) / 256 ∷ number_at s (at + 2) % 256 ∷ []
    ≡ code ∷ get_or s (at + 1) 0 ∷ get_or s (at + 1 + 1) 0 ∷ get_or s (at + 1 + 1 + 1) 0 ∷ []
value_bytes code s small at =
    let e2 : at + 1 + 1 ≡ at + 2 = omega arith in
    let q : number_at s (at + 2) / 256 ≡ get_or s (at + 2) 0 = omega (arith, small (at + 2 + 1)) in
    let r : number_at s (at + 2) % 256 ≡ get_or s (at + 2 + 1) 0 = omega (arith, small (at + 2 + 1)) in
    rw (e2, q, r)

module _ (s : List ℕ) (c : Scope) (named : ℕ → Part) (d : ℕ) (pred : Bool) (at e : ℕ) where
  -- what reading a part tells: the place after it, its bytes, and that it is fine
  abbrev pub Read : Type 0
  Read =
      (after s d at ≡ e) × (drop at s ≡ write (part_at s named d at) ++ drop e s)
      × Fine c named d pred (part_at s named d at) × (e ≤ length s)

  -- it ends its size after its place
  pub read_end : Read → e ≡ at + size (part_at s named d at)
  read_end g =
      omega (
        arith,
        g.3,
        size_positive (part_at s named d at),
        ap length g.1,
        length-drop at s,
        length-drop e s,
        length-append (write (part_at s named d at)) (drop e s),
      )

module _ (s : List ℕ) (small : Bytes s) (c : Scope) (named : ℕ → Part) (names : Names c named) where
  -- a part with a code that stands, over operands that fit and fine parts, is written as its bytes, and is fine
  abbrev Built : ℕ → Bool → ℕ → Part → Part → ℕ → Type 0
  Built d pred at l r code =
      (write (built (head s at) named code l r)
      ≡ code ∷ (bytes s (at + 1) (operands_of code) ++ part_bytes (parts_of code) (write l) (write r)))
      × Fine c named (suc d) pred (built (head s at) named code l r)

  value_small : (at : ℕ) → number_at s at < 65536
  value_small at = omega (arith, small at, small (at + 1))

  built_use : (d at : ℕ) (pred : Bool) (l r : Part) → (not pred && c.main) ≡ true
      → (ltb 0 (get_or s (at + 1) 0) && leb (get_or s (at + 1) 0) c.tables) ≡ true → Built d pred at l r 8
  unfolding built bytes
  built_use d at pred l r h o =
      let x : ℕ = get_or s (at + 1) 0 in
      let w = and_was (not pred) c.main h in
      let v = and_was (ltb 0 x) (leb x c.tables) o in
      let lo : 0 < x = ltb-true 0 x v.0 in
      let up : x ≤ c.tables = leb-true x c.tables v.1 in
      let n : Named x (named x) = names w.1 x lo up in
      (named_written x (named x) n, named_fine c named d x pred (named x) refl n (not-true pred w.0) w.1 lo up)

  built_right : (d at : ℕ) (pred : Bool) (l r : Part) (code : ℕ) → stands c.main pred code ≡ true
      → operands_wrong c.fields c.tables code (bytes s (at + 1) (operands_of code)) ≡ none
      → FineParts (Fine c named d (eqb code 4 || pred)) (parts_of code) l r → Built d pred at l r code
  unfolding write Fine built bytes stands operands_wrong
  built_right d at pred l r zero h o f = (refl, tt)
  built_right d at pred l r (suc zero) h o f = (refl, tt)
  built_right d at pred l r (suc (suc zero)) h o f =
      (value_bytes 2 s small at, (ltb-true (get_or s (at + 1) 0) c.fields (none_wrong _ _ o).0, value_small (at + 2)))
  built_right d at pred l r (suc (suc (suc zero))) h o f =
      (value_bytes 3 s small at, (not-true pred h, ltb-true (get_or s (at + 1) 0) c.fields (none_wrong _ _ o).0, value_small (at + 2)))
  built_right d at pred l r (suc (suc (suc (suc zero)))) h o f = (refl, f)
  built_right d at pred l r (suc (suc (suc (suc (suc zero))))) h o f = (refl, f)
  built_right d at pred l r (suc (suc (suc (suc (suc (suc zero)))))) h o f = (refl, f)
  built_right d at pred l r (suc (suc (suc (suc (suc (suc (suc zero))))))) h o f =
      let e : at + 1 + 1 ≡ at + 2 = omega arith in
      let k : ℕ = 2 ^ c.fields in
      let w = none_wrong _ _ o in
      let v = none_wrong _ _ (none_later _ w.1) in
      (rw e, (not-true pred h, ltb-true (get_or s (at + 1) 0) k w.0, rw e at (ltb-true (get_or s (at + 1 + 1) 0) k v.0), f.0, f.1))
  built_right d at pred l r (suc (suc (suc (suc (suc (suc (suc (suc zero)))))))) h o f = built_use d at pred l r h (none_wrong _ _ o).0
  built_right d at pred l r (suc (suc (suc (suc (suc (suc (suc (suc (suc code))))))))) h o f = absurd (none_above c.main pred code h)

  -- n parts one after the other
  abbrev PartsRead : ℕ → Bool → ℕ → ℕ → ℕ → Type 0
  PartsRead d pred n b e =
      (skip n (after s d) b ≡ e)
      × (drop b s ≡ part_bytes n (write (part_at s named d b)) (write (part_at s named d (after s d b))) ++ drop e s)
      × FineParts (Fine c named d pred) n (part_at s named d b) (part_at s named d (after s d b)) × (b ≤ length s → e ≤ length s)

  parts_read : (d : ℕ) (pred : Bool) (f : ℕ → Result ℕ ℕ) → ((x y : ℕ) → f x ≡ Ok y → Read s c named d pred x y)
      → (n b e : ℕ) → n ≤ 2 → read_times n f b ≡ Ok e → PartsRead d pred n b e
  parts_read d pred f ih zero b e le q = let z : b ≡ e = cc in (z, ap (λ (x : ℕ). drop x s) z, tt, λ h. omega arith)
  parts_read d pred f ih (suc zero) b e le q =
      let w = then_was (f b) (λ x. Ok x) e q in
      let g : Read s c named d pred b e = ih b e (w.1 ∙ w.2) in
      (g.0, g.1, g.2, λ le. g.3)
  parts_read d pred f ih (suc (suc zero)) b e le q =
      let w = then_was (f b) (read_times 1 f) e q in
      let v = then_was (f w.0) (λ x. Ok x) e w.2 in
      let g : Read s c named d pred b w.0 = ih b w.0 w.1 in
      let h : Read s c named d pred (after s d b) e
      = subst (λ (x : ℕ). Read s c named d pred x e) (sym g.0) (ih w.0 e (v.1 ∙ v.2)) in
      let l : List ℕ = write (part_at s named d b) in (
        h.0,
        g.1 ∙ ap (λ (x : ℕ). l ++ drop x s) (sym g.0) ∙ ap (λ (x : List ℕ). l ++ x) h.1
            ∙ sym (append_assoc l (write (part_at s named d (after s d b))) (drop e s)),
        (g.2, h.2),
        λ le. h.3,
      )
  parts_read d pred f ih (suc (suc (suc n))) b e le q = absurd (omega arith)

  -- a part from its code, operands and parts
  module _ (d : ℕ) (pred : Bool) (at b e : ℕ) where
    abbrev code : ℕ
    code = get_or s at 0

    part_read : at < length s → stands c.main pred code ≡ true → drop at s ≡ code ∷ drop (at + 1) s
        → OperandsRead s c.fields c.tables code at b → b ≤ length s
        → PartsRead d (eqb code 4 || pred) (parts_of code) b e → Read s c named (suc d) pred at e
    unfolding after part_at
    part_read lt st dr o le w =
        let b' : ℕ = at + 1 + operands_of code in
        let w' : PartsRead d (eqb code 4 || pred) (parts_of code) b' e
        = subst (λ (x : ℕ). PartsRead d (eqb code 4 || pred) (parts_of code) x e) o.0 w in
        let l : Part = part_at s named d b' in
        let r : Part = part_at s named d (after s d b') in
        let os : List ℕ = bytes s (at + 1) (operands_of code) in
        let done : Built d pred at l r code = built_right d at pred l r code st o.2 w'.2 in (
          rw (lt-ltb at (length s) lt) w'.0,
          dr ∙ ap (λ (x : List ℕ). code ∷ x)
              (o.1 ∙ ap (λ (x : ℕ). os ++ drop x s) o.0 ∙ ap (λ (x : List ℕ). os ++ x) w'.1
              ∙ sym (append_assoc os (part_bytes (parts_of code) (write l) (write r)) (drop e s)))
              ∙ ap (λ (x : List ℕ). x ++ drop e s) (sym done.0),
          done.1,
          w.3 le,
        )

  pub read : (d : ℕ) (pred : Bool) (at e : ℕ) → read_part s c d pred at ≡ Ok e → Read s c named d pred at e
  unfolding read_part
  read zero pred at e q =
      let w = then_was (byte_if s (stands c.main pred) at) (λ a. Err at) e q in
      let z : ◌≡◌ {A = ℕ} 0 1 = cc in absurd (omega arith)
  read (suc d) pred at e q = go (λ p x y h. read d p x y h)
    where
      go : ((p : Bool) (x y : ℕ) → read_part s c d p x ≡ Ok y → Read s c named d p x y) → Read s c named (suc d) pred at e
      go ih =
          let code : ℕ = get_or s at 0 in
          let w = then_was (byte_if s (stands c.main pred) at) _ e q in
          let g = byte_drop s (stands c.main pred) at w.0 w.1 in
          let v = then_was (read_operands s c.fields c.tables code at) _ e w.2 in
          let o : OperandsRead s c.fields c.tables code at v.0 = operands_read s c.fields c.tables code at v.0 v.1 in
          let le : v.0 ≤ length s = omega (arith, o.0, (operands_were s c.fields c.tables code at v.0 v.1).1) in
          part_read d pred at v.0 e g.3 g.1 g.2 o le
          (parts_read d (eqb code 4 || pred) (read_part s c d (eqb code 4 || pred)) (ih (eqb code 4 || pred)) (parts_of code) v.0 e
          (parts_small code) v.2)

-- ---- what is written is read

pub drop_head : (s : List ℕ) (at x : ℕ) (r : List ℕ) → drop at s ≡ x ∷ r → (at < length s) × (get_or s at 0 ≡ x) × (drop (at + 1) s ≡ r)
drop_head s at x r e =
    let lt : at < length s = omega (arith, ap length e, length-drop at s) in
    let q : drop at s ≡ get_or s at 0 ∷ drop (suc at) s = drop-cons s at 0 lt in
    let h : get_or s at 0 ≡ x = cc in
    let g : drop (suc at) s ≡ r = cc in
    (lt, h, rw add-one g)

-- the operands that the bytes show
value_of : (s : List ℕ) (at f v : ℕ) (rest : List ℕ) → drop (at + 1) s ≡ f ∷ v / 256 ∷ v % 256 ∷ rest
    → (get_or s (at + 1) 0 ≡ f) × (number_at s (at + 2) ≡ v)
value_of s at f v rest e =
    let a = drop_head s (at + 1) f (v / 256 ∷ v % 256 ∷ rest) e in
    let b = drop_head s (at + 1 + 1) (v / 256) (v % 256 ∷ rest) a.2 in
    let c = drop_head s (at + 1 + 1 + 1) (v % 256) rest b.2 in
    let e2 : at + 1 + 1 ≡ at + 2 = omega arith in
    let b' : get_or s (at + 2) 0 ≡ v / 256 = rw e2 at b.1 in
    let c' : get_or s (at + 2 + 1) 0 ≡ v % 256 = rw e2 at c.1 in
    (a.1, rw (b', c') (omega arith))

masks_of : (s : List ℕ) (at a b : ℕ) (rest : List ℕ) → drop (at + 1) s ≡ a ∷ b ∷ rest → (get_or s (at + 1) 0 ≡ a) × (get_or s (at + 2) 0 ≡ b)
masks_of s at a b rest e =
    let h = drop_head s (at + 1) a (b ∷ rest) e in
    let g = drop_head s (at + 1 + 1) b rest h.2 in
    let e2 : at + 1 + 1 ≡ at + 2 = omega arith in
    (h.1, rw e2 at g.1)

module _ (s : List ℕ) where
  reads_operands : (k m code at : ℕ) (bs rest : List ℕ) → drop (at + 1) s ≡ bs ++ rest → length bs ≡ operands_of code
      → at < length s → operands_wrong k m code bs ≡ none
      → (read_operands s k m code at ≡ Ok (at + 1 + operands_of code)) × (drop (at + 1 + operands_of code) s ≡ rest)
  reads_operands k m code at bs rest e len lt o =
      let n : ℕ = operands_of code in
      let there : at + 1 + n ≤ length s = omega (arith, ap length e, length-drop (at + 1) s, length-append bs rest) in
      let taken : take n (drop (at + 1) s) ≡ bs = ap (take n) e ∙ rw (← len) (take-append_seam bs rest) in (
        operands_next s k m code at there (ap (operands_wrong k m code) taken ∙ o),
        sym (drop-drop n (at + 1) s) ∙ ap (drop n) e ∙ rw (← len) (drop-append_seam bs rest),
      )

  module _ (c : Scope) (named : ℕ → Part) where
    -- the part at a place is read, decodes to p, and the rest stands after it
    abbrev ReadsTo : ℕ → Bool → ℕ → Part → List ℕ → ℕ → Type 0
    ReadsTo d pred at p rest e = (read_part s c d pred at ≡ Ok e) × (part_at s named d at ≡ p) × (after s d at ≡ e) × (drop e s ≡ rest)

    abbrev pub Reads : ℕ → Bool → ℕ → Part → List ℕ → Type 0
    Reads d pred at p rest = ReadsTo d pred at p rest (at + size p)

    -- a part's code and operands are read, whatever stands below
    abbrev HeadRead : ℕ → Bool → ℕ → ℕ → List ℕ → List ℕ → Type 0
    HeadRead d pred at code bs rest =
        let b = at + 1 + operands_of code in
        (read_part s c (suc d) pred at ≡ read_times (parts_of code) (read_part s c d (eqb code 4 || pred)) b)
        × (part_at s named (suc d) at ≡ built (head s at) named code (part_at s named d b) (part_at s named d (after s d b)))
        × (after s (suc d) at ≡ skip (parts_of code) (after s d) b) × (drop b s ≡ rest) × (drop (at + 1) s ≡ bs ++ rest)

    reads_head : (d : ℕ) (pred : Bool) (at code : ℕ) (bs rest : List ℕ) → drop at s ≡ code ∷ (bs ++ rest)
        → stands c.main pred code ≡ true → length bs ≡ operands_of code
        → operands_wrong c.fields c.tables code bs ≡ none
        → HeadRead d pred at code bs rest
    unfolding read_part part_at after
    reads_head d pred at code bs rest e st len o =
        let h = drop_head s at code (bs ++ rest) e in
        let is : ℕ → Bool = stands c.main pred in
        let n : Ok (at + 1) ≡ byte_if s is at = byte_next s is at h.0 (ap is h.1 ∙ st) in
        let g = reads_operands c.fields c.tables code at bs rest h.2 len h.0 o in
        (rw (← n, h.1, g.0), rw h.1, rw (lt-ltb at (length s) h.0, h.1), g.1, h.2)

    reads_none : (d : ℕ) (pred : Bool) (at code : ℕ) (bs rest : List ℕ) (p : Part) → parts_of code ≡ 0 → size p ≡ 1 + operands_of code
        → HeadRead d pred at code bs rest
        → built (head s at) named code (part_at s named d (at + 1 + operands_of code))
        (part_at s named d (after s d (at + 1 + operands_of code)))
        ≡ p
        → Reads (suc d) pred at p rest
    reads_none d pred at code bs rest p z n a q =
        let e : at + 1 + operands_of code ≡ at + size p = omega arith in
        subst (ReadsTo (suc d) pred at p rest) e (a.0 ∙ rw z, a.1 ∙ q, a.2 ∙ rw z, a.3)

    reads_two : (d : ℕ) (pred : Bool) (at code : ℕ) (bs : List ℕ) (g : Part → Part → Part) (p q : Part) (rest : List ℕ)
        → parts_of code ≡ 2 → size (g p q) ≡ 1 + operands_of code + length (write p ++ write q)
        → HeadRead d pred at code bs (write p ++ (write q ++ rest))
        → ((x y : Part) → built (head s at) named code x y ≡ g x y)
        → ((b : ℕ) (r : List ℕ) → drop b s ≡ write p ++ r → Reads d (eqb code 4 || pred) b p r)
        → ((b : ℕ) (r : List ℕ) → drop b s ≡ write q ++ r → Reads d (eqb code 4 || pred) b q r)
        → Reads (suc d) pred at (g p q) rest
    reads_two d pred at code bs g p q rest z n a is left right =
        let b : ℕ = at + 1 + operands_of code in
        let l = left b (write q ++ rest) a.3 in
        let r = right (b + size p) rest l.3 in
        let e : b + size p + size q ≡ at + size (g p q) = omega (arith, length-append (write p) (write q)) in
        subst (ReadsTo (suc d) pred at (g p q) rest) e
        (a.0 ∙ rw (z, l.0, r.0), a.1 ∙ rw (l.2, l.1, r.1) (is p q), a.2 ∙ rw (z, l.2, r.2), r.3)

    -- Table and Open alike
    reads_use : (d : ℕ) (pred : Bool) (at x : ℕ) (rest : List ℕ) (p : Part) → size p ≡ 2
        → pred ≡ false → c.main ≡ true → 0 < x → x ≤ c.tables → named x ≡ p
        → drop at s ≡ 8 ∷ x ∷ rest → Reads (suc d) pred at p rest
    unfolding built stands operands_wrong
    reads_use d pred at x rest p n h m l u is e =
        let a = reads_head d pred at 8 (x ∷ []) rest e (rw (h, m)) refl (rw (lt-ltb 0 x l, le-leb x c.tables u)) in
        let w = drop_head s (at + 1) x rest a.4 in
        reads_none d pred at 8 (x ∷ []) rest p refl n a (rw w.1 is)

    append_under : (h : List ℕ → List ℕ) (at : ℕ) (p q : Part) (rest : List ℕ) → drop at s ≡ h ((write p ++ write q) ++ rest)
        → drop at s ≡ h (write p ++ (write q ++ rest))
    append_under h at p q rest e = e ∙ ap h (append_assoc (write p) (write q) rest)

    pub reads : (d : ℕ) (pred : Bool) (at : ℕ) (p : Part) (rest : List ℕ) → Fine c named d pred p
        → drop at s ≡ write p ++ rest → Reads d pred at p rest
    unfolding Fine write built stands operands_wrong
    reads zero pred at p rest f e = absurd f
    reads (suc d) pred at Id rest f e = reads_none d pred at 0 [] rest Id refl refl (reads_head d pred at 0 [] rest e refl refl refl) refl
    reads (suc d) pred at Drop rest f e =
        reads_none d pred at 1 [] rest Drop refl refl (reads_head d pred at 1 [] rest e refl refl refl) refl
    reads (suc d) pred at (Test i v) rest f e =
        let a = reads_head d pred at 2 (i ∷ v / 256 ∷ v % 256 ∷ []) rest e refl refl (rw (lt-ltb i c.fields f.0)) in
        let w = value_of s at i v rest a.4 in
        reads_none d pred at 2 (i ∷ v / 256 ∷ v % 256 ∷ []) rest (Test i v) refl refl a (rw (w.0, w.1))
    reads (suc d) pred at (Set i v) rest f e =
        let a = reads_head d pred at 3 (i ∷ v / 256 ∷ v % 256 ∷ []) rest e (ap not f.0) refl
        (rw (lt-ltb i c.fields f.1)) in
        let w = value_of s at i v rest a.4 in
        reads_none d pred at 3 (i ∷ v / 256 ∷ v % 256 ∷ []) rest (Set i v) refl refl a (rw (w.0, w.1))
    reads (suc d) pred at (Not p) rest f e =
        let a = reads_head d pred at 4 [] (write p ++ rest) e refl refl refl in
        let l = reads d true (at + 1 + 0) p rest f a.3 in
        let n : at + 1 + 0 + size p ≡ at + suc (size p) = omega arith in
        subst (ReadsTo (suc d) pred at (Not p) rest) n (a.0 ∙ rw l.0, a.1 ∙ rw l.1, a.2 ∙ rw l.2, l.3)
    reads (suc d) pred at (Sum p q) rest f e =
        let a = reads_head d pred at 5 [] (write p ++ (write q ++ rest)) (append_under (λ l. 5 ∷ l) at p q rest e) refl refl refl in
        reads_two d pred at 5 [] Sum p q rest refl (omega arith) a (λ x y. refl)
        (λ b r h. reads d pred b p r f.0 h) (λ b r h. reads d pred b q r f.1 h)
    reads (suc d) pred at (Seq p q) rest f e =
        let a = reads_head d pred at 6 [] (write p ++ (write q ++ rest)) (append_under (λ l. 6 ∷ l) at p q rest e) refl refl refl in
        reads_two d pred at 6 [] Seq p q rest refl (omega arith) a (λ x y. refl)
        (λ b r h. reads d pred b p r f.0 h) (λ b r h. reads d pred b q r f.1 h)
    reads (suc d) pred at (Beside i j p q) rest f e =
        let k : ℕ = 2 ^ c.fields in
        let a = reads_head d pred at 7 (i ∷ j ∷ []) (write p ++ (write q ++ rest)) (append_under (λ l. 7 ∷ i ∷ j ∷ l) at p q rest e)
        (ap not f.0) refl (rw (lt-ltb i k f.1, lt-ltb j k f.2)) in
        let w = masks_of s at i j (write p ++ (write q ++ rest)) a.4 in
        reads_two d pred at 7 (i ∷ j ∷ []) (Beside i j) p q rest refl (omega arith) a (λ x y. rw (w.0, w.1))
        (λ b r h. reads d pred b p r f.3 h) (λ b r h. reads d pred b q r f.4 h)
    reads (suc d) pred at (Table x r w start p) rest f e =
        reads_use d pred at x rest (Table x r w start p) refl f.0 f.1 f.2 f.3 f.4 e
    reads (suc d) pred at (Open x r w) rest f e = reads_use d pred at x rest (Open x r w) refl f.0 f.1 f.2 f.3 f.4 e

-- what is written at a place ends within the book
pub written_within : (s : List ℕ) (at : ℕ) (p : Part) (rest : List ℕ) → drop at s ≡ write p ++ rest → at + size p + length rest ≡ length s
written_within s at p rest e = omega (arith, size_positive p, ap length e, length-drop at s, length-append (write p) rest)

-- ---- a body in the front of a book

drop_front : (s : List ℕ) (at e : ℕ) → at ≤ length (take e s) → drop at s ≡ drop at (take e s) ++ drop e s
drop_front s at e h = ap (drop at) (sym (take-append-drop e s)) ∙ drop-append-le at (take e s) (drop e s) h

drop_take : (a n : ℕ) (s : List ℕ) → drop a (take (a + n) s) ≡ take n (drop a s)
drop_take zero n s = ap (λ (k : ℕ). take k s) (zero-add n)
drop_take (suc a) n [] = ap (λ (k : ℕ). drop (suc a) (take k [])) (suc-add a n) ∙ sym (take-nil n)
drop_take (suc a) n (x ∷ s) = ap (λ (k : ℕ). drop (suc a) (take k (x ∷ s))) (suc-add a n) ∙ drop_take a n s

-- a body that is read is one part, and ends where s ends
body_was : (s : List ℕ) (c : Scope) (start e : ℕ) → read_body s c start ≡ Ok e
    → (read_part s c most_depth false start ≡ Ok e) × (e ≡ length s)
unfolding read_body
body_was s c start e q = go (then_was (read_part s c most_depth false start) (λ a. cond (eqb a (length s)) (Ok a) (Err a)) e q)
  where
    ends : (a : ℕ) (x : Bool) → eqb a (length s) ≡ x → cond x (Ok a) (Err a) ≡ Ok e → (a ≡ e) × (a ≡ length s)
    ends a true h q = (cc, eqb-true a (length s) h)
    ends a false h q = let z : ◌≡◌ {A = ℕ} 0 1 = cc in absurd (omega arith)

    go : (a : ℕ) × (read_part s c most_depth false start ≡ Ok a) × (cond (eqb a (length s)) (Ok a) (Err a) ≡ Ok e)
        → (read_part s c most_depth false start ≡ Ok e) × (e ≡ length s)
    go w = let z = ends w.0 (eqb w.0 (length s)) refl w.2 in (w.1 ∙ ap (λ (a : ℕ). Ok a) z.0, sym z.0 ∙ z.1)

module _ (s : List ℕ) (small : Bytes s) (c : Scope) (named : ℕ → Part) (names : Names c named) where
  -- a part read in the front of s is decoded in s: both are the one fine part that is written there
  pub read_front : (n d : ℕ) (pred : Bool) (at e : ℕ) → read_part (take n s) c d pred at ≡ Ok e
      → Read s c named d pred at e × (part_at (take n s) named d at ≡ part_at s named d at)
  read_front n d pred at e q =
      let f : List ℕ = take n s in
      let p : Part = part_at f named d at in
      let g = read f (bytes_take n s small) c named names d pred at e q in
      let z : e ≡ at + size p = read_end f c named d pred at e g in
      let le : at ≤ length f = omega (arith, g.3) in
      let w : drop at s ≡ write p ++ drop e s
      = drop_front s at n le ∙ ap (λ (x : List ℕ). x ++ drop n s) g.1 ∙ append_assoc (write p) (drop e f) (drop n s)
      ∙ ap (λ (x : List ℕ). write p ++ x) (sym (drop_front s e n g.3)) in
      let h = reads s c named d pred at p (drop e s) g.2 w in
      ((h.2 ∙ sym z, rw h.1 w, rw h.1 g.2, omega (arith, written_within s at p (drop e s) w)), sym h.1)

  -- the body between two places of s, if it is read: one fine part, written there
  pub body_read : (start e a : ℕ) → e ≤ length s → read_body (take e s) c start ≡ Ok a
      → (a ≡ e) × (e ≡ start + size (part_at s named most_depth start))
      × (drop start s ≡ write (part_at s named most_depth start) ++ drop e s) × Fine c named most_depth false (part_at s named most_depth start)
  body_read start e a le q =
      let w = body_was (take e s) c start a q in
      let z : a ≡ e = w.1 ∙ length-take-le e s le in
      let g : Read s c named most_depth false start e
      = subst (Read s c named most_depth false start) z (read_front e most_depth false start a w.0).0 in
      (z, read_end s c named most_depth false start e g, g.1, g.2)

-- and a fine part that is written between two places is read there as a body
pub body_reads : (s : List ℕ) (c : Scope) (named : ℕ → Part) (start e : ℕ) (p : Part) (rest : List ℕ) → Fine c named most_depth false p
    → drop start s ≡ write p ++ rest → e ≡ start + size p
    → (read_body (take e s) c start ≡ Ok e) × (part_at s named most_depth start ≡ p)
body_reads s c named start e p rest f w z =
    let in_s : start + size p + length rest ≡ length s = written_within s start p rest w in
    let len : length (take e s) ≡ e = length-take-le e s (omega arith) in
    let front : drop start (take e s) ≡ write p ++ []
    = ap (λ (x : ℕ). drop start (take x s)) z ∙ drop_take start (size p) s ∙ ap (take (size p)) w
    ∙ take-append_seam (write p) rest ∙ sym (append-nil (write p)) in
    let h = reads (take e s) c named most_depth false start p [] f front in
    (body_whole (take e s) c start e (h.0 ∙ ap (λ (a : ℕ). Ok a) (sym z)) (sym len), (reads s c named most_depth false start p rest f w).1)
