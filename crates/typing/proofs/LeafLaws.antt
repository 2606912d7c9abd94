-- A part with no parts below it.
use Prim.Native.Nat.{ℕ, zero, suc, ◌+◌, ◌*◌, ◌%◌, ◌^◌, ◌<◌, ◌≤◌}
use native.Mathlib.Nat.{one-mul, mod-eq_of_lt}
use lib.Pow.{pow-lt}
use native.Mathlib.Omega.{arith}
use mathlib.Core.Path.{◌≡◌, refl, sym, ap, ◌∙◌}
use mathlib.Core.Bool.{Bool, true, false, not, cond, ◌&&◌}
use mathlib.Core.Logic.{◌⊎◌, inl, inr, ⊎_elim}
use mathlib.Core.List.{List}
use lib.Bits.{bit_or, or_zero_r}
use lib.Dec.{eqb}
use lib.ListN.{length, get_or}
use borrow.Author.Tests.{eqb-true, eqb-false}
use Rattle.std.specs.Prelude.{Result, Ok, Err}
use Rattle.rules.specs.declared.Head.{Head}
use Rattle.rules.specs.Codes.{operands_of, parts_of}
use Rattle.rules.specs.Masks.{field}
use Rattle.rules.specs.Parts.{Part, Id, write, size, parts}
use Rattle.rules.specs.Typing.{tested, written}
use Rattle.rules.specs.Books.{Scope, most_bytes}
use Rattle.rules.specs.Reading.{read_operands, stands, read_part, head, head_at, part_at, built, fields_of, tables_of, reads_at, writes_at}
use Rattle.rules.proofs.ReadingLaws.{head_is, operands_none, operands_were, use_known, part_wrong, byte_next, byte_wrong, then_next}
use Rattle.rules.proofs.ReadingLaws.{stands_37, stands_8, stands_known}
use Rattle.rules.proofs.CodeLaws.{by_code}
use Rattle.typing.specs.Walking.{State}
use Rattle.book.specs.Operands.{Within}
use Rattle.typing.specs.declared.Way.{Way}
use Rattle.typing.specs.declared.Use.{Use}
use Rattle.typing.specs.declared.Notes.{Notes}
use Rattle.typing.specs.Walking.{moved, masked, unused, noted, note_use, noting, shut, scope_at, leaf_at, leaf_read}
use Rattle.typing.specs.Walking.{LeafAsked, leafed, Noted}

-- the head that the code reads where a byte stands
pub shown : (s : List ℕ) (at : ℕ) (h : Head) → at < length s → h ≡ head_at s at → h ≡ head s at
shown s at h l e = e ∙ head_is s at l

-- the mask of one field, as the code shifts it
pub bit_is : (k : ℕ) → k < 8 → 1 * 2 ^ k % 256 ≡ field k
bit_is k h = rw one-mul (mod-eq_of_lt (pow-lt h))

-- where the operands cannot be read
pub read_within : (s : List ℕ) (a : ℕ) (r : Result ℕ ℕ) → length s ≤ most_bytes → Within (length s) r → r ≡ Err a → a ≤ most_bytes
unfolding Within
read_within s a r h w e = let k : a ≤ length s = rw e at w in omega (arith, k)

-- what the masks and the place of a part come to, once its operands are read
module _ (s : List ℕ) (st : State) (code e : ℕ) (r : Result ℕ ℕ) (q : r ≡ read_operands s (fields_of s) (tables_of s) code st.at)
    (re : r ≡ Ok e) where
  pub ends_within : st.at + 1 + operands_of code ≤ length s
  ends_within = (operands_were s (fields_of s) (tables_of s) code st.at e (sym q ∙ re)).1

  pub leafed_next : (p : Part) (t w : ℕ) → size p ≡ 1 + operands_of code → parts p ≡ 1 → t ≡ tested p → w ≡ written p
      → Ok (moved (operands_of code) (masked t w st)) ≡ leafed st p (read_operands s (fields_of s) (tables_of s) code st.at)
  leafed_next p t w hs hp ht hw =
      let a : st.at + size p ≡ st.at + 1 + operands_of code = omega (arith, hs) in
      rw (← q, re, a, hp, ht, hw)

-- each code's own part
pub field_is : (h : Head) (named : ℕ → Part) (code : ℕ) → 2 ≤ code → code < 4 → let p = built h named code Id Id in
    (size p ≡ 1 + operands_of code) × (parts p ≡ 1) × (tested p ≡ cond (eqb code 2) (field h.field) 0)
    × (written p ≡ cond (eqb code 3) (field h.field) 0) × ((o : ℕ) (l : List Use) → noted p o l ≡ l)
unfolding built write parts tested written noted
field_is h named =
    by_code (λ code. 2 ≤ code → code < 4 → let p = built h named code Id Id in
    (size p ≡ 1 + operands_of code) × (parts p ≡ 1) × (tested p ≡ cond (eqb code 2) (field h.field) 0)
    × (written p ≡ cond (eqb code 3) (field h.field) 0) × ((o : ℕ) (l : List Use) → noted p o l ≡ l))
    (λ a b. absurd (omega arith)) (λ a b. absurd (omega arith)) (λ a b. (refl, refl, refl, refl, λ o l. refl))
    (λ a b. (refl, refl, refl, refl, λ o l. refl)) (λ a b. absurd (omega arith)) (λ a b. absurd (omega arith)) (λ a b. absurd (omega arith))
    (λ a b. absurd (omega arith)) (λ a b. absurd (omega arith)) (λ c a b. absurd (omega arith))

pub use_is : (s : List ℕ) (at : ℕ) → let p = built (head s at) (shut s) 8 Id Id in let x = (head s at).table in
    (size p ≡ 1 + operands_of 8) × (parts p ≡ 1) × (tested p ≡ bit_or (reads_at s x) (writes_at s x)) × (written p ≡ writes_at s x)
    × ((o : ℕ) (l : List Use) → noted p o l ≡ note_use x o l)
unfolding built write parts tested written shut noted
use_is s at = (refl, refl, refl, refl, λ o l. refl)

-- a code with no parts below it, at any depth
pub leaf_read_lem : (s : List ℕ) (c : Scope) (d : ℕ) (pred : Bool) (at code : ℕ) → get_or s at 0 ≡ code → at < length s
    → stands c.main pred code ≡ true → parts_of code ≡ 0
    → read_part s c (suc d) pred at ≡ read_operands s c.fields c.tables code at
unfolding read_part
leaf_read_lem s c d pred at code e h st z =
    rw (← byte_next s (stands c.main pred) at h (rw e st), e, z)
    (then_next (read_operands s c.fields c.tables code at))

pub leaf_stop : (s : List ℕ) (c : Scope) (d : ℕ) (pred : Bool) (at : ℕ) → at < length s → stands c.main pred (get_or s at 0) ≡ false
    → read_part s c d pred at ≡ Err at
leaf_stop s c d pred at h st = part_wrong s c d pred at at (sym (byte_wrong s (stands c.main pred) at h st))

leaf_part : (s : List ℕ) (at code : ℕ) → get_or s at 0 ≡ code → leaf_at s at ≡ built (head s at) (shut s) code Id Id
unfolding part_at
leaf_part s at code e = rw e

module _ (s : List ℕ) (st : State) (w : Way) (code : ℕ) (e : get_or s st.at 0 ≡ code) (h : st.at < length s) where
  pub leaf_off : stands (not w.in_table) w.predicate code ≡ false → Err st.at ≡ leafed st (leaf_at s st.at) (leaf_read s w st.at)
  leaf_off not-here = rw (leaf_stop s (scope_at s w) 1 w.predicate st.at h (rw e not-here))

  pub leaf_on : (r : Result State ℕ) → stands (not w.in_table) w.predicate code ≡ true → parts_of code ≡ 0
      → r ≡ leafed st (built (head s st.at) (shut s) code Id Id) (read_operands s (fields_of s) (tables_of s) code st.at)
      → r ≡ leafed st (leaf_at s st.at) (leaf_read s w st.at)
  leaf_on r ok z g = rw (leaf_part s st.at code e, leaf_read_lem s (scope_at s w) 0 w.predicate st.at code e h ok z) g

  pub leaf_noted : (r : Result State ℕ) (n v : Notes) → Noted w.level (built (head s st.at) (shut s) code Id Id) r n v → Noted w.level (leaf_at s st.at) r n v
  leaf_noted r n v g = rw (leaf_part s st.at code e) g

-- a test or a set, by the mask of its field
module _ (s : List ℕ) (st : State) (code : ℕ) (lo : 2 ≤ code) (up : code < 4) (e : ℕ) (r : Result ℕ ℕ)
    (q : r ≡ read_operands s (fields_of s) (tables_of s) code st.at) (re : r ≡ Ok e) where
  pub field_on : (b : ℕ) → b ≡ field (head s st.at).field → (t w : ℕ) → t ≡ cond (eqb code 2) b 0 → w ≡ cond (eqb code 3) b 0
      → Ok (moved (operands_of code) (masked t w st))
      ≡ leafed st (built (head s st.at) (shut s) code Id Id) (read_operands s (fields_of s) (tables_of s) code st.at)
  field_on b eb t w et ew =
      let i = field_is (head s st.at) (shut s) code lo up in
      leafed_next s st code e r q re (built (head s st.at) (shut s) code Id Id) t w i.0 i.1
      (et ∙ ap (λ (x : ℕ). cond (eqb code 2) x 0) eb ∙ sym i.2) (ew ∙ ap (λ (x : ℕ). cond (eqb code 3) x 0) eb ∙ sym i.3)

-- a use of a table
module _ (s : List ℕ) (n : Notes) (st : State) (way : Way) (a : LeafAsked s n st way) (e : ℕ) (r : Result ℕ ℕ)
    (q : r ≡ read_operands s (fields_of s) (tables_of s) 8 st.at) (re : r ≡ Ok e) (h : Head) (eh : h ≡ head s st.at) where
  pub use_asked : (length n.uses ≡ 16) × (h.table < 16) × ((get_or n.uses h.table unused).count ≤ most_bytes)
  use_asked =
      let k = use_known s (fields_of s) (tables_of s) st.at e (sym q ∙ re) in
      let x : h.table ≡ (head s st.at).table = ap (λ (h : Head). h.table) eh in
      (a.kept.room, omega (arith, x, k.1, a.sound.tables), omega (arith, a.kept.few h.table, a.sound.size, a.inside))

  pub use_left : (t w : ℕ) → t ≡ bit_or (reads_at s h.table) (writes_at s h.table) → w ≡ writes_at s h.table
      → Ok (moved 1 (masked t w st)) ≡ leafed st (built (head s st.at) (shut s) 8 Id Id) (read_operands s (fields_of s) (tables_of s) 8 st.at)
  use_left t w et ew =
      let i = use_is s st.at in
      leafed_next s st 8 e r q re (built (head s st.at) (shut s) 8 Id Id) t w i.0 i.1
      (et ∙ ap (λ (h : Head). bit_or (reads_at s h.table) (writes_at s h.table)) eh ∙ sym i.2)
      (ew ∙ ap (λ (h : Head). writes_at s h.table) eh ∙ sym i.3)

  pub use_noted : (v : Notes) → v ≡ noting n (note_use h.table way.level n.uses)
      → v ≡ noting n (noted (built (head s st.at) (shut s) 8 Id Id) way.level n.uses)
  use_noted v ev = ev ∙ ap (noting n) (ap (λ (h : Head). note_use h.table way.level n.uses) eh ∙ sym ((use_is s st.at).4 way.level n.uses))

-- a part that notes nothing
pub quiet_noted : (o : ℕ) (p : Part) (r : Result State ℕ) (n : Notes) → ((l : List Use) → noted p o l ≡ l) → Noted o p r n n
quiet_noted o p (Ok st) n q = rw (q n.uses)
quiet_noted o p (Err a) n q = tt

-- id and drop
plain_is : (s : List ℕ) (at code : ℕ) → code < 2 → (operands_of code ≡ 0) × (let p = built (head s at) (shut s) code Id Id in
    (size p ≡ 1) × (parts p ≡ 1) × (tested p ≡ 0) × (written p ≡ 0))
    × ((o : ℕ) (l : List Use) → noted (built (head s at) (shut s) code Id Id) o l ≡ l)
unfolding built write parts tested written noted
plain_is s at zero h = (refl, (refl, refl, refl, refl), λ o l. refl)
plain_is s at (suc zero) h = (refl, (refl, refl, refl, refl), λ o l. refl)
plain_is s at (suc (suc c)) h = absurd (omega arith)

low_parts_none : (c : ℕ) → c < 2 → parts_of c ≡ 0
low_parts_none zero h = refl
low_parts_none (suc zero) h = refl
low_parts_none (suc (suc c)) h = absurd (omega arith)

-- id and drop stand where they are read
pub plain_left : (s : List ℕ) (st : State) (w : Way) (code : ℕ) → code < 2 → get_or s st.at 0 ≡ code → st.at < length s
    → Ok (moved 0 st) ≡ leafed st (leaf_at s st.at) (leaf_read s w st.at)
plain_left s st w code l e h =
    let i = plain_is s st.at code l in
    let ro = operands_none s (fields_of s) (tables_of s) code st.at i.0 h in
    let t : bit_or st.tests 0 ≡ st.tests = or_zero_r st.tests in
    let m : bit_or st.writes 0 ≡ st.writes = or_zero_r st.writes in
    leaf_on s st w code e h (Ok (moved 0 st))
    (stands_known (not w.in_table) w.predicate code (omega arith) (λ q. omega arith)) (low_parts_none code l)
    (rw (ro, i.1.0, i.1.1, i.1.2, i.1.3, t, m) (let z : st.at + 1 + 0 ≡ st.at + 1 = omega arith in rw z))

pub plain_noted : (s : List ℕ) (st : State) (o code : ℕ) (r : Result State ℕ) (n : Notes) → code < 2 → get_or s st.at 0 ≡ code
    → Noted o (leaf_at s st.at) r n n
plain_noted s st o code r n l e = rw (leaf_part s st.at code e) (quiet_noted o (built (head s st.at) (shut s) code Id Id) r n ((plain_is s st.at code l).2 o))

pub field_noted : (s : List ℕ) (st : State) (o code : ℕ) (r : Result State ℕ) (n : Notes) → 2 ≤ code → code < 4 → get_or s st.at 0 ≡ code
    → Noted o (leaf_at s st.at) r n n
field_noted s st o code r n a b e =
    rw (leaf_part s st.at code e)
    (quiet_noted o (built (head s st.at) (shut s) code Id Id) r n ((field_is (head s st.at) (shut s) code a b).4 o))

pub unknown_code : (c : ℕ) → parts_of c ≡ 0 → 2 ≤ c → (c ≡ 2 → ⊥) → (c ≡ 3 → ⊥) → (c ≡ 8 → ⊥) → 9 ≤ c
unknown_code =
    by_code (λ c. parts_of c ≡ 0 → 2 ≤ c → (c ≡ 2 → ⊥) → (c ≡ 3 → ⊥) → (c ≡ 8 → ⊥) → 9 ≤ c) (λ z l a b d. absurd (omega arith))
    (λ z l a b d. absurd (omega arith)) (λ z l a b d. absurd (a refl)) (λ z l a b d. absurd (b refl)) (λ z l a b d. absurd (omega arith))
    (λ z l a b d. absurd (omega arith)) (λ z l a b d. absurd (omega arith)) (λ z l a b d. absurd (omega arith))
    (λ z l a b d. absurd (d refl)) (λ c z l a b d. omega arith)

-- which codes stand, by what the walk compares
pub set_stops : (t p : Bool) → p ≡ true → stands t p 3 ≡ false
set_stops t p h = stands_37 t p 3 (inl refl) ∙ rw h

pub set_stands : (t p : Bool) → p ≡ false → stands t p 3 ≡ true
set_stands t p h = stands_37 t p 3 (inl refl) ∙ rw h

pub beside_stops : (t p : Bool) → p ≡ true → stands t p 7 ≡ false
beside_stops t p h = stands_37 t p 7 (inr refl) ∙ rw h

pub table_stands : (t p : Bool) → p ≡ false → t ≡ false → stands (not t) p 8 ≡ true
table_stands t p h k = stands_8 (not t) p 8 refl ∙ rw (h, k)

pub table_stops : (t p : Bool) → (p ≡ true) ⊎ (t ≡ true) → stands (not t) p 8 ≡ false
table_stops t p = ⊎_elim (λ h. stands_8 (not t) p 8 refl ∙ rw h) (λ h. stands_8 (not t) p 8 refl ∙ rw h (no_main p))
  where
    no_main : (p : Bool) → (not p && false) ≡ false
    no_main true = refl
    no_main false = refl

pub five_six : (c : ℕ) → 5 ≤ c → c < 7 → (c ≡ 5) ⊎ (c ≡ 6)
five_six c h l = go (eqb c 5) refl
  where
    go : (t : Bool) → eqb c 5 ≡ t → (c ≡ 5) ⊎ (c ≡ 6)
    go true q = inl (eqb-true c 5 q)
    go false q = inr (omega (arith, eqb-false c 5 q))

pub other_codes : (c : ℕ) → (c ≡ 4 → ⊥) → (c ≡ 7 → ⊥) → (c < 5) ⊎ (7 ≤ c) → parts_of c ≡ 0
other_codes =
    by_code (λ c. (c ≡ 4 → ⊥) → (c ≡ 7 → ⊥) → (c < 5) ⊎ (7 ≤ c) → parts_of c ≡ 0) (λ a b h. refl) (λ a b h. refl) (λ a b h. refl)
    (λ a b h. refl) (λ a b h. absurd (a refl)) (λ a b. ⊎_elim (λ h. absurd (omega arith)) (λ h. absurd (omega arith)))
    (λ a b. ⊎_elim (λ h. absurd (omega arith)) (λ h. absurd (omega arith))) (λ a b h. absurd (b refl)) (λ a b h. refl) (λ c a b h. refl)
