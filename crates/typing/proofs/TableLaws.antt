-- A table's body, walked in the front of the book that ends with it, is the body that the book says.
use Rattle.std.specs.Prelude.{Ok}
use Prim.Native.Nat.{ℕ, zero, suc, ◌≤◌}
use mathlib.Core.Path.{◌≡◌, refl, sym, ◌∙◌}
use mathlib.Core.Bool.{Bool, true, false, false≢true}
use mathlib.Core.List.{List}
use lib.ListN.{take, drop}
use Rattle.rules.specs.Parts.{Part, Id, Drop, Test, Set, Not, Sum, Seq, Beside, Table, Open}
use Rattle.rules.specs.Books.{scope_of, first_body, no_use, Fine, most_depth, Bytes}
use Rattle.rules.specs.Reading.{read_part, part_at, fields_of, tables_of}
use Rattle.rules.proofs.Decoding.{reads, read_front}
use Rattle.rules.proofs.Whole.{names_none}
use Rattle.typing.specs.Walking.{shut}
use Rattle.typing.proofs.FrontLaws.{front_part}

-- where no table may stand, it does not matter what a use would stand for
fine_none : (k m : ℕ) (n n' : ℕ → Part) (d : ℕ) (pred : Bool) (p : Part) → Fine (scope_of k m false) n d pred p
    → Fine (scope_of k m false) n' d pred p
unfolding Fine
fine_none k m n n' zero pred p f = f
fine_none k m n n' (suc d) pred Id f = f
fine_none k m n n' (suc d) pred Drop f = f
fine_none k m n n' (suc d) pred (Test i v) f = f
fine_none k m n n' (suc d) pred (Set i v) f = f
fine_none k m n n' (suc d) pred (Not p) f = fine_none k m n n' d true p f
fine_none k m n n' (suc d) pred (Sum p q) f = (fine_none k m n n' d pred p f.0, fine_none k m n n' d pred q f.1)
fine_none k m n n' (suc d) pred (Seq p q) f = (fine_none k m n n' d pred p f.0, fine_none k m n n' d pred q f.1)
fine_none k m n n' (suc d) pred (Beside wp wq p q) f =
    (f.0, f.1, f.2, fine_none k m n n' d pred p f.3, fine_none k m n n' d pred q f.4)
fine_none k m n n' (suc d) pred (Table x r w start p) f = absurd (false≢true f.1)
fine_none k m n n' (suc d) pred (Open x r w) f = absurd (false≢true f.1)

pub table_part : (s : List ℕ) (e : ℕ) → first_body (tables_of s) ≤ e → Bytes s → (start a : ℕ)
    → read_part (take e s) (scope_of (fields_of s) (tables_of s) false) most_depth false start ≡ Ok a
    → part_at (take e s) (shut (take e s)) most_depth start ≡ part_at s no_use most_depth start
table_part s e h small start a q =
    let k = fields_of s in
    let m = tables_of s in
    let c = scope_of k m false in
    let p = part_at s (shut s) most_depth start in
    let f = front_part s e h small c refl most_depth false start a q in
    let g = (read_front s small c (shut s) (names_none k m (shut s)) e most_depth false start a q).0 in
    let r = reads s c no_use most_depth false start p (drop a s) (fine_none k m (shut s) no_use most_depth false p f.1) g.1 in
    f.0 ∙ sym r.1
