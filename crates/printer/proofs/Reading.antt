-- A read goes on behind what was read before.
use Rattle.std.proofs.Common.{◌≡◌, ℕ, ◌+◌, ◌≤◌, List, ◌++◌, length, take, sym, ap, subst, ◌∙◌, length-take-le}
use Rattle.std.specs.Prelude.{Option}
use borrow.Rule.Slice.PartMut.{put_mid, post_of}
use lib.Seq.{take_at, drop_at, take-add, take-append-le}
use Rattle.std.specs.Io.KnownBytes.{Consumes}
use Rattle.std.proofs.KnownBytes.{Consumes-trans}

filled : (at n : ℕ) (xs ys rest : List ℕ) → at ≤ length xs → n ≤ length ys → take (at + n) (take at xs ++ (ys ++ rest)) ≡ take at xs ++ take n ys
filled at n xs ys rest h k =
    let size = length-take-le at xs h in
    take-add at n (take at xs ++ (ys ++ rest))
    ∙ rw (take_at (take at xs) (ys ++ rest) at size, drop_at (take at xs) (ys ++ rest) at size) (ap (λ l. take at xs ++ l) (take-append-le n ys rest k))

pub read_on : (a b c : Option (List ℕ)) (at n room : ℕ) (xs ys : List ℕ) → at ≤ length xs → n ≤ length ys → Consumes a b (take at xs)
    → Consumes b c (take n ys) → Consumes a c (take (at + n) (put_mid at room xs ys))
read_on a b c at n room xs ys h k before more =
    subst (Consumes a c) (sym (filled at n xs ys (post_of at room xs) h k)) (Consumes-trans a b c _ _ before more)
