-- A number in decimal is what the library prints, and has no more digits than it may.
use Rattle.std.proofs.Common.{◌≡◌, ℕ, zero, suc, ◌/◌, ◌%◌, ◌+◌, ◌<◌, ◌≤◌, ◌^◌, List, [], ◌∷◌, ◌++◌, Bool, true, false, length, length-append, sym, arith, lit<}
use Rattle.std.specs.Prelude.{cond, ltb}
use Rattle.std.specs.Fmt.{decimal as written}
use Rattle.std.proofs.lemmas.Fmt.{AppendsLastDigit, decimal_from_appends, length-decimal-le}
use borrow.Author.Tests.{lt-ltb, le-ltb}
use Rattle.printer.specs.Printing.{decimal_in, decimal}

appends : AppendsLastDigit decimal_in
unfolding decimal_in
appends = record {
  one = λ k n h. rw (lt-ltb n 10 h);
  more = λ k n h. rw (le-ltb n 10 h);
}

pub decimal_is : (n : ℕ) → n < 2 ^ 64 → written n ≡ decimal n
decimal_is n h = sym (decimal_from_appends decimal_in appends 20 n h (length-decimal-le 20 n (lit< tt) (omega arith) h))

-- ---- lengths

few_digits : (d n : ℕ) (b : Bool) (l : List ℕ) → length l ≤ d → length (cond b ((48 + n) ∷ []) (l ++ ((48 + n % 10) ∷ []))) ≤ suc d
few_digits d n true l h = omega arith
few_digits d n false l h = rw length-append (omega arith)

pub digits_few : (d n : ℕ) → length (decimal_in d n) ≤ d
unfolding decimal_in
digits_few zero n = omega arith
digits_few (suc d) n = few_digits d n (ltb n 10) (decimal_in d (n / 10)) (digits_few d (n / 10))

pub decimal_few : (n : ℕ) → length (decimal n) ≤ 20
decimal_few = digits_few 20
