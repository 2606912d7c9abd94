-- The laws of the lines: the parts of one, and those that are still to be added on the way through values or packets.
use Rattle.std.proofs.Common.{◌≡◌, ℕ, zero, suc, ◌+◌, ◌-◌, ◌*◌, ◌≤◌, ◌<◌, List, [], ◌∷◌, ◌++◌, length, take, drop, slice_range, get_or, refl, ap, ◌∙◌, arith, append_assoc, add-one, length-append, drop-cons}
use native.Mathlib.Nat.{mul-le-mul}
use lib.ListN.{length-take, drop_of_length-le}
use lib.Seq.{drop-drop}
use Rattle.printer.specs.Printing.{decimal, blank_then, line_end, further_values, values_line}
use Rattle.printer.specs.Building.{lines_of}
use Rattle.printer.proofs.DecimalLaws.{decimal_few}

-- a word and two parts, and what follows
pub parts : (word a b rest : List ℕ) → (word ++ (a ++ b)) ++ rest ≡ word ++ (a ++ (b ++ rest))
parts word a b rest = append_assoc word (a ++ b) rest ∙ rw (append_assoc a b rest)

-- ---- a packet's line

pub further_next : (v : List ℕ) (i : ℕ) → i < length v → further_values (drop i v) ≡ blank_then (get_or v i 0) ++ further_values (drop (i + 1) v)
unfolding further_values
further_next v i h = rw (add-one, drop-cons v i 0 h)

pub further_none : (v : List ℕ) (i : ℕ) → length v ≤ i → further_values (drop i v) ≡ line_end
unfolding further_values
further_none v i h = rw (drop_of_length-le v h)

pub values_first : {v : List ℕ} (text : List ℕ) (first : ℕ) (others : List ℕ) → v ≡ first ∷ others
    → (text ++ decimal first) ++ further_values others ≡ text ++ values_line v
unfolding values_line
values_first text first others e = rw e (append_assoc text (decimal first) (further_values others))

pub values_none : (v text : List ℕ) → length v ≡ 0 → text ++ line_end ≡ text ++ values_line v
unfolding values_line
values_none [] text e = refl
values_none (x ∷ v) text e = absurd (omega arith)

-- ---- the packets' lines

-- the next packet's line, and the lines of those after it
pub lines_next : (k n i : ℕ) (l : List ℕ) → i < n
    → lines_of k (n - i) (drop (i * k) l) ≡ values_line (slice_range l (i * k) ((i + 1) * k)) ++ lines_of k (n - (i + 1)) (drop ((i + 1) * k) l)
unfolding lines_of
lines_next k n i l h =
    let one : n - i ≡ suc (n - (i + 1)) = omega arith in
    let wide : (i + 1) * k - i * k ≡ k = omega arith in
    let after : i * k + k ≡ (i + 1) * k = omega arith in
    rw (one, wide, drop-drop k (i * k) l, after)

-- none
pub lines_none : (k n i : ℕ) (l : List ℕ) → n ≤ i → lines_of k (n - i) l ≡ []
unfolding lines_of
lines_none k n i l h =
    let none : n - i ≡ 0 = omega arith in
    rw none

-- ---- the lengths

further_few : (v : List ℕ) → length (further_values v) ≤ 21 * length v + 1
unfolding further_values
further_few [] = omega arith
further_few (x ∷ v) = rw length-append (omega (arith, decimal_few x, further_few v))

values_few : (v : List ℕ) → length (values_line v) ≤ 21 * length v + 1
unfolding values_line
values_few [] = omega arith
values_few (x ∷ v) = rw length-append (omega (arith, decimal_few x, further_few v))

lines_few : (k n : ℕ) (l : List ℕ) → length (lines_of k n l) ≤ n * (21 * k + 1)
unfolding lines_of
lines_few k zero l = omega arith
lines_few k (suc n) l =
    rw length-append (omega (arith, values_few (take k l), length-take k l, lines_few k n (drop k l)))

-- sixteen packets of eight values fit
pub lines_fit : (k n : ℕ) (l : List ℕ) → k ≤ 8 → n ≤ 16 → length (lines_of k n l) ≤ 2704
lines_fit k n l few most =
    let line : 21 * k + 1 ≤ 169 = omega arith in
    let rows : n * (21 * k + 1) ≤ 16 * 169 = mul-le-mul most line in
    omega (arith, lines_few k n l)

-- so there is room for the next packet's line
pub packet_room : (k n i : ℕ) (l first text : List ℕ) → k ≤ 8 → n ≤ 16 → length first ≤ 51
    → text ++ lines_of k (n - i) (drop (i * k) l) ≡ first ++ lines_of k n l
    → length text + (21 * length (slice_range l (i * k) ((i + 1) * k)) + 1) ≤ 4096
packet_room k n i l first text few most short e =
    let wide : (i + 1) * k - i * k ≡ k = omega arith in
    let line : length (slice_range l (i * k) ((i + 1) * k)) ≤ k = rw wide (omega (arith, length-take k (drop (i * k) l))) in
    let all = ap length e in
    let whole = lines_fit k n l few most in
    omega (arith, length-append text (lines_of k (n - i) (drop (i * k) l)), length-append first (lines_of k n l))
