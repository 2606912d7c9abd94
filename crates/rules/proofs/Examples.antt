-- By example, what no theorem about accepted books can fix: which steps would be stuck, in which order and at which places, left to
-- right and in the order of the run; n with the bodies of tables counted under each use; and the largest set that a state holds.
use Prim.Native.Nat.{ℕ}
use mathlib.Core.Path.{◌≡◌, refl}
use mathlib.Core.List.{List, [], ◌∷◌, map}
use lib.ListN.{replicate}
use Rattle.rules.specs.Masks.{has, within, less}
use Rattle.rules.specs.Packets.{Packets, passes, put, mix, order_of, insert, union, keep, member, pairs_into}
use Rattle.rules.specs.Parts.{Part, Id, Drop, Test, Set, Not, Sum, Seq, Beside, Table, Open, write, parts}
use Rattle.rules.specs.States.{entered, split, paired, placed, done, waiting, negated, both, join, place, enter, finish, leave, next}
use Rattle.rules.specs.States.{move, used, lacking, stuck_steps, stuck_in, held}

-- a part at place 6, in a position that has no field, on the packet (5, 9), under these choices: the places of its stuck steps
abbrev pub Case : Type 0
Case = Part × List ℕ

unfoldable pub stuck_for : Case → List ℕ
stuck_for c = stuck_in (place (record { at = 6; fields = 0 }) c.0 ((5 ∷ 9 ∷ []) ∷ [])) c.1

unfoldable pub cases : List Case
cases =
    (Test 0 5, 0 ∷ 0 ∷ [])
    ∷ (Not (Test 0 5), 0 ∷ 0 ∷ 0 ∷ [])
    ∷ (Seq (Set 0 1) (Test 1 9), 0 ∷ 0 ∷ 0 ∷ [])
    ∷ (Seq (Sum (Test 0 5) (Set 1 7)) (Set 0 1), 0 ∷ 1 ∷ 0 ∷ 0 ∷ 0 ∷ 0 ∷ [])
    ∷ (Sum (Set 0 1) (Test 1 5), 0 ∷ 3 ∷ 0 ∷ 0 ∷ [])
    ∷ (Beside 1 2 (Set 0 1) (Set 1 2), 0 ∷ 1 ∷ 0 ∷ 0 ∷ [])
    ∷ (Table 1 0 3 40 (Sum (Set 0 1) (Set 1 2)), 0 ∷ 0 ∷ 1 ∷ 0 ∷ 0 ∷ [])
    ∷ (Sum Drop Id, 0 ∷ 0 ∷ 0 ∷ [])
    ∷ []

pub stuck_places : map stuck_for cases
    ≡ (6 ∷ []) ∷ (7 ∷ []) ∷ (7 ∷ 11 ∷ []) ∷ (12 ∷ 8 ∷ 16 ∷ []) ∷ (11 ∷ 7 ∷ []) ∷ (13 ∷ 9 ∷ []) ∷ (45 ∷ 41 ∷ []) ∷ [] ∷ []
unfolding cases stuck_for has within less passes put mix order_of insert union keep member pairs_into write
    join place enter finish leave next move used lacking stuck_steps stuck_in
stuck_places = refl

-- "with each populated table's body counted under each use of it (the table use counts as one itself)"; "An unpopulated table adds
-- only its own part"
pub parts_counted : map parts (
    Table 1 0 3 40 Id ∷ Open 1 0 3 ∷ Not (Test 0 5)
    ∷ Seq (Table 1 0 3 40 (Sum Drop Id)) (Sum (Table 1 0 3 40 (Sum Drop Id)) (Open 2 0 3))
    ∷ Beside 1 2 (Set 0 1) (Set 1 2) ∷ []
    )
    ≡ 2 ∷ 1 ∷ 2 ∷ 11 ∷ 3 ∷ []
unfolding parts
parts_counted = refl

-- the largest set at any position: standing, finished, below a sequence, kept by a negation or below it, on either side
unfoldable pub set_of : ℕ → Packets
set_of n = replicate n (5 ∷ 9 ∷ [])

pub held_counted : map held (
    placed (record { at = 6; fields = 3 }) Drop (set_of 2) ∷ done (set_of 3) ∷ waiting (done (set_of 3)) (record { at = 6; fields = 3 }) Id
    ∷ negated (set_of 4) (done (set_of 1)) ∷ negated (set_of 1) (done (set_of 4)) ∷ both entered (done (set_of 5)) (done (set_of 2))
    ∷ both (paired 1 2) (done (set_of 2)) (done (set_of 5)) ∷ both split (done []) (done []) ∷ []
    )
    ≡ 2 ∷ 3 ∷ 3 ∷ 4 ∷ 4 ∷ 5 ∷ 5 ∷ 0 ∷ []
unfolding held set_of
held_counted = refl
