-- Which numbers a step leaves ready: those that it offers, or the number above a finished position.
use Rattle.std.specs.Prelude.{ℕ, ◌+◌, ◌-◌, ◌≤◌, ◌<◌, ◌≡◌, Bool, true, false, cond, List, [], ◌∷◌, eqb, length, Option, Some, None}
use Rattle.area.specs.declared.headers.Phase.{Phase}
use Rattle.area.specs.declared.headers.Phase.TheVariants.{Placed, Finished, Waiting, Negated, Entered, Split, Paired}
use Rattle.area.specs.declared.lists.Ready.{Ready}
use Rattle.area.specs.declared.lists.Ready.TheVariants.{Nobody, One, Pair}
use Rattle.area.specs.Words.{header_at, positions, nobody, is_above}

abbrev pub is_finished : Phase → Bool
is_finished Placed = false
is_finished Finished = true
is_finished Waiting = false
is_finished Negated = false
is_finished Entered = false
is_finished Split = false
is_finished Paired = false

abbrev pub done_at : List ℕ → ℕ → Bool
done_at w i = is_finished (header_at w i).phase

-- the number above, where it may go on: where two are below it, both are finished
unfoldable pub risen_at : List ℕ → ℕ → Option ℕ
risen_at w up =
    cond (eqb up nobody) None
    (cond (is_above (header_at w up).phase)
    (cond (done_at w (header_at w up).left) (cond (done_at w (header_at w up).right) (Some up) None) None)
    (Some up))

-- the numbers of ready positions, from left to right
abbrev pub numbers : Ready → List ℕ
numbers Nobody = []
numbers (One a) = a ∷ []
numbers (Pair a q) = a ∷ q ∷ []

-- one, if there is one
abbrev pub ready_of : Option ℕ → Ready
ready_of None = Nobody
ready_of (Some a) = One a

-- what a step leaves ready: what it offers, or the number above where it is finished and that may go on
unfoldable pub news_at : List ℕ → ℕ → Ready → Ready
news_at w up Nobody = ready_of (risen_at w up)
news_at w up (One a) = One a
news_at w up (Pair a q) = Pair a q

-- each is a position's number
abbrev pub AllThere : Ready → Type 0
AllThere Nobody = Unit {0}
AllThere (One a) = a < positions
AllThere (Pair a q) = (a < positions) × (q < positions)

-- what is read of the position above: its number, and of two below it theirs
pub record Above (w : List ℕ) (up : ℕ) : Type 0 where
  pub small : up ≤ nobody
  pub below : up < positions → is_above (header_at w up).phase ≡ true → ((header_at w up).left < positions) × ((header_at w up).right < positions)

-- one entry of r ready ones is to be put right after a step at a position below `up` that offers some
pub record Relisting (w : List ℕ) (r j up : ℕ) (offer : Ready) : Type 0 where
  pub there : j < r
  pub few : r ≤ positions
  pub room : r - 1 + length (numbers (news_at w up offer)) ≤ positions
  pub above : Above w up
  pub offers : AllThere offer
