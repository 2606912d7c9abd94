-- A choice and a run: the states that the words hold, and what every state of a run keeps to.
use Rattle.std.specs.Prelude.{ℕ, ◌≤◌, ◌≡◌, List, length}
use Rattle.rules.specs.Packets.{Packets, Ascending, most_packets}
use Rattle.rules.specs.Parts.{Part}
use Rattle.rules.specs.States.{Spot, Tree, placed, done, waiting, negated, both, place, live, move, run, made}
use Rattle.steps.specs.Standing.{part_of, Runnable}
use Rattle.area.specs.Words.{positions}
use Rattle.steps.specs.State.{Holds}

-- a set of at most 16 packets, ascending
abbrev pub Slim : Packets → Type 0
Slim S = (length S ≤ most_packets) × Ascending S

-- p stands in the book at its spot
abbrev pub Reads : List ℕ → Spot → Part → Type 0
Reads s o p = (part_of s o.at ≡ p) × Runnable s o.at

-- what every state of a run keeps to: its parts stand in the book, a placed one acts by a step of its own, its sets are slim
unfoldable pub Fit : List ℕ → Tree → Type 0
Fit s (placed o p S) = Reads s o p × (place o p S ≡ placed o p S) × Slim S
Fit s (done S) = Slim S
Fit s (waiting t o q) = Fit s t × Reads s o q
Fit s (negated k t) = Slim k × Fit s t
Fit s (both j t u) = Fit s t × Fit s u

-- every state that the runs from t reach is fit, and has at most 160 positions
abbrev pub Playable : List ℕ → Tree → Type 0
Playable s t = (bs : List ℕ) → Fit s (run t bs) × (live (run t bs) ≤ positions)

-- one choice: the words hold a state, and all that choices make of it fits
pub record Advancing (s w : List ℕ) (n r : ℕ) : Type 0 where
  pub tree : Tree
  pub holds : Holds s w n r tree
  pub playable : Playable s tree

-- whatever state they held, they hold what the rules make of it by the choice b
pub record Advanced (s w v : List ℕ) (n r m q b : ℕ) : Type 0 where
  pub moved : (t : Tree) → Holds s w n r t → Holds s v m q (move b t)

-- they hold the state after the run, and so many steps were made
pub record Played (s v : List ℕ) (n r k : ℕ) (t : Tree) (bs : List ℕ) : Type 0 where
  pub holds : Holds s v n r (run t bs)
  pub steps : k ≡ made t bs
