-- A state of the rules with a number for each position: what linked positions hold, which numbers it uses, which are ready.
use Rattle.std.specs.Prelude.{ℕ, ◌+◌, Bool, true, false, cond, ◌&&◌, List, [], ◌∷◌, ◌++◌, eqb}
use Rattle.rules.specs.Packets.{Packets}
use Rattle.rules.specs.Parts.{Part}
use Rattle.rules.specs.States.{Spot, Join, Tree, placed, done, waiting, negated, both}

-- what a position above one other holds: the part that waits, or the set that a negation keeps
pub data Hold : Type 0 where
  waits : Spot → Part → Hold
  keeps : Packets → Hold

pub data Net : Type 0 where
  rest : ℕ → Spot → Part → Packets → Net
  over : ℕ → Packets → Net
  one : ℕ → Hold → Net → Net
  two : ℕ → Join → Net → Net → Net

-- without the numbers it is a state of the rules
unfoldable pub above : Hold → Tree → Tree
above (waits o q) t = waiting t o q
above (keeps k) t = negated k t

unfoldable pub bare : Net → Tree
bare (rest i o p s) = placed o p s
bare (over i s) = done s
bare (one i h n) = above h (bare n)
bare (two i j n m) = both j (bare n) (bare m)

unfoldable pub root : Net → ℕ
root (rest i o p s) = i
root (over i s) = i
root (one i h n) = i
root (two i j n m) = i

-- the numbers that it uses
unfoldable pub foot : Net → List ℕ
foot (rest i o p s) = i ∷ []
foot (over i s) = i ∷ []
foot (one i h n) = i ∷ foot n
foot (two i j n m) = i ∷ (foot n ++ foot m)

-- the ready ones, from left to right
unfoldable pub is_over : Net → Bool
is_over (rest i o p s) = false
is_over (over i s) = true
is_over (one i h n) = false
is_over (two i j n m) = false

unfoldable pub ready_of : Net → List ℕ
ready_of (rest i o p s) = i ∷ []
ready_of (over i s) = []
ready_of (one i h n) = cond (is_over n) (i ∷ []) (ready_of n)
ready_of (two i j n m) = cond (is_over n && is_over m) (i ∷ []) (ready_of n ++ ready_of m)

-- ---- what the area shows of one position: its own words, and the numbers of those below it

pub data Node : Type 0 where
  Rest : ℕ → Part → Packets → Node
  Over : Packets → Node
  Waits : ℕ → Part → ℕ → Node
  Keeps : Packets → ℕ → Node
  Two : Join → ℕ → ℕ → Node

unfoldable pub node_of : Hold → ℕ → Node
node_of (waits o q) l = Waits o.at q l
node_of (keeps k) l = Keeps k l

-- P i up x: position i shows x, below position `up`
abbrev pub Shows : Type 1
Shows = ℕ → ℕ → Node → Type 0

-- every position of the net shows what it is, from `up` down
unfoldable pub AllShow : Shows → ℕ → Net → Type 0
AllShow P up (rest i o p s) = P i up (Rest o.at p s)
AllShow P up (over i s) = P i up (Over s)
AllShow P up (one i h n) = P i up (node_of h (root n)) × AllShow P i n
AllShow P up (two i j n m) = P i up (Two j (root n) (root m)) × AllShow P i n × AllShow P i m

-- ---- a net with a hole: the positions above it, the nearest first

pub data Frame : Type 0 where
  under : ℕ → Hold → Frame
  left : ℕ → Join → Net → Frame
  right : ℕ → Join → Net → Frame

unfoldable pub fill : Frame → Net → Net
fill (under i h) x = one i h x
fill (left i j m) x = two i j x m
fill (right i j n) x = two i j n x

unfoldable pub plug : List Frame → Net → Net
plug [] x = x
plug (f ∷ c) x = plug c (fill f x)

unfoldable pub number : Frame → ℕ
number (under i h) = i
number (left i j m) = i
number (right i j n) = i

-- the position above the hole; `none` above the root
unfoldable pub up_of : ℕ → List Frame → ℕ
up_of none [] = none
up_of none (f ∷ c) = number f

unfoldable pub foot_in : List Frame → List ℕ
foot_in [] = []
foot_in (under i h ∷ c) = i ∷ foot_in c
foot_in (left i j m ∷ c) = i ∷ (foot m ++ foot_in c)
foot_in (right i j n ∷ c) = i ∷ (foot n ++ foot_in c)

-- every position around the hole shows what it is, where x is the number of what fills it
unfoldable pub AllShowIn : Shows → ℕ → List Frame → ℕ → Type 0
AllShowIn P none [] x = Unit {0}
AllShowIn P none (under i h ∷ c) x = P i (up_of none c) (node_of h x) × AllShowIn P none c i
AllShowIn P none (left i j m ∷ c) x = P i (up_of none c) (Two j x (root m)) × AllShow P i m × AllShowIn P none c i
AllShowIn P none (right i j n ∷ c) x = P i (up_of none c) (Two j (root n) x) × AllShow P i n × AllShowIn P none c i

-- the ready positions left and right of the hole, while what fills it is not finished; and the one above it, once it is
unfoldable pub lefts : List Frame → List ℕ
lefts [] = []
lefts (under i h ∷ c) = lefts c
lefts (left i j m ∷ c) = lefts c
lefts (right i j n ∷ c) = lefts c ++ ready_of n

unfoldable pub rights : List Frame → List ℕ
rights [] = []
rights (under i h ∷ c) = rights c
rights (left i j m ∷ c) = ready_of m ++ rights c
rights (right i j n ∷ c) = rights c

unfoldable pub risen : List Frame → List ℕ
risen [] = []
risen (under i h ∷ c) = i ∷ []
risen (left i j m ∷ c) = cond (is_over m) (i ∷ []) []
risen (right i j n ∷ c) = cond (is_over n) (i ∷ []) []

unfoldable pub news : List Frame → Net → List ℕ
news c x = cond (is_over x) (risen c) (ready_of x)

-- ---- how often a number stands in a list: disjointness is a sum that is at most 1

unfoldable pub same : ℕ → ℕ → ℕ
same k x = cond (eqb k x) 1 0

unfoldable pub times : ℕ → List ℕ → ℕ
times k [] = 0
times k (x ∷ l) = same k x + times k l

-- ---- a position whose own step is the next: a placed part, or one above finished ones

pub data Prime : Net → Type 0 where
  rests : {i : ℕ} {o : Spot} {p : Part} {s : Packets} → Prime (rest i o p s)
  single : {i k : ℕ} {h : Hold} {s : Packets} → Prime (one i h (over k s))
  double : {i k l : ℕ} {j : Join} {s t : Packets} → Prime (two i j (over k s) (over l t))
