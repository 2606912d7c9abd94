-- What a position shows tells its phase and its words.
use Prim.Native.Nat.{ℕ}
use mathlib.Core.Bool.{true}
use native.Mathlib.Omega.{arith}
use mathlib.Core.Path.{◌≡◌, refl}
use mathlib.Core.Logic.{◌⊎◌, ⊎_elim}
use mathlib.Core.List.{List}
use Rattle.rules.specs.Packets.{Packets}
use Rattle.rules.specs.Parts.{Part}
use Rattle.rules.specs.States.{Join}
use Rattle.steps.specs.Standing.{part_of, join_of}
use Rattle.links.specs.Nets.{waits, keeps, Net, rest, over, one, two, root, Rest, Over, Waits, Keeps, Two, AllShow}
use Rattle.area.specs.declared.headers.Header.{Header}
use Rattle.area.specs.declared.headers.Phase.{Phase}
use Rattle.area.specs.declared.headers.Phase.TheVariants.{Placed, Finished, Waiting, Negated, Entered, Split, Paired}
use Rattle.area.specs.Words.{is_above, header_at}
use Rattle.steps.specs.State.{shown_by, Showing, showing, set_at}

-- ---- by the phase

module _ (s : List ℕ) (h : Header) (x : Packets) where
  rest_by : (k : Phase) (at : ℕ) (p : Part) (y : Packets) → shown_by s k h x ≡ Rest at p y
      → (k ≡ Placed) × (h.place ≡ at) × (part_of s h.place ≡ p) × (x ≡ y)
  unfolding shown_by
  rest_by Placed at p y e = (refl, cc, cc, cc)
  rest_by Finished at p y e = let z : ◌≡◌ {A = ℕ} 0 1 = cc in absurd (omega arith)
  rest_by Waiting at p y e = let z : ◌≡◌ {A = ℕ} 0 1 = cc in absurd (omega arith)
  rest_by Negated at p y e = let z : ◌≡◌ {A = ℕ} 0 1 = cc in absurd (omega arith)
  rest_by Entered at p y e = let z : ◌≡◌ {A = ℕ} 0 1 = cc in absurd (omega arith)
  rest_by Split at p y e = let z : ◌≡◌ {A = ℕ} 0 1 = cc in absurd (omega arith)
  rest_by Paired at p y e = let z : ◌≡◌ {A = ℕ} 0 1 = cc in absurd (omega arith)

  over_by : (k : Phase) (y : Packets) → shown_by s k h x ≡ Over y → (k ≡ Finished) × (x ≡ y)
  unfolding shown_by
  over_by Placed y e = let z : ◌≡◌ {A = ℕ} 0 1 = cc in absurd (omega arith)
  over_by Finished y e = (refl, cc)
  over_by Waiting y e = let z : ◌≡◌ {A = ℕ} 0 1 = cc in absurd (omega arith)
  over_by Negated y e = let z : ◌≡◌ {A = ℕ} 0 1 = cc in absurd (omega arith)
  over_by Entered y e = let z : ◌≡◌ {A = ℕ} 0 1 = cc in absurd (omega arith)
  over_by Split y e = let z : ◌≡◌ {A = ℕ} 0 1 = cc in absurd (omega arith)
  over_by Paired y e = let z : ◌≡◌ {A = ℕ} 0 1 = cc in absurd (omega arith)

  waits_by : (k : Phase) (at : ℕ) (p : Part) (l : ℕ) → shown_by s k h x ≡ Waits at p l
      → (k ≡ Waiting) × (h.place ≡ at) × (part_of s h.place ≡ p) × (h.left ≡ l)
  unfolding shown_by
  waits_by Placed at p l e = let z : ◌≡◌ {A = ℕ} 0 1 = cc in absurd (omega arith)
  waits_by Finished at p l e = let z : ◌≡◌ {A = ℕ} 0 1 = cc in absurd (omega arith)
  waits_by Waiting at p l e = (refl, cc, cc, cc)
  waits_by Negated at p l e = let z : ◌≡◌ {A = ℕ} 0 1 = cc in absurd (omega arith)
  waits_by Entered at p l e = let z : ◌≡◌ {A = ℕ} 0 1 = cc in absurd (omega arith)
  waits_by Split at p l e = let z : ◌≡◌ {A = ℕ} 0 1 = cc in absurd (omega arith)
  waits_by Paired at p l e = let z : ◌≡◌ {A = ℕ} 0 1 = cc in absurd (omega arith)

  keeps_by : (k : Phase) (y : Packets) (l : ℕ) → shown_by s k h x ≡ Keeps y l → (k ≡ Negated) × (x ≡ y) × (h.left ≡ l)
  unfolding shown_by
  keeps_by Placed y l e = let z : ◌≡◌ {A = ℕ} 0 1 = cc in absurd (omega arith)
  keeps_by Finished y l e = let z : ◌≡◌ {A = ℕ} 0 1 = cc in absurd (omega arith)
  keeps_by Waiting y l e = let z : ◌≡◌ {A = ℕ} 0 1 = cc in absurd (omega arith)
  keeps_by Negated y l e = (refl, cc, cc)
  keeps_by Entered y l e = let z : ◌≡◌ {A = ℕ} 0 1 = cc in absurd (omega arith)
  keeps_by Split y l e = let z : ◌≡◌ {A = ℕ} 0 1 = cc in absurd (omega arith)
  keeps_by Paired y l e = let z : ◌≡◌ {A = ℕ} 0 1 = cc in absurd (omega arith)

  two_by : (k : Phase) (j : Join) (l r : ℕ) → shown_by s k h x ≡ Two j l r
      → (is_above k ≡ true) × (join_of s k h.place ≡ j) × (h.left ≡ l) × (h.right ≡ r)
  unfolding shown_by
  two_by Placed j l r e = let z : ◌≡◌ {A = ℕ} 0 1 = cc in absurd (omega arith)
  two_by Finished j l r e = let z : ◌≡◌ {A = ℕ} 0 1 = cc in absurd (omega arith)
  two_by Waiting j l r e = let z : ◌≡◌ {A = ℕ} 0 1 = cc in absurd (omega arith)
  two_by Negated j l r e = let z : ◌≡◌ {A = ℕ} 0 1 = cc in absurd (omega arith)
  two_by Entered j l r e = (refl, cc, cc, cc)
  two_by Split j l r e = (refl, cc, cc, cc)
  two_by Paired j l r e = (refl, cc, cc, cc)

-- ---- the words of a position

module _ {s w : List ℕ} {i up : ℕ} where
  pub rest_shown : {at : ℕ} {p : Part} {y : Packets} → Showing s w i up (Rest at p y)
      → ((header_at w i).phase ≡ Placed) × ((header_at w i).place ≡ at) × (part_of s (header_at w i).place ≡ p) × (set_at w i ≡ y)
  rest_shown o = rest_by s (header_at w i) _ (header_at w i).phase _ _ _ o.node

  pub over_shown : {y : Packets} → Showing s w i up (Over y) → ((header_at w i).phase ≡ Finished) × (set_at w i ≡ y)
  over_shown o = over_by s (header_at w i) _ (header_at w i).phase _ o.node

  pub waits_shown : {at l : ℕ} {p : Part} → Showing s w i up (Waits at p l)
      → ((header_at w i).phase ≡ Waiting) × ((header_at w i).place ≡ at) × (part_of s (header_at w i).place ≡ p)
      × ((header_at w i).left ≡ l)
  waits_shown o = waits_by s (header_at w i) _ (header_at w i).phase _ _ _ o.node

  pub keeps_shown : {y : Packets} {l : ℕ} → Showing s w i up (Keeps y l)
      → ((header_at w i).phase ≡ Negated) × (set_at w i ≡ y) × ((header_at w i).left ≡ l)
  keeps_shown o = keeps_by s (header_at w i) _ (header_at w i).phase _ _ o.node

  pub two_shown : {j : Join} {l r : ℕ} → Showing s w i up (Two j l r)
      → (is_above (header_at w i).phase ≡ true) × (join_of s (header_at w i).phase (header_at w i).place ≡ j)
      × ((header_at w i).left ≡ l) × ((header_at w i).right ≡ r)
  two_shown o = two_by s (header_at w i) _ (header_at w i).phase _ _ _ o.node

-- the phases of a position above two
pub above_two : {p : Phase} → (p ≡ Entered) ⊎ ((p ≡ Split) ⊎ (p ≡ Paired)) → is_above p ≡ true
above_two c = ⊎_elim (λ e. rw e) (λ d. ⊎_elim (λ e. rw e) (λ e. rw e) d) c

-- a net's root shows the number above it
pub above_root : (s w : List ℕ) (up : ℕ) (x : Net) → AllShow (showing s w) up x → (header_at w (root x)).up ≡ up
unfolding AllShow root
above_root s w up (rest i o p y) h = h.above
above_root s w up (over i y) h = h.above
above_root s w up (one i (waits o q) n) h = h.0.above
above_root s w up (one i (keeps k) n) h = h.0.above
above_root s w up (two i j n m) h = h.0.above
