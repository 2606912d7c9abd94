-- A step at a position: what it asks of the words, by the position's phase, and what they hold afterwards.
use Rattle.std.specs.Prelude.{ℕ, true, ◌≤◌, ◌<◌, ◌≡◌, List, [], ◌∷◌, get_or}
use Rattle.rules.specs.States.{move}
use Rattle.links.specs.Nets.{Net, bare, root, foot, AllShow, Prime}
use Rattle.area.specs.declared.headers.Phase.TheVariants.{Placed as placed_phase, Finished as finished_phase, Waiting as waiting_phase, Negated as negated_phase}
use Rattle.area.specs.declared.lists.Ready.{Ready}
use Rattle.area.specs.Words.{positions, is_above, header_at}
use Rattle.steps.specs.State.{showing, Turned, entering, Entering, Taking, Lacking, Joining}

-- the code of the part at number i
abbrev pub code_at : List ℕ → List ℕ → ℕ → ℕ
code_at s w i = get_or s (header_at w i).place 0

-- a part is placed at number i, and it is none that is finished or goes on at once (id, p ; q)
pub record Placed (s w : List ℕ) (n i : ℕ) : Type 0 where
  pub entering : Entering s w n i (code_at s w i)
  pub acts : 0 < code_at s w i
  pub single : code_at s w i ≡ 6 → ⊥

-- number i is placed, or above finished ones
pub record Stepping (s w : List ℕ) (n i : ℕ) : Type 0 where
  pub there : i < positions
  pub enters : (header_at w i).phase ≡ placed_phase → Placed s w n i
  pub goes : (header_at w i).phase ≡ finished_phase → ⊥
  pub takes : (header_at w i).phase ≡ waiting_phase → Taking s w n i (header_at w i).left
  pub lacks : (header_at w i).phase ≡ negated_phase → Lacking w n i (header_at w i).left
  pub joins : is_above (header_at w i).phase ≡ true → Joining s w n i (header_at w i).left (header_at w i).right

-- the step at a placed part, whatever fields its position has
abbrev pub Entered : List ℕ → List ℕ → List ℕ → ℕ → ℕ → ℕ → Ready → Type 0
Entered s w v n m i r = (f : ℕ) → Turned s w v n m (i ∷ []) (header_at w i).up i (entering s w i f) r

-- whatever stands at number i, the rules' step is made there (its own step is the only one)
unfoldable pub Stepped : List ℕ → List ℕ → List ℕ → ℕ → ℕ → ℕ → Ready → Type 0
Stepped s w v n m i r =
    (x : Net) → Prime x → root x ≡ i → AllShow (showing s w) (header_at w i).up x
    → Turned s w v n m (foot x) (header_at w i).up i (move 0 (bare x)) r

-- a placed concurrent part on two packets or more, in some book
pub record Splitting (w : List ℕ) (n i : ℕ) : Type 0 where
  pub book : List ℕ
  pub entering : Entering book w n i 7
  pub many : 2 ≤ (header_at w i).count
