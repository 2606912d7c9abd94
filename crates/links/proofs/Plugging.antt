-- What shows around a hole and in it shows in the whole; what is not touched goes on showing.
use Prim.Native.Nat.{ℕ, ◌<◌}
use native.Mathlib.Omega.{arith}
use mathlib.Core.Path.{◌≡◌, refl}
use mathlib.Core.List.{List, [], ◌∷◌, ◌++◌}
use Rattle.links.specs.Nets.{Net, rest, over, one, two, root, foot, Node, Shows, AllShow, Frame, under, left, right}
use Rattle.links.specs.Nets.{fill, plug, number, up_of, foot_in, AllShowIn, times}
use Rattle.links.proofs.Times.{same_self, times_append}

module _ (P : Shows) (none : ℕ) where
  pub held_plug : (c : List Frame) (x : Net) → AllShow P (up_of none c) x → AllShowIn P none c (root x) → AllShow P none (plug c x)
  unfolding AllShow AllShowIn plug fill root up_of number
  held_plug [] x h k = h
  held_plug (under i o ∷ c) x h k = held_plug c (one i o x) (k.0, h) k.1
  held_plug (left i j m ∷ c) x h k = held_plug c (two i j x m) (k.0, h, k.1) k.2
  held_plug (right i j n ∷ c) x h k = held_plug c (two i j n x) (k.0, k.1, h) k.2

  pub plug_held : (c : List Frame) (x : Net) → AllShow P none (plug c x) → AllShow P (up_of none c) x × AllShowIn P none c (root x)
  unfolding AllShow AllShowIn plug fill root up_of number
  plug_held [] x h = (h, tt)
  plug_held (under i o ∷ c) x h = let r = plug_held c (one i o x) h in (r.0.1, (r.0.0, r.1))
  plug_held (left i j m ∷ c) x h = let r = plug_held c (two i j x m) h in (r.0.1, (r.0.0, r.0.2, r.1))
  plug_held (right i j n ∷ c) x h = let r = plug_held c (two i j n x) h in (r.0.2, (r.0.0, r.0.1, r.1))

-- what fills the hole may change; the whole keeps its root
pub root_plug : (c : List Frame) (x y : Net) → root y ≡ root x → root (plug c y) ≡ root (plug c x)
unfolding plug fill root
root_plug [] x y e = e
root_plug (under i h ∷ c) x y e = root_plug c (one i h x) (one i h y) refl
root_plug (left i j m ∷ c) x y e = root_plug c (two i j x m) (two i j y m) refl
root_plug (right i j n ∷ c) x y e = root_plug c (two i j n x) (two i j n y) refl

-- the frame law: positions whose numbers are in l show the same
pub record Kept (P Q : Shows) (l : List ℕ) : Type 0 where
  pub show : (k : ℕ) → 0 < times k l → (up : ℕ) (x : Node) → P k up x → Q k up x

module _ {P Q : Shows} where
  pub kept_front : (a b : List ℕ) → Kept P Q (a ++ b) → Kept P Q a
  kept_front a b f = record { show = λ k h. f.show k (omega (arith, times_append k a b)) }

  pub kept_back : (a b : List ℕ) → Kept P Q (a ++ b) → Kept P Q b
  kept_back a b f = record { show = λ k h. f.show k (omega (arith, times_append k a b)) }

  pub kept_head : {i : ℕ} {b : List ℕ} → Kept P Q (i ∷ b) → (up : ℕ) (x : Node) → P i up x → Q i up x
  unfolding times
  kept_head {i} {b} f = f.show i (omega (arith, same_self i))

  pub kept_tail : {i : ℕ} {b : List ℕ} → Kept P Q (i ∷ b) → Kept P Q b
  unfolding times
  kept_tail f = record { show = λ k h. f.show k (omega arith) }

  pub held_kept : (up : ℕ) (x : Net) → Kept P Q (foot x) → AllShow P up x → AllShow Q up x
  unfolding AllShow foot
  held_kept up (rest i o p s) f h = kept_head f up _ h
  held_kept up (over i s) f h = kept_head f up _ h
  held_kept up (one i o n) f h = (kept_head f up _ h.0, held_kept i n (kept_tail f) h.1)
  held_kept up (two i j n m) f h =
      let g = kept_tail f in
      (kept_head f up _ h.0, held_kept i n (kept_front (foot n) _ g) h.1, held_kept i m (kept_back (foot n) _ g) h.2)

  pub held_in_kept : (none : ℕ) (c : List Frame) (x : ℕ) → Kept P Q (foot_in c) → AllShowIn P none c x → AllShowIn Q none c x
  unfolding AllShowIn foot_in
  held_in_kept none [] x f h = tt
  held_in_kept none (under i o ∷ c) x f h = (kept_head f _ _ h.0, held_in_kept none c i (kept_tail f) h.1)
  held_in_kept none (left i j m ∷ c) x f h =
      let g = kept_tail f in
      (kept_head f _ _ h.0, held_kept i m (kept_front (foot m) _ g) h.1, held_in_kept none c i (kept_back (foot m) _ g) h.2)
  held_in_kept none (right i j n ∷ c) x f h =
      let g = kept_tail f in
      (kept_head f _ _ h.0, held_kept i n (kept_front (foot n) _ g) h.1, held_in_kept none c i (kept_back (foot n) _ g) h.2)

  -- the subtree in the hole replaced by another of the same root: one law for every step
  pub replaced : (none : ℕ) (c : List Frame) (x y : Net) → root y ≡ root x → Kept P Q (foot_in c) → AllShow P none (plug c x)
      → AllShow Q (up_of none c) y → AllShow Q none (plug c y)
  replaced none c x y e f h k =
      held_plug Q none c y k (rw e (held_in_kept none c (root x) f (plug_held P none c x h).1))
