-- The ready numbers that a step leaves, read from the words.
use Prim.Native.Nat.{ℕ, ◌≤◌, ◌<◌}
use native.Mathlib.Omega.{arith}
use mathlib.Core.Path.{◌≡◌, refl, sym, ap, ◌∙◌}
use mathlib.Core.Bool.{Bool, true, false, cond, false≢true}
use mathlib.Core.List.{List, [], ◌∷◌}
use lib.Dec.{eqb}
use borrow.Author.Tests.{ne_eqb}
use Rattle.rules.specs.Packets.{Packets}
use Rattle.links.specs.Nets.{Hold, waits, keeps, Net, rest, over, one, two, root, foot, is_over, Node, Rest, Over, Waits, Keeps, Two, node_of}
use Rattle.links.specs.Nets.{AllShow, Frame, under, left, right, number, up_of, foot_in, AllShowIn, risen, news, times}
use Rattle.links.proofs.Times.{same_self, times_append, times_root}
use Rattle.area.specs.declared.headers.Header.{Header}
use Rattle.std.specs.Prelude.{Option, Some, None}
use Rattle.area.specs.declared.headers.Phase.{Phase}
use Rattle.area.specs.declared.headers.Phase.TheVariants.{Placed, Finished, Waiting, Negated, Entered, Split, Paired}
use Rattle.area.specs.declared.lists.Ready.{Ready}
use Rattle.area.specs.Words.{positions, nobody, is_above, header_at}
use Rattle.area.specs.Ready.{is_finished, done_at, risen_at, numbers, ready_of, news_at, AllThere}
use Rattle.steps.specs.State.{shown_by, Showing, showing, Offers₂, ended₂, offers₁, offers₂}

-- ---- what the phase tells

over_node : Node → Bool
over_node (Rest a p x) = false
over_node (Over x) = true
over_node (Waits a p l) = false
over_node (Keeps x l) = false
over_node (Two j l r) = false

above_node : Node → Bool
above_node (Rest a p x) = false
above_node (Over x) = false
above_node (Waits a p l) = false
above_node (Keeps x l) = false
above_node (Two j l r) = true

left_node : Node → ℕ → ℕ
left_node (Rest a p x) d = d
left_node (Over x) d = d
left_node (Waits a p l) d = d
left_node (Keeps x l) d = d
left_node (Two j l r) d = l

right_node : Node → ℕ → ℕ
right_node (Rest a p x) d = d
right_node (Over x) d = d
right_node (Waits a p l) d = d
right_node (Keeps x l) d = d
right_node (Two j l r) d = r

over_phase : (s : List ℕ) (p : Phase) (h : Header) (x : Packets) → is_finished p ≡ over_node (shown_by s p h x)
unfolding shown_by over_node
over_phase s Placed h x = refl
over_phase s Finished h x = refl
over_phase s Waiting h x = refl
over_phase s Negated h x = refl
over_phase s Entered h x = refl
over_phase s Split h x = refl
over_phase s Paired h x = refl

above_phase : (s : List ℕ) (p : Phase) (h : Header) (x : Packets) → is_above p ≡ above_node (shown_by s p h x)
unfolding shown_by above_node
above_phase s Placed h x = refl
above_phase s Finished h x = refl
above_phase s Waiting h x = refl
above_phase s Negated h x = refl
above_phase s Entered h x = refl
above_phase s Split h x = refl
above_phase s Paired h x = refl

left_phase : (s : List ℕ) (p : Phase) (h : Header) (x : Packets) → h.left ≡ left_node (shown_by s p h x) h.left
unfolding shown_by left_node
left_phase s Placed h x = refl
left_phase s Finished h x = refl
left_phase s Waiting h x = refl
left_phase s Negated h x = refl
left_phase s Entered h x = refl
left_phase s Split h x = refl
left_phase s Paired h x = refl

right_phase : (s : List ℕ) (p : Phase) (h : Header) (x : Packets) → h.right ≡ right_node (shown_by s p h x) h.right
unfolding shown_by right_node
right_phase s Placed h x = refl
right_phase s Finished h x = refl
right_phase s Waiting h x = refl
right_phase s Negated h x = refl
right_phase s Entered h x = refl
right_phase s Split h x = refl
right_phase s Paired h x = refl

module _ {s w : List ℕ} {i up : ℕ} {x : Node} (o : Showing s w i up x) where
  done_node : done_at w i ≡ over_node x
  done_node = over_phase s (header_at w i).phase (header_at w i) _ ∙ ap over_node o.node

  above_shown : is_above (header_at w i).phase ≡ above_node x
  above_shown = above_phase s (header_at w i).phase (header_at w i) _ ∙ ap above_node o.node

  left_shown : (header_at w i).left ≡ left_node x (header_at w i).left
  left_shown = left_phase s (header_at w i).phase (header_at w i) _ ∙ ap (λ (n : Node). left_node n (header_at w i).left) o.node

  right_shown : (header_at w i).right ≡ right_node x (header_at w i).right
  right_shown = right_phase s (header_at w i).phase (header_at w i) _ ∙ ap (λ (n : Node). right_node n (header_at w i).right) o.node

-- a net's root is finished where the net is
done_root : (s w : List ℕ) (up : ℕ) (x : Net) → AllShow (showing s w) up x → done_at w (root x) ≡ is_over x
unfolding AllShow root is_over over_node node_of
done_root s w up (rest i o p r) h = done_node h
done_root s w up (over i r) h = done_node h
done_root s w up (one i (waits o q) n) h = done_node h.0
done_root s w up (one i (keeps k) n) h = done_node h.0
done_root s w up (two i j n m) h = done_node h.0

-- ---- the position above

above_hold : (h : Hold) (l : ℕ) → above_node (node_of h l) ≡ false
unfolding above_node node_of
above_hold (waits o q) l = refl
above_hold (keeps k) l = refl

abbrev rising : ℕ → Bool → Bool → Bool → Option ℕ
rising i T A B = cond (eqb i nobody) None (cond T (cond A (cond B (Some i) None) None) (Some i))

-- two below: the number above may go on where both are finished
rise_left : (i : ℕ) (T A B : Bool) → (i ≡ nobody → ⊥) → T ≡ true → A ≡ true → numbers (ready_of (rising i T A B)) ≡ cond B (i ∷ []) []
rise_left i T A true n et ea = rw (ne_eqb i nobody n, et, ea) refl
rise_left i T A false n et ea = rw (ne_eqb i nobody n, et, ea) refl

rise_right : (i : ℕ) (T A B : Bool) → (i ≡ nobody → ⊥) → T ≡ true → B ≡ true → numbers (ready_of (rising i T A B)) ≡ cond A (i ∷ []) []
rise_right i T true B n et eb = rw (ne_eqb i nobody n, et, eb) refl
rise_right i T false B n et eb = rw (ne_eqb i nobody n, et) refl

-- once what fills the hole is finished
pub risen_is : (s w : List ℕ) (c : List Frame) (x : Net) → is_over x ≡ true → AllShow (showing s w) (up_of nobody c) x
    → AllShowIn (showing s w) nobody c (root x) → ((k : ℕ) → 0 < times k (foot_in c) → k < positions)
    → numbers (ready_of (risen_at w (up_of nobody c))) ≡ risen c
unfolding AllShowIn up_of number risen risen_at foot_in times above_node left_node right_node
risen_is s w [] x e h k f = refl
risen_is s w (under i g ∷ c) x e h k f =
    let n = ne_eqb i nobody (λ z. omega (arith, f i (omega (arith, same_self i)))) in
    rw (n, above_shown k.0 ∙ above_hold g (root x)) refl
risen_is s w (left i j m ∷ c) x e h k f =
    let l : (header_at w i).left ≡ root x = left_shown k.0 in
    let r : (header_at w i).right ≡ root m = right_shown k.0 in
    let a : done_at w (header_at w i).left ≡ true = rw l (done_root s w i x h ∙ e) in
    let b : done_at w (header_at w i).right ≡ is_over m = rw r (done_root s w i m k.1) in
    rise_left i (is_above (header_at w i).phase) (done_at w (header_at w i).left) (done_at w (header_at w i).right)
    (λ z. omega (arith, f i (omega (arith, same_self i)))) (above_shown k.0) a
    ∙ ap (λ (q : Bool). cond q (i ∷ []) []) b
risen_is s w (right i j n ∷ c) x e h k f =
    let l : (header_at w i).left ≡ root n = left_shown k.0 in
    let r : (header_at w i).right ≡ root x = right_shown k.0 in
    let a : done_at w (header_at w i).right ≡ true = rw r (done_root s w i x h ∙ e) in
    let b : done_at w (header_at w i).left ≡ is_over n = rw l (done_root s w i n k.1) in
    rise_right i (is_above (header_at w i).phase) (done_at w (header_at w i).left) (done_at w (header_at w i).right)
    (λ z. omega (arith, f i (omega (arith, same_self i)))) (above_shown k.0) a
    ∙ ap (λ (q : Bool). cond q (i ∷ []) []) b

-- what a step leaves is what the words say
pub news_is : (s w : List ℕ) (c : List Frame) (x : Net) (r : Ready) → Offers₂ x r → AllShow (showing s w) (up_of nobody c) x
    → AllShowIn (showing s w) nobody c (root x) → ((k : ℕ) → 0 < times k (foot_in c) → k < positions)
    → numbers (news_at w (up_of nobody c) r) ≡ news c x
unfolding news_at news
news_is s w c x r (ended₂ e z) h k f = rw (z, e) (risen_is s w c x e h k f)
news_is s w c x r (offers₁ a e z l d) h k f = rw (d, e, z) refl
news_is s w c x r (offers₂ a q e z l m d) h k f = rw (d, e, z) refl

-- ---- what the function that puts the list right may ask

pub offer_small : {x : Net} {r : Ready} → Offers₂ x r → AllThere r
offer_small (ended₂ e z) = rw z tt
offer_small (offers₁ a e z l d) = rw d l
offer_small (offers₂ a q e z l m d) = rw d (l, m)

pub up_small : (c : List Frame) → ((k : ℕ) → 0 < times k (foot_in c) → k < positions) → up_of nobody c ≤ positions
unfolding up_of number foot_in times
up_small [] f = omega arith
up_small (under i g ∷ c) f = omega (arith, f i (omega (arith, same_self i)))
up_small (left i j m ∷ c) f = omega (arith, f i (omega (arith, same_self i)))
up_small (right i j n ∷ c) f = omega (arith, f i (omega (arith, same_self i)))

-- the two below the number above have numbers below positions
pub two_below : (s w : List ℕ) (c : List Frame) (x : ℕ) → AllShowIn (showing s w) nobody c x
    → ((k : ℕ) → 0 < times k (foot_in c) → k < positions) → x < positions
    → up_of nobody c < positions → is_above (header_at w (up_of nobody c)).phase ≡ true
    → ((header_at w (up_of nobody c)).left < positions) × ((header_at w (up_of nobody c)).right < positions)
unfolding AllShowIn up_of number foot_in times left_node right_node
two_below s w [] x k f l u p = absurd (omega arith)
two_below s w (under i g ∷ c) x k f l u p =
    absurd (false≢true (sym (above_shown k.0 ∙ above_hold g x) ∙ p))
two_below s w (left i j m ∷ c) x k f l u p =
    let r = f (root m) (omega (arith, times_root m, times_append (root m) (foot m) (foot_in c))) in
    (omega (arith, left_shown k.0), omega (arith, right_shown k.0))
two_below s w (right i j n ∷ c) x k f l u p =
    let r = f (root n) (omega (arith, times_root n, times_append (root n) (foot n) (foot_in c))) in
    (omega (arith, left_shown k.0), omega (arith, right_shown k.0))
