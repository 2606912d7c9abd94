-- The steps: one finished position, numbers given back, two positions below one.
use Prim.Native.Nat.{ℕ, ◌+◌, ◌-◌, ◌≤◌, ◌<◌}
use native.Mathlib.Omega.{arith}
use mathlib.Core.Path.{◌≡◌, refl, ap, ◌∙◌}
use mathlib.Core.Bool.{true, false≢true}
use mathlib.Core.List.{List, [], ◌∷◌, ◌++◌}
use lib.ListN.{length, length-append}
use Rattle.rules.specs.Packets.{Packets}
use Rattle.rules.specs.States.{Tree, Join, done, both, negated}
use Rattle.rows.specs.Chunks.{chunks}
use Rattle.steps.specs.Standing.{join_of}
use Rattle.links.specs.Nets.{waits, keeps, Net, rest, over, one, two, above, bare, root, foot, is_over, ready_of, Node, Two, node_of, AllShow}
use Rattle.links.specs.Nets.{times}
use Rattle.links.proofs.Times.{same_self, times_append}
use Rattle.links.proofs.Plugging.{Kept, held_kept}
use Rattle.steps.proofs.Changes.{below_one, below_small, headed_slots, headed_spares, headed_free, headed_ready, given_spares}
use Rattle.steps.proofs.Changes.{given_ready}
use Rattle.steps.proofs.Changes.{spares_then, spares_wider, in_none}
use Rattle.steps.proofs.Laying.{shows, above_offer}
use Rattle.area.specs.declared.headers.Header.{Header}
use Rattle.std.specs.Option.{option_or}
use Rattle.std.specs.Prelude.{Option, Some}
use Rattle.area.specs.declared.headers.Phase.{Phase}
use Rattle.area.specs.declared.headers.Phase.TheVariants.{Placed, Finished, Waiting, Negated, Entered, Split, Paired}
use Rattle.area.specs.declared.lists.Ready.TheVariants.{Nobody}
use Rattle.area.specs.Ready.{ready_of as ready_from_option}
use Rattle.area.specs.Words.{positions, row_words, is_above, slot_at, rows_at, ready_list, free_list, Headed, Given}
use Rattle.steps.specs.State.{shown_by, Showing, showing, below, Once, Spares, Makes, Becomes, Offers, ended, offers, Offers₂, ended₂}
use Rattle.steps.specs.State.{offers₁, offers₂, two_ready, Turned}

-- what is not touched goes on showing
pub still : {s w v : List ℕ} {a : List ℕ} {up : ℕ} {x : Node} → Spares w v a → (k : ℕ) → (times k a ≡ 0) × (k < positions)
    → Showing s w k up x
    → Showing s v k up x
still p k g o =
    let e = p.heads k g.1 g.0 in
    let d = p.slots k g.1 g.0 in
    record { node = rw (e, d) o.node; above = rw e o.above }

pub kept_by : {s w v : List ℕ} {a l : List ℕ} → Spares w v a → ((k : ℕ) → 0 < times k l → (times k a ≡ 0) × (k < positions))
    → Kept (showing s w) (showing s v) l
kept_by p f = record { show = λ k h up x o. still p k (f k h) o }

-- the positions and the free numbers told otherwise, after writes that leave all others
unfoldable pub rebase : {s w v u : List ℕ} {n n' m up i : ℕ} {a a' b : List ℕ} {t : Tree} → Makes s v u n' m a' up i t → Spares w v b
    → ready_list v positions ≡ ready_list w positions
    → ((k : ℕ) → times k a' + times k (free_list v n') ≡ times k a + times k (free_list w n)) → length a' + n' ≡ length a + n
    → ((k : ℕ) → times k (a ++ free_list w n) ≡ 0 → times k b ≡ 0) → Makes s w u n m a up i t
rebase {w = w} {v = v} {n = n} {n' = n'} {a = a} {a' = a'} M p r c l z = record {
  net = M.net;
  bare = M.bare;
  root = M.root;
  held = M.held;
  count = λ k. M.count k ∙ c k;
  size = M.size ∙ l;
  else = spares_then (a ++ free_list w n)
      (λ k e. (z k e, omega (arith, times_append k a' (free_list v n'), c k, times_append k a (free_list w n)))) p M.else;
  ready = M.ready ∙ r;
}

-- one number given back first
unfoldable pub after_given : {s w v u : List ℕ} {n m up i c : ℕ} {a b : List ℕ} {t : Tree} → n < positions → Given w v n c
    → Makes s v u (n + 1) m a up i t
    → ((k : ℕ) → times k b ≡ times k a + times k (c ∷ [])) → length b ≡ length a + 1 → Makes s w u n m b up i t
unfolding times
after_given {w = w} {n = n} {c = c} l g M e d =
    rebase M (given_spares l g) (given_ready l g)
    (λ k. omega (arith, e k, ap (times k) g.here, times_append k (free_list w n) (c ∷ []))) (omega arith) (λ k z. refl)

-- ---- one finished position

pub over_made : (s w v : List ℕ) (n i up : ℕ) (h : Header) (x : Packets) → n ≤ positions → h.phase ≡ Finished → h.count ≡ length x → h.up ≡ up
    → Becomes w v i h x
    → Makes s w v n n (i ∷ []) up i (done x)
unfolding bare root AllShow foot is_over shown_by
over_made s w v n i up h x l p c u b = record {
  net = over i x;
  bare = refl;
  root = refl;
  held = rw p at (shows s v i up h x b.head (rw c b.rows) u);
  count = λ k. rw (b.free n l);
  size = refl;
  else = spares_wider ((i ∷ []) ++ free_list w n) (λ k z. (in_none k (i ∷ []) (free_list w n) z).0) b.spares;
  ready = b.ready;
}

ends : (y : Net) (x : Packets) → bare y ≡ done x → is_over y ≡ true
unfolding bare above is_over
ends (rest i o p s) x e = let z : ◌≡◌ {A = ℕ} 0 1 = cc in absurd (omega arith)
ends (over i s) x e = refl
ends (one i (waits o q) n) x e = let z : ◌≡◌ {A = ℕ} 0 1 = cc in absurd (omega arith)
ends (one i (keeps k) n) x e = let z : ◌≡◌ {A = ℕ} 0 1 = cc in absurd (omega arith)
ends (two i j n m) x e = let z : ◌≡◌ {A = ℕ} 0 1 = cc in absurd (omega arith)

pub over_turned : {s w v : List ℕ} {n m up i : ℕ} {a : List ℕ} {x : Packets} → Makes s w v n m a up i (done x)
    → Turned s w v n m a up i (done x) Nobody
over_turned {x = x} M = record { makes = M; offer = ended₂ (ends M.net x M.bare) refl }

-- ---- a net as it was laid

pub one_offer : {x : Net} {r : Option ℕ} → Offers x r → Offers₂ x (ready_from_option r)
one_offer (ended e z) = ended₂ e (rw z refl)
one_offer (offers a e z l k) = offers₁ a e z l (rw k refl)

-- ---- two positions below one

over_ready : (x : Net) → is_over x ≡ true → ready_of x ≡ []
unfolding is_over ready_of
over_ready (rest i o p s) e = absurd (false≢true e)
over_ready (over i s) e = refl
over_ready (one i h n) e = absurd (false≢true e)
over_ready (two i j n m) e = absurd (false≢true e)

-- what two nets offer, with the number above them
pub two_offer : (i : ℕ) (j : Join) (x y : Net) (a b : Option ℕ) → i < positions → Offers x a → Offers y b
    → Offers₂ (two i j x y) (two_ready i a b)
unfolding is_over ready_of
two_offer i j x y a b l (ended e z) (ended d k) = offers₁ i refl (rw (e, d)) l (rw (z, k) refl)
two_offer i j x y a b l (ended e z) (offers q d k m c) =
    offers₁ q refl (rw (e, d, over_ready x e, k) refl) m (rw (z, c) refl)
two_offer i j x y a b l (offers p e z m c) (ended d k) =
    offers₁ p refl (rw (e, z, over_ready y d) refl) m (rw (c, k) refl)
two_offer i j x y a b l (offers p e z m c) (offers q d k o g) =
    offers₂ p q refl (rw (e, z, k) refl) m o (rw (c, g) refl)

shown_two : (s : List ℕ) (p : Phase) (h : Header) (x : Packets) → is_above p ≡ true
    → shown_by s p h x ≡ Two (join_of s p h.place) h.left h.right
unfolding shown_by
shown_two s Placed h x l = absurd (false≢true l)
shown_two s Finished h x l = absurd (false≢true l)
shown_two s Waiting h x l = absurd (false≢true l)
shown_two s Negated h x l = absurd (false≢true l)
shown_two s Entered h x l = refl
shown_two s Split h x l = refl
shown_two s Paired h x l = refl

module _ {s w v₁ v₂ v₃ : List ℕ} {n m₁ m₂ i l r : ℕ} {tl tr : Tree} {h : Header} (li : i < positions) (few : 2 ≤ n)
    (once : Once (i ∷ []) (free_list w n)) (top : free_list w n ≡ free_list w (n - 1) ++ (l ∷ []))
    (next : free_list w (n - 1) ≡ free_list w (n - 2) ++ (r ∷ []))
    (L : Makes s w v₁ (n - 2) m₁ (l ∷ []) i l tl) (R : Makes s v₁ v₂ m₁ m₂ (r ∷ []) i r tr) (H : Headed v₂ v₃ i h) where
  -- how often a number stands among the free ones, and that all are apart
  free_two : (k : ℕ) → times k (free_list w n) ≡ times k (free_list w (n - 2)) + (times k (r ∷ []) + times k (l ∷ []))
  free_two k =
      omega (
        arith,
        ap (times k) top,
        ap (times k) next,
        times_append k (free_list w (n - 1)) (l ∷ []),
        times_append k (free_list w (n - 2))
            (r ∷ []),
      )

  all_once : (k : ℕ) → times k (i ∷ []) + (times k (free_list w (n - 2)) + (times k (r ∷ []) + times k (l ∷ []))) ≤ below k
  all_once k = omega (arith, once k, free_two k)

  left_kept : (k : ℕ) → 0 < times k (foot L.net) → (times k ((r ∷ []) ++ free_list v₁ m₁) ≡ 0) × (k < positions)
  left_kept k h =
      let c = L.count k in
      let o = all_once k in
      let b = below_one k in
      (omega (arith, times_append k (r ∷ []) (free_list v₁ m₁)), below_small k (omega arith))

  right_kept : (k : ℕ) → 0 < times k (foot R.net) → (times k (i ∷ []) ≡ 0) × (k < positions)
  right_kept k h =
      let c = L.count k in
      let d = R.count k in
      let o = all_once k in
      let b = below_one k in
      (omega arith, below_small k (omega arith))

  left_apart : (k : ℕ) → 0 < times k (foot L.net) → (times k (i ∷ []) ≡ 0) × (k < positions)
  left_apart k h =
      let c = L.count k in
      let o = all_once k in
      let b = below_one k in
      (omega arith, below_small k (omega arith))

  pub two_turned : is_above h.phase ≡ true → h.left ≡ l → h.right ≡ r → (a b : Option ℕ) → Offers L.net a → Offers R.net b
      → Turned s w v₃ n m₂ (i ∷ []) h.up i (both (join_of s h.phase h.place) tl tr) (two_ready i a b)
  unfolding bare root AllShow foot times
  two_turned p el er a b oa ob =
      let fv = headed_free li H m₂ in
      record {
        makes = record {
          net = two i (join_of s h.phase h.place) L.net R.net;
          bare = rw (L.bare, R.bare);
          root = refl;
          held = (
            rw (shown_two s h.phase h (rows_at v₃ i h.count) p, el, er, ← L.root, ← R.root) at
                (shows s v₃ i h.up h (rows_at v₃ i h.count) H.here refl refl),
            held_kept i L.net (kept_by (headed_spares li H) left_apart) (held_kept i L.net (kept_by R.else left_kept) L.held),
            held_kept i R.net (kept_by (headed_spares li H) right_kept) R.held,
          );
          count = λ k. omega (arith, L.count k, R.count k, free_two k, ap (times k) fv, times_append k (foot L.net) (foot R.net));
          size = omega (arith, L.size, R.size, length-append (foot L.net) (foot R.net));
          else = spares_then ((i ∷ []) ++ free_list w n) (λ k z. let g = in_none k (i ∷ []) (free_list w n) z in (g.1, g.0))
              (spares_then (free_list w n)
              (λ k z. (
                omega (arith, times_append k (l ∷ []) (free_list w (n - 2)), free_two k),
                omega (arith, times_append k (r ∷ []) (free_list v₁ m₁), L.count k, free_two k),
              ))
              L.else R.else)
              (headed_spares li H);
          ready = headed_ready li H ∙ R.ready ∙ L.ready;
        };
        offer = two_offer i (join_of s h.phase h.place) L.net R.net a b li oa ob;
      }

-- ---- one position below another

pub one_turned : {s w v u : List ℕ} {n m i c up pl count : ℕ} {a z : Option ℕ} {t : Tree} → i < positions → 1 ≤ n → Once (i ∷ []) (free_list w n)
    → free_list w n ≡ free_list w (n - 1) ++ (c ∷ [])
    → (L : Makes s w v (n - 1) m (c ∷ []) i c t)
    → Headed v u i (record { place = pl; phase = Negated; count = count; up = up; left = c; right = 0 })
    → Offers L.net a → z ≡ option_or a (Some i)
    → Turned s w u n m (i ∷ []) up i (negated (rows_at w i count) t) (ready_from_option z)
unfolding bare above root AllShow foot node_of times shown_by is_over
one_turned {s} {w} {v} {u} {n} {m} {i} {c} {up} {pl} {count} {a} {z} {t} li few once top L H o ez =
    let X : Packets = rows_at w i count in
    let ft : (k : ℕ) → times k (free_list w n) ≡ times k (free_list w (n - 1)) + times k (c ∷ []) =
    λ k. ap (times k) top ∙ times_append k (free_list w (n - 1)) (c ∷ []) in
    let own : times i ((c ∷ []) ++ free_list w (n - 1)) ≡ 0 =
    omega (arith, times_append i (c ∷ []) (free_list w (n - 1)), ft i, once i, below_one i, same_self i) in
    let sl : slot_at u i ≡ slot_at w i = headed_slots li H i ∙ L.else.slots i li own in
    let apart : (k : ℕ) → 0 < times k (foot L.net) → (times k (i ∷ []) ≡ 0) × (k < positions) =
    λ k h. let c₁ = L.count k in let c₂ = ft k in let c₃ = once k in let c₄ = below_one k in (omega arith, below_small k (omega arith)) in
    let fv = headed_free li H m in
    record {
      makes = record {
        net = one i (keeps X) L.net;
        bare = ap (negated X) L.bare;
        root = refl;
        held = (
          rw L.root (shows s u i up _ X H.here (ap (chunks row_words count) sl) refl),
          held_kept i L.net (kept_by (headed_spares li H) apart) L.held,
        );
        count = λ k. omega (arith, L.count k, ft k, ap (times k) fv);
        size = omega (arith, L.size, few);
        else = spares_then ((i ∷ []) ++ free_list w n)
            (λ k y. let g = in_none k (i ∷ []) (free_list w n) y in
            (omega (arith, times_append k (c ∷ []) (free_list w (n - 1)), ft k, g.1), g.0))
            L.else (headed_spares li H);
        ready = headed_ready li H ∙ L.ready;
      };
      offer = one_offer (above_offer i (keeps X) L.net a z li o ez);
    }
