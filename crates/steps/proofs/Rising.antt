-- The one law: a step inside one subtree, and the list of ready numbers put right, hold the rules' step at that ready position.
use Prim.Native.Nat.{ℕ, suc, ◌+◌, ◌-◌, ◌≤◌, ◌<◌}
use native.Mathlib.Omega.{arith}
use mathlib.Core.Path.{◌≡◌, refl, sym, ap, ◌∙◌}
use mathlib.Core.Logic.{inl, inr}
use mathlib.Core.List.{List, [], ◌∷◌, ◌++◌, append_assoc}
use lib.ListN.{length, take, drop, length-append, length-drop}
use lib.Seq.{take_at, drop_at, take-take, length-take-le}
use Rattle.rules.specs.States.{Tree}
use Rattle.rules.proofs.Choose.{step_at}
use Rattle.links.specs.Nets.{Net, bare, root, foot, is_over, ready_of}
use Rattle.links.specs.Nets.{AllShow, Frame, plug, up_of, foot_in, lefts, rights, news, times, Prime, rests, single, double}
use Rattle.links.proofs.Times.{times_append, times_plug, length_plug}
use Rattle.links.proofs.Plugging.{Kept, root_plug, held_kept, replaced}
use Rattle.links.proofs.ReadyOnes.{ready_plug, ready_after, ready_few}
use Rattle.links.proofs.Local.{Own, own_prime, prime_going, local_step}
use Rattle.area.proofs.Words.{head_out, part_out, past_out}
use Rattle.steps.proofs.Changes.{below_one, below_small}
use Rattle.steps.proofs.Making.{still, kept_by}
use Rattle.area.specs.Words.{positions, slot_words, ready_from, free_from, slot_from, area_words, nobody, part, ready_list, free_list, Listed}
use Rattle.steps.specs.State.{showing, below, Once, Spares, Makes, Holds}

-- ---- writes to the list of ready numbers leave every position

pub listed_spares : {w v : List ℕ} {r j : ℕ} {new : List ℕ} → Listed w v r j new → Spares w v []
listed_spares o = record {
  heads = λ k h z. head_out o.out k (inl (omega arith));
  slots = λ k h z. part_out o.out (slot_from k) slot_words (inr (omega arith));
  past = past_out o.out area_words (omega arith);
  long = o.out.long;
}

pub listed_free : {w v : List ℕ} {r j : ℕ} {new : List ℕ} → Listed w v r j new → (n : ℕ) → free_list v n ≡ free_list w n
listed_free o n = part_out o.out free_from n (inr (omega arith))

-- ---- the step

prime_ready : {x : Net} → Prime x → ready_of x ≡ root x ∷ []
unfolding ready_of root is_over
prime_ready rests = refl
prime_ready single = refl
prime_ready double = refl

module _ {s w v : List ℕ} {n m r j : ℕ} (c : List Frame) (x : Net) (t : Tree) (own : Own x t)
    (held : AllShow (showing s w) nobody (plug c x)) (once : Once (foot (plug c x)) (free_list w n))
    (size : length (foot (plug c x)) + n ≡ positions)
    (ready : ready_list w r ≡ ready_of (plug c x)) (few : r ≤ positions) (area : area_words ≤ length w)
    (top : root (plug c x) ≡ 0) (index : length (lefts c) ≡ j)
    (M : Makes s w v n m (foot x) (up_of nobody c) (root x) t) where
  inside : (k : ℕ) → times k (foot_in c) + (times k (foot x) + times k (free_list w n)) ≤ below k
  inside k = omega (arith, once k, times_plug k c x)

  lists : ready_of (plug c x) ≡ lefts c ++ (root x ∷ rights c)
  lists = let p = prime_going (own_prime own) in ready_plug c x p.0 ∙ rw (prime_ready (own_prime own))

  same_list : ready_list v r ≡ lefts c ++ (root x ∷ rights c)
  unfolding part
  same_list =
      sym (take-take r nobody (drop ready_from v) few) ∙ ap (take r) M.ready ∙ take-take r nobody (drop ready_from w) few ∙ ready ∙ lists

  length_list : length (lefts c) + suc (length (rights c)) ≡ r
  unfolding part
  length_list =
      sym (ap length (ready ∙ lists) ∙ length-append (lefts c) (root x ∷ rights c)) ∙ length-take-le r (drop ready_from w)
      (omega (arith, length-drop ready_from w))

  pub new_few : r - 1 + length (news c M.net) ≤ positions
  new_few = omega (
    arith,
    length_list,
    ready_few (plug c M.net),
    ap length (ready_after c M.net),
    length-append (lefts c) (news c M.net ++ rights c),
    length-append (news c M.net) (rights c),
    length_plug c M.net,
    length_plug c x,
    M.size,
    size,
  )

  module _ {u : List ℕ} (listed : Listed v u r j (news c M.net)) where
    -- the positions around the hole are not touched
    around : Kept (showing s w) (showing s u) (foot_in c)
    unfolding times
    around = record {
      show = λ k h up z o.
          let i = inside k in
          let b = below_one k in
          let a : (times k (foot x ++ free_list w n) ≡ 0) × (k < positions) =
          (omega (arith, times_append k (foot x) (free_list w n)), below_small k (omega arith)) in
          still (listed_spares listed) k (refl, a.1) (still M.else k a o);
    }

    new_list : ready_list u (r - 1 + length (news c M.net)) ≡ ready_of (plug c M.net)
    new_list =
        listed.here
        ∙ ap (λ (l : List ℕ). take j l ++ (news c M.net ++ drop (j + 1) l)) same_list
        ∙ ap (λ (l : List ℕ). l ++ (news c M.net ++ drop (j + 1) (lefts c ++ (root x ∷ rights c))))
        (take_at (lefts c) (root x ∷ rights c) j index)
        ∙ ap (λ (l : List ℕ). lefts c ++ (news c M.net ++ drop (j + 1) l)) (sym (append_assoc (lefts c) (root x ∷ []) (rights c)))
        ∙ ap (λ (l : List ℕ). lefts c ++ (news c M.net ++ l))
        (drop_at (lefts c ++ (root x ∷ [])) (rights c) (j + 1) (length-append (lefts c) (root x ∷ []) ∙ omega arith))
        ∙ sym (ready_after c M.net)

    pub local_holds : Holds s u m (r - 1 + length (news c M.net)) (step_at (bare (plug c x)) j)
    unfolding times
    local_holds = record {
      net = plug c M.net;
      bare = sym (local_step c M.net own M.bare) ∙ ap (step_at (bare (plug c x))) index;
      root = root_plug c x M.net M.root ∙ top;
      held = replaced nobody c x M.net M.root around held
          (held_kept (up_of nobody c) M.net
          (kept_by (listed_spares listed) (λ k h. (refl, below_small k (omega (arith, M.count k, inside k))))) M.held);
      once = λ k. omega (arith, inside k, M.count k, times_plug k c M.net, ap (times k) (listed_free listed m));
      size = omega (arith, size, M.size, length_plug c x, length_plug c M.net);
      ready = new_list;
      few = new_few;
      area = omega (arith, area, M.else.long, listed.out.long);
    }
