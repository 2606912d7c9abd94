-- What each kind of write leaves of the positions and the lists.
use Prim.Native.Nat.{ℕ, ◌≤◌, ◌<◌}
use native.Mathlib.Omega.{arith}
use native.Mathlib.Decide.{dec_lt}
use mathlib.Core.Path.{◌≡◌, ◌∙◌}
use mathlib.Core.Logic.{inl, inr}
use mathlib.Core.List.{List, [], ◌∷◌, ◌++◌}
use borrow.Author.Tests.{lt-ltb, le-ltb}
use Rattle.rules.specs.Packets.{Packets}
use Rattle.links.specs.Nets.{same, times}
use Rattle.links.proofs.Times.{same_self, times_append}
use Rattle.area.proofs.Words.{slots_apart, heads_apart, head_out, part_out, past_out}
use Rattle.area.specs.declared.headers.Header.{Header}
use Rattle.area.specs.Words.{positions, slot_words, ready_from, free_from, slot_from, area_words, header_at, slot_at, ready_list, free_list, Headed}
use Rattle.area.specs.Words.{Slotted, Given}
use Rattle.steps.specs.State.{below, Spares, Becomes}

-- ---- numbers

pub below_one : (k : ℕ) → below k ≤ 1
unfolding below
below_one k = elim (dec_lt k positions) [
  | yes h ↦ rw (lt-ltb k positions h) (omega arith)
  | no h ↦ rw (le-ltb k positions (omega arith))
      (omega arith)
]

pub below_small : (k : ℕ) → 0 < below k → k < positions
unfolding below
below_small k h = elim (dec_lt k positions) [ yes l ↦ l | no l ↦ absurd (omega (arith, rw (le-ltb k positions (omega arith)) at h)) ]

pub times_one : (k i : ℕ) → times k (i ∷ []) ≡ same k i
unfolding times
times_one k i = omega arith

pub apart : (k i : ℕ) → times k (i ∷ []) ≡ 0 → k ≡ i → ⊥
apart k i h e = omega (arith, times_one i i, same_self i, rw e at h)

-- ---- one write

module _ {w v : List ℕ} {i : ℕ} {h : Header} (l : i < positions) (o : Headed w v i h) where
  pub headed_slots : (k : ℕ) → slot_at v k ≡ slot_at w k
  headed_slots k = part_out o.out (slot_from k) slot_words (inr (omega arith))

  pub headed_heads : (k : ℕ) → (k ≡ i → ⊥) → header_at v k ≡ header_at w k
  headed_heads k n = head_out o.out k (heads_apart i k n)

  pub headed_spares : Spares w v (i ∷ [])
  headed_spares = record {
    heads = λ k h z. headed_heads k (apart k i z);
    slots = λ k h z. headed_slots k;
    past = past_out o.out area_words (omega arith);
    long = o.out.long;
  }

  pub headed_free : (n : ℕ) → free_list v n ≡ free_list w n
  headed_free n = part_out o.out free_from n (inr (omega arith))

  pub headed_ready : ready_list v positions ≡ ready_list w positions
  headed_ready = part_out o.out ready_from positions (inr (omega arith))

module _ {w v : List ℕ} {i : ℕ} {x : Packets} (l : i < positions) (o : Slotted w v i x) where
  pub slotted_heads : (k : ℕ) → k < positions → header_at v k ≡ header_at w k
  slotted_heads k h = head_out o.out k (inl (omega arith))

  pub slotted_slots : (k : ℕ) → (k ≡ i → ⊥) → slot_at v k ≡ slot_at w k
  slotted_slots k n = part_out o.out (slot_from k) slot_words (slots_apart i k n)

  pub slotted_spares : Spares w v (i ∷ [])
  slotted_spares = record {
    heads = λ k h z. slotted_heads k h;
    slots = λ k h z. slotted_slots k (apart k i z);
    past = past_out o.out area_words (omega arith);
    long = o.out.long;
  }

  pub slotted_free : (n : ℕ) → n ≤ positions → free_list v n ≡ free_list w n
  slotted_free n h = part_out o.out free_from n (inl (omega arith))

  pub slotted_ready : ready_list v positions ≡ ready_list w positions
  slotted_ready = part_out o.out ready_from positions (inl (omega arith))

module _ {w v : List ℕ} {n p : ℕ} (l : n < positions) (o : Given w v n p) where
  pub given_spares : Spares w v []
  given_spares = record {
    heads = λ k h z. head_out o.out k (inl (omega arith));
    slots = λ k h z. part_out o.out (slot_from k) slot_words (inr (omega arith));
    past = past_out o.out area_words (omega arith);
    long = o.out.long;
  }

  pub given_ready : ready_list v positions ≡ ready_list w positions
  given_ready = part_out o.out ready_from positions (inl (omega arith))

-- ---- writes together

pub spares_then : {w v u : List ℕ} {a b : List ℕ} (c : List ℕ) → ((k : ℕ) → times k c ≡ 0 → (times k a ≡ 0) × (times k b ≡ 0))
    → Spares w v a → Spares v u b → Spares w u c
spares_then c f p q = record {
  heads = λ k h z. q.heads k h (f k z).1 ∙ p.heads k h (f k z).0;
  slots = λ k h z. q.slots k h (f k z).1 ∙ p.slots k h (f k z).0;
  past = q.past ∙ p.past;
  long = q.long ∙ p.long;
}

-- a set put into a slot, and then its header
pub becomes : {w v u : List ℕ} {i : ℕ} {h : Header} {x : Packets} → i < positions → Slotted w v i x → Headed v u i h → Becomes w u i h x
becomes {i = i} l p q = record {
  head = q.here;
  rows = rw (headed_slots l q i) p.here;
  spares = spares_then (i ∷ []) (λ k z. (z, z)) (slotted_spares l p) (headed_spares l q);
  free = λ n h. headed_free l q n ∙ slotted_free l p n h;
  ready = headed_ready l q ∙ slotted_ready l p;
}

pub spares_wider : {w v : List ℕ} {a : List ℕ} (c : List ℕ) → ((k : ℕ) → times k c ≡ 0 → times k a ≡ 0) → Spares w v a → Spares w v c
spares_wider c f p = record {
  heads = λ k h z. p.heads k h (f k z);
  slots = λ k h z. p.slots k h (f k z);
  past = p.past;
  long = p.long;
}

pub in_none : (k : ℕ) (a b : List ℕ) → times k (a ++ b) ≡ 0 → (times k a ≡ 0) × (times k b ≡ 0)
in_none k a b z = let e = times_append k a b in (omega arith, omega arith)
