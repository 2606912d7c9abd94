-- The area made ready, and the main policy placed: the words hold the start of the run.
use Prim.Native.Nat.{ℕ, zero, suc, ◌+◌, ◌-◌, ◌≤◌, ◌<◌}
use native.Mathlib.Decide.{dec_lt}
use native.Mathlib.Omega.{arith}
use mathlib.Core.Path.{◌≡◌, refl, sym, ap, ◌∙◌}
use mathlib.Core.Logic.{inl}
use mathlib.Core.List.{List, [], ◌∷◌, append-nil}
use borrow.Author.Tests.{lt-ltb}
use lib.ListN.{length, take, drop, length-take, drop_of_length-le}
use Rattle.rules.specs.Masks.{all_fields}
use Rattle.rules.specs.Packets.{padded}
use Rattle.rules.specs.Reading.{fields_of, body_start, main_of}
use Rattle.rules.specs.States.{place, run}
use Rattle.rules.specs.Answers.{start_spot, start_set, start}
use Rattle.rows.specs.Chunks.{chunks}
use Rattle.steps.specs.Standing.{part_of, Runnable}
use Rattle.links.specs.Nets.{ready_of, plug, up_of, foot_in, AllShowIn, lefts, rights, news, same, times}
use Rattle.links.proofs.Times.{same_self, same_other, times_append}
use Rattle.links.proofs.Plugging.{held_kept}
use Rattle.links.proofs.ReadyOnes.{ready_after, ready_few}
use Rattle.std.specs.Prelude.{Option}
use Rattle.area.specs.Words.{positions, ready_from, free_from, area_words, nobody, part, rows_at, free_list, Given, Rowed, Listed}
use Rattle.area.specs.Ready.{ready_of as option_ready, numbers, news_at, Relisting}
use Rattle.steps.specs.State.{below, Holds, Makes, Laying, Laid}
use Rattle.area.proofs.Words.{part_out}
use Rattle.steps.proofs.Changes.{below_small}
use Rattle.steps.proofs.Making.{kept_by, one_offer}
use Rattle.steps.proofs.News.{news_is, offer_small}
use Rattle.steps.proofs.Rising.{listed_spares, listed_free}
use Rattle.machine.specs.Runs.{Playable}
use Rattle.machine.specs.Answered.{Freed}
use Rattle.machine.proofs.Positions.{place_live}

-- ---- the numbers but 0 are free

below_is : (k : ℕ) → k < positions → below k ≡ 1
unfolding below
below_is k h = rw (lt-ltb k positions h)

pub freeing_starts : (w : List ℕ) → Freed w 0
unfolding part times
freeing_starts w = record { once = λ k. omega arith; high = λ k h. refl }

module _ (v u : List ℕ) (n : ℕ) (l : n < (positions - 1)) (f : Freed v n) (g : Given v u n (positions - 1 - n)) where
  given_times : (k : ℕ) → times k (free_list u (n + 1)) ≡ times k (free_list v n) + same k (positions - 1 - n)
  unfolding times
  given_times k = ap (times k) g.here ∙ times_append k (free_list v n) ((positions - 1 - n) ∷ []) ∙ omega arith

  lower : (k : ℕ) → k < positions - 1 - n → times k (free_list u (n + 1)) ≡ 0
  lower k h = omega (arith, given_times k, f.high k (omega arith), same_other k (positions - 1 - n) (λ e. omega arith))

  once : (k : ℕ) → times k (free_list u (n + 1)) ≤ below k
  once k =
      elim (dec_lt k (positions - 1 - n)) [
        | yes h ↦ omega (arith, lower k h)
        | no h ↦
            elim (dec_lt (positions - 1 - n) k) [
              | yes g ↦ omega (arith, given_times k, f.once k, same_other k (positions - 1 - n) (λ e. omega arith))
              | no g ↦
                  let e : k ≡ positions - 1 - n = omega arith in
                  let d : same k (positions - 1 - n) ≡ 1 = rw e (same_self (positions - 1 - n)) in
                  omega (arith, given_times k, f.high k (omega arith), below_is k (omega arith))
            ]
      ]

  pub freeing_turns : Freed u (n + 1)
  freeing_turns = record {
    once = once;
    high = λ k h. lower k (omega arith);
  }

-- ---- the main policy is placed at number 0

module _ (s packet v₁ v₂ : List ℕ) (st : Runnable s (body_start s 0)) (pl : Playable s (start s packet))
    (F : Freed v₁ (positions - 1)) (R : Rowed v₁ v₂ 0 0 (padded packet)) where
  rows_there : rows_at v₂ 0 1 ≡ start_set packet
  unfolding chunks
  rows_there = R.here

  free_kept : free_list v₂ (positions - 1) ≡ free_list v₁ (positions - 1)
  free_kept = part_out R.out free_from (positions - 1) (inl (omega arith))

  once_root : (k : ℕ) → times k (0 ∷ []) + times k (free_list v₂ (positions - 1)) ≤ below k
  unfolding times
  once_root zero = rw free_kept (omega (arith, F.high 0 (omega arith), same_self 0, below_is 0 (omega arith)))
  once_root (suc k) = rw free_kept (omega (arith, F.once (suc k), same_other (suc k) 0 (λ e. omega arith)))

  main_is : (f : ℕ) → place (record { at = body_start s 0; fields = f }) (part_of s (body_start s 0)) (rows_at v₂ 0 1)
      ≡ place (record { at = body_start s 0; fields = f }) (main_of s) (start_set packet)
  unfolding main_of part_of
  main_is f = rw rows_there

  pub start_lays : Laying s v₂ (positions - 1) 0 (body_start s 0) 0 1
  unfolding start run
  start_lays = record {
    stands = st;
    there = omega arith;
    few = omega arith;
    once = once_root;
    room = rw (main_is 0)
        (omega (arith, (pl []).1, place_live (main_of s) (record { at = body_start s 0; fields = 0 }) (start_spot s) (start_set packet)));
    source = omega arith;
    slim = omega arith;
  }

  module _ (v₃ : List ℕ) (m : ℕ) (r : Option ℕ) (L : (f : ℕ) → Laid s v₂ v₃ (positions - 1) m 0 nobody (body_start s 0) 0 1 r f) where
    abbrev M : Makes s v₂ v₃ (positions - 1) m (0 ∷ []) nobody 0 (place (start_spot s) (part_of s (body_start s 0)) (rows_at v₂ 0 1))
    M = (L (all_fields (fields_of s))).makes

    -- the ready numbers of the start
    news_are : numbers (news_at v₃ nobody (option_ready r)) ≡ ready_of M.net
    unfolding AllShowIn up_of plug lefts rights foot_in times
    news_are =
        news_is s v₃ [] M.net (option_ready r) (one_offer (L (all_fields (fields_of s))).offer) M.held tt (λ k h. absurd (omega arith))
        ∙ sym (ready_after [] M.net ∙ append-nil (news [] M.net))

    few : length (numbers (news_at v₃ nobody (option_ready r))) ≤ positions
    few = rw news_are (omega (arith, ready_few M.net, M.size))

    pub start_relists : Relisting v₃ 1 0 nobody (option_ready r)
    start_relists = record {
      there = omega arith;
      few = omega arith;
      room = omega (arith, few);
      above = record {
        small = omega arith;
        below = λ l. absurd (omega arith);
      };
      offers = offer_small (one_offer (L (all_fields (fields_of s))).offer);
    }

    pub started : (u : List ℕ) (k : ℕ) → Listed v₃ u 1 0 (numbers (news_at v₃ nobody (option_ready r)))
        → k ≡ 1 - 1 + length (numbers (news_at v₃ nobody (option_ready r))) → area_words ≤ length u → Holds s u m k (start s packet)
    unfolding part start times
    started u k N ek long =
        let d : drop 1 (take 1 (drop ready_from v₃)) ≡ [] =
        drop_of_length-le (take 1 (drop ready_from v₃)) {i = 1} (omega (arith, length-take 1 (drop ready_from v₃))) in
        record {
          net = M.net;
          bare = M.bare ∙ main_is (all_fields (fields_of s));
          root = M.root;
          held = held_kept nobody M.net
              (kept_by (listed_spares N) (λ k h. (refl, below_small k (omega (arith, M.count k, once_root k))))) M.held;
          once = λ k. omega (arith, M.count k, once_root k, ap (times k) (listed_free N m));
          size = omega (arith, M.size);
          ready = rw ek (N.here ∙ rw d (append-nil (numbers (news_at v₃ nobody (option_ready r))) ∙ news_are));
          few = omega (arith, few);
          area = long;
        }
