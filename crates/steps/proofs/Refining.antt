-- A step function at the j-th ready position, and the list put right: the words hold the rules' next state.
use Prim.Native.Nat.{ℕ, ◌+◌, ◌-◌, ◌<◌, ◌%◌}
use native.Mathlib.Omega.{arith}
use mathlib.Core.Path.{◌≡◌, sym, ap, subst, ◌∙◌}
use mathlib.Core.List.{List, [], ◌++◌}
use lib.ListN.{length, drop, length-drop}
use lib.Seq.{length-take-le}
use Rattle.rules.specs.States.{Tree, move}
use Rattle.rules.proofs.Choose.{step_at, readies, move_at}
use Rattle.links.specs.Nets.{Net, bare, root, foot, AllShow, Frame, plug, up_of, foot_in, AllShowIn, lefts, news, times}
use Rattle.links.proofs.Times.{times_append, times_plug, times_root}
use Rattle.links.proofs.Plugging.{plug_held, held_in_kept}
use Rattle.links.proofs.ReadyOnes.{Found, find}
use Rattle.links.proofs.Local.{Own, ready_length}
use Rattle.steps.proofs.Changes.{below_one, below_small}
use Rattle.steps.proofs.Making.{kept_by}
use Rattle.steps.proofs.Rising.{local_holds, new_few}
use Rattle.steps.proofs.News.{news_is, offer_small, up_small, two_below}
use Rattle.area.specs.declared.lists.Ready.{Ready}
use Rattle.area.specs.Words.{positions, ready_from, nobody, part, free_list, Listed}
use Rattle.area.specs.Ready.{numbers, news_at, Relisting}
use Rattle.steps.specs.State.{showing, Once, Holds, Turned}

module _ {s w : List ℕ} {n r : ℕ} {t : Tree} (H : Holds s w n r t) where
  -- as many are listed as the rules say, and the j-th is a position whose own step is the next
  pub listed_all : r ≡ readies t
  unfolding part
  listed_all =
      sym (length-take-le r (drop ready_from w) (omega (arith, H.few, H.area, length-drop ready_from w)))
      ∙ ap length H.ready ∙ ready_length H.net ∙ ap readies H.bare

  pub found_at : (j : ℕ) → j < r → Found H.net j
  unfolding plug lefts
  found_at j h =
      let e : 0 + j ≡ j = omega arith in
      rw e at (find H.net [] j (omega (arith, ready_length H.net, listed_all, ap readies H.bare)))

  module _ {v : List ℕ} {m j : ℕ} {offer : Ready} {t' : Tree} (F : Found H.net j) (own : Own F.prime t')
      (T : Turned s w v n m (foot F.prime) (up_of nobody F.around) (root F.prime) t' offer) where
    abbrev c : List Frame
    c = F.around

    abbrev x : Net
    x = F.prime

    whole : AllShow (showing s w) nobody (plug c x)
    whole = rw F.whole at H.held

    once : Once (foot (plug c x)) (free_list w n)
    once = rw F.whole at H.once

    outer : (k : ℕ) → 0 < times k (foot_in c) → (times k (foot x ++ free_list w n) ≡ 0) × (k < positions)
    outer k h =
        let o = once k in
        let p = times_plug k c x in
        let b = below_one k in
        (omega (arith, times_append k (foot x) (free_list w n)), below_small k (omega arith))

    around : AllShowIn (showing s v) nobody c (root x)
    around = held_in_kept nobody c (root x) (kept_by T.makes.else outer) (plug_held (showing s w) nobody c x whole).1

    same_news : numbers (news_at v (up_of nobody c) offer) ≡ news c T.makes.net
    same_news =
        news_is s v c T.makes.net offer T.offer T.makes.held
        (rw T.makes.root around)
        (λ k h. (outer k h).1)

    -- what `relist` asks
    pub relist_asks : j < r → Relisting v r j (up_of nobody c) offer
    relist_asks h = record {
      there = h;
      few = H.few;
      room = rw same_news
          (new_few c x t' own whole once (rw F.whole at H.size) (rw F.whole at H.ready) H.few H.area
          (rw F.whole at H.root) F.first T.makes);
      above = record {
        small = up_small c (λ k g. (outer k g).1);
        below = two_below s v c (root x) around (λ k g. (outer k g).1)
            (below_small (root x) (omega (arith, once (root x), times_plug (root x) c x, times_root x)));
      };
      offers = offer_small T.offer;
    }

    module _ {u : List ℕ} (L : Listed v u r j (numbers (news_at v (up_of nobody c) offer))) where
      pub step_holds : Holds s u m (r - 1 + length (numbers (news_at v (up_of nobody c) offer))) (step_at t j)
      step_holds =
          let e : bare (plug c x) ≡ t = ap bare (sym F.whole) ∙ H.bare in
          let l : Listed v u r j (news c T.makes.net) = rw same_news at L in
          let k = local_holds c x t' own whole once (rw F.whole at H.size) (rw F.whole at H.ready) H.few H.area
          (rw F.whole at H.root) F.first T.makes l in
          rw same_news (subst (λ (z : Tree). Holds s u m (r - 1 + length (news c T.makes.net)) (step_at z j)) e k)

      -- byte b picks position b mod r
      pub move_holds : (b : ℕ) → j ≡ b % r → 0 < r → Holds s u m (r - 1 + length (numbers (news_at v (up_of nobody c) offer))) (move b t)
      move_holds b e h =
          let d = listed_all in
          let g : move b t ≡ step_at t j = move_at b t (omega arith) ∙ ap (step_at t) (ap (λ (k : ℕ). b % k) (sym d) ∙ sym e) in
          rw g step_holds
