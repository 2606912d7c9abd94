-- Each answer of the walk from the answers below it, as the code has them.
use Prim.Native.Nat.{ℕ, max, ◌+◌, ◌-◌, ◌<◌, ◌≤◌}
use native.Mathlib.Omega.{arith}
use mathlib.Core.Path.{◌≡◌, refl, sym, ap, ◌∙◌}
use mathlib.Core.Bool.{not, false}
use mathlib.Core.Logic.{◌⊎◌, ⊎_elim}
use mathlib.Core.List.{List, []}
use lib.ListN.{length, get_or}
use Rattle.std.specs.Prelude.{Result, Ok, Err, IfOk}
use Rattle.rules.specs.Codes.{parts_of}
use Rattle.rules.specs.Parts.{Part, Id, write, size, parts, deep}
use Rattle.rules.specs.Typing.{wrongs}
use Rattle.rules.specs.Reading.{stands, part_at, head, built}
use Rattle.rules.proofs.CodeLaws.{by_code}
use Rattle.typing.specs.Walking.{State}
use Rattle.typing.specs.declared.Way.{Way}
use Rattle.typing.specs.declared.Notes.{Notes}
use Rattle.typing.specs.Walking.{Tally, told, way_of, and_on, walked, tallied, shut, tally_of, moved, leafed, leaf_read, leaf_at}
use Rattle.typing.specs.Walking.{noted, Noted, Kept, Asked}
use Rattle.typing.proofs.TallyLaws.{same_tally, first_none, noted_few, noted_room}
use Rattle.typing.proofs.WalkLaws.{deeper, leaf_any, only_predicates, walk_short, walk_stop, walk_deep, walk_not, walk_sum, walk_seq}

-- past a code with k operands
pub past_kept : (s : List ℕ) (o k : ℕ) (st : State) (n : Notes) → Kept s o (tally_of st n) → st.at + 1 + k ≤ length s
    → Kept s o (tally_of (moved k st) n)
past_kept s o k st n g h = record {
  start = omega arith;
  within = h;
  parts = omega (arith, g.parts);
  few = λ x. omega (arith, g.few x);
  room = g.room;
  deep = g.deep;
}

-- ---- a part with no parts below it
leaf_quiet : (s : List ℕ) (at place : ℕ) (l r : Part) (c : ℕ) → parts_of c ≡ 0
    → (wrongs place (built (head s at) (shut s) c l r) ≡ []) × (deep (built (head s at) (shut s) c l r) ≡ 0)
    × (parts (built (head s at) (shut s) c l r) ≡ 1)
    × (1 ≤ size (built (head s at) (shut s) c l r))
unfolding built wrongs deep parts shut write
leaf_quiet s at place l r =
    by_code (λ c. parts_of c ≡ 0 → (wrongs place (built (head s at) (shut s) c l r) ≡ []) × (deep (built (head s at) (shut s) c l r) ≡ 0)
    × (parts (built (head s at) (shut s) c l r) ≡ 1) × (1 ≤ size (built (head s at) (shut s) c l r)))
    (λ e. (refl, refl, refl, omega arith)) (λ e. (refl, refl, refl, omega arith)) (λ e. (refl, refl, refl, omega arith))
    (λ e. (refl, refl, refl, omega arith)) (λ e. absurd (omega arith)) (λ e. absurd (omega arith)) (λ e. absurd (omega arith))
    (λ e. absurd (omega arith)) (λ e. (refl, refl, refl, omega arith)) (λ c e. (refl, refl, refl, omega arith))

quiet_at : (s : List ℕ) (at place : ℕ) → parts_of (get_or s at 0) ≡ 0
    → (wrongs place (leaf_at s at) ≡ []) × (deep (leaf_at s at) ≡ 0) × (parts (leaf_at s at) ≡ 1) × (1 ≤ size (leaf_at s at))
unfolding part_at
quiet_at s at place z = leaf_quiet s at place Id Id (get_or s at 0) z

module _ (s : List ℕ) (w : Way) (st : State) (n v : Notes) (k : Kept s w.level (tally_of st n)) (h : st.at < length s)
    (z : parts_of (get_or s st.at 0) ≡ 0) where
  leaf_told : (r : Result State ℕ) (ro : Result ℕ ℕ) → r ≡ leafed st (leaf_at s st.at) ro → Noted w.level (leaf_at s st.at) r n v
      → tallied r v ≡ way_of ro (told (leaf_at s st.at) w.level (tally_of st n))
  leaf_told (Err b) (Err a) l m = cc
  leaf_told (Err b) (Ok e) l m = cc
  leaf_told (Ok r) (Err a) l m = cc
  leaf_told (Ok r) (Ok e) l m =
      let q = quiet_at s st.at st.at z in
      let p = leaf_at s st.at in
      let t = told p w.level (tally_of st n) in
      let state : r ≡ record { at = t.at; parts = t.parts; tests = t.tests; writes = t.writes } = cc in
      let d : n.deep ≡ max n.deep (w.level + deep p) = omega (arith, q.1, k.deep) in
      rw (state, m) (ap Ok (same_tally (tally_of (record { at = t.at; parts = t.parts; tests = t.tests; writes = t.writes }) (record {
        fault = n.fault;
        deep = n.deep;
        uses = noted p w.level n.uses;
      })) t refl refl refl refl (rw q.0 (sym (first_none n.fault))) d refl))

  leaf_kept : (r : Result State ℕ) (ro : Result ℕ ℕ) → r ≡ leafed st (leaf_at s st.at) ro → Noted w.level (leaf_at s st.at) r n v
      → IfOk r (λ x. x.at ≤ length s) → IfOk r (λ x. Kept s w.level (tally_of x v))
  leaf_kept (Err b) ro l m i = tt
  leaf_kept (Ok r) (Err a) l m i = absurd (let x : Ok r ≡ Err a = l in cc)
  leaf_kept (Ok r) (Ok e) l m i =
      let q = quiet_at s st.at st.at z in
      let p = leaf_at s st.at in
      let at : r.at ≡ st.at + size p = cc in
      let count : r.parts ≡ st.parts + parts p = cc in
      rw m (record {
        start = omega (arith, at, k.start);
        within = i;
        parts = omega (arith, at, count, q.2, q.3, k.parts);
        few = λ y. omega (arith, at, noted_few p w.level n.uses y, k.few y);
        room = noted_room p w.level n.uses ∙ k.room;
        deep = k.deep;
      })

  module _ (d : ℕ) (hd : d ≡ 0 → ⊥) (r : Result State ℕ) (l : r ≡ leafed st (leaf_at s st.at) (leaf_read s w st.at))
      (m : Noted w.level (leaf_at s st.at) r n v) where
    pub leaf_is_told : tallied r v ≡ walked s w d (tally_of st n)
    unfolding walked
    leaf_is_told =
        let a = leaf_any s w (d - 1) st.at h z in
        rw (deeper d hd, a.0, a.1) (leaf_told r (leaf_read s w st.at) l m)

    pub leaf_is_kept : IfOk r (λ x. x.at ≤ length s) → IfOk r (λ x. Kept s w.level (tally_of x v))
    leaf_is_kept i = leaf_kept r (leaf_read s w st.at) l m i

-- ---- the loop of the walk

pub record Round (s : List ℕ) (n : Notes) (st : State) (d : ℕ) (w : Way) (whole : Result Tally ℕ) (o depth : ℕ) : Type 0 where
  pub asked : Asked s n st d w
  pub same : o ≡ w.level
  pub less : d ≤ depth
  pub goes : whole ≡ walked s w d (tally_of st n)

module _ (s : List ℕ) (n : Notes) (st : State) (d : ℕ) (w : Way) (whole : Result Tally ℕ) (o depth : ℕ)
    (g : Round s n st d w whole o depth) where
  pub round_short : length s ≤ st.at → Err (length s) ≡ whole
  round_short h = sym (g.goes ∙ walk_short s w d (tally_of st n) h)

  pub round_deep : st.at < length s → d ≡ 0 → Err st.at ≡ whole
  round_deep h z = sym (g.goes ∙ walk_deep s w d (tally_of st n) h z)

  module _ (h : st.at < length s) (hd : d ≡ 0 → ⊥) where
    pub round_stop : stands (not w.in_table) w.predicate (get_or s st.at 0) ≡ false → Err st.at ≡ whole
    round_stop no_one = sym (g.goes ∙ walk_stop s w d (tally_of st n) h no_one)

    pub round_told : (r : Result State ℕ) (v : Notes) → tallied r v ≡ walked s w d (tally_of st n) → tallied r v ≡ whole
    round_told r v e = e ∙ sym g.goes

    pub kept_as : (r : Result State ℕ) (v : Notes) → IfOk r (λ x. Kept s w.level (tally_of x v)) → IfOk r (λ x. Kept s o (tally_of x v))
    kept_as r v k = rw g.same k

    pub round_not : get_or s st.at 0 ≡ 4 → Round s n (moved 0 st) (d - 1) (only_predicates w) whole o depth
    round_not e =
        let a = g.asked in
        record {
          asked = record {
            sound = a.sound;
            kept = past_kept s w.level 0 st n a.kept (omega arith);
            level = omega (arith, a.level);
          };
          same = g.same;
          less = omega (arith, g.less);
          goes = g.goes ∙ ap (λ (y : ℕ). walked s w y (tally_of st n)) (deeper d hd) ∙ walk_not s w (d - 1) (tally_of st n) h e;
        }

    -- a sum or a sequence, past its code
    module _ (two : (get_or s st.at 0 ≡ 5) ⊎ (get_or s st.at 0 ≡ 6)) (x : Result State ℕ) (v : Notes)
        (t : tallied x v ≡ walked s w (d - 1) (tally_of (moved 0 st) n)) where
      both : whole ≡ and_on (tallied x v) (walked s w (d - 1))
      both =
          g.goes ∙ ap (λ (y : ℕ). walked s w y (tally_of st n)) (deeper d hd)
          ∙ ⊎_elim (λ e. walk_sum s g.asked.sound w (d - 1) (tally_of st n) e h)
          (λ e. walk_seq s g.asked.sound w (d - 1) (tally_of st n) e h) two
          ∙ ap (λ (y : Result Tally ℕ). and_on y (walked s w (d - 1))) (sym t)

      pub round_off : (a : ℕ) → x ≡ Err a → tallied x v ≡ whole
      round_off a e =
          let b : whole ≡ and_on (tallied (Err a) v) (walked s w (d - 1)) = rw e at both in
          rw e (sym b)

      pub round_on : (l : State) → x ≡ Ok l → IfOk x (λ y. Kept s w.level (tally_of y v)) → Round s v l (d - 1) w whole o depth
      round_on l e k =
          let a = g.asked in
          record {
            asked = record { sound = a.sound; kept = rw e at k; level = omega (arith, a.level) };
            same = g.same;
            less = omega (arith, g.less);
            goes = both ∙ rw e;
          }
