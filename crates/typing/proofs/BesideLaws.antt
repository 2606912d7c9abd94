-- A concurrent part as the code walks it: into its sides, and out of them.
use Prim.Native.Nat.{ℕ, suc, max, ◌+◌, ◌≤◌}
use native.Mathlib.Omega.{arith}
use mathlib.Core.Path.{◌≡◌, sym, ◌∙◌}
use mathlib.Core.List.{List}
use lib.ListN.{length}
use Rattle.std.specs.Prelude.{Option, Result, Ok, Err, IfOk}
use Rattle.rules.specs.declared.Head.{Head}
use Rattle.rules.specs.Codes.{operands_of}
use Rattle.rules.specs.Reading.{read_operands, head, head_at, fields_of, tables_of}
use Rattle.rules.proofs.ReadingLaws.{head_is, operands_were}
use Rattle.typing.specs.Walking.{State}
use Rattle.typing.specs.declared.Way.{Way}
use Rattle.typing.specs.declared.Notes.{Notes}
use Rattle.typing.specs.Walking.{state, answer, and_on, walked, tallied, tally_of, moved, bare, joined, right_states, fault_after, Kept, Asked, BesideAsked}
use Rattle.typing.proofs.PackLaws.{is_state}
use Rattle.typing.proofs.TallyLaws.{bared, met}
use Rattle.typing.proofs.WalkLaws.{inner, beside_stop, walk_beside}

-- the notes at one depth more, and with another fault
abbrev pub sunk : ℕ → Notes → Notes
sunk o n = record { fault = n.fault; deep = max n.deep (o + 1); uses = n.uses }

abbrev pub faulted : Option ℕ → Notes → Notes
faulted f n = record { fault = f; deep = n.deep; uses = n.uses }

module _ (s : List ℕ) (n : Notes) (st : State) (d : ℕ) (w : Way) (a : BesideAsked s n st d w) (ops : Result ℕ ℕ)
    (eo : ops ≡ read_operands s (fields_of s) (tables_of s) 7 st.at) where
  pub beside_refused : (b : ℕ) → ops ≡ Err b → Err b ≡ walked s w (suc d) (tally_of st n)
  beside_refused b e = sym (beside_stop s a.asked.sound w d b (tally_of st n) a.code a.free a.inside (sym eo ∙ e))

  module _ (from : ℕ) (en : ops ≡ Ok from) where
    inside : (from ≡ st.at + 1 + operands_of 7) × (st.at + 1 + operands_of 7 ≤ length s)
    inside = let w = operands_were s (fields_of s) (tables_of s) 7 st.at from (sym eo ∙ en) in (w.0, w.1)

    goes : walked s w (suc d) (tally_of st n)
        ≡ and_on (walked s (inner w) d (tally_of (moved 2 (bare st)) (sunk w.level n))) (λ l. and_on (walked s (inner w) d (bared l))
        (λ r. Ok (met (head s st.at).left (head s st.at).right (tally_of st n) l r)))
    goes = walk_beside s a.asked.sound w d from (tally_of st n) a.code a.free a.inside (sym eo ∙ en) inside.0

    -- into the first side
    pub first_asked : Asked s (sunk w.level n) (moved 2 (bare st)) d (inner w)
    first_asked =
        let k = a.asked.kept in
        record {
          sound = a.asked.sound;
          kept = record {
            start = omega arith;
            within = inside.1;
            parts = omega (arith, k.parts);
            few = λ x. omega (arith, k.few x);
            room = k.room;
            deep = omega arith;
          };
          level = omega (arith, a.asked.level);
        }

    -- out of the first side
    module _ (x : Result State ℕ) (v : Notes) (t : tallied x v ≡ walked s (inner w) d (tally_of (moved 2 (bare st)) (sunk w.level n)))
        (k : IfOk x (λ y. Kept s (inner w).level (tally_of y v))) where
      pub first_off : (b : ℕ) → x ≡ Err b → tallied x v ≡ walked s w (suc d) (tally_of st n)
      first_off b e =
          let f : Err b ≡ walked s (inner w) d (tally_of (moved 2 (bare st)) (sunk w.level n)) = rw e at t in
          rw (e, goes, ← f)

      module _ (l : State) (el : x ≡ Ok l) where
        left : Ok (tally_of l v) ≡ walked s (inner w) d (tally_of (moved 2 (bare st)) (sunk w.level n))
        left = rw el at t

        -- out of both
        module _ (y : Result State ℕ) (u : Notes) (h : tallied y u ≡ walked s (inner w) d (tally_of (bare l) v))
            (g : IfOk y (λ i. Kept s (inner w).level (tally_of i u))) where
          pub second_off : (b : ℕ) → y ≡ Err b → tallied y u ≡ walked s w (suc d) (tally_of st n)
          second_off b e =
              let f : Err b ≡ walked s (inner w) d (tally_of (bare l) v) = rw e at h in
              rw (e, goes, ← left, ← f)

          module _ (r : State) (er : y ≡ Ok r) (i : Head) (ei : i ≡ head_at s st.at) where
            pub both_told : Ok (tally_of (joined i.left i.right st l r) (faulted (fault_after n.fault (right_states i.left i.right l r) st.at u.fault) u))
                ≡ walked s w (suc d) (tally_of st n)
            both_told =
                let f : Ok (tally_of r u) ≡ walked s (inner w) d (tally_of (bare l) v) = rw er at h in
                let j : i ≡ head s st.at = ei ∙ head_is s st.at a.inside in
                rw (goes, ← left, ← f, j)

            pub both_kept : (f : Option ℕ) → Kept s w.level (tally_of (joined i.left i.right st l r) (faulted f u))
            both_kept f =
                let c : Kept s (inner w).level (tally_of r u) = rw er at g in
                record { start = c.start; within = c.within; parts = c.parts; few = c.few; room = c.room; deep = omega (arith, c.deep) }

            pub joined_is : (z : ℕ) → state z ≡ joined i.left i.right st l r → answer z ≡ Ok (joined i.left i.right st l r)
            joined_is z e =
                let c : Kept s (inner w).level (tally_of r u) = rw er at g in
                is_state z (joined i.left i.right st l r) e c.start
