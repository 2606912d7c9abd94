-- `leaf` meets its contract. Assumes nothing.
use native.Mathlib.Omega.{arith}
use mathlib.Core.Logic.{inl, inr}
use mathlib.Core.Path.{refl}
use lib.ListN.{get_or}
use Rattle.rules.proofs.ReadingLaws.{stands_known, stands_unknown}
use Rattle.typing.specs.Walking.{state, moved, answer}
use Rattle.typing.proofs.PackLaws.{is_state}
use Rattle.typing.proofs.LeafLaws.{leaf_on, leaf_off, leaf_noted, plain_left, plain_noted, field_noted}
use Rattle.typing.proofs.LeafLaws.{set_stops, set_stands, table_stands, table_stops, unknown_code}
use Rattle.typing.proofs.leaf.Goals as goal
use Rattle.typing.proofs.leaf.Goals.{then-way-2-via-then-way-2, then-way-2-via-else-way-2+then-way-3}

pub returns-then-way-clause-read : goal.returns-then-way-clause-read
returns-then-way-clause-read c =
    rw (c.refusal.ensures, c.place-then-way.ensures)
    (leaf_off _ (state c.args.st) c.args.way 3 (rw c.place.ensures at c.in-3.is) c.requires.inside (set_stops _ _ c.if-way.true))

pub returns-then-way-2-clause-read : goal.returns-then-way-2-clause-read
returns-then-way-2-clause-read c =
    rw (c.refusal-then-way-2.ensures, c.place-then-way-2.ensures)
    (leaf_off _ (state c.args.st) c.args.way 8 (rw c.place.ensures at c.in-8.is) c.requires.inside
    (table_stops _ _ (elim c.then-way-2.branch [
      | then-way-2-via-then-way-2 w ↦ inl w.if-way-2.true
      | then-way-2-via-else-way-2+then-way-3 w ↦ inr w.if-way-3.true
    ])))

pub returns-in-2 : goal.returns-in-2
returns-in-2 c =
    let code = rw c.place.ensures at c.in-2.is in
    record {
      read
          = leaf_on _ (state c.args.st) c.args.way 2 code c.requires.inside _ (stands_known _ _ 2 (omega arith) (λ e. omega arith)) refl
          c.field_part.ensures.read;
      within = c.field_part.ensures.within;
      noted = field_noted _ (state c.args.st) _ 2 (answer c.field_part.result) _ (omega arith) (omega arith) code;
    }

pub returns-else-way : goal.returns-else-way
returns-else-way c =
    let code = rw c.place.ensures at c.in-3.is in
    record {
      read
          = leaf_on _ (state c.args.st) c.args.way 3 code c.requires.inside _ (set_stands _ _ c.if-way.false) refl
          c.field_part-in-3.ensures.read;
      within = c.field_part-in-3.ensures.within;
      noted = field_noted _ (state c.args.st) _ 3 (answer c.field_part-in-3.result) _ (omega arith) (omega arith) code;
    }

pub returns-in-0-clause-read : goal.returns-in-0-clause-read
returns-in-0-clause-read c =
    rw (is_state _ (moved 0 (state c.args.st)) c.past.ensures (omega arith))
    (plain_left _ (state c.args.st) c.args.way (get_or c.args.s.now c.place.result 0) (omega arith) (rw c.place.ensures) c.requires.inside)

pub returns-in-0-clause-noted : goal.returns-in-0-clause-noted
returns-in-0-clause-noted c =
    plain_noted _ (state c.args.st) _ (get_or c.args.s.now c.place.result 0) (answer c.past.result) _ (omega arith) (rw c.place.ensures)

pub returns-in-4-to-7-clause-read : goal.returns-in-4-to-7-clause-read
returns-in-4-to-7-clause-read c =
    let code = get_or c.args.s.now c.place.result 0 in
    rw (c.refusal-in-4-to-7.ensures, c.place-in-4-to-7.ensures)
    (leaf_off _ (state c.args.st) c.args.way code (rw c.place.ensures) c.requires.inside
    (stands_unknown _ _ code
    (unknown_code code (rw (← c.place.ensures) at c.requires.leaf) (omega arith) (λ e. omega arith) (λ e. omega arith) (λ e. omega arith))))

pub returns-else-way-3 : goal.returns-else-way-3
returns-else-way-3 c =
    let code = rw c.place.ensures at c.in-8.is in
    record {
      read
          = leaf_on _ (state c.args.st) c.args.way 8 code c.requires.inside _ (table_stands _ _ c.if-way-2.false c.if-way-3.false) refl
          c.use_part.ensures.read;
      within = c.use_part.ensures.within;
      noted = leaf_noted _ (state c.args.st) c.args.way 8 code c.requires.inside _ _ _ c.use_part.ensures.noted;
    }
