-- The verdict from what stands after all bodies, and the numbers 1 to 4 before them.
use Rattle.std.specs.Prelude.{Option, None, Some, Result, Err, Ok}
use Rattle.std.specs.Option.{option_or}
use Prim.Native.Nat.{ℕ, suc, max, ◌+◌, ◌<◌, ◌≤◌}
use native.Mathlib.Omega.{arith}
use native.Mathlib.Numerals.{add-one}
use mathlib.Core.Path.{◌≡◌, refl, sym, ◌∙◌}
use mathlib.Core.Bool.{Bool, true, false, cond, ◌&&◌, true≢false}
use mathlib.Core.Logic.{◌⊎◌, ⊎_elim}
use mathlib.Core.List.{List, [], ◌∷◌}
use lib.Dec.{leb}
use lib.ListN.{length}
use borrow.Author.Tests.{le-leb, leb-true}
use Rattle.rules.specs.declared.Reason.{Reason}
use Rattle.rules.specs.declared.Reason.TheVariants.{BookLength, Counts, Lengths, EntryMasks, Form, Limits, Typing}
use Rattle.rules.specs.Books.{most_bytes, most_fields, most_tables, most_parts, most_beside, first_body, entries}
use Rattle.rules.specs.Checks.{no_place, in_book}
use Rattle.rules.specs.Reading.{fields_of, tables_of, body_start, masks_right, read_entries, policy_of, wrongs_in, misfits_in}
use Rattle.rules.specs.Reading.{typing_faults, sizes_of, verdict}
use Rattle.rules.proofs.ReadingLaws.{and_was}
use Rattle.rules.proofs.Whole.{Readable}
use Rattle.rules.proofs.Acceptance.{Passed, passed_is}
use Rattle.rules.proofs.Refusing.{LengthKept, CountsKept, LimitsKept, refused_length, refused_counts, refused_lengths, refused_masks}
use Rattle.rules.proofs.Refusing.{refused_form, refused_limits, refused_typing}
use Rattle.typing.proofs.EntryLaws.{entries_end}
use Rattle.typing.specs.declared.Sums.{Sums}
use Rattle.typing.specs.declared.Notes.{Notes}
use Rattle.typing.specs.Walking.{mark}
use Rattle.typing.specs.Summing.{wrongs_of, misfits_of, wrongs_from, misfits_from, total_of, top_of, Fronted, So}
use Rattle.typing.specs.Summing.{Turned, Ends, Ended}
use Rattle.typing.proofs.TallyLaws.{mark_append, first_none}
use Rattle.typing.proofs.SumLaws.{wrongs_end, misfits_end}

-- ---- after the last table

pub so_ends : (s : List ℕ) (z : Sums) (n : Notes) (y : ℕ) → y ≡ suc (tables_of s) → So s y z n → Ended s (Ok z) n
unfolding Ended
so_ends s z n y q so =
    let count : z.parts ≡ so.own + total_of s n.uses (suc (tables_of s)) = rw q at so.count in
    let down : z.deep ≡ max so.own_deep (top_of s n.uses (suc (tables_of s))) = rw q at so.down in
    let wrong : option_or n.fault (wrongs_from s (suc (tables_of s))) ≡ wrongs_of s = rw q at so.fault in
    let unfit : option_or z.unfit (misfits_from s (suc (tables_of s))) ≡ misfits_of s = rw q at so.unfit in
    record {
      form = so.form ∙ entries_end s (suc (tables_of s)) y (omega arith);
      count = so.all ∙ sym count;
      down = so.deepest ∙ sym down;
      wrong = sym wrong ∙ rw (wrongs_end s) (first_none n.fault);
      unfit = sym unfit ∙ rw (misfits_end s) (first_none z.unfit);
    }

pub so_after : (s : List ℕ) (y : ℕ) (w : Result Sums ℕ) (z : Sums) (n : Notes) → w ≡ Ok z → Turned s y w n → So s (suc y) z n
unfolding Turned
so_after s y w z n q t = rw q at t

pub off_after : (s : List ℕ) (y : ℕ) (w : Result Sums ℕ) (a : ℕ) (n : Notes) → w ≡ Err a → Turned s y w n → Ended s (Err a) n
unfolding Turned Ended
off_after s y w a n q t = rw q at t

pub ended_all : (s : List ℕ) (w : Result Sums ℕ) (z : Sums) (n : Notes) → w ≡ Ok z → Ended s w n → Ends s z n.fault
unfolding Ended
ended_all s w z n q t = rw q at t

pub ended_off : (s : List ℕ) (w : Result Sums ℕ) (a : ℕ) (n : Notes) → w ≡ Err a → Ended s w n
    → read_entries s (suc (tables_of s)) 0 ≡ Err a
unfolding Ended
ended_off s w a n q t = rw q at t

-- ---- the numbers 5 to 7

-- a fault that is marked is the first of the list
marked_first : (l : List ℕ) (f : ℕ) → mark l ≡ Some f → (r : List ℕ) × (l ≡ f ∷ r)
marked_first [] f e = absurd cc
marked_first (a ∷ l) f e = let q : a ≡ f = cc in (l, rw q)

marked_none : (l : List ℕ) → mark l ≡ None → l ≡ []
marked_none [] e = refl
marked_none (a ∷ l) e = absurd cc

module _ (s : List ℕ) (F : Fronted s) where
  counts : CountsKept s
  counts = (F.fields.0, F.fields.1, F.tables)

  pub form_refused : (a : ℕ) → read_entries s (suc (tables_of s)) 0 ≡ Err a → Err (in_book Form a) ≡ verdict s
  form_refused a e = sym (refused_form s F.long counts F.lengths F.masks a e)

  module _ (z : Sums) (fault : Option ℕ) (E : Ends s z fault) where
    readable : Readable s
    readable = record {
      bytes = F.long;
      fields = F.fields;
      tables = F.tables;
      lengths = F.lengths;
      masks = F.masks;
      form = (length s, E.form);
    }

    pub over_limits : (most_parts < z.parts) ⊎ (most_beside < z.deep) → Err (no_place Limits) ≡ verdict s
    over_limits = ⊎_elim
        (λ h. sym (refused_limits s readable (λ k. omega (arith, k.0, E.count))))
        (λ h. sym (refused_limits s readable (λ k. omega (arith, k.1, E.down))))

    module _ (few : z.parts ≤ most_parts) (flat : z.deep ≤ most_beside) (first : Option ℕ) (ef : first ≡ option_or fault z.unfit) where
      limits : LimitsKept s
      limits = (omega (arith, E.count), omega (arith, E.down))

      faults_are : mark (typing_faults (policy_of s)) ≡ first
      unfolding typing_faults wrongs_of misfits_of
      faults_are =
          mark_append (wrongs_in (first_body (length (policy_of s).tables)) (entries (policy_of s)))
          (misfits_in (first_body (length (policy_of s).tables)) (entries (policy_of s))) ∙ rw (E.wrong, E.unfit) (sym ef)

      pub not_typed : (f : ℕ) → first ≡ Some f → Err (in_book Typing f) ≡ verdict s
      not_typed f e =
          let k = marked_first (typing_faults (policy_of s)) f (faults_are ∙ e) in
          sym (refused_typing s readable limits f k.0 k.1)

      pub accepted : first ≡ None → (k m : ℕ) → k ≡ fields_of s → m ≡ tables_of s
          → Ok (record { fields = k; tables = m; parts = z.parts; deep = z.deep }) ≡ verdict s
      unfolding sizes_of
      accepted e k m ek em =
          let passed : Passed s = record {
            readable = readable;
            parts = limits.0;
            deep = limits.1;
            typed = marked_none (typing_faults (policy_of s)) (faults_are ∙ e);
          } in
          rw (ek, em, ← E.count, ← E.down) (sym (passed_is s passed))

-- ---- the numbers 1 to 4

-- two bounds tested together
bounds : (a b c d : ℕ) → a ≤ b → c ≤ d → (leb a b && leb c d) ≡ true
bounds a b c d h k = rw (le-leb a b h) (le-leb c d k)

-- what a check that fails, or holds, says
pub check_off : (t : Bool) (why r : Reason) (x : Result Unit Reason) → x ≡ cond t (Ok tt) (Err why) → x ≡ Err r → (t ≡ false) × (r ≡ why)
check_off true why r x e q = let z : Ok tt ≡ Err r = sym e ∙ q in absurd cc
check_off false why r x e q = let z : Err why ≡ Err r = sym e ∙ q in (refl, cc)

pub check_on : (t : Bool) (why : Reason) (u : Unit) (x : Result Unit Reason) → x ≡ cond t (Ok tt) (Err why) → x ≡ Ok u → t ≡ true
check_on true why u x e q = refl
check_on false why u x e q = let z : Err why ≡ Ok u = sym e ∙ q in absurd cc

module _ (s : List ℕ) (t1 : Bool) (e1 : t1 ≡ (leb 2 (length s) && leb (length s) most_bytes)) where
  pub test_1 : t1 ≡ false → Err (no_place BookLength) ≡ verdict s
  test_1 q =
      sym (refused_length s (λ k. absurd (true≢false (sym (bounds 2 (length s) (length s) most_bytes k.0 k.1) ∙ sym e1 ∙ q))))

  module _ (q1 : t1 ≡ true) (t2 : Bool) (k m : ℕ) (ek : k ≡ fields_of s) (em : m ≡ tables_of s)
      (e2 : t2 ≡ (leb 1 k && (leb k most_fields && leb m most_tables))) where
    long : LengthKept s
    long =
        let b = and_was (leb 2 (length s)) (leb (length s) most_bytes) (sym e1 ∙ q1) in
        (leb-true 2 (length s) b.0, leb-true (length s) most_bytes b.1)

    pub test_2 : t2 ≡ false → Err (no_place Counts) ≡ verdict s
    test_2 q =
        sym (refused_counts s long (λ c.
        let t : (leb 1 k && (leb k most_fields && leb m most_tables)) ≡ true =
        rw (ek, em, le-leb 1 (fields_of s) c.0) (bounds (fields_of s) most_fields (tables_of s) most_tables c.1 c.2) in
        absurd (true≢false (sym t ∙ sym e2 ∙ q))))

    module _ (q2 : t2 ≡ true) (e : ℕ) (e3 : e ≡ body_start s (m + 1)) where
      few : CountsKept s
      few =
          let b2 = and_was (leb 1 k) (leb k most_fields && leb m most_tables) (sym e2 ∙ q2) in
          let b3 = and_was (leb k most_fields) (leb m most_tables) b2.1 in
          rw (← ek, ← em) (leb-true 1 k b2.0, leb-true k most_fields b3.0, leb-true m most_tables b3.1)

      next_table : body_start s (suc (tables_of s)) ≡ e
      next_table = sym (e3 ∙ rw (add-one, em))

      pub test_3 : (e ≡ length s → ⊥) → Err (no_place Lengths) ≡ verdict s
      test_3 q = sym (refused_lengths s long few (λ l. q (sym next_table ∙ l)))

      module _ (q3 : e ≡ length s) (t4 : Bool) (e4 : t4 ≡ masks_right s (suc (tables_of s)) 0) where
        pub test_4 : t4 ≡ false → Err (no_place EntryMasks) ≡ verdict s
        test_4 q = sym (refused_masks s long few (next_table ∙ q3) (sym e4 ∙ q))
