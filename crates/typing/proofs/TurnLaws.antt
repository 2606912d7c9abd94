-- One body after another: what stands after the main body, and after a table's.
use Prim.Native.Nat.{ℕ, suc, max, ◌+◌, ◌*◌, ◌-◌, ◌<◌, ◌≤◌}
use native.Mathlib.Omega.{arith}
use native.Mathlib.Nat.{zero-mul, mul-zero}
use native.Mathlib.Numerals.{add-one}
use mathlib.Core.Path.{◌≡◌, refl, sym, ap, subst, ◌∙◌}
use mathlib.Core.Bool.{Bool, true, false, cond}
use mathlib.Core.List.{List}
use mathlib.Core.Option.{none, some}
use lib.Dec.{eqb}
use lib.ListN.{length, get_or, take}
use lib.Seq.{length-take-le}
use borrow.Author.Tests.{eq-eqb, ne_eqb}
use Rattle.std.specs.Option.{option_or}
use Rattle.rules.specs.Parts.{Part, size, parts, deep}
use Rattle.rules.specs.Typing.{fits, fit_masks, wrongs}
use Rattle.rules.specs.Books.{Scope, scope_of, Fine, bytes_of, first_body, no_use, most_depth, most_bytes}
use Rattle.rules.specs.Reading.{read_part, read_body, read_entry, read_entries, part_at, fields_of, tables_of, length_at, reads_at, writes_at}
use Rattle.rules.specs.Reading.{body_start, body_at, use_at, main_of}
use Rattle.rules.proofs.Decoding.{then_was, body_read}
use Rattle.rules.proofs.Whole.{names_use, names_none}
use Rattle.typing.proofs.EntryLaws.{entries_stop, entries_step, entry_open, entry_table}
use Rattle.std.specs.Prelude.{None, Some, Result, Ok, Err}
use Rattle.typing.specs.Walking.{State}
use Rattle.typing.specs.declared.Use.{Use}
use Rattle.typing.specs.declared.Notes.{Notes}
use Rattle.typing.specs.declared.Sums.{Sums}
use Rattle.typing.specs.Walking.{told, tally_of, begun, mark, shut, unused, body_way, Asked, Body}
use Rattle.typing.specs.Summing.{total, reach, top, total_of, top_of, body_parts, body_deep, wrongs_from, misfits_from}
use Rattle.typing.specs.Summing.{Fronted, Cleared, So, Turned}
use Rattle.typing.proofs.TallyLaws.{first_assoc}
use Rattle.typing.proofs.CountLaws.{part_filled, fine_shut}
use Rattle.typing.proofs.FillLaws.{Like, fill_like, none_noted, zero_noted, below_noted}
use Rattle.typing.proofs.FrontLaws.{front_scope, front_part, front_asked}
use Rattle.typing.proofs.TableLaws.{table_part}
use Rattle.typing.proofs.SizeLaws.{main_parts, main_deep}
use Rattle.typing.proofs.SumLaws.{starts_up, start_zero, start_next, wrongs_step, misfits_step, misfit_some, misfit_none}
use Rattle.typing.proofs.SumLaws.{wrong_some, wrong_none}
use Rattle.typing.proofs.SumLaws.{wrongs_main, misfits_main, Found, found}

total_one : (e : ℕ → ℕ) (l : List Use) → get_or l 0 unused ≡ unused → total e l 1 ≡ 0
unfolding total
total_one e l h = rw (h, zero-mul (e 0))

top_one : (e : ℕ → ℕ) (l : List Use) → get_or l 0 unused ≡ unused → top e l 1 ≡ 0
unfolding top
top_one e l h = rw h

total_next : (e : ℕ → ℕ) (l : List Use) (y : ℕ) → total e l (suc y) ≡ total e l y + (get_or l y unused).count * e y
unfolding total
total_next e l y = refl

top_next : (e : ℕ → ℕ) (l : List Use) (y : ℕ) → top e l (suc y) ≡ max (top e l y) (reach e l y)
unfolding top
top_next e l y = refl

-- the notes before a table's body
abbrev pub flat : Notes → Notes
flat n = record { fault = n.fault; deep = 0; uses = n.uses }

module _ (s : List ℕ) (F : Fronted s) where
  in_book_lem : (y : ℕ) → y ≤ tables_of s → body_start s (suc y) ≤ length s
  in_book_lem y h = omega (arith, starts_up s (suc y) (suc (tables_of s)) (omega arith), F.lengths)

  above : (y : ℕ) → first_body (tables_of s) ≤ body_start s y
  above y = omega (arith, starts_up s 0 y (omega arith), start_zero s)

  module _ (table : Bool) (y : ℕ) (l : y ≤ tables_of s) (at k : ℕ) (ea : at ≡ body_start s y) (ek : k ≡ length_at s y) where
    pub end_is : at + k ≡ body_start s (suc y)
    end_is = omega (arith, ea, ek, start_next s y)

    pub end_in : at + k ≤ length s
    end_in = omega (arith, end_is, in_book_lem y l)

    pub entry_asked : (n : Notes) → length n.uses ≡ 16 → ((x : ℕ) → (get_or n.uses x unused).count ≤ at)
        → Asked (take (at + k) s) n (begun at) most_depth (body_way table)
    entry_asked n room few =
        front_asked s (at + k) (omega (arith, end_is, above (suc y))) n at table F.bytes F.fields.1 F.tables end_in F.long.1
        (omega (arith, ea, above y)) (omega arith) room few

    entry_body : (n v : Notes) (x : Result State ℕ) → Body (take (at + k) s) table at (tally_of (begun at) n) x v
        → Body (take (body_start s (suc y)) s) table (body_start s y) (tally_of (begun (body_start s y)) n) x v
    entry_body n v x b =
        subst (λ (a : ℕ). Body (take (body_start s (suc y)) s) table a (tally_of (begun a) n) x v) ea
        (subst (λ (e : ℕ). Body (take e s) table at (tally_of (begun at) n) x v) end_is b)

  -- ---- the main body
  c : Scope
  c = scope_of (fields_of s) (tables_of s) true

  p : Part
  p = part_at s (shut s) most_depth (body_start s 0)

  module _ (n : Notes) (K : Cleared n) (st : State) (v : Notes)
      (b : Body (take (body_start s 1) s) false (body_start s 0) (tally_of (begun (body_start s 0)) n) (Ok st) v) where
    record Main : Type 0 where
      read : (a : ℕ) × (read_body (take (body_start s 1) s) c (body_start s 0) ≡ Ok a)
      told : Found p (body_start s 0) st n v
      fine : Fine c (shut s) most_depth false p
      ends : body_start s 1 ≡ body_start s 0 + size (main_of s)
      count : parts (main_of s) ≡ st.parts + total_of s v.uses (suc (tables_of s))
      down : deep (main_of s) ≡ max v.deep (top_of s v.uses (suc (tables_of s)))
      room : length v.uses ≡ 16
      few : (x : ℕ) → (get_or v.uses x unused).count ≤ body_start s 1
      small : st.parts ≤ most_bytes

    main_told : Main
    unfolding Body read_body main_of c p
    main_told =
        let A : ℕ = body_start s 0 in
        let E : ℕ = body_start s 1 in
        let f : List ℕ = take E s in
        let h = above 1 in
        let q : read_body f c A ≡ Ok (length f) = rw (front_scope s E h (body_way false)) at b.0 in
        let w = then_was (read_part f c most_depth false A) (λ a. cond (eqb a (length f)) (Ok a) (Err a)) (length f) q in
        let g = front_part s E h F.bytes c refl most_depth false A w.0 w.1 in
        let tally : tally_of st v ≡ told p 0 (tally_of (begun A) n) = rw g.0 at b.1 in
        let len : length f ≡ E = length-take-le E s (in_book_lem 0 (omega arith)) in
        record {
          read = (length f, q);
          told = found p A st n v tally;
          fine = g.1;
          ends = (body_read s F.bytes c (use_at s) (names_use c s) A E (length f) (in_book_lem 0 (omega arith)) q).1;
          count = main_parts s F.bytes F.tables E h st n v K w.0 w.1 b.1;
          down = main_deep s F.bytes F.tables E h st n v K w.0 w.1 b.1;
          room = b.2.room;
          few = λ x. omega (arith, b.2.few x, b.2.within, len);
          small = omega (arith, b.2.parts, b.2.within, len, in_book_lem 0 (omega arith), F.long.1);
        }

    -- the main policy, with its tables' bodies, as the walk tells it
    main_like : Main → Like (main_of s) p
    unfolding main_of c p
    main_like g =
        rw (part_filled s (use_at s) most_depth (body_start s 0))
        (fill_like s c most_depth false (part_at s (shut s) most_depth (body_start s 0)) g.fine)

    one_more : (g : Main) → read_entries s (suc (tables_of s)) 0 ≡ read_entries s (suc (tables_of s) - 1) 1
    unfolding read_entries read_entry c
    one_more g = let e : suc (tables_of s) - 1 ≡ tables_of s = omega arith in rw (e, g.read.1)

    main_levels : (g : Main) (x : ℕ) → x < 16 → (get_or v.uses x unused).level ≤ v.deep
    unfolding c
    main_levels g =
        let t = g.told in
        let shuts = fine_shut s c (suc (tables_of s)) (omega arith) most_depth false p g.fine in
        rw t.uses (below_noted v.deep (suc (tables_of s)) (omega (arith, F.tables)) p 0 n.uses K.room shuts (omega (arith, t.down))
        (λ y l. rw (K.clean y) (omega arith)))

    main_unused : (g : Main) → get_or v.uses 0 unused ≡ unused
    main_unused g =
        let t = g.told in
        ap (λ (l : List Use). get_or l 0 unused) t.uses ∙ zero_noted s c most_depth false p 0 n.uses g.fine ∙ K.clean 0

    main_so : Main → (z : Sums) → z.at ≡ body_start s 1 → z.parts ≡ st.parts → z.deep ≡ v.deep
        → z.unfit ≡ cond (fit_masks (reads_at s 0) (writes_at s 0) st.tests st.writes) None (Some (body_start s 0))
        → So s 1 z v
    main_so g z za zp zd zu =
        let t = g.told in
        let k = main_like g in
        let none = main_unused g in
        let no-total = total_one (λ x. body_parts (body_at s x)) v.uses none in
        let no_top = top_one (λ x. body_deep (body_at s x)) v.uses none in
        let fault : v.fault ≡ mark (wrongs (body_start s 0) (main_of s))
        = t.fault ∙ rw K.right (ap mark (sym (k.3 (body_start s 0)))) in
        let same : fit_masks (reads_at s 0) (writes_at s 0) st.tests st.writes ≡ fits (reads_at s 0) (writes_at s 0) (main_of s)
        = rw (t.tests, t.writes, k.0, k.1) in
        record {
          own = st.parts;
          own_deep = v.deep;
          place = za;
          room = g.room;
          few = λ x. omega (arith, za, g.few x);
          form = one_more g;
          small = omega (arith, zp, g.small);
          levels = main_levels g;
          count = omega (arith, zp, no-total);
          down = omega (arith, zd, no_top);
          all = g.count;
          deepest = g.down;
          fault = rw fault (sym (wrongs_main s g.ends));
          unfit = rw (zu, same) (sym (misfits_main s g.ends));
        }

  module _ (at k : ℕ) (ea : at ≡ body_start s 0) (ek : k ≡ length_at s 0) (n : Notes) (K : Cleared n) (x : Result State ℕ) (v : Notes)
      (b : Body (take (at + k) s) false at (tally_of (begun at) n) x v) where
    pub main_off : (a : ℕ) → x ≡ Err a → Turned s 0 (Err a) v
    unfolding Body Turned read_entries read_entry
    main_off a q =
        let e : Body (take (body_start s 1) s) false (body_start s 0) (tally_of (begun (body_start s 0)) n) (Err a) v
        = subst (λ (x : Result State ℕ). Body (take (body_start s 1) s) false (body_start s 0) (tally_of (begun (body_start s 0)) n) x v) q
        (entry_body false 0 (omega arith) at k ea ek n v x b) in
        let r : read_body (take (body_start s 1) s) (scope_of (fields_of s) (tables_of s) true) (body_start s 0) ≡ Err a
        = rw (front_scope s (body_start s 1) (above 1) (body_way false)) at e in
        rw r

    pub main_on : (st : State) → x ≡ Ok st → (t : Bool) (r w : ℕ) → r ≡ reads_at s 0 → w ≡ writes_at s 0
        → t ≡ fit_masks r w st.tests st.writes → (z : Sums) → z.at ≡ at + k → z.parts ≡ st.parts → z.deep ≡ v.deep
        → z.unfit ≡ option_or None (cond t None (Some at)) → Turned s 0 (Ok z) v
    unfolding Turned
    main_on st q t r w er ew et z za zp zd zu =
        let e : Body (take (body_start s 1) s) false (body_start s 0) (tally_of (begun (body_start s 0)) n) (Ok st) v
        = subst (λ (x : Result State ℕ). Body (take (body_start s 1) s) false (body_start s 0) (tally_of (begun (body_start s 0)) n) x v) q
        (entry_body false 0 (omega arith) at k ea ek n v x b) in
        main_so n K st v e (main_told n K st v e) z (za ∙ end_is false 0 (omega arith) at k ea ek) zp zd (zu ∙ rw (et, er, ew, ea))

  -- ---- a table's body
  body_of : ℕ → Part
  body_of y = part_at s no_use most_depth (body_start s y)

  module _ (y : ℕ) (z : Sums) (n : Notes) (so : So s y z n) (lo : 1 ≤ y) (hi : y ≤ tables_of s) where
    not_main : y ≡ 0 → ⊥
    not_main q = absurd (omega arith)

    step : (r : Result ℕ ℕ) (a : ℕ) → r ≡ read_entry s y → r ≡ Ok a
        → read_entries s (suc (tables_of s)) 0 ≡ read_entries s (suc (tables_of s) - suc y) (suc y)
    step r a e q = so.form ∙ rw add-one at (entries_step s (suc (tables_of s)) y r (omega arith) e a q)

    open_body : length_at s y ≡ 0 → body_at s y ≡ none
    unfolding body_at
    open_body z = rw (eq-eqb (length_at s y) 0 z)

    -- one that is not populated
    pub table_open : (k : ℕ) → k ≡ length_at s y → k ≡ 0 → Turned s y (Ok z) n
    unfolding Turned bytes_of
    table_open k ek q =
        let body : body_at s y ≡ none = open_body (sym ek ∙ q) in
        let e : body_start s (suc y) ≡ body_start s y + length (bytes_of (body_at s y)) = rw body (omega (arith, ek, start_next s y)) in
        let ws : wrongs_from s y ≡ wrongs_from s (suc y)
        = wrongs_step s y hi e ∙ rw (body, wrong_none (body_start s y)) in
        let ms : misfits_from s y ≡ misfits_from s (suc y)
        = misfits_step s y hi e
        ∙ rw (body, misfit_none (body_start s y) (record { reads = reads_at s y; writes = writes_at s y; body = none })) in
        let u : Use = get_or n.uses y unused in
        let t : total_of s n.uses (suc y) ≡ total_of s n.uses y
        = total_next (λ x. body_parts (body_at s x)) n.uses y ∙ rw (body, mul-zero (get_or n.uses y unused).count) (omega arith) in
        let d : top_of s n.uses (suc y) ≡ max (top_of s n.uses y) (cond (eqb u.count 0) 0 (u.level + 0))
        = top_next (λ x. body_deep (body_at s x)) n.uses y ∙ rw body in
        let below = reach_below (eqb u.count 0) u.level so.own_deep (so.levels y (omega (arith, F.tables))) in
        record {
          own = so.own;
          own_deep = so.own_deep;
          place = omega (arith, so.place, ek, start_next s y);
          room = so.room;
          few = so.few;
          form = step (Ok z.at) z.at (entry_open s y z.at k 0 0 (Ok 0) so.place ek not_main q) refl;
          small = omega (arith, so.small);
          levels = so.levels;
          count = so.count ∙ ap (λ (i : ℕ). so.own + i) (sym t);
          down = so.down ∙ sym (ap (max so.own_deep) d ∙ absorb so.own_deep (top_of s n.uses y) (cond (eqb u.count 0) 0 (u.level + 0)) below);
          all = so.all;
          deepest = so.deepest;
          fault = rw (sym ws) so.fault;
          unfit = rw (sym ms) so.unfit;
        }
      where
        reach_below : (t : Bool) (a b : ℕ) → a ≤ b → cond t 0 (a + 0) ≤ b
        reach_below true a b h = omega arith
        reach_below false a b h = omega arith

        absorb : (a b c : ℕ) → c ≤ a → max a (max b c) ≡ max a b
        absorb a b c h = omega arith

    -- one that is
    module _ (k : ℕ) (ek : k ≡ length_at s y) (full : k ≡ 0 → ⊥) (x : Result State ℕ) (v : Notes)
        (b : Body (take (z.at + k) s) true z.at (tally_of (begun z.at) (flat n)) x v) where
      entry_is : (r : Result ℕ ℕ) → r ≡ read_body (take (body_start s (suc y)) s) (scope_of (fields_of s) (tables_of s) false) (body_start s y)
          → r ≡ read_entry s y
      entry_is r e =
          let at : body_start s y + length_at s y ≡ body_start s (suc y) = sym (start_next s y) in
          entry_table s y (body_start s y) (length_at s y) (fields_of s) (tables_of s) r refl refl refl refl not_main
          (λ q. full (ek ∙ q)) (rw at e)

      moved : Body (take (body_start s (suc y)) s) true (body_start s y) (tally_of (begun (body_start s y)) (flat n)) x v
      moved = entry_body true y hi z.at k so.place ek (flat n) v x b

      pub table_off : (a : ℕ) → x ≡ Err a → Turned s y (Err a) v
      unfolding Body Turned
      table_off a q =
          let e : Body (take (body_start s (suc y)) s) true (body_start s y) (tally_of (begun (body_start s y)) (flat n)) (Err a) v
          = subst (λ (x : Result State ℕ). Body (take (body_start s (suc y)) s) true (body_start s y)
          (tally_of (begun (body_start s y)) (flat n)) x v) q moved in
          let r : read_body (take (body_start s (suc y)) s) (scope_of (fields_of s) (tables_of s) false) (body_start s y) ≡ Err a
          = rw (front_scope s (body_start s (suc y)) (above (suc y)) (body_way true)) at e in
          so.form ∙ entries_stop s (suc (tables_of s)) y (Err a) (omega arith) (entry_is (Err a) (sym r)) a refl

      module _ (st : State) (q : x ≡ Ok st) where
        record One : Type 0 where
          read : (a : ℕ) × (Ok a ≡ read_entry s y)
          told : Found (body_of y) (body_start s y) st (flat n) v
          same : v.uses ≡ n.uses
          body : body_at s y ≡ some (body_of y)
          ends : body_start s (suc y) ≡ body_start s y + length (bytes_of (body_at s y))

        one_told : One
        unfolding Body read_body body_at bytes_of body_of
        one_told =
            let A : ℕ = body_start s y in
            let E : ℕ = body_start s (suc y) in
            let f : List ℕ = take E s in
            let c : Scope = scope_of (fields_of s) (tables_of s) false in
            let h = above (suc y) in
            let le = in_book_lem y hi in
            let e : Body f true A (tally_of (begun A) (flat n)) (Ok st) v
            = subst (λ (x : Result State ℕ). Body f true A (tally_of (begun A) (flat n)) x v) q moved in
            let r : read_body f c A ≡ Ok (length f) = rw (front_scope s E h (body_way true)) at e.0 in
            let g = then_was (read_part f c most_depth false A) (λ a. cond (eqb a (length f)) (Ok a) (Err a)) (length f) r in
            let tp = table_part s E h F.bytes A g.0 g.1 in
            let tally : tally_of st v ≡ told (body_of y) 0 (tally_of (begun A) (flat n)) = rw tp at e.1 in
            let t = found (body_of y) A st (flat n) v tally in
            let br = body_read s F.bytes c no_use (names_none (fields_of s) (tables_of s) no_use) A E (length f) le r in
            let has : body_at s y ≡ some (body_of y) = rw (ne_eqb (length_at s y) 0 (λ j. full (ek ∙ j))) in
            record {
              read = (length f, entry_is (Ok (length f)) (sym r));
              told = t;
              same = t.uses ∙ none_noted (fields_of s) (tables_of s) no_use most_depth false (body_of y) 0 n.uses br.3;
              body = has;
              ends = rw has br.1;
            }

        one_so : One → (i : Sums) → i.at ≡ body_start s (suc y) → i.parts ≡ z.parts + (get_or v.uses y unused).count * st.parts
            → i.parts ≤ z.parts + 4294967296
            → i.deep ≡ max z.deep (cond (eqb (get_or v.uses y unused).count 0) 0 ((get_or v.uses y unused).level + v.deep))
            → i.unfit ≡ option_or z.unfit (cond (fit_masks (reads_at s y) (writes_at s y) st.tests st.writes) None (Some (body_start s y)))
            → So s (suc y) i v
        one_so g i xa xp xs xd xu =
            let t = g.told in
            let A : ℕ = body_start s y in
            let u : Use = get_or v.uses y unused in
            let below : v.deep ≡ deep (body_of y) = omega (arith, t.down) in
            let tn : total_of s v.uses (suc y) ≡ total_of s v.uses y + (get_or v.uses y unused).count * st.parts
            = total_next (λ j. body_parts (body_at s j)) v.uses y ∙ rw (g.body, t.count) in
            let dn : top_of s v.uses (suc y) ≡ max (top_of s v.uses y) (cond (eqb u.count 0) 0 (u.level + v.deep))
            = top_next (λ j. body_deep (body_at s j)) v.uses y ∙ rw (g.body, below) in
            let same : fit_masks (reads_at s y) (writes_at s y) st.tests st.writes ≡ fits (reads_at s y) (writes_at s y) (body_of y)
            = rw (t.tests, t.writes) in
            let ws : wrongs_from s y ≡ option_or (mark (wrongs A (body_of y))) (wrongs_from s (suc y))
            = wrongs_step s y hi g.ends ∙ rw (g.body, wrong_some A (body_of y)) in
            let ms : misfits_from s y ≡ option_or (cond (fits (reads_at s y) (writes_at s y) (body_of y)) None (Some A)) (misfits_from s (suc y))
            = misfits_step s y hi g.ends
            ∙ rw (g.body, misfit_some A (record { reads = reads_at s y; writes = writes_at s y; body = some (body_of y) }) (body_of y)) in
            let sp : z.parts ≡ so.own + total_of s v.uses y = rw g.same so.count in
            let sd : z.deep ≡ max so.own_deep (top_of s v.uses y) = rw g.same so.down in
            record {
              own = so.own;
              own_deep = so.own_deep;
              place = xa;
              room = rw g.same so.room;
              few = rw g.same (λ j. omega (arith, so.few j, so.place, xa, starts_up s y (suc y) (omega arith)));
              form = step (Ok g.read.0) g.read.0 g.read.1 refl;
              small = omega (arith, xs, so.small);
              levels = rw g.same so.levels;
              count = omega (arith, xp, sp, tn);
              down = xd ∙ rw (sd, dn) (max_three so.own_deep (top_of s v.uses y) (cond (eqb u.count 0) 0 (u.level + v.deep)));
              all = rw g.same so.all;
              deepest = rw g.same so.deepest;
              fault = rw t.fault (sym (first_assoc n.fault (mark (wrongs A (body_of y))) (wrongs_from s (suc y))) ∙ rw (sym ws) so.fault);
              unfit = rw (xu, same)
                  (sym (first_assoc z.unfit (cond (fits (reads_at s y) (writes_at s y) (body_of y)) None (Some A)) (misfits_from s (suc y)))
                  ∙ rw (sym ms) so.unfit);
            }
          where
            max_three : (a b c : ℕ) → max (max a b) c ≡ max a (max b c)
            max_three a b c = omega arith

        pub table_on : (t : Bool) (r w : ℕ) → r ≡ reads_at s y → w ≡ writes_at s y → t ≡ fit_masks r w st.tests st.writes
            → (i : Sums) → i.at ≡ z.at + k → i.parts ≡ z.parts + (get_or v.uses y unused).count * st.parts → i.parts ≤ z.parts + 4294967296
            → i.deep ≡ max z.deep (cond (eqb (get_or v.uses y unused).count 0) 0 ((get_or v.uses y unused).level + v.deep))
            → i.unfit ≡ option_or z.unfit (cond t None (Some z.at)) → Turned s y (Ok i) v
        unfolding Turned
        table_on t r w er ew et i xa xp xs xd xu =
            one_so one_told i (xa ∙ end_is true y hi z.at k so.place ek) xp xs xd (xu ∙ rw (et, er, ew, so.place))
