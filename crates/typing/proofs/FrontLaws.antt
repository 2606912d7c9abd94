-- A body is walked in the front of the book that ends with it: what is read and decoded there is what the book says.
use Prim.Native.Nat.{ℕ, ◌+◌, ◌*◌, ◌≤◌}
use native.Mathlib.Omega.{arith}
use mathlib.Core.Path.{◌≡◌, sym, ◌∙◌}
use mathlib.Core.Bool.{Bool, not}
use mathlib.Core.List.{List}
use lib.ListN.{length, get_or, take, drop}
use lib.Seq.{get_or-take, length-take-le}
use Rattle.std.specs.Prelude.{Ok}
use Rattle.rules.specs.Books.{Scope, scope_of, first_body, Fine, most_depth, most_fields, most_tables, most_bytes, Bytes}
use Rattle.rules.specs.Reading.{read_part, part_at, fields_of, tables_of, reads_at, writes_at}
use Rattle.rules.proofs.Decoding.{bytes_take, unpopulated, Names, read, reads, read_front}
use Rattle.rules.proofs.Whole.{fine_same}
use Rattle.typing.specs.declared.Way.{Way}
use Rattle.typing.specs.declared.Notes.{Notes}
use Rattle.typing.specs.Walking.{shut, scope_at, unused, begun, body_way, Sound, Asked}

module _ (s : List ℕ) (e : ℕ) (h : first_body (tables_of s) ≤ e) where
  pub front_fields : fields_of (take e s) ≡ fields_of s
  front_fields = get_or-take e s 0 0 (omega arith)

  pub front_tables : tables_of (take e s) ≡ tables_of s
  front_tables = get_or-take e s 1 0 (omega arith)

  pub front_scope : (w : Way) → scope_at (take e s) w ≡ scope_of (fields_of s) (tables_of s) (not w.in_table)
  front_scope w = rw (front_fields, front_tables)

  pub front_shut : (x : ℕ) → x ≤ tables_of s → shut (take e s) x ≡ shut s x
  unfolding shut
  front_shut x l = rw (get_or-take e s (4 + 4 * x) 0 (omega arith), get_or-take e s (5 + 4 * x) 0 (omega arith))

  shut_names : (c : Scope) (f : List ℕ) → Names c (shut f)
  unfolding shut
  shut_names c f m x l u = unpopulated (reads_at f x) (writes_at f x)

  -- a part that is read in the front is decoded there as in the book
  pub front_part : Bytes s → (c : Scope) → c.tables ≡ tables_of s → (d : ℕ) (pred : Bool) (at a : ℕ)
      → read_part (take e s) c d pred at ≡ Ok a
      → (part_at (take e s) (shut (take e s)) d at ≡ part_at s (shut s) d at) × Fine c (shut s) d pred (part_at s (shut s) d at)
  front_part small c t d pred at a q =
      let f = take e s in
      let p = part_at f (shut f) d at in
      let g = read f (bytes_take e s small) c (shut f) (shut_names c f) d pred at a q in
      let fine : Fine c (shut s) d pred p = fine_same c (shut f) (shut s) (λ x l u. front_shut x (omega arith)) d pred p g.2 in
      let r = reads f c (shut s) d pred at p (drop a f) fine g.1 in
      let k = read_front s small c (shut s) (shut_names c s) e d pred at a q in
      let same : p ≡ part_at s (shut s) d at = sym r.1 ∙ k.1 in
      (same, k.0.2)

  -- what the walk relies on, from the numbers 1 to 4
  pub front_sound : Bytes s → fields_of s ≤ most_fields → tables_of s ≤ most_tables → e ≤ length s → length s ≤ most_bytes → Sound (take e s)
  front_sound small k m le few =
      let len : length (take e s) ≡ e = length-take-le e s le in
      record {
        bytes = λ i. omega (arith, bytes_take e s small i);
        fields = omega (arith, front_fields);
        tables = omega (arith, front_tables);
        head = omega (arith, front_tables, len);
        size = omega (arith, len);
      }

  -- a body begins below no concurrent part
  pub front_asked : (n : Notes) (start : ℕ) (table : Bool) → Bytes s → fields_of s ≤ most_fields → tables_of s ≤ most_tables → e ≤ length s
      → length s ≤ most_bytes → 1 ≤ start → start ≤ e → length n.uses ≡ 16 → ((x : ℕ) → (get_or n.uses x unused).count ≤ start)
      → Asked (take e s) n (begun start) most_depth (body_way table)
  front_asked n start table small k t le few lo hi room noted =
      let len : length (take e s) ≡ e = length-take-le e s le in
      record {
        sound = front_sound small k t le few;
        kept = record {
          start = lo;
          within = omega (arith, len);
          parts = omega arith;
          few = noted;
          room = room;
          deep = omega arith;
        };
        level = omega arith;
      }
