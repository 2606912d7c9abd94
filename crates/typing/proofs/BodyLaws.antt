-- A whole body from the walk of its one part.
use Prim.Native.Nat.{ℕ, ◌+◌}
use mathlib.Core.Path.{◌≡◌, refl, sym, ap, ◌∙◌}
use mathlib.Core.Bool.{Bool, false}
use mathlib.Core.List.{List}
use lib.ListN.{length}
use Rattle.std.specs.Prelude.{Result, Ok, Err, IfOk}
use Rattle.rules.specs.Parts.{size}
use Rattle.rules.specs.Books.{most_depth}
use Rattle.rules.specs.Reading.{read_part, part_at}
use Rattle.rules.proofs.ReadingLaws.{body_wrong, body_whole, body_rest}
use Rattle.rules.proofs.Decoding.{read, read_end}
use Rattle.typing.specs.Walking.{State}
use Rattle.typing.specs.declared.Notes.{Notes}
use Rattle.typing.specs.Walking.{Tally, told, way_of, walked, tallied, begun, shut, scope_at, Kept, body_way, Asked, Body, tally_of}
use Rattle.typing.proofs.WalkLaws.{bytes, names}

going_was : (r : Result ℕ ℕ) (t u : Tally) → Ok u ≡ way_of r t → (e : ℕ) × (r ≡ Ok e) × (u ≡ t)
going_was (Ok e) t u q = (e, refl, cc)
going_was (Err a) t u q = absurd cc

stopped_was : (r : Result ℕ ℕ) (t : Tally) (a : ℕ) → Err a ≡ way_of r t → r ≡ Err a
stopped_was (Ok e) t a q = absurd cc
stopped_was (Err b) t a q = cc

module _ (s : List ℕ) (n : Notes) (start : ℕ) (table : Bool) (a : Asked s n (begun start) most_depth (body_way table))
    (x : Result State ℕ) (v : Notes) (t : tallied x v ≡ walked s (body_way table) most_depth (tally_of (begun start) n))
    (k : IfOk x (λ y. Kept s 0 (tally_of y v))) where
  pub body_off : (e : ℕ) → x ≡ Err e → Body s table start (tally_of (begun start) n) x v
  unfolding Body walked
  body_off e q =
      let c = scope_at s (body_way table) in
      let p = told (part_at s (shut s) most_depth start) 0 (tally_of (begun start) n) in
      let f : Err e ≡ way_of (read_part s c most_depth false start) p = rw q at t in
      rw q (body_wrong s c start e (stopped_was (read_part s c most_depth false start) p e f))

  module _ (st : State) (q : x ≡ Ok st) where
    Was : Type 0
    Was =
        (read_part s (scope_at s (body_way table)) most_depth false start ≡ Ok st.at)
        × (tally_of st v ≡ told (part_at s (shut s) most_depth start) 0 (tally_of (begun start) n))

    was : Was
    unfolding Was walked
    was =
        let w = body_way table in
        let c = scope_at s w in
        let p = part_at s (shut s) most_depth start in
        let t' = told p 0 (tally_of (begun start) n) in
        let f : Ok (tally_of st v) ≡ way_of (read_part s c most_depth false start) t' = rw q at t in
        let g = going_was (read_part s c most_depth false start) t' (tally_of st v) f in
        let r = read s (bytes s a.sound w) c (shut s) (names s a.sound w) most_depth false start g.0 g.1 in
        let e : g.0 ≡ start + size p = read_end s c (shut s) most_depth false start g.0 r in
        (g.1 ∙ ap (λ (i : ℕ). Ok i) (e ∙ sym (ap (λ (i : Tally). i.at) g.2)), g.2)

    kept : Kept s 0 (tally_of st v)
    kept = rw q at k

    pub body_on : st.at ≡ length s → Body s table start (tally_of (begun start) n) (Ok st) v
    unfolding Body Was
    body_on h =
        (body_whole s (scope_at s (body_way table)) start (length s) (was.0 ∙ ap (λ (i : ℕ). Ok i) h) refl, was.1, kept)

    pub body_more : (st.at ≡ length s → ⊥) → Body s table start (tally_of (begun start) n) (Err st.at) v
    unfolding Body Was
    body_more h = body_rest s (scope_at s (body_way table)) start st.at was.0 h
