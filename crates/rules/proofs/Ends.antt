-- That a run ends as specs/Ends says: turned away exactly by the first number that applies, and otherwise let through; and what
-- each end leaves in the buffers.
use Rattle.std.specs.Prelude.{Err, Ok, Result}
use Prim.Native.Nat.{ℕ, ◌*◌, ◌≤◌}
use native.Mathlib.Omega.{arith}
use native.Mathlib.Nat.{suc-mul}
use native.Mathlib.Decide.{dec_le, ℕ_discrete}
use mathlib.Core.Path.{◌≡◌, refl, sym, ap, ◌∙◌, subst}
use mathlib.Core.Bool.{Bool, true, false}
use mathlib.Core.Logic.{◌⊎◌, inl, inr, ⊎_elim}
use mathlib.Core.List.{List, [], ◌∷◌, map}
use lib.ListN.{length, take, drop, replicate, length-append, length-replicate}
use lib.Seq.{take_all, take_at, take-take, drop_at}
use Rattle.rules.specs.declared.Refusal.{Refusal}
use Rattle.rules.specs.declared.Sizes.{Sizes}
use Rattle.rules.specs.declared.Finish.{Finish}
use Rattle.rules.specs.declared.Progress.{Progress}
use Rattle.rules.specs.declared.Ran.TheVariants.{Finished, Running}
use Rattle.rules.specs.Packets.{Packet, Packets, ◌∈◌, most_packets, values_of}
use Rattle.rules.specs.Parts.{names_open}
use Rattle.rules.specs.Reading.{fields_of, main_of}
use Rattle.rules.specs.Reading.{verdict}
use Rattle.rules.specs.Working.{room, width}
use Rattle.rules.specs.Answers.{area_words, start_set, overwritten, ran, ran_result, ran_area}
use Rattle.rules.specs.Ends.{Fitting, Buffered, TurnedAway, by_book, by_packet, by_buffer, by_table, by_width, by_room, Cleared}
use Rattle.rules.specs.Promises.{Granted, Admitted, Stops, finishes, goes_on}
use Rattle.rules.proofs.Answering.{ran_refused, ran_packet, ran_result_lem, ran_area_lem, ran_open, ran_wide, ran_positions}

-- ---- turned away

-- let through: admitted, with buffers that are long enough
abbrev pub LetThrough : (book packet : List ℕ) (words area : ℕ) → Type 0
LetThrough book packet words area = Admitted book packet × (most_packets * fields_of book ≤ words) × (area_words ≤ area)

module _ (book packet : List ℕ) (words area : ℕ) where
  granted_by : Buffered book packet words area → names_open (main_of book) ≡ false
      → width (main_of book) (start_set packet) ≤ most_packets → Granted book packet
  granted_by b n w = record {
    sizes = b.fitting.sizes;
    accepted = b.fitting.accepted;
    words = b.fitting.words;
    populated = n;
    narrow = w;
  }

  -- what turns a run away is what it answers, whatever the schedule
  pub turned_away_is : (schedule : List ℕ) (r : Refusal) → TurnedAway book packet words area r
      → ran book packet schedule words area ≡ Err r
  turned_away_is schedule r (by_book e) = ran_refused book packet schedule words area r e
  turned_away_is schedule r (by_packet {z} e n) = ran_packet book packet schedule words area z e n
  turned_away_is schedule r (by_buffer f (inl h)) =
      ran_result_lem book packet schedule words area f.sizes f.accepted f.words h
  turned_away_is schedule r (by_buffer f (inr h)) =
      ran_area_lem book packet schedule words area f.sizes f.accepted f.words h
  turned_away_is schedule r (by_table b o) =
      let f = b.fitting in
      ran_open book packet schedule words area f.sizes f.accepted f.words b.fits b.wide o
  turned_away_is schedule r (by_width b o w) =
      let f = b.fitting in
      ran_wide book packet schedule words area f.sizes f.accepted f.words b.fits b.wide o w
  turned_away_is schedule r (by_room b o w p) =
      ran_positions book packet schedule words area b.fits b.wide (granted_by b o w) p

  -- turned away or let through, test by test
  abbrev Sorted : Type 0
  Sorted = ((r : Refusal) × TurnedAway book packet words area r) ⊎ LetThrough book packet words area

  by_room_of : Buffered book packet words area → names_open (main_of book) ≡ false → width (main_of book) (start_set packet) ≤ most_packets
      → Dec (room (main_of book) (start_set packet) ≤ 160) → Sorted
  by_room_of b o w (yes h) = inr (record { granted = granted_by b o w; positions = h }, b.fits, b.wide)
  by_room_of b o w (no n) = inl (_, by_room b o w (omega (arith, n)))

  by_width_of : Buffered book packet words area → names_open (main_of book) ≡ false
      → Dec (width (main_of book) (start_set packet) ≤ 16) → Sorted
  by_width_of b o (yes h) = by_room_of b o h (dec_le (room (main_of book) (start_set packet)) 160)
  by_width_of b o (no n) = inl (_, by_width b o (omega (arith, n)))

  by_table_of : Buffered book packet words area → (o : Bool) → names_open (main_of book) ≡ o → Sorted
  by_table_of b true e = inl (_, by_table b e)
  by_table_of b false e = by_width_of b e (dec_le (width (main_of book) (start_set packet)) 16)

  by_buffer_of : Fitting book packet → Dec (16 * fields_of book ≤ words) → Dec (21760 ≤ area) → Sorted
  by_buffer_of f (no n) d = inl (_, by_buffer f (inl (omega (arith, n))))
  by_buffer_of f (yes h) (no n) = inl (_, by_buffer f (inr (omega (arith, n))))
  by_buffer_of f (yes h) (yes l) =
      by_table_of (record { fitting = f; fits = h; wide = l }) (names_open (main_of book)) refl

  by_packet_of : (z : Sizes) → verdict book ≡ Ok z → Dec (length packet ≡ fields_of book) → Sorted
  by_packet_of z e (no n) = inl (_, by_packet e n)
  by_packet_of z e (yes h) =
      by_buffer_of (record { sizes = z; accepted = e; words = h }) (dec_le (16 * fields_of book) words) (dec_le 21760 area)

  by_verdict_of : (v : Result Sizes Refusal) → verdict book ≡ v → Sorted
  by_verdict_of (Err r) e = inl (r, by_book e)
  by_verdict_of (Ok z) e = by_packet_of z e (ℕ_discrete (length packet) (fields_of book))

  pub sorted : ((r : Refusal) × TurnedAway book packet words area r) ⊎ LetThrough book packet words area
  sorted = by_verdict_of (verdict book) refl

-- a run that stops was not turned away
stops_runs : (book packet schedule : List ℕ) (r : Refusal) → Stops book packet schedule (Err r) → ⊥
stops_runs book packet schedule r (finishes h e) = let z : ◌≡◌ {A = ℕ} 0 1 = cc in absurd (omega arith)
stops_runs book packet schedule r (goes_on h l n m k e) = let z : ◌≡◌ {A = ℕ} 0 1 = cc in absurd (omega arith)

module _ (book packet schedule : List ℕ) (words area : ℕ)
    (stops : LetThrough book packet words area → Stops book packet schedule (ran book packet schedule words area)) where
  pub turned_away_was : (r : Refusal) → ran book packet schedule words area ≡ Err r → TurnedAway book packet words area r
  turned_away_was r e =
      ⊎_elim
      (λ (t : (q : Refusal) × TurnedAway book packet words area q).
      let s = turned_away_is book packet words area schedule t.0 t.1 in
      let same : t.0 ≡ r = cc in
      subst (λ (q : Refusal). TurnedAway book packet words area q) same t.1)
      (λ (l : LetThrough book packet words area). absurd (stops_runs book packet schedule r (rw e at (stops l))))
      (sorted book packet words area)

  pub let_through_was : ((r : Refusal) → ran book packet schedule words area ≡ Err r → ⊥) → LetThrough book packet words area
  let_through_was n =
      ⊎_elim
      (λ (t : (q : Refusal) × TurnedAway book packet words area q).
      absurd (n t.0 (turned_away_is book packet words area schedule t.0 t.1)))
      (λ (l : LetThrough book packet words area). l) (sorted book packet words area)

-- ---- what is left in the buffers

module _ (words buffer : List ℕ) (n : ℕ) (e : length words ≡ n) where
  pub overwritten_front : take n (overwritten words buffer) ≡ words
  unfolding overwritten
  overwritten_front = take_at words (drop (length words) buffer) n e

  pub overwritten_others : drop n (overwritten words buffer) ≡ drop n buffer
  unfolding overwritten
  overwritten_others = drop_at words (drop (length words) buffer) n e ∙ ap (λ (m : ℕ). drop m buffer) e

pub values_map : (k : ℕ) (s : Packets) → values_of k (map (take k) s) ≡ values_of k s
unfolding values_of
values_map k [] = refl
values_map k (x ∷ s) = let e : take k (take k x) ≡ take k x = take-take k k x (omega arith) in rw (e, values_map k s)

pub length_values : (k : ℕ) (s : Packets) → ((b : Packet) → b ∈ s → length b ≡ k) → length (values_of k s) ≡ length s * k
unfolding values_of
length_values k [] h = omega arith
length_values k (x ∷ s) h =
    let e : length (take k x) ≡ k = ap length (take_all k x (omega (arith, h x (inl refl)))) ∙ h x (inl refl) in
    simp (length-append, suc-mul) (omega (arith, e, length_values k s (λ b m. h b (inr m))))

-- the words of a set, where each packet has k once it is cut
module _ (k : ℕ) (s : Packets) (result : List ℕ) (long : (b : Packet) → b ∈ map (take k) s → length b ≡ k) where
  words_long : length (values_of k s) ≡ length (map (take k) s) * k
  words_long = ap length (sym (values_map k s)) ∙ length_values k (map (take k) s) long

  pub words_front : take (length (map (take k) s) * k) (overwritten (values_of k s) result) ≡ values_of k (map (take k) s)
  words_front = overwritten_front (values_of k s) result (length (map (take k) s) * k) words_long ∙ sym (values_map k s)

  pub words_others : drop (length (map (take k) s) * k) (overwritten (values_of k s) result) ≡ drop (length (map (take k) s) * k) result
  words_others = overwritten_others (values_of k s) result (length (map (take k) s) * k) words_long

zeros_clear : (area : List ℕ) → Cleared area (overwritten (replicate area_words 0) area)
zeros_clear area =
    let zeros : List ℕ = replicate area_words 0 in
    let e : length zeros ≡ 21760 = length-replicate {A = ℕ} area_words 0 in
    record { front = overwritten_front zeros area 21760 e; others = overwritten_others zeros area 21760 e }

module _ (book packet schedule result area : List ℕ) where
  pub finished_clears : (f : Finish) → ran book packet schedule (length result) (length area) ≡ Ok (Finished f)
      → Cleared area (ran_area book packet schedule (length result) area)
  unfolding ran_area
  finished_clears f e = rw e (zeros_clear area)

  pub running_clears : (p : Progress) → ran book packet schedule (length result) (length area) ≡ Ok (Running p)
      → Cleared area (ran_area book packet schedule (length result) area)
  unfolding ran_area
  running_clears p e = rw e (zeros_clear area)

  pub running_keeps : (p : Progress) → ran book packet schedule (length result) (length area) ≡ Ok (Running p)
      → ran_result book packet schedule result (length area) ≡ result
  unfolding ran_result
  running_keeps p e = rw e
