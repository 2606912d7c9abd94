-- No run is stuck: in every state that a right part can reach, each live position has every field in T and M of the part standing there.
use Prim.Native.Nat.{ℕ, ◌+◌, ◌%◌}
use mathlib.Core.Path.{◌≡◌, refl, sym, ◌∙◌}
use mathlib.Core.Bool.{false≢true}
use mathlib.Core.List.{List, [], ◌∷◌, map}
use lib.Bits.{bit_or}
use Rattle.rules.specs.Masks.{less, Sub}
use Rattle.rules.specs.Packets.{Packets, without}
use Rattle.rules.specs.Parts.{Part, Id, Drop, Test, Set, Not, Sum, Seq, Beside, Table, Open, size}
use Rattle.rules.specs.Typing.{tested, written, Right}
use Rattle.rules.specs.States.{Spot, on, moved, losing, Join, entered, split, paired, Tree}
use Rattle.rules.specs.States.{place, enter, finish, leave, next, ready, move, run, used, lacking, stuck_steps, stuck_in}
use Rattle.rules.specs.Fields.{Holds, Later, same, second, body, Stands, here, ended, first, under, summed, parted, sides, Has}
use Rattle.rules.specs.Lists.{All, none, also}
use Rattle.rules.proofs.Lists.{all_append, all_map, all_or}
use Rattle.rules.proofs.MaskLaws.{has_zero, sub_or_l, sub_or_r, less_in}
use Rattle.rules.proofs.MaskExt.{sub_within}
use Rattle.rules.proofs.TypingLaws.{right_sides, fit_body}

later_still : {p q r : Part} → Later p q → Later q r → Later p r
later_still same k = k
later_still (second h) k = second (later_still h k)
later_still (body h) k = body (later_still h k)

-- ---- the parts of a part hold too

module _ {h : ℕ} (p q : Part) where
  either_left : Right p → Sub (bit_or (tested p) (tested q)) h → Sub (bit_or (written p) (written q)) h → Holds h p
  either_left r t m =
      record {
        right = r;
        tests = λ f k. t f (sub_or_l (tested p) (tested q) f k);
        writes = λ f k. m f (sub_or_l (written p) (written q) f k);
      }

  either_right : Right q → Sub (bit_or (tested p) (tested q)) h → Sub (bit_or (written p) (written q)) h → Holds h q
  either_right r t m =
      record {
        right = r;
        tests = λ f k. t f (sub_or_r (tested p) (tested q) f k);
        writes = λ f k. m f (sub_or_r (written p) (written q) f k);
      }

module _ {h : ℕ} {p q : Part} where
  sum_left : Holds h (Sum p q) → Holds h p
  unfolding tested written
  sum_left a = either_left p q a.right.0 a.tests a.writes

  sum_right : Holds h (Sum p q) → Holds h q
  unfolding tested written
  sum_right a = either_right p q a.right.1 a.tests a.writes

  seq_left : Holds h (Seq p q) → Holds h p
  unfolding tested written
  seq_left a = either_left p q a.right.0 a.tests a.writes

  seq_right : Holds h (Seq p q) → Holds h q
  unfolding tested written
  seq_right a = either_right p q a.right.1 a.tests a.writes

  module _ {wp wq : ℕ} where
    side_left : Holds h (Beside wp wq p q) → Holds (less h wq) p
    unfolding tested written
    side_left a =
        let m = right_sides wp wq p q a.right.0 in record {
          right = a.right.1;
          tests = λ f k. less_in h wq f (a.tests f (sub_or_l (tested p) (tested q) f k)) (m.reads_p f k);
          writes = λ f k. less_in h wq f (a.writes f (sub_or_l wp wq f (m.writes_p f k))) (m.apart_q f (m.writes_p f k));
        }

    side_right : Holds h (Beside wp wq p q) → Holds (less h wp) q
    unfolding tested written
    side_right a =
        let m = right_sides wp wq p q a.right.0 in record {
          right = a.right.2;
          tests = λ f k. less_in h wp f (a.tests f (sub_or_r (tested p) (tested q) f k)) (m.reads_q f k);
          writes = λ f k. less_in h wp f (a.writes f (sub_or_r wp wq f (m.writes_q f k))) (m.apart_p f (m.writes_q f k));
        }

not_under : {h : ℕ} {p : Part} → Holds h (Not p) → Holds h p
unfolding tested written
not_under a = record { right = a.right; tests = a.tests; writes = a.writes }

table_body : {h x r w start : ℕ} {p : Part} → Holds h (Table x r w start p) → Holds h p
unfolding tested written
table_body {h} {x} {r} {w} {start} {p} a =
    let m = fit_body r w p a.right.0 in
    record { right = a.right.1; tests = λ f k. a.tests f (m.reads f k); writes = λ f k. a.writes f (m.writes f k) }

-- ---- every step keeps it

pub has_place : (o : Spot) (p : Part) (s : Packets) → Holds o.fields p → Stands o.fields p (place o p s)
unfolding place
has_place o Id s a = ended a
has_place o Drop s a = here a
has_place o (Test f v) s a = here a
has_place o (Set f v) s a = here a
has_place o (Not p) s a = here a
has_place o (Sum p q) s a = here a
has_place o (Seq p q) s a = first {o = on (1 + size p) o} a same (has_place (on 1 o) p s (seq_left a))
has_place o (Beside wp wq p q) s a = here a
has_place o (Table x r w start p) s a = here a
has_place o (Open x r w) s a = here a

pub has_enter : (o : Spot) (p : Part) (s : Packets) → Holds o.fields p → Has o.fields p (enter o p s)
unfolding enter
has_enter o Id s a = (Id, same, ended a)
has_enter o Drop s a = (Drop, same, ended a)
has_enter o (Test f v) s a = (Test f v, same, ended a)
has_enter o (Set f v) s a = (Set f v, same, ended a)
has_enter o (Not p) s a = (Not p, same, under a same (has_place (on 1 o) p s (not_under a)))
has_enter o (Sum p q) s a = (
  Sum p q,
  same,
  summed a same (has_place (on 1 o) p s (sum_left a)) same (has_place (on (1 + size p) o) q s (sum_right a)),
)
has_enter o (Seq p q) s a = (Seq p q, same, first {o = on (1 + size p) o} a same (has_place (on 1 o) p s (seq_left a)))
has_enter o (Beside wp wq p q) [] a = (Beside wp wq p q, same, ended a)
has_enter o (Beside wp wq p q) (x ∷ []) a =
    let l = has_place (losing wq (on 3 o)) p (without wq x ∷ []) (side_left a) in
    let r = has_place (losing wp (on (3 + size p) o)) q (without wp x ∷ []) (side_right a) in
    (Beside wp wq p q, same, sides a same l same r)
has_enter o (Beside wp wq p q) (x ∷ (y ∷ s)) a = (Beside wp wq p q, same, parted a same (here a) same (here a))
has_enter o (Table x r w start p) s a = (p, body same, has_place (moved start o) p s (table_body a))
has_enter o (Open x r w) s a = (Open x r w, same, ended a)

all_mapped : {A B : Type 0} {P : B → Type 0} (f : A → B) → ((x : A) → P (f x)) → (xs : List A) → All P (map f xs)
all_mapped f g [] = none
all_mapped f g (x ∷ xs) = also (g x) (all_mapped f g xs)

has_leave : {h : ℕ} {p : Part} (j : Join) (a b : List Packets) → Holds h p → All (Has h p) (leave j a b)
unfolding leave
has_leave j [] b c = none
has_leave {h} {p} j (s ∷ a) b c = all_mapped _ (λ t. (p, same, ended c)) b

pub has_next : {h : ℕ} {p : Part} {t : Tree} → Stands h p t → All (Has h p) (next t)
unfolding next
has_next (here {o} {p} {s} a) = also (has_enter o p s a) none
has_next (ended a) = none
has_next (first {o} {p} {q} {p'} {t} a l b) =
    all_append (all_mapped _ (λ s. (q, second same, has_place o q s (seq_right a))) (finish t))
    (all_map _ (λ t' k. (Seq p q, same, first a (later_still l k.1) k.2)) (has_next b))
has_next (under {h} {p} {p'} {k} {t} a l b) =
    all_append (all_mapped _ (λ s. (Not p, same, ended a)) (finish t))
    (all_map _ (λ t' c. (Not p, same, under a (later_still l c.1) c.2)) (has_next b))
has_next (summed {h} {p} {q} {p'} {q'} {t} {u} a l b m c) =
    all_append (has_leave entered (finish t) (finish u) a) (all_append
    (all_map _ (λ t' k. (Sum p q, same, summed a (later_still l k.1) k.2 m c)) (has_next b))
    (all_map _ (λ u' k. (Sum p q, same, summed a l b (later_still m k.1) k.2)) (has_next c)))
has_next (parted {h} {wp} {wq} {p} {q} {p'} {q'} {t} {u} a l b m c) =
    all_append (has_leave split (finish t) (finish u) a) (all_append
    (all_map _ (λ t' k. (Beside wp wq p q, same, parted a (later_still l k.1) k.2 m c)) (has_next b))
    (all_map _ (λ u' k. (Beside wp wq p q, same, parted a l b (later_still m k.1) k.2)) (has_next c)))
has_next (sides {h} {wp} {wq} {p} {q} {p'} {q'} {t} {u} a l b m c) =
    all_append (has_leave (paired wp wq) (finish t) (finish u) a) (all_append
    (all_map _ (λ t' k. (Beside wp wq p q, same, sides a (later_still l k.1) k.2 m c)) (has_next b))
    (all_map _ (λ u' k. (Beside wp wq p q, same, sides a l b (later_still m k.1) k.2)) (has_next c)))

-- ---- no step is stuck

sub_none : (h : ℕ) → Sub 0 h
sub_none h f k = absurd (false≢true (sym (has_zero f) ∙ k))

used_held : (h : ℕ) (p : Part) → Holds h p → Sub (used p) h
unfolding used tested written
used_held h Id a = sub_none h
used_held h Drop a = sub_none h
used_held h (Test f v) a = a.tests
used_held h (Set f v) a = a.writes
used_held h (Not p) a = sub_none h
used_held h (Sum p q) a = sub_none h
used_held h (Seq p q) a = sub_none h
used_held h (Beside wp wq p q) a = sub_none h
used_held h (Table x r w start p) a = sub_none h
used_held h (Open x r w) a = sub_none h

lacks_none : (o : Spot) (p : Part) → Holds o.fields p → lacking o p ≡ []
unfolding lacking
lacks_none o p a = rw (sub_within (used p) o.fields (used_held o.fields p a))

abbrev Empty : List ℕ → Type 0
Empty l = l ≡ []

no_stuck : {h : ℕ} {p : Part} {t : Tree} → Stands h p t → All Empty (stuck_steps t)
unfolding stuck_steps
no_stuck (here {o} {p} a) = also (lacks_none o p a) none
no_stuck (ended a) = none
no_stuck (first {t = t} a l b) = all_append (all_mapped _ (λ s. refl) (finish t)) (no_stuck b)
no_stuck (under {t = t} a l b) = all_append (all_mapped _ (λ s. refl) (finish t)) (no_stuck b)
no_stuck (summed a l b m c) = all_append (all_mapped _ (λ t. refl) (leave entered _ _)) (all_append (no_stuck b) (no_stuck c))
no_stuck (parted a l b m c) = all_append (all_mapped _ (λ t. refl) (leave split _ _)) (all_append (no_stuck b) (no_stuck c))
no_stuck (sides a l b m c) = all_append (all_mapped _ (λ t. refl) (leave (paired _ _) _ _)) (all_append (no_stuck b) (no_stuck c))

runs_on : (bs : List ℕ) {h : ℕ} {p : Part} {t : Tree} → Stands h p t → Has h p (run t bs) × (stuck_in t bs ≡ [])
unfolding run stuck_in move
runs_on [] {h} {p} a = ((p, same, a), refl)
runs_on (b ∷ bs) {h} {p} {t} a =
    let k = all_or (has_next a) (b % ready t) t (p, same, a) in
    let r = runs_on bs k.2 in
    ((r.0.0, later_still k.1 r.0.1, r.0.2), rw (all_or (no_stuck a) (b % ready t) [] refl) r.1)

-- every state that a right part comes to, in a position that has the fields in its T and M
pub never_stuck : (o : Spot) (p : Part) → Right p → Sub (tested p) o.fields → Sub (written p) o.fields → (s : Packets) (bs : List ℕ)
    → Has o.fields p (run (place o p s) bs) × (stuck_in (place o p s) bs ≡ [])
never_stuck o p r t m s bs = runs_on bs (has_place o p s (record { right = r; tests = t; writes = m }))
