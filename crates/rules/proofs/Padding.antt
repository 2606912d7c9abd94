-- Packets of k words inside the layers: padded with zeros to all places they mean what they meant, in the same order.
use Rattle.std.specs.declared.cmp.Ordering.{Ordering}
use mathlib.Core.Path.{◌≡◌, refl, sym, ap, ◌∙◌, subst}
use mathlib.Core.Logic.{◌≢◌, inl, inr, ⊎_elim, ◌↔◌}
use mathlib.Core.List.{[], ◌∷◌, ◌++◌, map}
use Prim.Native.Nat.{ℕ, zero, suc, ◌+◌, ◌-◌, ◌≤◌, ◌<◌}
use native.Mathlib.Omega.{arith}
use native.Mathlib.Decide.{dec_lt}
use lib.Dec.{ltb}
use lib.ListN.{length, get_or, take, replicate, length-append, length-replicate}
use lib.Seq.{take_at}
use Rattle.rules.specs.Packets.{Packet, Packets, ◌∈◌, Before, Ascending, places, padded, passes, put, order_by, order_of}
use Rattle.rules.specs.Parts.{Part, Id, Drop, Test, Set, Not, Sum, Seq, Beside, Table, Open, Formed}
use Rattle.rules.specs.Typing.{Right}
use Rattle.rules.specs.Meaning.{Gives}
use Rattle.rules.specs.Working.{out}
use Rattle.rules.proofs.FieldsBelow.{FieldsBelow}
use Rattle.rules.proofs.Orders.{order_refl}
use Rattle.rules.proofs.Sets.{after_out, after_in, map_out, map_in, unique}
use Rattle.rules.proofs.PacketLaws.{packet_ext, passes_alike, length_put, put_other, put_like}
use Rattle.rules.proofs.Exact.{meaning_one, ascends}

-- ---- padded packets

get_or_alike : (n i x : ℕ) → get_or (replicate n x) i x ≡ x
get_or_alike zero i x = refl
get_or_alike (suc n) zero x = refl
get_or_alike (suc n) (suc i) x = get_or_alike n i x

get_or_then_zeros : (a : Packet) (n i : ℕ) → get_or (a ++ replicate n 0) i 0 ≡ get_or a i 0
get_or_then_zeros [] n i = get_or_alike n i 0
get_or_then_zeros (x ∷ a) n zero = refl
get_or_then_zeros (x ∷ a) n (suc i) = get_or_then_zeros a n i

pub get_or_padded : (a : Packet) (i : ℕ) → get_or (padded a) i 0 ≡ get_or a i 0
unfolding padded
get_or_padded a i = get_or_then_zeros a (places - length a) i

pub length_padded : (a : Packet) → length a ≤ places → length (padded a) ≡ places
unfolding padded
length_padded a h =
    length-append a (replicate (places - length a) 0) ∙ ap (λ (n : ℕ). length a + n) (length-replicate (places - length a) 0)
    ∙ omega arith

pub take_padded : (k : ℕ) (b : Packet) → length b ≡ k → take k (padded b) ≡ b
unfolding padded
take_padded k b e = take_at b (replicate (places - length b) 0) k e

-- what stands after packets as long does not matter to their order
order_append : (a b z : Packet) → length a ≡ length b → order_of (a ++ z) (b ++ z) ≡ order_of a b
unfolding order_of
order_append [] [] z e = order_refl z
order_append [] (y ∷ b) z e = absurd (omega arith)
order_append (x ∷ a) [] z e = absurd (omega arith)
order_append (x ∷ a) (y ∷ b) z e = ap (λ (o : Ordering). order_by (ltb x y) (ltb y x) o) (order_append a b z (omega arith))

pub order_padded : (a b : Packet) → length a ≡ length b → order_of (padded a) (padded b) ≡ order_of a b
unfolding padded
order_padded a b e =
    ap (λ (n : ℕ). order_of (padded a) (b ++ replicate (places - n) 0)) (sym e)
    ∙ order_append a b (replicate (places - length a) 0) e

pub passes_padded : (f v : ℕ) (a : Packet) → passes f v (padded a) ≡ passes f v a
passes_padded f v a = passes_alike f v (padded a) a (get_or_padded a f)

pub put_padded : (f v : ℕ) (a : Packet) → f < length a → length a ≤ places → put f v (padded a) ≡ padded (put f v a)
put_padded f v a h l =
    packet_ext (put f v (padded a)) (padded (put f v a))
    (long ∙ sym (length_padded (put f v a) (rw (length_put f v a) l)))
    (λ i m. at_field i (rw long at m) (dec_lt i (length a)) ∙ sym (get_or_padded (put f v a) i))
  where
    long : length (put f v (padded a)) ≡ places
    long = length_put f v (padded a) ∙ length_padded a l

    at_field : (i : ℕ) → i < places → Dec (i < length a) → get_or (put f v (padded a)) i 0 ≡ get_or (put f v a) i 0
    at_field i m (yes y) = put_like f v i (padded a) a (rw (length_padded a l) m) y (get_or_padded a f) (get_or_padded a i)
    at_field i m (no n) =
        let o : i ≢ f = λ e. n (rw e h) in put_other f v i (padded a) o ∙ get_or_padded a i ∙ sym (put_other f v i a o)

-- ---- the meaning of a part that names no field from k on

-- what is given is as long
pub as_long : (p : Part) (a b : Packet) → Gives p a b → length b ≡ length a
as_long Id a b g = ap length g
as_long Drop a b g = absurd g
as_long (Test f v) a b g = ap length g.1
as_long (Set f v) a b g = ap length g ∙ length_put f v a
as_long (Not p) a b g = ap length g.0
as_long (Sum p q) a b g = ⊎_elim (λ (h : Gives p a b). as_long p a b h) (λ (h : Gives q a b). as_long q a b h) g
as_long (Seq p q) a b g = as_long q g.0 b g.2 ∙ as_long p a g.0 g.1
as_long (Beside wp wq p q) a b g = as_long q g.0 b g.2 ∙ as_long p a g.0 g.1
as_long (Table x r w start p) a b g = as_long p a b g
as_long (Open x r w) a b g = absurd g

-- c is a packet of k words, padded, that p gives of a
abbrev pub GivesPadded : ℕ → Part → Packet → Packet → Type 0
GivesPadded k p a c = (b : Packet) × (length b ≡ k) × (c ≡ padded b) × Gives p a b

-- what p gives goes into the padded packets and comes back
record Carries (k : ℕ) (p : Part) : Type 0 where
  there : (a b : Packet) → length a ≡ k → Gives p a b → Gives p (padded a) (padded b)
  back : (a c : Packet) → length a ≡ k → Gives p (padded a) c → GivesPadded k p a c

carries_then : (k : ℕ) (p q : Part) → Carries k p → Carries k q → Carries k (Seq p q)
carries_then k p q hp hq = record {
  there = λ a b l g. (padded g.0, hp.there a g.0 l g.1, hq.there g.0 b (as_long p a g.0 g.1 ∙ l) g.2);
  back = λ a c l g.
      let r = hp.back a g.0 l g.1 in
      let t = hq.back r.0 c r.1 (subst (λ (x : Packet). Gives q x c) r.2 g.2) in
      (t.0, t.1, t.2, (r.0, r.3, t.3));
}

module _ (k : ℕ) (few : k ≤ places) where
  carries : (p : Part) → FieldsBelow k p → Carries k p
  carries Id h = record { there = λ a b l g. ap padded g; back = λ a c l g. (a, l, g, refl) }
  carries Drop h = record { there = λ a b l g. g; back = λ a c l g. absurd g }
  carries (Test f v) h = record {
    there = λ a b l g. (passes_padded f v a ∙ g.0, ap padded g.1);
    back = λ a c l g. (a, l, g.1, (sym (passes_padded f v a) ∙ g.0, refl));
  }
  carries (Set f v) h = record {
    there = λ a b l g. ap padded g ∙ sym (put_padded f v a (rw l h) (rw l few));
    back = λ a c l g. (put f v a, length_put f v a ∙ l, g ∙ put_padded f v a (rw l h) (rw l few), refl);
  }
  carries (Not p) h = record {
    there = λ a b l g. (ap padded g.0, λ c m. let r = (carries p h).back a c l m in g.1 r.0 r.3);
    back = λ a c l g. (a, l, g.0, (refl, λ b m. g.1 (padded b) ((carries p h).there a b l m)));
  }
  carries (Sum p q) h = record {
    there = λ a b l g.
        ⊎_elim (λ (m : Gives p a b). inl ((carries p h.0).there a b l m)) (λ (m : Gives q a b). inr ((carries q h.1).there a b l m)) g;
    back = λ a c l g.
        ⊎_elim (λ (m : Gives p (padded a) c). let r = (carries p h.0).back a c l m in (r.0, r.1, r.2, inl r.3))
        (λ (m : Gives q (padded a) c). let r = (carries q h.1).back a c l m in (r.0, r.1, r.2, inr r.3)) g;
  }
  carries (Seq p q) h = carries_then k p q (carries p h.0) (carries q h.1)
  carries (Beside wp wq p q) h =
      let r = carries_then k p q (carries p h.0) (carries q h.1) in record { there = r.there; back = r.back }
  carries (Table x r w start p) h = record { there = (carries p h).there; back = (carries p h).back }
  carries (Open x r w) h = record { there = λ a b l g. g; back = λ a c l g. absurd g }

  pub padded_gives : (p : Part) → FieldsBelow k p → (a c : Packet) → length a ≡ k → Gives p (padded a) c ↔ GivesPadded k p a c
  padded_gives p h a c l = (
    (carries p h).back a c l,
    λ g. subst (λ (x : Packet). Gives p (padded a) x) (sym g.2) ((carries p h).there a g.0 l g.3),
  )

-- ---- demand 2 for the words: the first k values of the packets that a part gives of a padded packet

-- every packet of s is one of k words, padded
abbrev AllPadded : ℕ → Packets → Type 0
AllPadded k s = (c : Packet) → c ∈ s → (b : Packet) × (length b ≡ k) × (c ≡ padded b)

take_before : (k : ℕ) (s : Packets) → AllPadded k s → (c d : Packet) → c ∈ s → d ∈ s → Before c d → Before (take k c) (take k d)
take_before k s h c d m n e =
    let x = h c m in
    let y = h d n in
    let ex : take k c ≡ x.0 = ap (take k) x.2 ∙ take_padded k x.0 x.1 in
    let ey : take k d ≡ y.0 = ap (take k) y.2 ∙ take_padded k y.0 y.1 in
    ap (λ (z : Packet). order_of z (take k d)) ex ∙ ap (order_of x.0) ey ∙ sym (order_padded x.0 y.0 (x.1 ∙ sym y.1))
    ∙ sym (ap (λ (z : Packet). order_of z (padded y.0)) x.2) ∙ sym (ap (order_of c) y.2) ∙ e

take_ascending : (k : ℕ) (s : Packets) → AllPadded k s → Ascending s → Ascending (map (take k) s)
take_ascending k [] h a = tt
take_ascending k (x ∷ s) h a = (
  after_in (take k x) (map (take k) s)
      (λ b m. let r = map_out (take k) b s m in
      subst (λ (z : Packet). Before (take k x) z) (sym r.2)
      (take_before k (x ∷ s) h x r.0 (inl refl) (inr r.1) (after_out x r.0 s a.0 r.1))),
  take_ascending k s (λ c m. h c (inr m)) a.1,
)

module _ (p : Part) (formed : Formed p) (right : Right p) (k : ℕ) (few : k ≤ places) (below : FieldsBelow k p)
    (a : Packet) (long : length a ≡ k) where
  abbrev rows : Packets
  rows = out p (padded a ∷ [])

  from_row : (c : Packet) → c ∈ rows → GivesPadded k p a c
  from_row c m = (padded_gives k few p below a c long).0 ((meaning_one p formed right (padded a) c).0 m)

  pub words_exact : (b : Packet) → (b ∈ map (take k) (out p (padded a ∷ []))) ↔ Gives p a b
  words_exact b = (to, from)
    where
      to : b ∈ map (take k) rows → Gives p a b
      to m =
          let r = map_out (take k) b rows m in
          let g = from_row r.0 r.1 in
          subst (λ (x : Packet). Gives p a x) (sym (r.2 ∙ ap (take k) g.2 ∙ take_padded k g.0 g.1)) g.3

      from : Gives p a b → b ∈ map (take k) rows
      from g =
          let l : length b ≡ k = as_long p a b g ∙ long in
          map_in (take k) b (padded b) rows
          ((meaning_one p formed right (padded a) (padded b)).1 ((padded_gives k few p below a (padded b) long).1 (b, l, refl, g)))
          (sym (take_padded k b l))

  pub words_ascending : Ascending (map (take k) (out p (padded a ∷ [])))
  words_ascending =
      take_ascending k rows (λ c m. let g = from_row c m in (g.0, g.1, g.2)) (ascends p (padded a ∷ []) (tt, tt))

  pub words_determined : (t : Packets) → Ascending t → ((b : Packet) → (b ∈ t) ↔ Gives p a b)
      → t ≡ map (take k) (out p (padded a ∷ []))
  words_determined t h e =
      unique t (map (take k) rows) h words_ascending (λ b. (λ m. (words_exact b).1 ((e b).0 m), λ m. (e b).1 ((words_exact b).0 m)))
