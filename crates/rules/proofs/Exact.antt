-- What the steps lead to is the published meaning: out gives, in ascending order, exactly the packets that Gives says.
use mathlib.Core.Path.{◌≡◌, refl, sym, ◌∙◌, subst}
use mathlib.Core.Logic.{inl, inr, ⊎_elim, ◌↔◌}
use mathlib.Core.List.{[], ◌∷◌, map}
use Prim.Native.Nat.{ℕ}
use Rattle.rules.specs.Packets.{Packet, Packets, ◌∈◌, Ascending, passes, put, without, union, lacks, pairs}
use Rattle.rules.specs.Parts.{Part, Id, Drop, Test, Set, Not, Sum, Seq, Beside, Table, Open, Predicate, Formed}
use Rattle.rules.specs.Typing.{Right}
use Rattle.rules.specs.Meaning.{Gives, Among}
use Rattle.rules.specs.Working.{each, out}
use Rattle.rules.proofs.Sets.{cast∈, single, union_out, union_in, gathered_out, gathered_in, map_out, map_in, keep_out, keep_in}
use Rattle.rules.proofs.Sets.{pairs_out, pairs_in, lacks_out, lacks_in, union_ascending, gathered_ascending, keep_ascending}
use Rattle.rules.proofs.Sets.{pairs_ascending, unique}
use Rattle.rules.proofs.Serial.{serializes}

-- ---- packet by packet, with the sets united

pub each_out : (f : Packet → Packets) (b : Packet) (s : Packets) → b ∈ each [] f union s → (a : Packet) × (a ∈ s) × (b ∈ f a)
unfolding each
each_out f b [] m = absurd m
each_out f b (x ∷ []) m = (x, inl refl, m)
each_out f b (x ∷ (y ∷ s)) m =
    ⊎_elim (λ (k : b ∈ f x). (x, inl refl, k))
    (λ (k : b ∈ each [] f union (y ∷ s)). let r = each_out f b (y ∷ s) k in (r.0, inr r.1, r.2))
    (union_out b (f x) (each [] f union (y ∷ s)) m)

pub each_in : (f : Packet → Packets) (b a : Packet) (s : Packets) → a ∈ s → b ∈ f a → b ∈ each [] f union s
unfolding each
each_in f b a [] m k = absurd m
each_in f b a (x ∷ []) m k = subst (λ (c : Packet). b ∈ f c) (single a x m) k
each_in f b a (x ∷ (y ∷ s)) (inl e) k =
    union_in b (f x) (each [] f union (y ∷ s)) (inl (subst (λ (c : Packet). b ∈ f c) e k))
each_in f b a (x ∷ (y ∷ s)) (inr m) k = union_in b (f x) (each [] f union (y ∷ s)) (inr (each_in f b a (y ∷ s) m k))

pub each_ascending : (f : Packet → Packets) → ((x : Packet) → Ascending (f x)) → (s : Packets) → Ascending (each [] f union s)
unfolding each
each_ascending f h [] = tt
each_ascending f h (x ∷ []) = h x
each_ascending f h (x ∷ (y ∷ s)) = union_ascending (f x) (each [] f union (y ∷ s)) (h x)

-- ---- a predicate gives the packet itself or nothing

pub itself : (p : Part) → Predicate p → (a b : Packet) → Gives p a b → b ≡ a
itself Id h a b g = g
itself Drop h a b g = absurd g
itself (Test f v) h a b g = g.1
itself (Set f v) h a b g = absurd h
itself (Not p) h a b g = g.0
itself (Sum p q) h a b g = ⊎_elim (λ (k : Gives p a b). itself p h.0 a b k) (λ (k : Gives q a b). itself q h.1 a b k) g
itself (Seq p q) h a b g = itself q h.1 g.0 b g.2 ∙ itself p h.0 a g.0 g.1
itself (Beside wp wq p q) h a b g = absurd h
itself (Table x r w start p) h a b g = absurd h
itself (Open x r w) h a b g = absurd h

-- document 001's own words for a negation, {pk} \ ⟦a⟧ pk, are the same for a predicate
pub not_set : (p : Part) → Predicate p → (a b : Packet) → Gives (Not p) a b ↔ ((b ≡ a) × (Gives p a b → ⊥))
not_set p h a b = (
  λ g. (g.0, λ k. g.1 b k),
  λ g. (g.0, λ c k. g.1 (subst (λ (x : Packet). Gives p a x) (itself p h a c k ∙ sym g.0) k)),
)

-- ---- the meaning

-- what a concurrent part gives of one packet
abbrev sides_of : ℕ → ℕ → Part → Part → Packet → Packets
sides_of wp wq p q x = pairs wq (out p (without wq x ∷ [])) (out q (without wp x ∷ []))

-- of a set of one packet
of_one : (p : Part) (a b : Packet) → Among p (a ∷ []) b → Gives p a b
of_one p a b g = subst (λ (x : Packet). Gives p x b) (single g.0 a g.1) g.2

mutual
  unfolding out

  sound : (p : Part) → Formed p → Right p → (s : Packets) (b : Packet) → b ∈ out p s → Among p s b
  sound Id w r s b m = (b, m, refl)
  sound Drop w r s b m = absurd m
  sound (Test f v) w r s b m = let k = keep_out (passes f v) b s m in (b, k.0, (k.1, refl))
  sound (Set f v) w r s b m = map_out (put f v) b s (gathered_out b (map (put f v) s) m)
  sound (Not p) w r s b m =
      let k = keep_out (lacks (out p s)) b s m in (
        b,
        k.0,
        (
          refl,
          λ c g. lacks_out b (out p s) k.1
              (complete p w.1 r s b b k.0 (subst (λ (x : Packet). Gives p b x) (itself p w.0 b c g) g)),
        ),
      )
  sound (Sum p q) w r s b m =
      ⊎_elim (λ (k : b ∈ out p s). let g = sound p w.0 r.0 s b k in (g.0, g.1, inl g.2))
      (λ (k : b ∈ out q s). let g = sound q w.1 r.1 s b k in (g.0, g.1, inr g.2)) (union_out b (out p s) (out q s) m)
  sound (Seq p q) w r s b m =
      let g = sound q w.1 r.1 (out p s) b m in
      let h = sound p w.0 r.0 s g.0 g.1 in
      (h.0, h.1, (g.0, h.2, g.2))
  sound (Beside wp wq p q) w r s b m =
      let k = each_out (sides_of wp wq p q) b s m in
      let a : Packet = k.0 in
      let l = pairs_out wq b (out p (without wq a ∷ [])) (out q (without wp a ∷ [])) k.2 in (
        a,
        k.1,
        (serializes wp wq p q r.0 r.1 r.2 a b).0 (
          l.0,
          l.1,
          of_one p (without wq a) l.0 (sound p w.0 r.1 (without wq a ∷ []) l.0 l.2),
          of_one q (without wp a) l.1 (sound q w.1 r.2 (without wp a ∷ []) l.1 l.3),
          l.4,
        ),
      )
  sound (Table x rd wr start p) w r s b m = sound p w r.1 s b m
  sound (Open x rd wr) w r s b m = absurd m

  complete : (p : Part) → Formed p → Right p → (s : Packets) (a b : Packet) → a ∈ s → Gives p a b → b ∈ out p s
  complete Id w r s a b m g = cast∈ b a s g m
  complete Drop w r s a b m g = g
  complete (Test f v) w r s a b m g = cast∈ b a (out (Test f v) s) g.1 (keep_in (passes f v) a s m g.0)
  complete (Set f v) w r s a b m g = gathered_in b (map (put f v) s) (map_in (put f v) b a s m g)
  complete (Not p) w r s a b m g =
      cast∈ b a (out (Not p) s) g.0 (keep_in (lacks (out p s)) a s m (lacks_in a (out p s) (λ e.
      let k = sound p w.1 r s a e in
      g.1 a (subst (λ (x : Packet). Gives p x a) (sym (itself p w.0 k.0 a k.2)) k.2))))
  complete (Sum p q) w r s a b m g =
      union_in b (out p s) (out q s)
      (⊎_elim (λ (h : Gives p a b). inl (complete p w.0 r.0 s a b m h))
      (λ (h : Gives q a b). inr (complete q w.1 r.1 s a b m h)) g)
  complete (Seq p q) w r s a b m g =
      complete q w.1 r.1 (out p s) g.0 b (complete p w.0 r.0 s a g.0 m g.1) g.2
  complete (Beside wp wq p q) w r s a b m g =
      let k = (serializes wp wq p q r.0 r.1 r.2 a b).1 g in
      each_in (sides_of wp wq p q) b a s m
      (pairs_in wq b k.0 k.1 _ _ (complete p w.0 r.1 _ (without wq a) k.0 (inl refl) k.2)
      (complete q w.1 r.2 _ (without wp a) k.1 (inl refl) k.3) k.4)
  complete (Table x rd wr start p) w r s a b m g = complete p w r.1 s a b m g
  complete (Open x rd wr) w r s a b m g = g

pub meaning : (p : Part) → Formed p → Right p → (s : Packets) (b : Packet) → (b ∈ out p s) ↔ Among p s b
meaning p w r s b = (sound p w r s b, λ g. complete p w r s g.0 b g.1 g.2)

pub meaning_one : (p : Part) → Formed p → Right p → (a b : Packet) → (b ∈ out p (a ∷ [])) ↔ Gives p a b
meaning_one p w r a b = (λ m. of_one p a b (sound p w r (a ∷ []) b m), λ g. complete p w r (a ∷ []) a b (inl refl) g)

pub ascends : (p : Part) (s : Packets) → Ascending s → Ascending (out p s)
unfolding out
ascends Id s h = h
ascends Drop s h = tt
ascends (Test f v) s h = keep_ascending (passes f v) s h
ascends (Set f v) s h = gathered_ascending (map (put f v) s)
ascends (Not p) s h = keep_ascending (lacks (out p s)) s h
ascends (Sum p q) s h = union_ascending (out p s) (out q s) (ascends p s h)
ascends (Seq p q) s h = ascends q (out p s) (ascends p s h)
ascends (Beside wp wq p q) s h =
    each_ascending (sides_of wp wq p q) (λ x. pairs_ascending wq (out p (without wq x ∷ [])) (out q (without wp x ∷ []))) s
ascends (Table x r w start p) s h = ascends p s h
ascends (Open x r w) s h = tt

-- demand 2: out is the one ascending list of the packets that the published meaning gives
pub determined : (p : Part) → Formed p → Right p → (s t : Packets) → Ascending s → Ascending t
    → ((b : Packet) → (b ∈ t) ↔ Among p s b) → t ≡ out p s
determined p w r s t hs ht e =
    unique t (out p s) ht (ascends p s hs) (λ b. (λ m. (meaning p w r s b).1 ((e b).0 m), λ m. (e b).1 ((meaning p w r s b).0 m)))
