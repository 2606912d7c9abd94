-- Sets of packets: the members of each operation, that it ascends, that members fix an ascending list, and lengths.
use Rattle.std.specs.declared.cmp.Ordering.{Ordering}
use Rattle.std.specs.declared.cmp.Ordering.TheVariants.{Less, Equal, Greater}
use Prim.Native.Nat.{ℕ, suc, ◌+◌, ◌≤◌}
use mathlib.Core.Path.{◌≡◌, refl, sym, ap, ap₂, ◌∙◌, subst}
use mathlib.Core.Logic.{◌⊎◌, inl, inr, ⊎_elim, ◌↔◌}
use mathlib.Core.Bool.{Bool, true, false, not, ◌||◌, false≢true}
use mathlib.Core.List.{[], ◌∷◌, map}
use native.Mathlib.Omega.{arith}
use lib.ListN.{length}
use Rattle.rules.specs.Packets.{Packet, Packets, mix, order_of, Before, AllAfter, Ascending, ◌∈◌, put_by, insert, union}
use Rattle.rules.specs.Packets.{cons_if, keep, is_same, member, lacks, gathered, pairs_into, pairs}
use Rattle.rules.proofs.Putting.{put_out, put_in}
use Rattle.rules.proofs.Orders.{order_refl, order_same, order_turned, before_irrefl, before_not_after, after_trans}

pub cast∈ : (b c : Packet) (s : Packets) → b ≡ c → c ∈ s → b ∈ s
cast∈ b c s e h = subst (λ (x : Packet). x ∈ s) (sym e) h

pub single : (b x : Packet) → b ∈ (x ∷ []) → b ≡ x
single b x (inl e) = e
single b x (inr m) = absurd m

-- ---- members of each operation

pub insert_out : (b x : Packet) (s : Packets) → b ∈ insert x s → (b ≡ x) ⊎ (b ∈ s)
unfolding insert
insert_out b x [] m = m
insert_out b x (y ∷ s) m = put_out (order_of x y) b x y s (insert x s) (insert_out b x s) m

pub insert_in : (b x : Packet) (s : Packets) → (b ≡ x) ⊎ (b ∈ s) → b ∈ insert x s
unfolding insert
insert_in b x [] m = m
insert_in b x (y ∷ s) m = put_in (order_of x y) b x y s (insert x s) refl (insert_in b x s) m

pub union_out : (b : Packet) (s t : Packets) → b ∈ union s t → (b ∈ s) ⊎ (b ∈ t)
unfolding union
union_out b s [] m = inl m
union_out b s (x ∷ t) m =
    ⊎_elim (λ (k : b ∈ insert x s). ⊎_elim (λ (e : b ≡ x). inr (inl e)) (λ (l : b ∈ s). inl l) (insert_out b x s k))
    (λ (k : b ∈ t). inr (inr k)) (union_out b (insert x s) t m)

pub union_in : (b : Packet) (s t : Packets) → (b ∈ s) ⊎ (b ∈ t) → b ∈ union s t
unfolding union
union_in b s [] (inl m) = m
union_in b s [] (inr m) = absurd m
union_in b s (x ∷ t) (inl m) = union_in b (insert x s) t (inl (insert_in b x s (inr m)))
union_in b s (x ∷ t) (inr (inl e)) = union_in b (insert x s) t (inl (insert_in b x s (inl e)))
union_in b s (x ∷ t) (inr (inr m)) = union_in b (insert x s) t (inr m)

pub gathered_out : (b : Packet) (s : Packets) → b ∈ gathered s → b ∈ s
gathered_out b s m = ⊎_elim (λ (k : ⊥). absurd k) (λ (k : b ∈ s). k) (union_out b [] s m)

pub gathered_in : (b : Packet) (s : Packets) → b ∈ s → b ∈ gathered s
gathered_in b s m = union_in b [] s (inr m)

pub map_out : (g : Packet → Packet) (b : Packet) (s : Packets) → b ∈ map g s → (x : Packet) × (x ∈ s) × (b ≡ g x)
map_out g b [] m = absurd m
map_out g b (x ∷ s) (inl e) = (x, inl refl, e)
map_out g b (x ∷ s) (inr m) = let r = map_out g b s m in (r.0, inr r.1, r.2)

pub map_in : (g : Packet → Packet) (b x : Packet) (s : Packets) → x ∈ s → b ≡ g x → b ∈ map g s
map_in g b x [] m e = absurd m
map_in g b x (y ∷ s) (inl h) e = inl (e ∙ ap g h)
map_in g b x (y ∷ s) (inr m) e = inr (map_in g b x s m e)

if_out : (o : Bool) (b x : Packet) (r : Packets) → b ∈ cons_if o x r → ((o ≡ true) × (b ≡ x)) ⊎ (b ∈ r)
if_out true b x r (inl e) = inl (refl, e)
if_out true b x r (inr m) = inr m
if_out false b x r m = inr m

if_in : (o : Bool) (b x : Packet) (r : Packets) → ((o ≡ true) × (b ≡ x)) ⊎ (b ∈ r) → b ∈ cons_if o x r
if_in true b x r (inl e) = inl e.1
if_in true b x r (inr m) = inr m
if_in false b x r (inl e) = absurd (false≢true e.0)
if_in false b x r (inr m) = m

pub keep_out : (t : Packet → Bool) (b : Packet) (s : Packets) → b ∈ keep t s → (b ∈ s) × (t b ≡ true)
unfolding keep
keep_out t b [] m = absurd m
keep_out t b (x ∷ s) m =
    ⊎_elim (λ (e : (t x ≡ true) × (b ≡ x)). (inl e.1, ap t e.1 ∙ e.0))
    (λ (k : b ∈ keep t s). let r = keep_out t b s k in (inr r.0, r.1)) (if_out (t x) b x (keep t s) m)

pub keep_in : (t : Packet → Bool) (b : Packet) (s : Packets) → b ∈ s → t b ≡ true → b ∈ keep t s
unfolding keep
keep_in t b [] m h = absurd m
keep_in t b (x ∷ s) (inl e) h = if_in (t x) b x (keep t s) (inl (sym (ap t e) ∙ h, e))
keep_in t b (x ∷ s) (inr m) h = if_in (t x) b x (keep t s) (inr (keep_in t b s m h))

pub pairs_into_out : (w : ℕ) (b : Packet) (r s t : Packets) → b ∈ pairs_into w r s t
    → (b ∈ r) ⊎ ((x : Packet) × (y : Packet) × (x ∈ s) × (y ∈ t) × (b ≡ mix w x y))
unfolding pairs_into
pairs_into_out w b r [] t m = inl m
pairs_into_out w b r (x ∷ s) t m =
    ⊎_elim (λ (k : b ∈ union r (map (mix w x) t)). ⊎_elim (λ (l : b ∈ r). inl l)
    (λ (l : b ∈ map (mix w x) t). let q = map_out (mix w x) b t l in inr (x, q.0, inl refl, q.1, q.2))
    (union_out b r (map (mix w x) t) k))
    (λ (k : (x : Packet) × (y : Packet) × (x ∈ s) × (y ∈ t) × (b ≡ mix w x y)). inr (k.0, k.1, inr k.2, k.3, k.4))
    (pairs_into_out w b (union r (map (mix w x) t)) s t m)

pub pairs_into_old : (w : ℕ) (b : Packet) (r s t : Packets) → b ∈ r → b ∈ pairs_into w r s t
unfolding pairs_into
pairs_into_old w b r [] t m = m
pairs_into_old w b r (x ∷ s) t m = pairs_into_old w b (union r (map (mix w x) t)) s t (union_in b r (map (mix w x) t) (inl m))

pub pairs_into_in : (w : ℕ) (b x y : Packet) (r s t : Packets) → x ∈ s → y ∈ t → b ≡ mix w x y → b ∈ pairs_into w r s t
unfolding pairs_into
pairs_into_in w b x y r [] t h k e = absurd h
pairs_into_in w b x y r (z ∷ s) t (inl h) k e =
    pairs_into_old w b (union r (map (mix w z) t)) s t
    (union_in b r (map (mix w z) t) (inr (map_in (mix w z) b y t k (e ∙ ap (λ (a : Packet). mix w a y) h))))
pairs_into_in w b x y r (z ∷ s) t (inr h) k e = pairs_into_in w b x y (union r (map (mix w z) t)) s t h k e

pub pairs_out : (w : ℕ) (b : Packet) (s t : Packets) → b ∈ pairs w s t → (x : Packet) × (y : Packet) × (x ∈ s) × (y ∈ t) × (b ≡ mix w x y)
pairs_out w b s t m =
    ⊎_elim (λ (k : ⊥). absurd k) (λ (k : (x : Packet) × (y : Packet) × (x ∈ s) × (y ∈ t) × (b ≡ mix w x y)). k) (pairs_into_out w b [] s t m)

pub pairs_in : (w : ℕ) (b x y : Packet) (s t : Packets) → x ∈ s → y ∈ t → b ≡ mix w x y → b ∈ pairs w s t
pairs_in w b x y s t h k e = pairs_into_in w b x y [] s t h k e

-- ---- member tells whether a packet is in a set

same_out : (o : Ordering) (b x : Packet) (c : Bool) → order_of b x ≡ o → (is_same o || c) ≡ true → (b ≡ x) ⊎ (c ≡ true)
same_out Less b x c e h = inr h
same_out Equal b x c e h = inl (order_same b x e)
same_out Greater b x c e h = inr h

or_true : (c d : Bool) → d ≡ true → (c || d) ≡ true
or_true true d h = refl
or_true false d h = h

pub member_out : (b : Packet) (s : Packets) → member b s ≡ true → b ∈ s
unfolding member
member_out b [] h = absurd (false≢true h)
member_out b (x ∷ s) h =
    ⊎_elim (λ (e : b ≡ x). inl e) (λ (k : member b s ≡ true). inr (member_out b s k)) (same_out (order_of b x) b x (member b s) refl h)

pub member_in : (b : Packet) (s : Packets) → b ∈ s → member b s ≡ true
unfolding member
member_in b [] m = absurd m
member_in b (x ∷ s) (inl e) = rw (e, order_refl x)
member_in b (x ∷ s) (inr m) = or_true (is_same (order_of b x)) (member b s) (member_in b s m)

not_out : (c : Bool) → not c ≡ true → c ≡ true → ⊥
not_out true e h = false≢true e
not_out false e h = false≢true h

not_in : (c : Bool) → (c ≡ true → ⊥) → not c ≡ true
not_in true h = absurd (h refl)
not_in false h = refl

pub lacks_out : (b : Packet) (s : Packets) → lacks s b ≡ true → b ∈ s → ⊥
lacks_out b s h m = not_out (member b s) h (member_in b s m)

pub lacks_in : (b : Packet) (s : Packets) → (b ∈ s → ⊥) → lacks s b ≡ true
lacks_in b s h = not_in (member b s) (λ e. h (member_out b s e))

-- ---- each operation ascends

pub after_out : (a b : Packet) (s : Packets) → AllAfter a s → b ∈ s → Before a b
after_out a b [] h m = absurd m
after_out a b (x ∷ s) h (inl e) = subst (λ (c : Packet). Before a c) (sym e) h.0
after_out a b (x ∷ s) h (inr m) = after_out a b s h.1 m

pub after_in : (a : Packet) (s : Packets) → ((b : Packet) → b ∈ s → Before a b) → AllAfter a s
after_in a [] h = tt
after_in a (x ∷ s) h = (h x (inl refl), after_in a s (λ b m. h b (inr m)))

pub after_not_in : (a : Packet) (s : Packets) → AllAfter a s → a ∈ s → ⊥
after_not_in a s h m = before_irrefl a (after_out a a s h m)

after_insert : (a x : Packet) (s : Packets) → Before a x → AllAfter a s → AllAfter a (insert x s)
after_insert a x s e h =
    after_in a (insert x s)
    (λ b m. ⊎_elim (λ (k : b ≡ x). subst (λ (c : Packet). Before a c) (sym k) e) (λ (k : b ∈ s). after_out a b s h k) (insert_out b x s m))

pub after_keep : (g : Packet → Bool) (a : Packet) (s : Packets) → AllAfter a s → AllAfter a (keep g s)
after_keep g a s h = after_in a (keep g s) (λ b m. after_out a b s h (keep_out g b s m).0)

pub insert_ascending : (x : Packet) (s : Packets) → Ascending s → Ascending (insert x s)
unfolding insert
insert_ascending x [] h = (tt, tt)
insert_ascending x (y ∷ s) h = go (order_of x y) refl (insert_ascending x s h.1)
  where
    go : (o : Ordering) → order_of x y ≡ o → Ascending (insert x s) → Ascending (put_by o x y s (insert x s))
    go Less e k = ((e, after_trans x y s e h.0), h)
    go Equal e k = h
    go Greater e k = (after_insert y x s (order_turned x y Greater e) h.0, k)

pub union_ascending : (s t : Packets) → Ascending s → Ascending (union s t)
unfolding union
union_ascending s [] h = h
union_ascending s (x ∷ t) h = union_ascending (insert x s) t (insert_ascending x s h)

pub gathered_ascending : (s : Packets) → Ascending (gathered s)
gathered_ascending s = union_ascending [] s tt

if_ascending : (o : Bool) (x : Packet) (r : Packets) → AllAfter x r → Ascending r → Ascending (cons_if o x r)
if_ascending true x r h k = (h, k)
if_ascending false x r h k = k

pub keep_ascending : (g : Packet → Bool) (s : Packets) → Ascending s → Ascending (keep g s)
unfolding keep
keep_ascending g [] h = tt
keep_ascending g (x ∷ s) h = if_ascending (g x) x (keep g s) (after_keep g x s h.0) (keep_ascending g s h.1)

pub pairs_into_ascending : (w : ℕ) (r s t : Packets) → Ascending r → Ascending (pairs_into w r s t)
unfolding pairs_into
pairs_into_ascending w r [] t h = h
pairs_into_ascending w r (x ∷ s) t h =
    pairs_into_ascending w (union r (map (mix w x) t)) s t (union_ascending r (map (mix w x) t) h)

pub pairs_ascending : (w : ℕ) (s t : Packets) → Ascending (pairs w s t)
pairs_ascending w s t = pairs_into_ascending w [] s t tt

-- ---- an ascending list is fixed by its members

-- of two ascending lists, the first packets are the same and so are the others' members
module _ (x y : Packet) (s t : Packets) (h : Ascending (x ∷ s)) (k : Ascending (y ∷ t)) where
  first_same : x ∈ (y ∷ t) → y ∈ (x ∷ s) → x ≡ y
  first_same p q =
      ⊎_elim (λ (e : x ≡ y). e)
      (λ (m : x ∈ t).
      ⊎_elim (λ (e : y ≡ x). sym e)
      (λ (n : y ∈ s). absurd (before_not_after x y (after_out x y s h.0 n) (after_out y x t k.0 m))) q) p

  rest_in : x ≡ y → ((b : Packet) → b ∈ (x ∷ s) → b ∈ (y ∷ t)) → (b : Packet) → b ∈ s → b ∈ t
  rest_in e i b m =
      ⊎_elim (λ (f : b ≡ y). absurd (after_not_in x s h.0 (cast∈ x b s (e ∙ sym f) m))) (λ (n : b ∈ t). n) (i b (inr m))

pub unique : (s t : Packets) → Ascending s → Ascending t → ((b : Packet) → (b ∈ s) ↔ (b ∈ t)) → s ≡ t
unique [] [] h k e = refl
unique [] (y ∷ t) h k e = absurd ((e y).1 (inl refl))
unique (x ∷ s) [] h k e = absurd ((e x).0 (inl refl))
unique (x ∷ s) (y ∷ t) h k e =
    let xy : x ≡ y = first_same x y s t h k ((e x).0 (inl refl)) ((e y).1 (inl refl)) in
    ap₂ (λ (u : Packet) (v : Packets). u ∷ v) xy
    (unique s t h.1 k.1
    (λ b. (rest_in x y s t h k xy (λ c. (e c).0) b, rest_in y x t s k h (sym xy) (λ c. (e c).1) b)))

-- ---- laws of the union

-- packets that are all after x go in after x
pub union_after : (x : Packet) (s t : Packets) → AllAfter x t → union (x ∷ s) t ≡ x ∷ union s t
unfolding union insert
union_after x s [] h = refl
union_after x s (y ∷ t) h = rw (order_turned x y Less h.0) (union_after x (insert y s) t h.1)

pub union_nil : (s : Packets) → union s [] ≡ s
unfolding union
union_nil s = refl

-- what ascends already is gathered
pub gathered_same : (s : Packets) → Ascending s → gathered s ≡ s
unfolding union insert
gathered_same [] h = refl
gathered_same (x ∷ s) h = union_after x [] s h.0 ∙ ap (λ (r : Packets). x ∷ r) (gathered_same s h.1)

-- ---- lengths

put_le : (o : Ordering) (x y : Packet) (s r : Packets) → length s ≤ length r → length (y ∷ s) ≤ length (put_by o x y s r)
put_le Less x y s r h = omega arith
put_le Equal x y s r h = omega arith
put_le Greater x y s r h = omega arith

put_more : (o : Ordering) (x y : Packet) (s r : Packets) → length r ≤ length s + 1 → length (put_by o x y s r) ≤ length (y ∷ s) + 1
put_more Less x y s r h = omega arith
put_more Equal x y s r h = omega arith
put_more Greater x y s r h = omega arith

pub length_insert_le : (x : Packet) (s : Packets) → length s ≤ length (insert x s)
unfolding insert
length_insert_le x [] = omega arith
length_insert_le x (y ∷ s) = put_le (order_of x y) x y s (insert x s) (length_insert_le x s)

pub length_insert_more : (x : Packet) (s : Packets) → length (insert x s) ≤ length s + 1
unfolding insert
length_insert_more x [] = omega arith
length_insert_more x (y ∷ s) = put_more (order_of x y) x y s (insert x s) (length_insert_more x s)

pub length_union_le : (s t : Packets) → length s ≤ length (union s t)
unfolding union
length_union_le s [] = omega arith
length_union_le s (x ∷ t) = omega (arith, length_insert_le x s, length_union_le (insert x s) t)

pub length_union_more : (s t : Packets) → length (union s t) ≤ length s + length t
unfolding union
length_union_more s [] = omega arith
length_union_more s (x ∷ t) = omega (arith, length_insert_more x s, length_union_more (insert x s) t)

if_length : (o : Bool) (x : Packet) (r : Packets) → length (cons_if o x r) ≤ suc (length r)
if_length true x r = omega arith
if_length false x r = omega arith

pub keep_length : (g : Packet → Bool) (s : Packets) → length (keep g s) ≤ length s
unfolding keep
keep_length g [] = omega arith
keep_length g (x ∷ s) = omega (arith, if_length (g x) x (keep g s), keep_length g s)

pub length_pairs_into_le : (w : ℕ) (r s t : Packets) → length r ≤ length (pairs_into w r s t)
unfolding pairs_into
length_pairs_into_le w r [] t = omega arith
length_pairs_into_le w r (x ∷ s) t =
    omega (arith, length_union_le r (map (mix w x) t), length_pairs_into_le w (union r (map (mix w x) t)) s t)
