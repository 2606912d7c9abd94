-- Laws of packets: what mix, without, passes and put say at a field, and how they pass each other.
-- Only these laws look into passes and put; whatever they become, what is above needs no more.
use mathlib.Core.Path.{◌≡◌, refl, sym, ap, ◌∙◌, subst}
use mathlib.Core.Logic.{◌≢◌}
use mathlib.Core.Bool.{true, false, true≢false}
use mathlib.Core.List.{[], ◌∷◌}
use Prim.Native.Nat.{ℕ, zero, suc, ◌+◌, ◌<◌}
use native.Mathlib.Omega.{arith}
use native.Mathlib.Nat.{add-zero, add-suc, suc-add, zero-add, not-suc-le-zero, le_of_suc-le-suc}
use native.Mathlib.Decide.{dec_lt, ℕ_discrete}
use lib.Dec.{eqb}
use lib.ListN.{length, get_or, length-set, get_or-eq_default}
use lib.Seq.{ext_get_or, get_or-set_same, get_or-set_other}
use Rattle.rules.specs.Masks.{has, field}
use Rattle.rules.specs.Packets.{Packet, passes, put, mix_from, mix, without}
use Rattle.rules.proofs.MaskLaws.{has_field, bits}

-- two packets are equal when they are as long and agree at each field
pub packet_ext : (a b : Packet) → length a ≡ length b → ((i : ℕ) → i < length a → get_or a i 0 ≡ get_or b i 0) → a ≡ b
packet_ext a b e h = ext_get_or 0 a b e h

-- ---- mix

next_field : (i j : ℕ) → suc i + j ≡ i + suc j
next_field i j = suc-add i j ∙ sym (add-suc i j)

length_from : (w i : ℕ) (a z : Packet) → length (mix_from w i a z) ≡ length a
length_from w i [] z = refl
length_from w i (x ∷ a) z = ap suc (length_from w (suc i) a z)

on_from : (w i : ℕ) (a z : Packet) (j : ℕ) → has w (i + j) ≡ true → j < length a
    → get_or (mix_from w i a z) j 0 ≡ get_or z (i + j) 0
on_from w i [] z j e h = absurd (not-suc-le-zero h)
on_from w i (x ∷ a) z zero e h = rw (add-zero i) (rw (rw (add-zero i) at e) refl)
on_from w i (x ∷ a) z (suc j) e h =
    on_from w (suc i) a z j (rw (next_field i j) e) (le_of_suc-le-suc h) ∙ ap (λ (k : ℕ). get_or z k 0) (next_field i j)

off_from : (w i : ℕ) (a z : Packet) (j : ℕ) → has w (i + j) ≡ false → get_or (mix_from w i a z) j 0 ≡ get_or a j 0
off_from w i [] z j e = refl
off_from w i (x ∷ a) z zero e = rw (rw (add-zero i) at e) refl
off_from w i (x ∷ a) z (suc j) e = off_from w (suc i) a z j (rw (next_field i j) e)

pub length_mix : (w : ℕ) (a z : Packet) → length (mix w a z) ≡ length a
unfolding mix
length_mix w a z = length_from w 0 a z

pub mix_on : (w : ℕ) (a z : Packet) (j : ℕ) → has w j ≡ true → j < length a → get_or (mix w a z) j 0 ≡ get_or z j 0
unfolding mix
mix_on w a z j e h = on_from w 0 a z j (rw (zero-add j) e) h ∙ ap (λ (k : ℕ). get_or z k 0) (zero-add j)

pub mix_off : (w : ℕ) (a z : Packet) (j : ℕ) → has w j ≡ false → get_or (mix w a z) j 0 ≡ get_or a j 0
unfolding mix
mix_off w a z j e = off_from w 0 a z j (rw (zero-add j) e)

-- a mix is c when c has w's fields from z and the others from a
pub mix_is : (w : ℕ) (a z c : Packet) → length c ≡ length a
    → ((i : ℕ) → i < length a → has w i ≡ true → get_or c i 0 ≡ get_or z i 0)
    → ((i : ℕ) → i < length a → has w i ≡ false → get_or c i 0 ≡ get_or a i 0)
    → mix w a z ≡ c
mix_is w a z c l on off =
    packet_ext (mix w a z) c (length_mix w a z ∙ sym l) λ i h.
    let k : i < length a = rw (length_mix w a z) at h in
    bits (has w i) (λ e. mix_on w a z i e k ∙ sym (on i k e)) (λ e. mix_off w a z i e ∙ sym (off i k e))

pub mix_back : (w : ℕ) (a z : Packet) → mix w (mix w a z) a ≡ a
mix_back w a z = mix_is w (mix w a z) a a (sym (length_mix w a z)) (λ i h e. refl) (λ i h e. sym (mix_off w a z i e))

without_at : (w : ℕ) (a : Packet) (i : ℕ) → has w i ≡ true → Dec (i < length a) → get_or (without w a) i 0 ≡ 0
without_at w a i e (yes l) = mix_on w a [] i e l
without_at w a i e (no n) = get_or-eq_default (without w a) 0 (rw (length_mix w a []) (omega arith))

pub without_on : (w : ℕ) (a : Packet) (i : ℕ) → has w i ≡ true → get_or (without w a) i 0 ≡ 0
without_on w a i e = without_at w a i e (dec_lt i (length a))

-- ---- passes: a test looks at its own field

pub passes_alike : (f v : ℕ) (a b : Packet) → get_or a f 0 ≡ get_or b f 0 → passes f v a ≡ passes f v b
unfolding passes
passes_alike f v a b e = ap (λ (x : ℕ). eqb x v) e

pub passes_mix : (w f v : ℕ) (a z : Packet) → has w f ≡ false → passes f v (mix w a z) ≡ passes f v a
passes_mix w f v a z e = passes_alike f v (mix w a z) a (mix_off w a z f e)

-- ---- put: a set looks at its own field and changes no other

pub length_put : (f v : ℕ) (a : Packet) → length (put f v a) ≡ length a
unfolding put
length_put f v a = length-set a f v

pub put_other : (f v g : ℕ) (a : Packet) → g ≢ f → get_or (put f v a) g 0 ≡ get_or a g 0
unfolding put
put_other f v g a n = get_or-set_other a f g v 0 n

-- what a set gives at its field follows from what stood there
pub put_alike : (f v : ℕ) (a b : Packet) → f < length a → f < length b → get_or a f 0 ≡ get_or b f 0
    → get_or (put f v a) f 0 ≡ get_or (put f v b) f 0
unfolding put
put_alike f v a b la lb e = get_or-set_same a f v 0 la ∙ sym (get_or-set_same b f v 0 lb)

-- so sets of alike fields give alike fields
pub put_like : (f v g : ℕ) (a b : Packet) → g < length a → g < length b → get_or a f 0 ≡ get_or b f 0 → get_or a g 0 ≡ get_or b g 0
    → get_or (put f v a) g 0 ≡ get_or (put f v b) g 0
put_like f v g a b la lb e k = by_field (ℕ_discrete g f)
  where
    by_field : Dec (g ≡ f) → get_or (put f v a) g 0 ≡ get_or (put f v b) g 0
    by_field (yes y) =
        subst (λ (x : ℕ). get_or (put f v a) x 0 ≡ get_or (put f v b) x 0) (sym y)
        (put_alike f v a b (subst (λ (x : ℕ). x < length a) y la) (subst (λ (x : ℕ). x < length b) y lb) e)
    by_field (no n) = put_other f v g a n ∙ k ∙ sym (put_other f v g b n)

pub other_field : (f g : ℕ) → has (field f) g ≡ false → g ≢ f
other_field f g h e = true≢false (sym (has_field f) ∙ ap (λ (x : ℕ). has (field f) x) (sym e) ∙ h)

pub put_mix : (w f v : ℕ) (a z : Packet) → has w f ≡ false → mix w (put f v a) z ≡ put f v (mix w a z)
put_mix w f v a z e =
    mix_is w (put f v a) z (put f v (mix w a z)) (length_put f v (mix w a z) ∙ length_mix w a z ∙ sym (length_put f v a))
    (λ i h o. put_other f v i (mix w a z) (λ k. true≢false (sym o ∙ ap (λ (x : ℕ). has w x) k ∙ e))
    ∙ mix_on w a z i o (rw (length_put f v a) at h))
    (λ i h o. let l : i < length a = rw (length_put f v a) at h in
    put_like f v i (mix w a z) a (rw (length_mix w a z) l) l (mix_off w a z f e) (mix_off w a z i o))
