-- Rows mixed field by field.
use Prim.Native.Nat.{ℕ, zero, suc, ◌+◌, ◌≤◌, ◌<◌}
use mathlib.Core.Path.{◌≡◌, refl, sym, ap₂, ◌∙◌}
use mathlib.Core.Bool.{Bool, true, false, cond}
use mathlib.Core.List.{◌∷◌, []}
use native.Mathlib.Omega.{arith}
use native.Mathlib.Numerals.{add-one}
use lib.ListN.{length, take, get_or, set, replicate, length-set}
use lib.Seq.{take_all, take-suc, take-set-le, get_or-set_same}
use Rattle.rules.specs.Masks.{has}
use Rattle.rules.specs.Packets.{Packet, mix_from, mix, without}
use Rattle.rules.proofs.PacketLaws.{length_mix, mix_on, mix_off}

pub mixed_at : (w : ℕ) (p q : Packet) (f : ℕ) → f < length p → get_or (mix w p q) f 0 ≡ cond (has w f) (get_or q f 0) (get_or p f 0)
mixed_at w p q f h = go (has w f) refl
  where
    go : (b : Bool) → has w f ≡ b → get_or (mix w p q) f 0 ≡ cond b (get_or q f 0) (get_or p f 0)
    go true e = mix_on w p q f e h
    go false e = mix_off w p q f e

-- value f written, after those before it
pub mixed_next : (w : ℕ) (p q t : Packet) (f x : ℕ) → f < length p → length t ≡ length p → x ≡ cond (has w f) (get_or q f 0) (get_or p f 0)
    → take f t ≡ take f (mix w p q) → take (f + 1) (set t f x) ≡ take (f + 1) (mix w p q)
mixed_next w p q t f x h l e k =
    let m : f < length (set t f x) = rw length-set (omega arith) in
    let n : f < length (mix w p q) = rw length_mix h in
    let o : f < length t = omega arith in
    rw (add-one, take-suc (set t f x) f 0 m, take-suc (mix w p q) f 0 n, take-set-le f t f x (omega arith), k, get_or-set_same t f x 0 o, e, mixed_at w p q f h) refl

pub mixed_end : (w : ℕ) (p q t : Packet) (f : ℕ) → length p ≤ f → length t ≡ length p → take f t ≡ take f (mix w p q) → t ≡ mix w p q
mixed_end w p q t f h l k =
    let m : length t ≤ f = omega arith in
    let n : length (mix w p q) ≤ f = rw length_mix h in
    sym (take_all f t m) ∙ k ∙ take_all f (mix w p q) n

-- ---- zeros lack every field

get_or_zeros : (n j : ℕ) → get_or {A = ℕ} (replicate n 0) j 0 ≡ 0
get_or_zeros zero j = refl
get_or_zeros (suc n) zero = refl
get_or_zeros (suc n) (suc j) = get_or_zeros n j

mix_none : (w i : ℕ) (p z : Packet) → ((j : ℕ) → get_or z j 0 ≡ 0) → mix_from w i p z ≡ mix_from w i p []
mix_none w i [] z h = refl
mix_none w i (x ∷ p) z h = ap₂ (λ (y : ℕ) (l : Packet). cond (has w i) y x ∷ l) (h i) (mix_none w (suc i) p z h)

pub mix_zeros : (w n : ℕ) (p : Packet) → mix w p (replicate n 0) ≡ without w p
unfolding mix
mix_zeros w n p = mix_none w 0 p (replicate n 0) (get_or_zeros n)
