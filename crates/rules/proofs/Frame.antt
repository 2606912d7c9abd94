-- A part changes only fields that it may write, and looks at none that it neither tests nor writes.
use mathlib.Core.Path.{◌≡◌, ap, ◌∙◌, subst}
use mathlib.Core.Logic.{inl, inr, ⊎_elim}
use mathlib.Core.Bool.{false}
use Prim.Native.Nat.{ℕ}
use lib.ListN.{length, get_or}
use lib.Bits.{bit_or}
use Rattle.rules.specs.Masks.{has, field, Sub}
use Rattle.rules.specs.Packets.{Packet, put, mix}
use Rattle.rules.specs.Parts.{Part, Id, Drop, Test, Set, Not, Sum, Seq, Beside, Table, Open}
use Rattle.rules.specs.Typing.{tested, written, Right}
use Rattle.rules.specs.Meaning.{Gives}
use Rattle.rules.proofs.MaskLaws.{has_field, Off, sub_or_l, sub_or_r, off_sub, sub_false}
use Rattle.rules.proofs.PacketLaws.{length_put, put_other, other_field, passes_mix, put_mix, mix_back}
use Rattle.rules.proofs.TypingLaws.{right_sides, fit_body}

-- b is as long as a, and as a outside w
pub record Kept (w : ℕ) (a b : Packet) : Type 0 where
  pub long : length b ≡ length a
  pub same : (f : ℕ) → has w f ≡ false → get_or b f 0 ≡ get_or a f 0

kept_equal : (w : ℕ) (a b : Packet) → b ≡ a → Kept w a b
kept_equal w a b e = record { long = ap length e; same = λ f h. ap (λ (c : Packet). get_or c f 0) e }

kept_trans : (w : ℕ) (a c b : Packet) → Kept w a c → Kept w c b → Kept w a b
kept_trans w a c b h k = record { long = k.long ∙ h.long; same = λ f e. k.same f e ∙ h.same f e }

pub kept_more : (w v : ℕ) (a b : Packet) → Sub w v → Kept w a b → Kept v a b
kept_more w v a b s h = record { long = h.long; same = λ f e. h.same f (sub_false w v f s e) }

kept_put : (f v : ℕ) (a b : Packet) → b ≡ put f v a → Kept (field f) a b
kept_put f v a b e = record {
  long = ap length e ∙ length_put f v a;
  same = λ g h. ap (λ (c : Packet). get_or c g 0) e ∙ put_other f v g a (other_field f g h);
}

-- one after the other, each within its own mask
pub kept_both : (wp wq : ℕ) (a c b : Packet) → Kept wp a c → Kept wq c b → Kept (bit_or wp wq) a b
kept_both wp wq a c b h k =
    kept_trans (bit_or wp wq) a c b (kept_more wp _ a c (sub_or_l wp wq) h) (kept_more wq _ c b (sub_or_r wp wq) k)

pub keeps : (p : Part) → Right p → (a b : Packet) → Gives p a b → Kept (written p) a b
unfolding written
keeps Id r a b g = kept_equal _ a b g
keeps Drop r a b g = absurd g
keeps (Test f v) r a b g = kept_equal _ a b g.1
keeps (Set f v) r a b g = kept_put f v a b g
keeps (Not p) r a b g = kept_equal _ a b g.0
keeps (Sum p q) r a b g =
    ⊎_elim (λ (h : Gives p a b). kept_more _ _ a b (sub_or_l (written p) (written q)) (keeps p r.0 a b h))
    (λ (h : Gives q a b). kept_more _ _ a b (sub_or_r (written p) (written q)) (keeps q r.1 a b h)) g
keeps (Seq p q) r a b g =
    kept_both (written p) (written q) a g.0 b (keeps p r.0 a g.0 g.1) (keeps q r.1 g.0 b g.2)
keeps (Beside wp wq p q) r a b g =
    let s = right_sides wp wq p q r.0 in
    kept_both wp wq a g.0 b (kept_more _ wp a g.0 s.writes_p (keeps p r.1 a g.0 g.1))
    (kept_more _ wq g.0 b s.writes_q (keeps q r.2 g.0 b g.2))
keeps (Table x rd w start p) r a b g = kept_more _ w a b (fit_body rd w p r.0).writes (keeps p r.1 a b g)
keeps (Open x rd w) r a b g = absurd g

off_l : (w m n : ℕ) → Off w (bit_or m n) → Off w m
off_l w m n o = off_sub w m (bit_or m n) (sub_or_l m n) o

off_r : (w m n : ℕ) → Off w (bit_or m n) → Off w n
off_r w m n o = off_sub w n (bit_or m n) (sub_or_r m n) o

-- fields that a part neither tests nor writes can be exchanged, before and after
pub frame : (p : Part) → Right p → (w : ℕ) → Off w (tested p) → Off w (written p) → (z a b : Packet)
    → Gives p a b → Gives p (mix w a z) (mix w b z)
unfolding tested written
frame Id r w t m z a b g = ap (λ (c : Packet). mix w c z) g
frame Drop r w t m z a b g = g
frame (Test f v) r w t m z a b g = (passes_mix w f v a z (t f (has_field f)) ∙ g.0, ap (λ (c : Packet). mix w c z) g.1)
frame (Set f v) r w t m z a b g = ap (λ (c : Packet). mix w c z) g ∙ put_mix w f v a z (m f (has_field f))
frame (Not p) r w t m z a b g = (
  ap (λ (c : Packet). mix w c z) g.0,
  λ c h. g.1 (mix w c a) (subst (λ (x : Packet). Gives p x (mix w c a)) (mix_back w a z) (frame p r w t m a (mix w a z) c h)),
)
frame (Sum p q) r w t m z a b g =
    ⊎_elim
    (λ (h : Gives p a b). inl (frame p r.0 w (off_l w _ (tested q) t) (off_l w _ (written q) m) z a b h))
    (λ (h : Gives q a b). inr (frame q r.1 w (off_r w (tested p) _ t) (off_r w (written p) _ m) z a b h)) g
frame (Seq p q) r w t m z a b g = (
  mix w g.0 z,
  frame p r.0 w (off_l w _ (tested q) t) (off_l w _ (written q) m) z a g.0 g.1,
  frame q r.1 w (off_r w (tested p) _ t) (off_r w (written p) _ m) z g.0 b g.2,
)
frame (Beside wp wq p q) r w t m z a b g =
    let s = right_sides wp wq p q r.0 in (
      mix w g.0 z,
      frame p r.1 w (off_l w _ (tested q) t) (off_sub w _ wp s.writes_p (off_l w wp wq m)) z a g.0 g.1,
      frame q r.2 w (off_r w (tested p) _ t) (off_sub w _ wq s.writes_q (off_r w wp wq m)) z g.0 b g.2,
    )
frame (Table x rd v start p) r w t m z a b g =
    let s = fit_body rd v p r.0 in
    frame p r.1 w (off_sub w _ (bit_or rd v) s.reads t) (off_sub w _ v s.writes m) z a b g
frame (Open x rd v) r w t m z a b g = g
