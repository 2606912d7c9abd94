-- Document 001, Lemma 5, for one packet: a rightly typed concurrent part gives what p ; q gives, and what q ; p gives.
use mathlib.Core.Path.{◌≡◌, refl, sym, ◌∙◌, subst, subst₂}
use mathlib.Core.Logic.{◌↔◌}
use mathlib.Core.Bool.{true, false}
use Prim.Native.Nat.{ℕ}
use mathlib.Core.List.{[]}
use lib.ListN.{length, get_or}
use Rattle.rules.specs.Masks.{has}
use Rattle.rules.specs.Packets.{Packet, mix, without}
use Rattle.rules.specs.Parts.{Part, Beside}
use Rattle.rules.specs.Typing.{tested, written, right_beside, Right}
use Rattle.rules.specs.Meaning.{Gives, Paired}
use Rattle.rules.proofs.MaskLaws.{bits, off_sub}
use Rattle.rules.proofs.PacketLaws.{length_mix, mix_on, mix_off, mix_is, mix_back}
use Rattle.rules.proofs.TypingLaws.{RightParts, right_sides, right_turned}
use Rattle.rules.proofs.Frame.{Kept, keeps, kept_more, frame}

module _ (wp wq : ℕ) (p q : Part) (right : right_beside wp wq p q ≡ true) (rp : Right p) (rq : Right q) where
  sides : RightParts wp wq (tested p) (written p) (tested q) (written q)
  sides = right_sides wp wq p q right

  kept_p : (a b : Packet) → Gives p a b → Kept wp a b
  kept_p a b g = kept_more _ wp a b sides.writes_p (keeps p rp a b g)

  kept_q : (a b : Packet) → Gives q a b → Kept wq a b
  kept_q a b g = kept_more _ wq a b sides.writes_q (keeps q rq a b g)

  frame_p : (z a b : Packet) → Gives p a b → Gives p (mix wq a z) (mix wq b z)
  frame_p = frame p rp wq sides.reads_p (off_sub wq _ wp sides.writes_p sides.apart_q)

  frame_q : (z a b : Packet) → Gives q a b → Gives q (mix wp a z) (mix wp b z)
  frame_q = frame q rq wp sides.reads_q (off_sub wp _ wq sides.writes_q sides.apart_p)

  -- what the sides give is as long
  level : (a x y : Packet) → Kept wp (without wq a) x → Kept wq (without wp a) y → length x ≡ length y
  level a x y kx ky = kx.long ∙ length_mix wq a [] ∙ sym (ky.long ∙ length_mix wp a [])

  -- and agrees where neither may write
  agree : (a x y : Packet) → Kept wp (without wq a) x → Kept wq (without wp a) y → (i : ℕ) → has wp i ≡ false → has wq i ≡ false
      → get_or x i 0 ≡ get_or y i 0
  agree a x y kx ky i o k = kx.same i o ∙ mix_off wq a [] i k ∙ sym (ky.same i k ∙ mix_off wp a [] i o)

  split : (a c b : Packet) → Gives p a c → Gives q c b → Paired wp wq p q a b
  split a c b gp gq =
      let kp : Kept wp a c = kept_p a c gp in
      let kq : Kept wq c b = kept_q c b gq in
      let e : without wp c ≡ without wp a =
      mix_is wp c [] (without wp a) (length_mix wp a [] ∙ sym kp.long)
      (λ i h o. mix_on wp a [] i o (rw (← kp.long) h))
      (λ i h o. mix_off wp a [] i o ∙ sym (kp.same i o)) in
      let m : mix wq (without wq c) (without wp b) ≡ b =
      mix_is wq (without wq c) (without wp b) b (kq.long ∙ sym (length_mix wq c []))
      (λ i h o. sym (mix_off wp b [] i (sides.apart_p i o)))
      (λ i h o. kq.same i o ∙ sym (mix_off wq c [] i o)) in
      (without wq c, without wp b, frame_p [] a c gp, subst (λ (t : Packet). Gives q t (without wp b)) e (frame_q [] c b gq), sym m)

  join : (a b : Packet) → Paired wp wq p q a b → (c : Packet) × Gives p a c × Gives q c b
  join a b (x, y, gp, gq, e) =
      let c : Packet = mix wq x a in
      let kx : Kept wp (without wq a) x = kept_p _ x gp in
      let ky : Kept wq (without wp a) y = kept_q _ y gq in
      let gc : Gives p a c = subst (λ (t : Packet). Gives p t c) (mix_back wq a []) (frame_p a (without wq a) x gp) in
      let kc : Kept wp a c = kept_p a c gc in
      let l : length x ≡ length y = level a x y kx ky in
      let e₁ : mix wp (without wp a) c ≡ c =
      mix_is wp (without wp a) c c (kc.long ∙ sym (length_mix wp a [])) (λ i h o. refl)
      (λ i h o. kc.same i o ∙ sym (mix_off wp a [] i o)) in
      let e₂ : mix wp y c ≡ mix wq x y =
      mix_is wp y c (mix wq x y) (length_mix wq x y ∙ l)
      (λ i h o. mix_off wq x y i (sides.apart_q i o) ∙ sym (mix_off wq x a i (sides.apart_q i o)))
      (λ i h o. bits (has wq i) (λ k. mix_on wq x y i k (rw l h)) (λ k. mix_off wq x y i k ∙ agree a x y kx ky i o k)) in
      (c, gc, subst₂ (λ (s t : Packet). Gives q s t) e₁ (e₂ ∙ sym e) (frame_q c (without wp a) y gq))

  pub serializes : (a b : Packet) → Paired wp wq p q a b ↔ Gives (Beside wp wq p q) a b
  serializes a b = (join a b, λ g. split a g.0 b g.1 g.2)

  -- the two sides in the other order pair to the same packet
  pub pairs_turned : (a x y : Packet) → Gives p (without wq a) x → Gives q (without wp a) y → mix wq x y ≡ mix wp y x
  pairs_turned a x y gp gq =
      let kx : Kept wp (without wq a) x = kept_p _ x gp in
      let ky : Kept wq (without wp a) y = kept_q _ y gq in
      let l : length x ≡ length y = level a x y kx ky in
      mix_is wq x y (mix wp y x) (length_mix wp y x ∙ sym l) (λ i h o. mix_off wp y x i (sides.apart_p i o))
      (λ i h o. bits (has wp i) (λ k. mix_on wp y x i k (rw (← l) h)) (λ k. mix_off wp y x i k ∙ sym (agree a x y kx ky i k o)))

  pub paired_turned : (a b : Packet) → Paired wp wq p q a b → Paired wq wp q p a b
  paired_turned a b (x, y, gp, gq, e) = (y, x, gq, gp, e ∙ pairs_turned a x y gp gq)

commute : (wp wq : ℕ) (p q : Part) → right_beside wp wq p q ≡ true → Right p → Right q → (a b : Packet)
    → Gives (Beside wp wq p q) a b → Gives (Beside wq wp q p) a b
commute wp wq p q r rp rq a b g =
    (serializes wq wp q p (right_turned wp wq p q ∙ r) rq rp a b).0
    (paired_turned wp wq p q r rp rq a b ((serializes wp wq p q r rp rq a b).1 g))

-- the order of the sides does not matter
pub commutes : (wp wq : ℕ) (p q : Part) → right_beside wp wq p q ≡ true → Right p → Right q → (a b : Packet)
    → Gives (Beside wp wq p q) a b ↔ Gives (Beside wq wp q p) a b
commutes wp wq p q r rp rq a b =
    (commute wp wq p q r rp rq a b, commute wq wp q p (right_turned wp wq p q ∙ r) rq rp a b)
