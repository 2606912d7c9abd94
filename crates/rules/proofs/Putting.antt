-- The members of a set into which a packet is put before, at or after another.
use Rattle.std.specs.declared.cmp.Ordering.{Ordering}
use Rattle.std.specs.declared.cmp.Ordering.TheVariants.{Less, Equal, Greater}
use mathlib.Core.Path.{◌≡◌, ◌∙◌}
use mathlib.Core.Logic.{◌⊎◌, inl, inr, ⊎_elim}
use mathlib.Core.List.{◌∷◌}
use Rattle.rules.specs.Packets.{Packet, Packets, order_of, ◌∈◌, put_by}
use Rattle.rules.proofs.Orders.{order_same}

pub put_out : (o : Ordering) (b x y : Packet) (s r : Packets) → (b ∈ r → (b ≡ x) ⊎ (b ∈ s)) → b ∈ put_by o x y s r → (b ≡ x) ⊎ (b ∈ (y ∷ s))
put_out Less b x y s r h m = m
put_out Equal b x y s r h m = inr m
put_out Greater b x y s r h (inl e) = inr (inl e)
put_out Greater b x y s r h (inr m) = ⊎_elim (λ (e : b ≡ x). inl e) (λ (k : b ∈ s). inr (inr k)) (h m)

pub put_in : (o : Ordering) (b x y : Packet) (s r : Packets) → order_of x y ≡ o → ((b ≡ x) ⊎ (b ∈ s) → b ∈ r)
    → (b ≡ x) ⊎ (b ∈ (y ∷ s)) → b ∈ put_by o x y s r
put_in Less b x y s r t h m = m
put_in Equal b x y s r t h (inl e) = inl (e ∙ order_same x y t)
put_in Equal b x y s r t h (inr m) = m
put_in Greater b x y s r t h (inl e) = inr (h (inl e))
put_in Greater b x y s r t h (inr (inl e)) = inl e
put_in Greater b x y s r t h (inr (inr m)) = inr (h (inr m))
