-- The next packet of a union of two slots.
use Rattle.std.specs.Prelude.{ℕ, ◌+◌, ◌≤◌, ◌<◌, ◌≡◌, ◌⊎◌, List, ◌∷◌, drop}
use Rattle.rules.specs.Packets.{most_packets, union}
use Rattle.area.specs.declared.joins.Next.{Next}
use Rattle.area.specs.Words.{rows_at, packet_at}

-- t says which packet comes next of the a packets of slot l from x on and the b of slot r from y on, and where they go on after it
pub record Leads (w : List ℕ) (l r a b x y : ℕ) (t : Next) : Type 0 where
  pub slot : (t.slot ≡ l) ⊎ (t.slot ≡ r)
  pub row : t.row < most_packets
  pub more : x + y < t.x + t.y
  pub left : t.x ≤ a
  pub right : t.y ≤ b
  pub same : union (drop x (rows_at w l a)) (drop y (rows_at w r b))
      ≡ packet_at w t.slot t.row ∷ union (drop t.x (rows_at w l a)) (drop t.y (rows_at w r b))
