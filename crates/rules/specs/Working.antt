-- What the steps lead to on a set: the packets, N, the room and the width (document 01, "Meaning" and "Steps").
use Rattle.std.specs.Prelude.{ℕ, ◌+◌, max, [], ◌∷◌, map, length}
use Rattle.rules.specs.Packets.{Packet, Packets, passes, put, without, union, keep, lacks, gathered, pairs}
use Rattle.rules.specs.Parts.{Part, Id, Drop, Test, Set, Not, Sum, Seq, Beside, Table, Open}

-- packet by packet: z for none, f for one, g for the lowest and the rest
unfoldable pub each : {A : Type 0} → A → (Packet → A) → (A → A → A) → Packets → A
each z f g [] = z
each z f g (x ∷ []) = f x
each z f g (x ∷ (y ∷ s)) = g (f x) (each z f g (y ∷ s))

-- the packets given: "a concurrent part takes one packet at a time"
unfoldable pub out : Part → Packets → Packets
out Id s = s
out Drop s = []
out (Test f v) s = keep (passes f v) s
out (Set f v) s = gathered (map (put f v) s)
out (Not p) s = keep (lacks (out p s)) s
out (Sum p q) s = union (out p s) (out q s)
out (Seq p q) s = out q (out p s)
out (Beside wp wq p q) s = each [] (λ x. pairs wq (out p (without wq x ∷ [])) (out q (without wp x ∷ []))) union s
out (Table x r w start p) s = out p s
out (Open x r w) s = []

-- N: "drop, test, set 1; p ; q the steps of both and 1; p + q those of both and 2; not a those of a and 2; beside 1, or those of
-- both sides and 2, or those of lowest and rest and 2; table 1 and its body"
unfoldable pub steps : Part → Packets → ℕ
steps Id s = 0
steps Drop s = 1
steps (Test f v) s = 1
steps (Set f v) s = 1
steps (Not p) s = steps p s + 2
steps (Sum p q) s = steps p s + steps q s + 2
steps (Seq p q) s = steps p s + steps q (out p s) + 1
steps (Beside wp wq p q) s =
    each 1 (λ x. steps p (without wq x ∷ []) + steps q (without wp x ∷ []) + 2) (λ m n. m + n + 2) s
steps (Table x r w start p) s = 1 + steps p s
steps (Open x r w) s = 1

-- the room: "1 for id, drop, test, set and an empty concurrent set; for p ; q the larger of 1 + room of p and room of q; 1 + both
-- for sums, entered sides and splits; 1 + room for not; the body's for a table"
unfoldable pub room : Part → Packets → ℕ
room Id s = 1
room Drop s = 1
room (Test f v) s = 1
room (Set f v) s = 1
room (Not p) s = 1 + room p s
room (Sum p q) s = 1 + (room p s + room q s)
room (Seq p q) s = max (1 + room p s) (room q (out p s))
room (Beside wp wq p q) s =
    each 1 (λ x. 1 + (room p (without wq x ∷ []) + room q (without wp x ∷ []))) (λ m n. 1 + (m + n)) s
room (Table x r w start p) s = room p s
room (Open x r w) s = 1

-- the most packets that any part is handed or gives; too wide is a width over 16
unfoldable pub own : Part → Packets → ℕ
own p s = max (length s) (length (out p s))

-- of a concurrent part: f for one packet, o for the part itself on each set that it is placed on
unfoldable pub widest : (Packet → ℕ) → (Packets → ℕ) → Packets → ℕ
widest f o [] = o []
widest f o (x ∷ s) = max (o (x ∷ s)) (max (max (o (x ∷ [])) (f x)) (widest f o s))

unfoldable pub width : Part → Packets → ℕ
width Id s = own Id s
width Drop s = own Drop s
width (Test f v) s = own (Test f v) s
width (Set f v) s = own (Set f v) s
width (Not p) s = max (own (Not p) s) (width p s)
width (Sum p q) s = max (own (Sum p q) s) (max (width p s) (width q s))
width (Seq p q) s = max (own (Seq p q) s) (max (width p s) (width q (out p s)))
width (Beside wp wq p q) s =
    widest (λ x. max (width p (without wq x ∷ [])) (width q (without wp x ∷ []))) (own (Beside wp wq p q)) s
width (Table x r w start p) s = max (own (Table x r w start p) s) (width p s)
width (Open x r w) s = own (Open x r w) s
