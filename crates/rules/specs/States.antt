-- The states of a run, the steps, and a run under a schedule of bytes (document 01, "Steps").
use Rattle.std.specs.Prelude.{ℕ, suc, ◌+◌, ◌%◌, max, cond, List, [], ◌∷◌, ◌++◌, map, length, get_or}
use Rattle.rules.specs.Masks.{field, within, less}
use Rattle.rules.specs.Packets.{Packets, passes, put, without, union, keep, lacks, gathered, pairs}
use Rattle.rules.specs.Parts.{Part, Id, Drop, Test, Set, Not, Sum, Seq, Beside, Table, Open, size}

-- where a part stands: the place of its code byte, and the fields that the position has
pub record Spot : Type 0 where
  pub at : ℕ
  pub fields : ℕ

-- n bytes on; elsewhere in the book; without the fields of a mask
abbrev pub on : ℕ → Spot → Spot
on n o = record { at = o.at + n; fields = o.fields }

abbrev pub moved : ℕ → Spot → Spot
moved at o = record { at = at; fields = o.fields }

abbrev pub losing : ℕ → Spot → Spot
losing w o = record { at = o.at; fields = less o.fields w }

-- how two finished positions below become one set: a sum, a split by packets, the two sides of a concurrent part
pub data Join : Type 0 where
  entered : Join
  split : Join
  paired : (wp wq : ℕ) → Join

unfoldable pub join : Join → Packets → Packets → Packets
join entered s t = union s t
join split s t = union s t
join (paired wp wq) s t = pairs wq s t

-- "A state is a tree of positions": a part to be stepped; a finished one; p ; q with p below; not with the kept set; two below
pub data Tree : Type 0 where
  placed : Spot → Part → Packets → Tree
  done : Packets → Tree
  waiting : Tree → Spot → Part → Tree
  negated : Packets → Tree → Tree
  both : Join → Tree → Tree → Tree

-- "id is finished at once"; "A sequence has a position below it for p as soon as it is placed"
unfoldable pub place : Spot → Part → Packets → Tree
place o Id s = done s
place o Drop s = placed o Drop s
place o (Test f v) s = placed o (Test f v) s
place o (Set f v) s = placed o (Set f v) s
place o (Not p) s = placed o (Not p) s
place o (Sum p q) s = placed o (Sum p q) s
place o (Seq p q) s = waiting (place (on 1 o) p s) (on (1 + size p) o) q
place o (Beside wp wq p q) s = placed o (Beside wp wq p q) s
place o (Table x r w start p) s = placed o (Table x r w start p) s
place o (Open x r w) s = placed o (Open x r w) s

-- the step at a placed part. No run places `Id` or `Seq` (`place` does not); here they go on to what `place` makes of them.
unfoldable pub enter : Spot → Part → Packets → Tree
enter o Id s = done s
enter o Drop s = done []
enter o (Test f v) s = done (keep (passes f v) s)
enter o (Set f v) s = done (gathered (map (put f v) s))
enter o (Not p) s = negated s (place (on 1 o) p s)
enter o (Sum p q) s = both entered (place (on 1 o) p s) (place (on (1 + size p) o) q s)
enter o (Seq p q) s = waiting (place (on 1 o) p s) (on (1 + size p) o) q
enter o (Beside wp wq p q) [] = done []
enter o (Beside wp wq p q) (x ∷ []) =
    both (paired wp wq) (place (losing wq (on 3 o)) p (without wq x ∷ [])) (place (losing wp (on (3 + size p) o)) q (without wp x ∷ []))
enter o (Beside wp wq p q) (x ∷ (y ∷ s)) =
    both split (placed o (Beside wp wq p q) (x ∷ [])) (placed o (Beside wp wq p q) (y ∷ s))
enter o (Table x r w start p) s = place (moved start o) p s
enter o (Open x r w) s = done []

-- the set of a finished position, in a list: none or one
unfoldable pub finish : Tree → List Packets
finish (placed o p s) = []
finish (done s) = s ∷ []
finish (waiting t o q) = []
finish (negated k t) = []
finish (both j t u) = []

unfoldable pub leave : Join → List Packets → List Packets → List Tree
leave j [] b = []
leave j (s ∷ a) b = map (λ t. done (join j s t)) b

-- the states after one step, one for each ready position, left to right; a position's own step is ready only where none below is
unfoldable pub next : Tree → List Tree
next (placed o p s) = enter o p s ∷ []
next (done s) = []
next (waiting t o q) = map (λ s. place o q s) (finish t) ++ map (λ t'. waiting t' o q) (next t)
next (negated k t) = map (λ s. done (keep (lacks s) k)) (finish t) ++ map (λ t'. negated k t') (next t)
next (both j t u) =
    leave j (finish t) (finish u) ++ (map (λ t'. both j t' u) (next t) ++ map (λ u'. both j t u') (next u))

-- "finished and waiting ones are live too"
unfoldable pub live : Tree → ℕ
live (placed o p s) = 1
live (done s) = 1
live (waiting t o q) = 1 + live t
live (negated k t) = 1 + live t
live (both j t u) = 1 + (live t + live u)

-- the most packets that a live position holds
unfoldable pub held : Tree → ℕ
held (placed o p s) = length s
held (done s) = length s
held (waiting t o q) = held t
held (negated k t) = max (length k) (held t)
held (both j t u) = max (held t) (held u)

abbrev pub ready : Tree → ℕ
ready t = length (next t)

-- "byte b picks position b mod r. No byte is read after the finish": a finished state stays
unfoldable pub move : ℕ → Tree → Tree
move b t = get_or (next t) (b % ready t) t

unfoldable pub run : Tree → List ℕ → Tree
run t [] = t
run t (b ∷ bs) = run (move b t) bs

-- the steps made: one for each byte read, none once nothing is ready
unfoldable pub counted : List Tree → ℕ → ℕ
counted [] n = 0
counted (u ∷ us) n = suc n

unfoldable pub made : Tree → List ℕ → ℕ
made t [] = 0
made t (b ∷ bs) = counted (next t) (made (move b t) bs)

-- ---- "stuck: a step tests or writes a field that its position lacks" (13)

-- the field that a part's step tests or writes
unfoldable pub used : Part → ℕ
used Id = 0
used Drop = 0
used (Test f v) = field f
used (Set f v) = field f
used (Not p) = 0
used (Sum p q) = 0
used (Seq p q) = 0
used (Beside wp wq p q) = 0
used (Table x r w start p) = 0
used (Open x r w) = 0

-- the place, in a list, if a step there would be stuck
unfoldable pub lacking : Spot → Part → List ℕ
lacking o p = cond (within (used p) o.fields) [] (o.at ∷ [])

-- for each ready position, in the order of `next`, whether its step is stuck
unfoldable pub stuck_steps : Tree → List (List ℕ)
stuck_steps (placed o p s) = lacking o p ∷ []
stuck_steps (done s) = []
stuck_steps (waiting t o q) = map (λ s. []) (finish t) ++ stuck_steps t
stuck_steps (negated k t) = map (λ s. []) (finish t) ++ stuck_steps t
stuck_steps (both j t u) = map (λ t'. []) (leave j (finish t) (finish u)) ++ (stuck_steps t ++ stuck_steps u)

-- the places of the stuck steps of a run, in the order of the run
unfoldable pub stuck_in : Tree → List ℕ → List ℕ
stuck_in t [] = []
stuck_in t (b ∷ bs) = get_or (stuck_steps t) (b % ready t) [] ++ stuck_in (move b t) bs
