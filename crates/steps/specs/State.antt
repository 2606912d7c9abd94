-- What the words hold: a net of positions, whose numbers and the free ones are all different; the ready ones from left to right.
use Rattle.std.specs.Prelude.{ℕ, Option, Some, None, ◌+◌, ◌≤◌, ◌<◌, ◌≡◌, true, false, cond, List, [], ◌∷◌, ◌++◌, ltb, length, get_or}
use Rattle.rules.specs.Packets.{Packets, Ascending, keep, lacks, most_packets}
use Rattle.rules.specs.Parts.{Part}
use Rattle.rules.specs.States.{Tree, Spot, place, enter, join, live}
use Rattle.steps.specs.Standing.{part_of, join_of, Runnable}
use Rattle.links.specs.Nets.{Net, Node, Rest, Over, Waits, Keeps, Two, Shows, AllShow, bare, root, foot, is_over, ready_of, times}
use Rattle.area.specs.declared.headers.Header.{Header}
use Rattle.area.specs.declared.headers.Phase.{Phase}
use Rattle.area.specs.declared.headers.Phase.TheVariants.{Placed, Finished, Waiting, Negated, Entered, Split, Paired}
use Rattle.area.specs.declared.lists.Ready.{Ready}
use Rattle.area.specs.declared.lists.Ready.TheVariants.{Nobody, One, Pair}
use Rattle.area.specs.Words.{positions, area_words, nobody, header_at, slot_at, rows_at, ready_list, free_list, past_area}

-- what a header and its packets mean, by the phase
unfoldable pub shown_by : List ℕ → Phase → Header → Packets → Node
shown_by s Placed h x = Rest h.place (part_of s h.place) x
shown_by s Finished h x = Over x
shown_by s Waiting h x = Waits h.place (part_of s h.place) h.left
shown_by s Negated h x = Keeps x h.left
shown_by s Entered h x = Two (join_of s Entered h.place) h.left h.right
shown_by s Split h x = Two (join_of s Split h.place) h.left h.right
shown_by s Paired h x = Two (join_of s Paired h.place) h.left h.right

abbrev pub shown : List ℕ → Header → Packets → Node
shown s h x = shown_by s h.phase h x

-- position i shows x below `up`
pub record Showing (s w : List ℕ) (i up : ℕ) (x : Node) : Type 0 where
  pub node : shown s (header_at w i) (rows_at w i (header_at w i).count) ≡ x
  pub above : (header_at w i).up ≡ up

abbrev pub showing : List ℕ → List ℕ → Shows
showing s w = Showing s w

-- a position's number stands once in these lists, at most, and another not at all
unfoldable pub below : ℕ → ℕ
below k = cond (ltb k positions) 1 0

abbrev pub Once : List ℕ → List ℕ → Type 0
Once a f = (k : ℕ) → times k a + times k f ≤ below k

-- no position is changed but those of a, and nothing past the area
pub record Spares (w v a : List ℕ) : Type 0 where
  pub heads : (k : ℕ) → k < positions → times k a ≡ 0 → header_at v k ≡ header_at w k
  pub slots : (k : ℕ) → k < positions → times k a ≡ 0 → slot_at v k ≡ slot_at w k
  pub past : past_area v ≡ past_area w
  pub long : length v ≡ length w

-- the positions a, with free ones, have become a net of the state t, at number i below `up`; n free numbers were there, m are left
pub record Makes (s w v : List ℕ) (n m : ℕ) (a : List ℕ) (up i : ℕ) (t : Tree) : Type 0 where
  pub net : Net
  pub bare : bare net ≡ t
  pub root : root net ≡ i
  pub held : AllShow (showing s v) up net
  pub count : (k : ℕ) → times k (foot net) + times k (free_list v m) ≡ times k a + times k (free_list w n)
  pub size : length (foot net) + m ≡ length a + n
  pub else : Spares w v (a ++ free_list w n)
  pub ready : ready_list v positions ≡ ready_list w positions

-- position i has become h with the packets x, and nothing else is changed
pub record Becomes (w v : List ℕ) (i : ℕ) (h : Header) (x : Packets) : Type 0 where
  pub head : header_at v i ≡ h
  pub rows : rows_at v i (length x) ≡ x
  pub spares : Spares w v (i ∷ [])
  pub free : (n : ℕ) → n ≤ positions → free_list v n ≡ free_list w n
  pub ready : ready_list v positions ≡ ready_list w positions

-- the words hold the state t, the position without one above it at number 0, with so many free numbers and ready positions
pub record Holds (s w : List ℕ) (n r : ℕ) (t : Tree) : Type 0 where
  pub net : Net
  pub bare : bare net ≡ t
  pub root : root net ≡ 0
  pub held : AllShow (showing s w) nobody net
  pub once : Once (foot net) (free_list w n)
  pub size : length (foot net) + n ≡ positions
  pub ready : ready_list w r ≡ ready_of net
  pub few : r ≤ positions
  pub area : area_words ≤ length w

-- what a net offers: its one ready position, or none where it is finished
pub data Offers (x : Net) (r : Option ℕ) : Type 0 where
  ended : is_over x ≡ true → r ≡ None → Offers x r
  offers : (a : ℕ) → is_over x ≡ false → ready_of x ≡ a ∷ [] → a < positions → r ≡ Some a → Offers x r

-- the part at a place is placed at number i, on packets of the slot `src`: it stands in the book, and there is room for its positions
pub record Laying (s w : List ℕ) (n i at src count : ℕ) : Type 0 where
  pub stands : Runnable s at
  pub there : i < positions
  pub few : n ≤ positions
  pub once : Once (i ∷ []) (free_list w n)
  pub room : live (place (record { at = at; fields = 0 }) (part_of s at) (rows_at w src count)) ≤ n + 1
  pub source : src < positions
  pub slim : count ≤ most_packets

-- it is placed, whatever fields the position has, and offers r
pub record Laid (s w v : List ℕ) (n m i up at src count : ℕ) (r : Option ℕ) (fields : ℕ) : Type 0 where
  pub makes : Makes s w v n m (i ∷ []) up i (place (record { at = at; fields = fields }) (part_of s at) (rows_at w src count))
  pub offer : Offers makes.net r

-- ---- the steps

abbrev pub spot_at : List ℕ → ℕ → ℕ → Spot
spot_at w i f = record { at = (header_at w i).place; fields = f }

abbrev pub part_at : List ℕ → List ℕ → ℕ → Part
part_at s w i = part_of s (header_at w i).place

abbrev pub set_at : List ℕ → ℕ → Packets
set_at w i = rows_at w i (header_at w i).count

abbrev pub entering : List ℕ → List ℕ → ℕ → ℕ → Tree
entering s w i f = enter (spot_at w i f) (part_at s w i) (set_at w i)

-- the ready positions of two below number i: i itself where both are finished
abbrev pub two_ready : ℕ → Option ℕ → Option ℕ → Ready
two_ready i None None = One i
two_ready i None (Some b) = One b
two_ready i (Some a) None = One a
two_ready i (Some a) (Some b) = Pair a b

-- what a net offers after a step: nothing where it is finished, else one or two ready positions
pub data Offers₂ (x : Net) (r : Ready) : Type 0 where
  ended₂ : is_over x ≡ true → r ≡ Nobody → Offers₂ x r
  offers₁ : (a : ℕ) → is_over x ≡ false → ready_of x ≡ a ∷ [] → a < positions → r ≡ One a → Offers₂ x r
  offers₂ : (a q : ℕ) → is_over x ≡ false → ready_of x ≡ a ∷ q ∷ [] → a < positions → q < positions → r ≡ Pair a q → Offers₂ x r

-- the positions a, of which i is the upper one, have become the state t, which offers r
pub record Turned (s w v : List ℕ) (n m : ℕ) (a : List ℕ) (up i : ℕ) (t : Tree) (r : Ready) : Type 0 where
  pub makes : Makes s w v n m a up i t
  pub offer : Offers₂ makes.net r

-- a part of this code is placed at number i, and can be stepped
pub record Entering (s w : List ℕ) (n i code : ℕ) : Type 0 where
  pub stands : Runnable s (header_at w i).place
  pub there : i < positions
  pub few : n ≤ positions
  pub once : Once (i ∷ []) (free_list w n)
  pub reads : get_or s (header_at w i).place 0 ≡ code
  pub room : live (entering s w i 0) ≤ n + 1
  pub slim : (header_at w i).count ≤ most_packets
  pub rises : Ascending (set_at w i)

-- p ; q at number i, where p is finished at number c
pub record Taking (s w : List ℕ) (n i c : ℕ) : Type 0 where
  pub stands : Runnable s (header_at w i).place
  pub below : (header_at w i).left ≡ c
  pub once : Once (i ∷ c ∷ []) (free_list w n)
  pub few : n < positions
  pub room : live (place (spot_at w i 0) (part_at s w i) (set_at w c)) ≤ n + 2
  pub slim : (header_at w c).count ≤ most_packets

-- two finished positions l and r below number i
abbrev pub joining : List ℕ → List ℕ → ℕ → ℕ → ℕ → Packets
joining s w i l r = join (join_of s (header_at w i).phase (header_at w i).place) (set_at w l) (set_at w r)

pub record Joining (s w : List ℕ) (n i l r : ℕ) : Type 0 where
  pub first : (header_at w i).left ≡ l
  pub second : (header_at w i).right ≡ r
  pub once : Once (i ∷ l ∷ r ∷ []) (free_list w n)
  pub few : n + 2 ≤ positions
  pub slim_first : (header_at w l).count ≤ most_packets
  pub slim_second : (header_at w r).count ≤ most_packets
  pub rises_first : Ascending (set_at w l)
  pub rises_second : Ascending (set_at w r)
  pub slim : length (joining s w i l r) ≤ most_packets

-- not a at number i, where a is finished at number c: the kept packets that a did not give
abbrev pub lacking : List ℕ → ℕ → ℕ → Packets
lacking w i c = keep (lacks (set_at w c)) (set_at w i)

pub record Lacking (w : List ℕ) (n i c : ℕ) : Type 0 where
  pub below : (header_at w i).left ≡ c
  pub once : Once (i ∷ c ∷ []) (free_list w n)
  pub few : n < positions
  pub slim_own : (header_at w i).count ≤ most_packets
  pub slim_below : (header_at w c).count ≤ most_packets
  pub rises_own : Ascending (set_at w i)
  pub rises_below : Ascending (set_at w c)
