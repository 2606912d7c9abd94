-- The words of the area: a header for each position, the numbers of the ready positions, those of the free ones, and a slot of sixteen
-- packets for each position. A position's number is its slot's, and never changes.
use Rattle.std.specs.Prelude.{ℕ, zero, suc, Bool, true, false, ◌+◌, ◌-◌, ◌*◌, ◌≤◌, ◌<◌, ◌≡◌, List, [], ◌∷◌, ◌++◌, length, take, drop, get_or}
use Rattle.std.specs.declared.ops.Range.{Range}
use Rattle.rules.specs.Packets.{Packet, Packets, Ascending, places, most_packets}
use Rattle.rows.specs.Chunks.{chunks, rows_of, Held}
use Rattle.area.specs.declared.headers.Header.{Header}
use Rattle.area.specs.declared.headers.Phase.{Phase}
use Rattle.area.specs.declared.headers.Phase.TheVariants.{Placed, Finished, Waiting, Negated, Entered, Split, Paired}

-- ---- the layout: how many positions there are and how many words a packet has; the rest follows

abbrev pub positions : ℕ
positions = 160

abbrev pub row_words : ℕ
row_words = places

-- the words of a header, and of a slot
abbrev pub head_words : ℕ
head_words = 6

abbrev pub slot_words : ℕ
slot_words = most_packets * row_words

-- where the ready numbers, the free numbers and the slots begin, and where the area ends
abbrev pub ready_from : ℕ
ready_from = positions * head_words

abbrev pub free_from : ℕ
free_from = ready_from + positions

abbrev pub slots_from : ℕ
slots_from = free_from + positions

abbrev pub slot_from : ℕ → ℕ
slot_from i = slots_from + i * slot_words

-- where the words of slot i stand
abbrev pub slot_range : ℕ → Range ℕ
slot_range i = record { start = slot_from i; end = slot_from i + slot_words }

abbrev pub area_words : ℕ
area_words = slots_from + positions * slot_words

-- no position's number: what stands above the root
abbrev pub nobody : ℕ
nobody = positions

-- ---- the phases of a position, and the words that stand for them

abbrev pub word_of : Phase → ℕ
word_of Placed = 0
word_of Finished = 1
word_of Waiting = 2
word_of Negated = 3
word_of Entered = 4
word_of Split = 5
word_of Paired = 6

unfoldable pub phase_at : ℕ → Phase
phase_at zero = Placed
phase_at (suc zero) = Finished
phase_at (suc (suc zero)) = Waiting
phase_at (suc (suc (suc zero))) = Negated
phase_at (suc (suc (suc (suc zero)))) = Entered
phase_at (suc (suc (suc (suc (suc zero))))) = Split
phase_at (suc (suc (suc (suc (suc (suc w)))))) = Paired

-- whether it is above two others
abbrev pub is_above : Phase → Bool
is_above Placed = false
is_above Finished = false
is_above Waiting = false
is_above Negated = false
is_above Entered = true
is_above Split = true
is_above Paired = true

-- ---- what the words are

unfoldable pub header_at : List ℕ → ℕ → Header
header_at w i = record {
  place = get_or w (i * head_words) 0;
  phase = phase_at (get_or w (i * head_words + 1) 0);
  count = get_or w (i * head_words + 2) 0;
  up = get_or w (i * head_words + 3) 0;
  left = get_or w (i * head_words + 4) 0;
  right = get_or w (i * head_words + 5) 0;
}

-- the header of a finished position with n packets
abbrev pub finished_head : ℕ → ℕ → Header
finished_head up n = record { place = 0; phase = Finished; count = n; up = up; left = 0; right = 0 }

-- the n words from p on
unfoldable pub part : ℕ → ℕ → List ℕ → List ℕ
part p n w = take n (drop p w)

abbrev pub slot_at : List ℕ → ℕ → List ℕ
slot_at w i = part (slot_from i) slot_words w

-- the first n packets of slot i, and packet k
abbrev pub rows_at : List ℕ → ℕ → ℕ → Packets
rows_at w i n = chunks row_words n (slot_at w i)

abbrev pub packet_at : List ℕ → ℕ → ℕ → Packet
packet_at w i k = get_or (rows_of row_words (slot_at w i)) k []

-- the first n ready and the first n free numbers
abbrev pub ready_list : List ℕ → ℕ → List ℕ
ready_list w n = part ready_from n w

abbrev pub free_list : List ℕ → ℕ → List ℕ
free_list w n = part free_from n w

abbrev pub past_area : List ℕ → List ℕ
past_area w = drop area_words w

-- ---- what a write leaves

-- v is w but for the words from a to b
pub record Outside (w v : List ℕ) (a b : ℕ) : Type 0 where
  pub long : length v ≡ length w
  pub before : (k : ℕ) → k < a → get_or v k 0 ≡ get_or w k 0
  pub after : (k : ℕ) → b ≤ k → get_or v k 0 ≡ get_or w k 0

-- v is w but for slot i
abbrev pub OutsideSlot : List ℕ → List ℕ → ℕ → Type 0
OutsideSlot w v i = Outside w v (slot_from i) (slot_from i + slot_words)

-- header i has become h, and nothing else is changed
pub record Headed (w v : List ℕ) (i : ℕ) (h : Header) : Type 0 where
  pub here : header_at v i ≡ h
  pub out : Outside w v (i * head_words) (i * head_words + head_words)

-- the first packets of slot i have become x, and no other slot is changed
pub record Slotted (w v : List ℕ) (i : ℕ) (x : Packets) : Type 0 where
  pub here : rows_at v i (length x) ≡ x
  pub out : OutsideSlot w v i

-- p has become packet k of slot i, after those before it; no other slot is changed
pub record Rowed (w v : List ℕ) (i k : ℕ) (p : Packet) : Type 0 where
  pub here : rows_at v i (k + 1) ≡ rows_at w i k ++ (p ∷ [])
  pub out : OutsideSlot w v i

-- slot i has become the n packets x, and no other slot is changed
pub record Filled (w v : List ℕ) (i n : ℕ) (x : Packets) : Type 0 where
  pub slotted : Slotted w v i x
  pub count : n ≡ length x
  pub slim : n ≤ most_packets

-- n free numbers, and p after them; nothing else is changed
pub record Given (w v : List ℕ) (n p : ℕ) : Type 0 where
  pub here : free_list v (n + 1) ≡ free_list w n ++ (p ∷ [])
  pub out : Outside w v (free_from + n) (free_from + n + 1)

-- in the list of r ready numbers those of `new` stand for number j; nothing else is changed
pub record Listed (w v : List ℕ) (r j : ℕ) (new : List ℕ) : Type 0 where
  pub here : ready_list v (r - 1 + length new) ≡ take j (ready_list w r) ++ (new ++ drop (j + 1) (ready_list w r))
  pub out : Outside w v ready_from free_from

-- ---- sets in slots

-- slot i has n packets that ascend
pub record HasSet (w : List ℕ) (i n : ℕ) : Type 0 where
  pub there : i < positions
  pub slim : n ≤ most_packets
  pub rises : Ascending (rows_at w i n)

-- two sets, a packets in slot l and b in slot r, and another slot i
pub record Three (w : List ℕ) (i l r a b : ℕ) : Type 0 where
  pub first : HasSet w l a
  pub second : HasSet w r b
  pub there : i < positions
  pub left : l ≡ i → ⊥
  pub right : r ≡ i → ⊥

-- slot i has its first n packets as before, and zeros after them; no other slot is changed
pub record Tidied (w v : List ℕ) (i n : ℕ) : Type 0 where
  pub held : Held row_words (slot_at v i) n (rows_at w i n)
  pub out : OutsideSlot w v i
