-- The checks of a call in document 01's order: the first that fails turns it away (document 01, "Numbers that turn a call away").
use Rattle.std.specs.Prelude.{ℕ, Bool, cond, List, [], ◌∷◌}
use Rattle.std.proofs.Math.Option.{Option, none, some}
use Rattle.rules.specs.declared.Reason.{Reason}
use Rattle.rules.specs.declared.Reason.TheVariants.{BookLength, Counts, Lengths, EntryMasks, Form, Limits, Typing}
use Rattle.rules.specs.declared.Reason.TheVariants.{PacketLength, Unpopulated, TooWide, Positions, BufferLength, Stuck, Input}
use Rattle.rules.specs.declared.Refusal.{Refusal}

-- the table of numbers
abbrev pub reason_number : Reason → ℕ
reason_number BookLength = 1
reason_number Counts = 2
reason_number Lengths = 3
reason_number EntryMasks = 4
reason_number Form = 5
reason_number Limits = 6
reason_number Typing = 7
reason_number PacketLength = 8
reason_number Unpopulated = 9
reason_number TooWide = 10
reason_number Positions = 11
reason_number BufferLength = 12
reason_number Stuck = 13
reason_number Input = 14

abbrev pub number_of : Refusal → ℕ
number_of r = reason_number r.reason

-- "a place, 0 but for three"
abbrev pub no_place : Reason → Refusal
no_place r = record { reason = r; place = 0 }

abbrev pub in_book : Reason → ℕ → Refusal
in_book r at = record { reason = r; place = at }

-- a test, and the refusal that is given where it fails
pub record Check : Type 0 where
  pub holds : Bool
  pub refusal : Refusal

abbrev pub check : Bool → Reason → Check
check t r = record { holds = t; refusal = no_place r }

abbrev pub check_at : Bool → Reason → ℕ → Check
check_at t r at = record { holds = t; refusal = in_book r at }

-- the refusal of the first check that fails, if one does
unfoldable pub first_failed : List Check → Option Refusal
first_failed [] = none
first_failed (c ∷ cs) = cond c.holds (first_failed cs) (some c.refusal)
