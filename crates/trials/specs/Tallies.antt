-- Counting in a set of vectors: how many there are, of how many a question is answered with yes, and which is the first of these.
use Rattle.std.specs.Prelude.{ℕ, ◌+◌, Bool, not, cond, List, eqb, length, Option, Some, None, count_by, position}
use Rattle.std.specs.Option.{option_eq, unwrap_or}
use Rattle.trials.specs.declared.tallies.Tally.{Tally}
use Rattle.trials.specs.declared.tallies.Question.{Question}
use Rattle.trials.specs.declared.tallies.Question.TheVariants.{Differs, Answered, Refused}
use Rattle.trials.specs.declared.vectors.Call.{Call}
use Rattle.trials.specs.Vectors.{long_at, answer_place}
use Rattle.trials.specs.Agreement.{agrees}
use Rattle.trials.specs.Sets.{vectors_of}

-- the number by which a call is stated to turn the vector away, if it is
unfoldable pub refused_by : List ℕ → Call → Option ℕ
refused_by v call = cond (eqb (long_at v (answer_place call)) 0) (Some (long_at v (answer_place call + 4))) None

-- a vector that states a refusal by 0, which is no number, counts as one that states an answer
unfoldable pub asked : Question → List ℕ → Bool
asked Differs v = not (agrees v)
asked (Answered call) v = eqb (unwrap_or (refused_by v call) 0) 0
asked (Refused call number) v = option_eq eqb (refused_by v call) (Some number)

unfoldable pub tallied : Question → List ℕ → Tally
tallied q set = record {
  cases = length (vectors_of set);
  found = count_by (asked q) (vectors_of set);
  first = position (asked q) (vectors_of set);
}
