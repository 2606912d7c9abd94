-- The further values are still to be added.
use Rattle.std.proofs.Common.{◌≡◌, ◌+◌, ◌*◌, ◌≤◌, ◌++◌, drop}
use Rattle.arrayvec.specs.ArrayString.{array_string_len}
use Rattle.printer.specs.Printing.{further_values}
use Rattle.printer.proofs.lines.push_values.Given as goal

abbrev pub invariant-loop-value : goal.invariant-loop-value
invariant-loop-value l =
    (l.text.bytes ++ further_values (drop l.value-index l.others) ≡ l.initial.text.bytes ++ further_values l.others)
    × (array_string_len l.text ≤ array_string_len l.initial.text + 21 * l.value-index)
