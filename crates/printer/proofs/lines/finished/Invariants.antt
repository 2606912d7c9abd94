-- The lines of the packets that are left are still to be added.
use Rattle.std.proofs.Common.{◌≡◌, ◌-◌, ◌*◌, ◌++◌, drop}
use Rattle.printer.specs.Building.{lines_of}
use Rattle.printer.proofs.lines.finished.Given as goal

abbrev pub invariant-loop-i : goal.invariant-loop-i
invariant-loop-i l =
    l.text.bytes ++ lines_of l.k (l.fn.f.count - l.i) (drop (l.i * l.k) l.words) ≡ l.initial.text.bytes ++ lines_of l.k l.fn.f.count l.words
