-- The words before i are there.
use Rattle.std.proofs.Common.{◌≡◌}
use Rattle.printer.specs.Printing.{words_in}
use Rattle.printer.proofs.packet_of.Given as goal

abbrev pub invariant-loop-i : goal.invariant-loop-i
invariant-loop-i l = l.packet.items ≡ words_in l.i l.s
