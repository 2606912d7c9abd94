-- What falls in the cycle of calls of `evaluating`.
use Prim.Native.Nat.{◌+◌, ◌-◌, ◌*◌}
use Rattle.rules.specs.Parts.{parts}
use Rattle.evaluator.specs.Work.{named_in, part_in, not_from, sum_from, seq_from, beside_of}
use Rattle.evaluator.proofs.+evaluating.Given as goal

abbrev pub decreases-beside_at : goal.decreases-beside_at
decreases-beside_at l = 20 * parts (beside_of l.book.now l.body l.depth l.head) + 18

abbrev pub decreases-evaluate_part : goal.decreases-evaluate_part
decreases-evaluate_part l = 20 * parts (part_in l.book.now l.body l.depth l.at) + 19

abbrev pub decreases-not_at : goal.decreases-not_at
decreases-not_at l = 20 * parts (not_from l.book.now l.body l.depth l.from)

abbrev pub decreases-one_packet : goal.decreases-one_packet
decreases-one_packet l = 20 * parts (beside_of l.book.now l.body l.depth l.head)

abbrev pub decreases-seq_at : goal.decreases-seq_at
decreases-seq_at l = 20 * parts (seq_from l.book.now l.body l.depth l.from)

abbrev pub decreases-sum_at : goal.decreases-sum_at
decreases-sum_at l = 20 * parts (sum_from l.book.now l.body l.depth l.from)

abbrev pub decreases-table_at : goal.decreases-table_at
decreases-table_at l = 20 * parts (named_in l.book.now l.body l.table)

abbrev pub decreases-walk_packets : goal.decreases-walk_packets
decreases-walk_packets l = 20 * parts (beside_of l.book.now l.body l.depth l.head) + (17 - l.i)
