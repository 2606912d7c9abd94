-- The proof of the cycle of calls of the evaluator. The measure is 20 for each part at hand, and what is left of the packets:
-- parts fall from operator to part, packets from split to rest.
use native.Mathlib.Omega.{arith}
use Rattle.rules.proofs.HandingUp.{handed_up}
use Rattle.rules.proofs.CodeLaws.{stands_zero, stands_plain}
use Rattle.evaluator.proofs.Decoder.{stands_drop, stands_test, stands_set, stands_table, stands_not, stands_sum, stands_seq}
use Rattle.evaluator.proofs.Decoder.{stands_beside, table_used, table_none}
use Rattle.evaluator.proofs.WorkLaws.{few, gives_id, gives_not, gives_table, gives_seq, gives_sum, wide_sum, gives_none}
use Rattle.evaluator.proofs.WorkLaws.{gives_pair, wide_pair, gives_split, wide_split}
use Rattle.evaluator.proofs.Down.{under_not, sum_left, sum_right, seq_left, seq_right, beside_left, beside_right}
use Rattle.evaluator.proofs.Down.{on, over_on, goes_on, goes_over, alone, whole_row, from_end, from_here, few_left, some_left}
use Rattle.evaluator.proofs.Down.{down, down_table, enter, enter_beside, did_there, gives_there, small_here, small, small_table}
use Rattle.evaluator.proofs.Down.{over_not, over_table, over_sum_left, over_sum_right, over_seq_left, over_seq_right}
use Rattle.evaluator.proofs.Down.{over_beside_left, over_beside_right, over_first, over_rest}
use Rattle.evaluator.proofs.+evaluating.Goals as goal

pub evaluate_part-returns-then-depth-eq0 : goal.evaluate_part-returns-then-depth-eq0
evaluate_part-returns-then-depth-eq0 t c =
    rw c.leaf.ensures (gives_there (stands_zero _ _ _ _ c.if-depth-eq0.true) (gives_id (few c.args.set.now) _))

pub evaluate_part-not_at-requires : goal.evaluate_part-not_at-requires
evaluate_part-not_at-requires t c =
    enter (stands_not _ _ _ _ c.if-depth-eq0.false _ c.head_at-head.ensures c.in-4.is) t c.decreases c.requires

pub evaluate_part-sum_at-requires : goal.evaluate_part-sum_at-requires
evaluate_part-sum_at-requires t c =
    enter (stands_sum _ _ _ _ c.if-depth-eq0.false _ c.head_at-head.ensures c.in-5.is) t c.decreases c.requires

pub evaluate_part-seq_at-requires : goal.evaluate_part-seq_at-requires
evaluate_part-seq_at-requires t c =
    enter (stands_seq _ _ _ _ c.if-depth-eq0.false _ c.head_at-head.ensures c.in-6.is) t c.decreases c.requires

pub evaluate_part-beside_at-requires : goal.evaluate_part-beside_at-requires
evaluate_part-beside_at-requires t c =
    enter_beside (stands_beside _ _ _ _ c.if-depth-eq0.false _ c.head_at-head.ensures c.in-7.is) t c.decreases c.requires

pub evaluate_part-table_at-requires : goal.evaluate_part-table_at-requires
evaluate_part-table_at-requires t c =
    enter (stands_table _ _ _ _ c.if-depth-eq0.false _ c.head_at-head.ensures c.in-8.is) t c.decreases c.requires

pub evaluate_part-returns-in-1 : goal.evaluate_part-returns-in-1
evaluate_part-returns-in-1 t c =
    gives_there (stands_drop _ _ _ _ c.if-depth-eq0.false _ c.head_at-head.ensures c.in-1.is) c.drop_of.ensures

pub evaluate_part-returns-in-2 : goal.evaluate_part-returns-in-2
evaluate_part-returns-in-2 t c =
    gives_there (stands_test _ _ _ _ c.if-depth-eq0.false _ c.head_at-head.ensures c.in-2.is) c.test_of.ensures

pub evaluate_part-returns-in-3 : goal.evaluate_part-returns-in-3
evaluate_part-returns-in-3 t c =
    gives_there (stands_set _ _ _ _ c.if-depth-eq0.false _ c.head_at-head.ensures c.in-3.is) c.set_of.ensures

pub evaluate_part-returns-in-4 : goal.evaluate_part-returns-in-4
evaluate_part-returns-in-4 t c =
    did_there (stands_not _ _ _ _ c.if-depth-eq0.false _ c.head_at-head.ensures c.in-4.is) _ _ _ c.not_at.ensures

pub evaluate_part-returns-in-5 : goal.evaluate_part-returns-in-5
evaluate_part-returns-in-5 t c =
    did_there (stands_sum _ _ _ _ c.if-depth-eq0.false _ c.head_at-head.ensures c.in-5.is) _ _ _ c.sum_at.ensures

pub evaluate_part-returns-in-6 : goal.evaluate_part-returns-in-6
evaluate_part-returns-in-6 t c =
    did_there (stands_seq _ _ _ _ c.if-depth-eq0.false _ c.head_at-head.ensures c.in-6.is) _ _ _ c.seq_at.ensures

pub evaluate_part-returns-in-7 : goal.evaluate_part-returns-in-7
evaluate_part-returns-in-7 t c =
    did_there (stands_beside _ _ _ _ c.if-depth-eq0.false _ c.head_at-head.ensures c.in-7.is) _ _ _ c.beside_at.ensures

pub evaluate_part-returns-in-8 : goal.evaluate_part-returns-in-8
evaluate_part-returns-in-8 t c =
    did_there (stands_table _ _ _ _ c.if-depth-eq0.false _ c.head_at-head.ensures c.in-8.is) _ _ _ c.table_at.ensures

pub evaluate_part-returns-in_default : goal.evaluate_part-returns-in_default
evaluate_part-returns-in_default t c =
    rw c.leaf-in_default.ensures (gives_there
    (stands_plain _ _ _ _ c.if-depth-eq0.false _ c.head_at-head.ensures (λ e. omega arith) (λ e. omega arith)
    (λ e. omega arith) (λ e. omega arith) (λ e. omega arith) (λ e. omega arith) (λ e. omega arith) (λ e. omega arith))
    (gives_id (few c.args.set.now) _))

pub not_at-evaluate_part-requires : goal.not_at-evaluate_part-requires
not_at-evaluate_part-requires t c = down t under_not c.decreases c.requires

pub not_at-returns-in_err-part : goal.not_at-returns-in_err-part
not_at-returns-in_err-part t c =
    rw (handed_up c.from_residual.ensures.1) (over_not _ _ (over_on _ c.copied-given.ensures.same c.in_err-part.ensures))

pub not_at-not_of-requires : goal.not_at-not_of-requires
not_at-not_of-requires t c = small under_not c.requires c.in_ok-part.ensures

pub not_at-returns : goal.not_at-returns
not_at-returns t c =
    rw c.not_of.ensures
    (gives_not (on c.copied-given.ensures.same c.in_ok-part.ensures) (few c.args.set.now) (few c.not_given.new.set) c.not_given.ensures)

pub sum_at-evaluate_part-requires : goal.sum_at-evaluate_part-requires
sum_at-evaluate_part-requires t c = down t sum_left c.decreases c.requires

pub sum_at-returns-in_err-first : goal.sum_at-returns-in_err-first
sum_at-returns-in_err-first t c = rw (handed_up c.from_residual.ensures.1) (over_sum_left _ _ c.in_err-first.ensures _)

pub sum_at-evaluate_part-requires-2 : goal.sum_at-evaluate_part-requires-2
sum_at-evaluate_part-requires-2 t c =
    let first = c.in_ok-first.ensures in
    rw first.next (down t sum_right c.decreases c.requires)

pub sum_at-returns-in_err-second : goal.sum_at-returns-in_err-second
sum_at-returns-in_err-second t c =
    rw (handed_up c.from_residual-in_err-second.ensures.1)
    (over_sum_right _ _ (goes_over _ _ _ _ c.in_ok-first.ensures _ (over_on _ c.copied-other.ensures.same c.in_err-second.ensures)) _)

pub sum_at-returns-in_err-join : goal.sum_at-returns-in_err-join
sum_at-returns-in_err-join t c =
    rw (handed_up c.from_residual-in_err-join.ensures.1)
    (wide_sum c.in_ok-first.ensures (goes_on _ _ _ _ c.in_ok-first.ensures (on c.copied-other.ensures.same c.in_ok-second.ensures))
    c.in_err-join.ensures.wide)

pub sum_at-joined-requires : goal.sum_at-joined-requires
sum_at-joined-requires t c = record {
  first_small = small sum_left c.requires c.in_ok-first.ensures;
  second_small = small sum_right c.requires (goes_on _ _ _ _ c.in_ok-first.ensures c.in_ok-second.ensures);
}

pub sum_at-returns : goal.sum_at-returns
sum_at-returns t c =
    rw c.joined.ensures
    (gives_sum c.in_ok-first.ensures (goes_on _ _ _ _ c.in_ok-first.ensures (on c.copied-other.ensures.same c.in_ok-second.ensures))
    (few c.join.new.self) c.in_ok-join.ensures.joined.same)

pub seq_at-evaluate_part-requires : goal.seq_at-evaluate_part-requires
seq_at-evaluate_part-requires t c = down t seq_left c.decreases c.requires

pub seq_at-returns-in_err-first : goal.seq_at-returns-in_err-first
seq_at-returns-in_err-first t c = rw (handed_up c.from_residual.ensures.1) (over_seq_left _ _ c.in_err-first.ensures _)

pub seq_at-evaluate_part-requires-2 : goal.seq_at-evaluate_part-requires-2
seq_at-evaluate_part-requires-2 t c =
    let first = c.in_ok-first.ensures in
    rw first.next (down t seq_right c.decreases c.requires)

pub seq_at-returns-in_err-second : goal.seq_at-returns-in_err-second
seq_at-returns-in_err-second t c =
    rw (handed_up c.from_residual-in_err-second.ensures.1)
    (over_seq_right _ c.in_ok-first.ensures (goes_over _ _ _ _ c.in_ok-first.ensures _ c.in_err-second.ensures))

pub seq_at-seq_of-requires : goal.seq_at-seq_of-requires
seq_at-seq_of-requires t c = record {
  first_small = small seq_left c.requires c.in_ok-first.ensures;
  second_small = small seq_right c.requires (goes_on _ _ _ _ c.in_ok-first.ensures c.in_ok-second.ensures);
}

pub seq_at-returns : goal.seq_at-returns
seq_at-returns t c =
    rw c.seq_of.ensures (gives_seq c.in_ok-first.ensures (goes_on _ _ _ _ c.in_ok-first.ensures c.in_ok-second.ensures))

pub one_packet-evaluate_part-requires : goal.one_packet-evaluate_part-requires
one_packet-evaluate_part-requires t c = down t beside_left c.decreases c.requires.fair

pub one_packet-returns-in_err-first : goal.one_packet-returns-in_err-first
one_packet-returns-in_err-first t c =
    rw (handed_up c.from_residual.ensures.1)
    (over_beside_left _ _ _ _ _ (over_on _ (whole_row _ _ c.told-row c.alone-left.ensures.same) c.in_err-first.ensures))

pub one_packet-evaluate_part-requires-2 : goal.one_packet-evaluate_part-requires-2
one_packet-evaluate_part-requires-2 t c =
    let first = c.in_ok-first.ensures in
    rw first.next (down t beside_right c.decreases c.requires.fair)

pub one_packet-returns-in_err-second : goal.one_packet-returns-in_err-second
one_packet-returns-in_err-second t c =
    rw (handed_up c.from_residual-in_err-second.ensures.1)
    (over_beside_right _ _ _ _ _ (goes_over _ _ _ _ c.in_ok-first.ensures _ (over_on _ (whole_row _ _ c.told-row c.alone-right.ensures.same) c.in_err-second.ensures)))

pub one_packet-returns-in_err-pair : goal.one_packet-returns-in_err-pair
one_packet-returns-in_err-pair t c =
    let first = on (whole_row _ _ c.told-row c.alone-left.ensures.same) c.in_ok-first.ensures in
    rw (handed_up c.from_residual-in_err-pair.ensures.1)
    (wide_pair _ _ _ _ _ first (goes_on _ _ _ _ first (on (whole_row _ _ c.told-row c.alone-right.ensures.same) c.in_ok-second.ensures)) c.in_err-pair.ensures.wide)

pub one_packet-joined-requires : goal.one_packet-joined-requires
one_packet-joined-requires t c = record {
  first_small = small beside_left c.requires.fair c.in_ok-first.ensures;
  second_small = small beside_right c.requires.fair (goes_on _ _ _ _ c.in_ok-first.ensures c.in_ok-second.ensures);
}

pub one_packet-returns : goal.one_packet-returns
one_packet-returns t c =
    let first = on (whole_row _ _ c.told-row c.alone-left.ensures.same) c.in_ok-first.ensures in
    rw c.joined.ensures
    (gives_pair _ _ _ _ _ first (goes_on _ _ _ _ first (on (whole_row _ _ c.told-row c.alone-right.ensures.same) c.in_ok-second.ensures)) (few c.pair.new.self)
    c.in_ok-pair.ensures.paired.same)

pub walk_packets-returns-then-i-set : goal.walk_packets-returns-then-i-set
walk_packets-returns-then-i-set t c =
    rw (c.none_at.ensures, from_end c.args.set.now c.args.i c.if-i-set.true, c.requires.none_yet) (gives_none _ _ _ _ _)

pub walk_packets-returns-in_err-first : goal.walk_packets-returns-in_err-first
walk_packets-returns-in_err-first t c =
    rw (from_here c.args.set.now c.args.i c.requires.within c.if-i-set.false)
    (rw (handed_up c.from_residual.ensures.1) (over_first _ _ _ _ _ _ (over_on _ (alone c.packet-row.ensures) c.in_err-first.ensures)))

pub walk_packets-returns-then-i-set-2 : goal.walk_packets-returns-then-i-set-2
walk_packets-returns-then-i-set-2 t c =
    rw (from_here c.args.set.now c.args.i c.requires.within c.if-i-set.false, from_end c.args.set.now _ c.if-i-set-2.true)
    (on (alone c.packet-row.ensures) c.in_ok-first.ensures)

pub walk_packets-returns-in_err-second : goal.walk_packets-returns-in_err-second
walk_packets-returns-in_err-second t c =
    rw (from_here c.args.set.now c.args.i c.requires.within c.if-i-set.false)
    (rw (handed_up c.from_residual-in_err-second.ensures.1) (over_rest _ _ _ _ _ _ c.in_err-second.ensures))

pub walk_packets-returns-in_err-join : goal.walk_packets-returns-in_err-join
walk_packets-returns-in_err-join t c =
    let first = on (alone c.packet-row.ensures) c.in_ok-first.ensures in
    let left = some_left c.args.set.now c.args.i c.requires.within c.if-i-set.false c.if-i-set-2.false in
    rw (from_here c.args.set.now c.args.i c.requires.within c.if-i-set.false)
    (rw (handed_up c.from_residual-in_err-join.ensures.1)
    (wide_split _ _ _ _ _ first _ left c.in_ok-second.ensures c.in_err-join.ensures.wide))

pub walk_packets-joined-requires : goal.walk_packets-joined-requires
walk_packets-joined-requires t c = record {
  first_small = small_here c.requires.fair c.in_ok-first.ensures;
  second_small = small_here c.requires.fair c.in_ok-second.ensures;
}

pub walk_packets-returns : goal.walk_packets-returns
walk_packets-returns t c =
    let first = on (alone c.packet-row.ensures) c.in_ok-first.ensures in
    let few_here = few_left c.args.set.now c.args.i c.requires.within c.if-i-set.false in
    let left = some_left c.args.set.now c.args.i c.requires.within c.if-i-set.false c.if-i-set-2.false in
    rw (from_here c.args.set.now c.args.i c.requires.within c.if-i-set.false, c.joined.ensures)
    (gives_split _ _ _ _ _ first _ few_here left c.in_ok-second.ensures (few c.join.new.self) c.in_ok-join.ensures.joined.same)

pub table_at-returns-in-Table : goal.table_at-returns-in-Table
table_at-returns-in-Table t c =
    rw (table_none _ _ c.args.table c.in-Table.is, c.leaf.ensures) (gives_id (few c.args.set.now) _)

pub table_at-evaluate_part-requires : goal.table_at-evaluate_part-requires
table_at-evaluate_part-requires t c =
    down_table t (table_used _ _ _ _ c.in-Main.is c.body_start-start.ensures.place c.requires.closed) c.decreases c.requires

pub table_at-returns-in_err-part-in-Main : goal.table_at-returns-in_err-part-in-Main
table_at-returns-in_err-part-in-Main t c =
    rw ((table_used _ _ _ _ c.in-Main.is c.body_start-start.ensures.place c.requires.closed), handed_up c.from_residual.ensures.1) (over_table _ _ c.in_err-part-in-Main.ensures _ _ _ _)

pub table_at-table_of-requires : goal.table_at-table_of-requires
table_at-table_of-requires t c =
    small_table (table_used _ _ _ _ c.in-Main.is c.body_start-start.ensures.place c.requires.closed) c.requires c.in_ok-part-in-Main.ensures

pub table_at-returns-in_ok-part-in-Main : goal.table_at-returns-in_ok-part-in-Main
table_at-returns-in_ok-part-in-Main t c =
    rw ((table_used _ _ _ _ c.in-Main.is c.body_start-start.ensures.place c.requires.closed), c.table_of.ensures) (gives_table c.in_ok-part-in-Main.ensures _ _ _ _ _)
