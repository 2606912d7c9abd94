-- `words_of` meets its contract: one word more at each turn.
use Rattle.std.proofs.Common.{◌*◌, arith}
use Rattle.std.proofs.lemmas.List.FromFn.{map-range_with_len_more, length-map-range_with_len}
use Rattle.rules.specs.Reading.{number_at}
use Rattle.trials.specs.Vectors.{words_in}
use Rattle.trials.proofs.vectors.words_of.Goals as goal

pub loop-i-init : goal.loop-i-init
unfolding words_in
loop-i-init c = c.new-words.ensures

pub push-requires : goal.push-requires
unfolding words_in
push-requires c =
    rw c.loop-i.invariant (rw (length-map-range_with_len (λ i. number_at c.args.s.now (2 * i)) 0 c.loop-i.i) (omega arith))

pub loop-i-preserved : goal.loop-i-preserved
unfolding words_in
loop-i-preserved c =
    rw (c.push.ensures.items, c.loop-i.invariant, c.number_at.ensures, map-range_with_len_more (λ i. number_at c.args.s.now (2 * i)) 0 c.loop-i.i c.loop-i.i (omega arith))
