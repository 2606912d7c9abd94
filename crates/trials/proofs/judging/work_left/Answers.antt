-- `work_left` meets its contract: a front of zeros is so many zeros. Assumes nothing.
use Prim.Native.Nat.{◌≤◌}
use Rattle.trials.proofs.Parts.{zeros_front}
use native.Mathlib.Omega.{arith}
use Rattle.trials.proofs.judging.work_left.Goals as goal

pub returns : goal.returns
returns c =
    let w = c.word_at in
    let few : w.result ≤ 65536 = omega arith in
    rw (zeros_front w.result 65536 few, w.ensures.0) at c.left_as.ensures
