-- `headers::put_head` meets its contract: word by word.
use Rattle.area.proofs.Words.{headed}
use native.Mathlib.Omega.{arith}
use Rattle.area.proofs.headers.put_head.Goals as goal

pub returns : goal.returns
returns c = rw c.from.ensures (headed _ _ _ (omega arith))
