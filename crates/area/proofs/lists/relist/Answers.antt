-- `lists::relist` meets its contract: what is put for the entry is what the words say.
use native.Mathlib.Omega.{arith}
use Rattle.area.proofs.Relisting.{news_there}
use Rattle.area.proofs.lists.relist.Goals as goal

pub overflow_cast-a : goal.overflow_cast-a
overflow_cast-a c =
    let h = c.requires in
    let t = rw (← c.in-One.ensures) at (news_there h.above _ h.offers) in
    omega arith

pub overflow_cast-a-in-Pair : goal.overflow_cast-a-in-Pair
overflow_cast-a-in-Pair c =
    let h = c.requires in
    let t = rw (← c.in-Pair.ensures) at (news_there h.above _ h.offers) in
    omega arith

pub overflow_cast-q : goal.overflow_cast-q
overflow_cast-q c =
    let h = c.requires in
    let t = rw (← c.in-Pair.ensures) at (news_there h.above _ h.offers) in
    omega arith
