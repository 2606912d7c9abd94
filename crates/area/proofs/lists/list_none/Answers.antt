-- `lists::list_none` meets its contract: the entries after it move down. The places are these, in whatever form the code writes them.
use native.Mathlib.Omega.{arith}
use Prim.Native.Nat.{◌+◌, ◌-◌}
use mathlib.Core.Path.{◌≡◌}
use Rattle.area.specs.Words.{ready_from}
use Rattle.area.proofs.Moves.{moved}
use Rattle.area.proofs.Listing.{listed_none}
use Rattle.area.proofs.lists.list_none.Goals as goal

pub returns : goal.returns
returns c =
    let p = c.requires in
    let at = ready_from + c.args.j in
    let e : c.copy_within.new.self ≡ moved c.args.work.now (at + 1) at (ready_from + c.args.r - (at + 1)) = grind arith in
    listed_none _ _ _ p.0 p.1 c.told-work _ e
