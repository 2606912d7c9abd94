-- `lists::list_two` meets its contract: the entries after it move up. The places are these, in whatever form the code writes them.
use native.Mathlib.Omega.{arith}
use Prim.Native.Nat.{◌+◌, ◌-◌}
use mathlib.Core.Path.{◌≡◌}
use Rattle.std.proofs.lemmas.List.{append-nil, take-append-drop}
use Rattle.area.specs.Words.{ready_from}
use Rattle.area.proofs.Moves.{moved}
use Rattle.area.proofs.Listing.{listed_two}
use Rattle.area.proofs.lists.list_two.Goals as goal

pub returns : goal.returns
returns c =
    let p = c.requires in
    let at = ready_from + c.args.j in
    let e : c.copy_within.new.self ≡ moved c.args.work.now (at + 1) (at + 2) (ready_from + c.args.r - (at + 1)) = grind (arith, append-nil, take-append-drop) in
    listed_two _ _ _ p.0 (omega (arith, p.1)) c.told-work _ _ _ p.1 e
