-- The packet is written over zeros. What is copied is its words, in whatever form the code writes them.
use Rattle.std.proofs.Common.{◌≡◌, arith}
use Rattle.std.proofs.lemmas.Grind.{common_steps}
use Rattle.rows.proofs.Padding.{padded_lem}
use Rattle.rows.proofs.padded.Goals as goal

pub returns : goal.returns
returns c =
    let e : c.copy_from_slice.new.self ≡ c.args.packet.now = grind (arith, common_steps) in
    padded_lem c.args.packet.now _ c.requires e
