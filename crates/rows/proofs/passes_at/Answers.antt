-- The value decides.
use Prim.Native.Nat.{ℕ}
use mathlib.Core.Path.{ap, ◌∙◌}
use mathlib.Core.List.{List}
use lib.Dec.{eqb}
use lib.ListN.{get_or}
use Rattle.rules.specs.Packets.{passes}
use Rattle.rows.proofs.Chunks.{got_or}
use Rattle.rows.proofs.passes_at.Goals as goal

pub returns : goal.returns
unfolding passes
returns g c =
    let a = c.args in
    let e = c.unwrap_or.ensures ∙ rw c.copied.ensures (got_or c.row.result.now a.f c.get.result c.get.ensures.lookup) in
    ap (λ (y : ℕ). eqb y a.x) (e ∙ ap (λ (p : List ℕ). get_or p a.f 0) c.row.ensures)
