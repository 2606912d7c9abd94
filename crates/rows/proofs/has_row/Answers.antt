-- The rows are the chunks that the library cuts, and what is equal is the same.
use mathlib.Core.Path.{ap, ◌∙◌}
use lib.ListN.{take}
use Rattle.rules.specs.Packets.{Packets, member}
use Rattle.rows.proofs.Chunks.{cut_rows}
use Rattle.rows.proofs.Comparing.{member_lem}
use Rattle.rows.proofs.has_row.Goals as goal

pub returns : goal.returns
returns g c =
    let a = c.args in
    c.contains.ensures.value ∙ member_lem a.p.now _
    ∙ ap (λ (s : Packets). member a.p.now (take a.n s)) (c.as_chunks.ensures.front ∙ cut_rows c.requires.1)
