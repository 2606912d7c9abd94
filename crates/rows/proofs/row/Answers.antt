-- The rows are the chunks that the library cuts.
use mathlib.Core.Path.{ap, ◌∙◌}
use mathlib.Core.List.{[]}
use lib.ListN.{get_or}
use Rattle.rules.specs.Packets.{Packets}
use Rattle.rows.proofs.Chunks.{cut_rows}
use Rattle.rows.proofs.row.Goals as goal

pub returns : goal.returns
returns g c = ap (λ (s : Packets). get_or s c.args.i []) (c.as_chunks.ensures.front ∙ cut_rows c.requires.1)
