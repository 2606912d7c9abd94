-- The row mixed with zeros.
use mathlib.Core.Path.{◌∙◌}
use Rattle.rows.proofs.Mixing.{mix_zeros}
use Rattle.rows.proofs.bare.Goals as goal

pub returns : goal.returns
returns g c = c.mixed.ensures ∙ mix_zeros c.args.w g.row.R c.args.p.now
