-- The words of rows k to n - 1 are written over with zeros.
use mathlib.Core.Path.{refl}
use Rattle.rows.proofs.Clearing.{cleared_rows}
use Rattle.rows.proofs.clear_rows.Goals as goal

pub returns : goal.returns
returns g c = cleared_rows c.args.k c.args.n _ c.requires.0 c.requires.1 c.requires.2 (c.fill.ensures.after (λ y e. e)) refl
