-- By whether the values fit; there are none beyond the width.
use Prim.Native.Nat.{ℕ}
use mathlib.Core.Path.{ap, ◌∙◌}
use native.Mathlib.Omega.{arith}
use lib.ListN.{take}
use Rattle.rules.specs.Packets.{values_of}
use Rattle.rows.specs.Chunks.{rows_of}
use Rattle.rows.proofs.Words.{values_min, emitted_none, emitted_all}
use Rattle.rows.proofs.emit_rows.Goals as goal

pub returns-then-out-n : goal.returns-then-out-n
returns-then-out-n g c =
    let a = c.args in
    emitted_none c.min-c.result a.n a.out.now _ (omega (arith, c.min-c.ensures)) c.requires.0 c.requires.1
    (ap (λ (m : ℕ). values_of m (take a.n (rows_of g.row.R a.v.now))) c.min-c.ensures ∙ values_min a.k g.row.R a.n a.v.now)
    c.if-out-n.true

pub returns : goal.returns
returns g c =
    let a = c.args in
    emitted_all c.min-c.result a.n a.out.now _ (omega (arith, c.min-c.ensures)) c.requires.0 c.requires.1
    (ap (λ (m : ℕ). values_of m (take a.n (rows_of g.row.R a.v.now))) c.min-c.ensures ∙ values_min a.k g.row.R a.n a.v.now)
    _ c.if-out-n.false c.put_rows.ensures
