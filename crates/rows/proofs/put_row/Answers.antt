-- The first f values are written.
use Prim.Native.Nat.{ℕ, ◌+◌, ◌*◌, ◌<◌}
use mathlib.Core.Path.{◌≡◌, ap, ◌∙◌}
use mathlib.Core.List.{List}
use native.Mathlib.Omega.{arith}
use native.Mathlib.Numerals.{add-one}
use lib.ListN.{length, get_or, set}
use lib.Seq.{paste-suc}
use Rattle.rows.proofs.Chunks.{row_fits, stored_row}
use Rattle.rows.proofs.put_row.Goals as goal

pub loop-f-preserved : goal.loop-f-preserved
loop-f-preserved g c =
    let a = c.args in
    let f = c.loop-f.f in
    let l = c.loop-f-test.true in
    let n : a.k * g.row.R + f < length a.w.now = omega (arith, l, row_fits a.k g.row.R c.requires.0, c.requires.1.size) in
    ap (λ (w : List ℕ). set w (a.k * g.row.R + f) (get_or a.p.now f 0)) c.loop-f.invariant
    ∙ rw add-one (paste-suc a.w.now (a.k * g.row.R) a.p.now f 0 n (omega (arith, l, c.told-p)))

pub returns : goal.returns
returns g c =
    let f : c.loop-f.f ≡ g.row.R = omega (arith, c.loop-f-test.false, c.loop-f.auto.f-end) in
    stored_row c.args.k c.args.p.now _ c.requires.1 c.requires.0 c.told-p (rw f at c.loop-f.invariant)
