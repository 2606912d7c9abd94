-- The functions that put the list of ready numbers right: one law for each of their returns.
use Prim.Native.Nat.{ℕ, ◌<◌}
use native.Mathlib.Omega.{arith}
use mathlib.Core.Path.{◌≡◌, refl}
use mathlib.Core.Bool.{Bool, true, false, cond}
use mathlib.Core.List.{List}
use Rattle.std.specs.Prelude.{Some, None}
use lib.Dec.{eqb}
use Rattle.area.specs.declared.lists.Ready.{Ready}
use Rattle.area.specs.declared.lists.Ready.TheVariants.{Nobody, One, Pair}
use Rattle.area.specs.Words.{positions, nobody, is_above, header_at}
use Rattle.area.specs.Ready.{done_at, risen_at, ready_of, news_at, AllThere, Above}

-- what is left ready is somebody's number: the one above, or what is offered
pub news_there : {w : List ℕ} {up : ℕ} → Above w up → (offer : Ready) → AllThere offer → AllThere (news_at w up offer)
unfolding risen_at news_at
news_there {w} {up} h Nobody l = elim (eqb up nobody) as (λ v. eqb up nobody ≡ v → AllThere (ready_of (cond v None (cond (is_above (header_at w up).phase)
    (cond (done_at w (header_at w up).left) (cond (done_at w (header_at w up).right) (Some up) None) None) (Some up))))) [
      | true ↦ λ e. tt
      | false ↦ λ e. three (is_above (header_at w up).phase) (done_at w (header_at w up).left) (done_at w (header_at w up).right) (omega (arith, h.small, Rattle.std.proofs.lemmas.Bool.eqb-false up nobody e))
    ] refl
  where
    three : (b c d : Bool) → up < positions → AllThere (ready_of (cond b (cond c (cond d (Some up) None) None) (Some up)))
    three false c d u = u
    three true true true u = u
    three true true false u = tt
    three true false d u = tt
news_there h (One a) l = l
news_there h (Pair a q) l = l
