-- A list of checks: the first that fails is the refusal (`first_failed_lem`), there is none if all hold (`none_failed`), and back.
use Prim.Native.Nat.{ℕ}
use native.Mathlib.Omega.{arith}
use mathlib.Core.Path.{◌≡◌, refl, ◌∙◌, subst}
use mathlib.Core.Bool.{Bool, true, false, cond}
use mathlib.Core.List.{List, [], ◌∷◌, ◌++◌}
use mathlib.Core.Option.{Option, none, some}
use Rattle.rules.specs.declared.Refusal.{Refusal}
use Rattle.rules.specs.Checks.{Check, first_failed}

infixr 30 ◌&◌
pub data AllHold : List Check → Type 0 where
  end : AllHold []
  ◌&◌ : {c : Check} {cs : List Check} → c.holds ≡ true → AllHold cs → AllHold (c ∷ cs)

-- ---- the two laws

-- the checks before the one that fails hold, and those after it do not matter
pub first_failed_lem : (before : List Check) (c : Check) (after : List Check) → AllHold before → c.holds ≡ false
    → first_failed (before ++ (c ∷ after)) ≡ some c.refusal
unfolding first_failed
first_failed_lem [] c after end e = rw e
first_failed_lem (b ∷ before) c after (t & h) e = rw t (first_failed_lem before c after h e)

pub none_failed : (cs : List Check) → AllHold cs → first_failed cs ≡ none
unfolding first_failed
none_failed [] end = refl
none_failed (c ∷ cs) (t & h) = rw t (none_failed cs h)

-- ---- and back

if_none : (b : Bool) (o : Option Refusal) (r : Refusal) → cond b o (some r) ≡ none → (b ≡ true) × (o ≡ none)
if_none true o r e = (refl, e)
if_none false o r e = let n : ◌≡◌ {A = ℕ} 0 1 = cc in absurd (omega arith)

pub all_held : (cs : List Check) → first_failed cs ≡ none → AllHold cs
unfolding first_failed
all_held [] e = end
all_held (c ∷ cs) e = let k = if_none c.holds (first_failed cs) c.refusal e in k.0 & all_held cs k.1

-- ---- two lists one after the other

pub after_held : (before after : List Check) → first_failed before ≡ none → first_failed (before ++ after) ≡ first_failed after
unfolding first_failed
after_held [] after e = refl
after_held (c ∷ before) after e =
    let k = if_none c.holds (first_failed before) c.refusal e in
    rw k.0 (after_held before after k.1)

by_test : (b : Bool) (o u : Option Refusal) (r q : Refusal) → cond b o (some q) ≡ some r → (o ≡ some r → u ≡ some r)
    → cond b u (some q) ≡ some r
by_test true o u r q e h = h e
by_test false o u r q e h = e

pub failed_before : (before after : List Check) (r : Refusal) → first_failed before ≡ some r → first_failed (before ++ after) ≡ some r
unfolding first_failed
failed_before [] after r e = let n : ◌≡◌ {A = ℕ} 0 1 = cc in absurd (omega arith)
failed_before (c ∷ before) after r e =
    by_test c.holds (first_failed before) (first_failed (before ++ after)) r c.refusal e (failed_before before after r)

-- several checks, after others that hold
pub group_failed : (before group after : List Check) (r : Refusal) → AllHold before → first_failed group ≡ some r
    → first_failed (before ++ (group ++ after)) ≡ some r
group_failed before group after r h e = after_held before (group ++ after) (none_failed before h) ∙ failed_before group after r e

-- the front holds where the whole does
pub front_held : (before after : List Check) → AllHold (before ++ after) → AllHold before
front_held [] after h = end
front_held (c ∷ before) after (t & h) = t & front_held before after h

pub rest_held : (before after : List Check) → AllHold (before ++ after) → AllHold after
rest_held [] after h = h
rest_held (c ∷ before) after (t & h) = rest_held before after h

-- ---- what holds of every refusal on the list holds of the one that is given

infixr 30 ◌also◌
pub data OfRefusals (Q : Refusal → Type 0) : List Check → Type 0 where
  no_more : OfRefusals Q []
  ◌also◌ : {c : Check} {cs : List Check} → Q c.refusal → OfRefusals Q cs → OfRefusals Q (c ∷ cs)

pub of_both : (Q : Refusal → Type 0) (before after : List Check) → OfRefusals Q before → OfRefusals Q after → OfRefusals Q (before ++ after)
of_both Q [] after h k = k
of_both Q (c ∷ before) after (q also h) k = q also of_both Q before after h k

pub of_more : (P Q : Refusal → Type 0) → ((r : Refusal) → P r → Q r) → (cs : List Check) → OfRefusals P cs → OfRefusals Q cs
of_more P Q f [] h = no_more
of_more P Q f (c ∷ cs) (p also h) = f c.refusal p also of_more P Q f cs h

by_case : (Q : Refusal → Type 0) (b : Bool) (o : Option Refusal) (q r : Refusal) → cond b o (some q) ≡ some r → Q q
    → (o ≡ some r → Q r) → Q r
by_case Q true o q r e h k = k e
by_case Q false o q r e h k = let same : q ≡ r = cc in subst Q same h

pub of_failed : (Q : Refusal → Type 0) (cs : List Check) (r : Refusal) → OfRefusals Q cs → first_failed cs ≡ some r → Q r
unfolding first_failed
of_failed Q [] r h e = let n : ◌≡◌ {A = ℕ} 0 1 = cc in absurd (omega arith)
of_failed Q (c ∷ cs) r (q also h) e = by_case Q c.holds (first_failed cs) c.refusal r e q (of_failed Q cs r h)
