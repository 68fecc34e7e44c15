-- Tests one within the other are rules in an order. Assumes nothing.
use Prim.Native.Nat.{ℕ}
use mathlib.Core.Path.{◌≡◌, refl}
use mathlib.Core.Bool.{Bool, true, false}
use mathlib.Core.List.{List, [], ◌∷◌, ◌++◌}
use Rattle.laws.specs.Choice.{pick, opposite}
use Rattle.refusals.specs.Told.{Told, accepted, refused_by, refused, verdict_on}
use Rattle.demand1.specs.Order.{Verdict, when, first_verdict}

-- ---- a rule alone
pub alone : (v : Verdict) → first_verdict (v ∷ []) ≡ v
alone (accepted t) = refl
alone (refused_by numbers) = refl

-- one rule after others, and rules after rules
abbrev pub or_else : Verdict → Verdict → Verdict
or_else (accepted t) v = v
or_else (refused_by numbers) v = refused_by numbers

pub first_append : (rules more : List Verdict) → first_verdict (rules ++ more) ≡ or_else (first_verdict rules) (first_verdict more)
first_append [] more = refl
first_append (accepted t ∷ rules) more = first_append rules more
first_append (refused_by numbers ∷ rules) more = refl

-- ---- a test whose failure refuses, and then other rules
pub unless_then : {A : Type 0} (fine : Bool) (n : ℕ) (x : Told A) (rules : List Verdict) → verdict_on x ≡ first_verdict rules
    → verdict_on (pick fine x (refused n 0)) ≡ first_verdict (when n (opposite fine) ∷ rules)
unless_then true n x rules h = h
unless_then false n x rules h = refl

-- a test that refuses, or else something is given
pub if_refused : {A : Type 0} (wrong : Bool) (n : ℕ) (a : A) → verdict_on (pick wrong (refused n 0) (accepted a)) ≡ first_verdict (when n wrong ∷ [])
if_refused true n a = refl
if_refused false n a = refl
