-- "Given exactly when, in the order below": of rules in an order, the first that refuses. Assumes nothing.
use Rattle.std.specs.Prelude.{ℕ, ◌≡◌, Bool, List, [], ◌∷◌}
use Rattle.laws.specs.Choice.{pick}
use Rattle.refusals.specs.Told.{Numbers, Told, accepted, refused_by, refused}

-- a verdict without a value: no refusal, or its number and place
abbrev pub Verdict : Type 0
Verdict = Told (Unit {0})

-- refused exactly when this holds; the place is "0 for 1, 2 and 21 up"
abbrev pub when : ℕ → Bool → Verdict
when n holds = pick holds (refused n 0) (accepted tt)

-- the first that refuses
abbrev pub first_verdict : List Verdict → Verdict
first_verdict [] = accepted tt
first_verdict (accepted t ∷ rules) = first_verdict rules
first_verdict (refused_by numbers ∷ rules) = refused_by numbers

-- a call's verdict is the first rule's that refuses, and "A refusal changes no buffer and no state"
pub record Refuses {W : Type 0} (rules : List Verdict) (verdict : Verdict) (before after : W) : Type 0 where
  pub due : verdict ≡ first_verdict rules
  pub unchanged : (numbers : Numbers) → verdict ≡ refused_by numbers → after ≡ before
