-- Lengths of one format's description, by the tests in their order. Assumes nothing.
use mathlib.Core.Path.{◌≡◌, sym, ap, ◌∙◌}
use mathlib.Core.Bool.{Bool, true, false}
use Rattle.laws.specs.Choice.{either}
use Rattle.h261_groups.specs.declared.Format.TheVariants.{Qcif, Cif}
use Rattle.layout.specs.Flat.{Flat}
use Rattle.h261_description.specs.Valid.{lengths_of, one_format}

module _ (d : Flat) {a : Bool} (ae : a ≡ lengths_of Qcif d) where
  pub one_first : a ≡ true → true ≡ one_format d
  one_first t = sym (ap (λ (b : Bool). either b (lengths_of Cif d)) (sym ae ∙ t))

  pub one_second : a ≡ false → {b : Bool} → b ≡ lengths_of Cif d → b ≡ one_format d
  one_second n be = be ∙ sym (ap (λ (b : Bool). either b (lengths_of Cif d)) (sym ae ∙ n))
