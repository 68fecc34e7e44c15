-- Lengths of one size's description, by the tests in their order. Assumes nothing.
use mathlib.Core.Path.{◌≡◌, sym, ap, ◌∙◌}
use mathlib.Core.Bool.{Bool, true, false}
use Rattle.laws.specs.Choice.{either}
use Rattle.size.specs.declared.Size.TheVariants.{SubQcif, Qcif, Cif}
use Rattle.layout.specs.Flat.{Flat}
use Rattle.h263_description.specs.Valid.{lengths_of, one_size}

module _ (d : Flat) {a : Bool} (ae : a ≡ lengths_of SubQcif d) where
  pub one_first : a ≡ true → true ≡ one_size d
  one_first t = sym (ap (λ (b : Bool). either b (either (lengths_of Qcif d) (lengths_of Cif d))) (sym ae ∙ t))

  module _ (an : a ≡ false) {b : Bool} (be : b ≡ lengths_of Qcif d) where
    later : (x : Bool) → b ≡ x → either x (lengths_of Cif d) ≡ one_size d
    later x e = sym (λ i. either ((sym ae ∙ an) i) (either ((sym be ∙ e) i) (lengths_of Cif d)))

    pub one_second : b ≡ true → true ≡ one_size d
    one_second t = later true t

    pub one_third : b ≡ false → {c : Bool} → c ≡ lengths_of Cif d → c ≡ one_size d
    one_third n ce = ce ∙ later false n
