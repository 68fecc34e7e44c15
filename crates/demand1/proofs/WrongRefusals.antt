-- A reader whose refusal has other numbers than are due, and a receiver whose refusal changes a store, don't meet demand 1. Assumes nothing.
use Rattle.std.specs.Prelude.{Result, Ok, Err}
use Rattle.refusals.specs.declared.Refusal.{Refusal}
use Prim.Native.Nat.{ℕ}
use mathlib.Core.Path.{◌≡◌, refl, sym, ap, ◌∙◌}
use mathlib.Core.List.{[]}
use native.Mathlib.Omega.{arith}
use Rattle.refusals.specs.declared.Reason.{Reason}
use Rattle.refusals.specs.Number.{number, read_table, refusal}
use Rattle.refusals.specs.Told.{Numbers, numbers_of, untabled, refused_by, refused, told_verdict}
use Rattle.refusals.proofs.Told.{same_numbers, told_apart}
use Rattle.bits.specs.Bits.{bits_in}
use Rattle.bits.specs.Read.{field_from}
use Rattle.h261_groups.specs.declared.Format.TheVariants.{Qcif}
use Rattle.coding.specs.declared.Kind.{Kind}
use Rattle.coding.specs.declared.Kind.TheVariants.{H261}
use Rattle.layout.specs.Flat.{zeros}
use Rattle.h261_description.specs.Value.{shape}
use Rattle.h261_layers.specs.Grammar.{header, picture}
use Rattle.demand1.specs.Order.{first_verdict}
use Rattle.demand1.specs.Rules.{read_rules}
use Rattle.demand1.specs.Demand1.{Programs, Keeps, Demand1}
use Rattle.demand1.specs.WrongRefusals.{MisnumberedWrong, renamed, naming_one, NamingOneWrong, ChangedStoreWrong}
use Rattle.demand1.proofs.Pictures.{reader_due}

pub misnumbered_wrong : MisnumberedWrong
misnumbered_wrong p k bytes n before due numbers is says apart d = apart (same_numbers (sym says ∙ (d.reads k bytes n before).due ∙ is))

-- ---- 3 and 2 are both given, so not one number for all
abbrev qcif : Kind
qcif = H261 Qcif

no_bits : first_verdict (read_rules qcif [] 0 (zeros (shape Qcif))) ≡ refused 3 0
unfolding picture header field_from bits_in number read_table
no_bits = refl

too_many : first_verdict (read_rules qcif [] 1 (zeros (shape Qcif))) ≡ refused 2 0
too_many = refl

renamed-number : (reason : Reason) (v : Result (Unit {0}) Refusal) (numbers : Numbers) → told_verdict v ≡ refused_by numbers
    → told_verdict (renamed reason v) ≡ refused_by (numbers_of (refusal reason numbers.place))
renamed-number reason (Ok u) numbers e = absurd (told_apart e)
renamed-number reason (Err why) numbers e = ap (λ (x : Numbers). refused_by (numbers_of (refusal reason x.place))) (same_numbers e)

module _ (p : Programs) (keeps : Keeps p) (reason : Reason) (d : Demand1 (naming_one reason p)) where
  -- where a refusal is due, its number is this one's
  named : (n : ℕ) (numbers : Numbers) → first_verdict (read_rules qcif [] n (zeros (shape Qcif))) ≡ refused_by numbers → number reason ≡ numbers.number
  named n numbers due =
      ap (λ (x : Numbers). x.number) (same_numbers
      (sym (renamed-number reason (p.read qcif [] n (zeros (shape Qcif))).answer numbers (keeps.read_says qcif [] n (zeros (shape Qcif)) ∙ reader_due qcif [] n (zeros (shape Qcif)) ∙ due))
      ∙ (d.reads qcif [] n (zeros (shape Qcif))).due ∙ due))

pub naming_one_wrong : NamingOneWrong
naming_one_wrong p keeps reason d = let z : ◌≡◌ {A = ℕ} 3 2 = sym (named p keeps reason d 0 (untabled 3 0) no_bits) ∙ named p keeps reason d 1 (untabled 2 0) too_many in omega arith

pub changed_store_wrong : ChangedStoreWrong
changed_store_wrong p r block b numbers says drawn d = drawn ((d.receives r block b).stores numbers says)
