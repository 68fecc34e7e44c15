-- `standing::is_length` meets its contract: no other reason has number 1. Assumes nothing.
use mathlib.Core.Path.{◌≡◌, refl, sym, ap}
use mathlib.Core.Bool.{true, false}
use lib.Dec.{eqb}
use Rattle.refusals.specs.declared.Reason.{Reason}
use Rattle.refusals.specs.declared.Reason.TheVariants.{Length, Count, BitsEnd, NoStartCode, OtherFormat, OtherGroup, QuantiserZero, NoCodeword, AddressPast, Forbidden, CoefficientPast, VectorOut, AfterLast, OptionalMode, BlockCheck, BlockField, OtherClip, UntrueMark, Invalid, AboveLimit, NotRefresh, AllSent, NoneKept, NoLock}
use Rattle.refusals.specs.Number.{number}
use Rattle.standing.proofs.is_length.Goals as goal

not_one : (reason : Reason) → (reason ≡ Length → ⊥) → false ≡ eqb (number reason) 1
unfolding number
not_one Length o = absurd (o refl)
not_one Count o = refl
not_one BitsEnd o = refl
not_one NoStartCode o = refl
not_one OtherFormat o = refl
not_one OtherGroup o = refl
not_one QuantiserZero o = refl
not_one (NoCodeword table) o = refl
not_one AddressPast o = refl
not_one Forbidden o = refl
not_one CoefficientPast o = refl
not_one VectorOut o = refl
not_one AfterLast o = refl
not_one OptionalMode o = refl
not_one BlockCheck o = refl
not_one BlockField o = refl
not_one OtherClip o = refl
not_one UntrueMark o = refl
not_one Invalid o = refl
not_one AboveLimit o = refl
not_one NotRefresh o = refl
not_one AllSent o = refl
not_one NoneKept o = refl
not_one NoLock o = refl

is_one : {reason : Reason} → reason ≡ Length → true ≡ eqb (number reason) 1
unfolding number
is_one e = sym (ap (λ (r : Reason). eqb (number r) 1) e)

pub returns-in-Length : goal.returns-in-Length
returns-in-Length c = is_one c.in-Length.is

pub returns-in_default : goal.returns-in_default
returns-in_default c = not_one c.args.reason c.in_default.not-Length
