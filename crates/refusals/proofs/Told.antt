-- Telling a refusal by its numbers loses nothing of it: each number of the table is one reason's, and 8 with a table's number one table's. Assumes nothing.
use Rattle.std.specs.Prelude.{Result, Ok, Err}
use Prim.Native.Nat.{ℕ}
use mathlib.Core.Path.{◌≡◌, refl, sym, ap, ◌∙◌}
use mathlib.Core.List.{List, [], ◌∷◌}
use lib.ListN.{get_or}
use native.Mathlib.Omega.{arith}
use Rattle.refusals.specs.declared.Reason.{Reason}
use Rattle.refusals.specs.declared.Reason.TheVariants.{Length, Count, BitsEnd, NoStartCode, OtherFormat, OtherGroup, QuantiserZero, NoCodeword, AddressPast, Forbidden, CoefficientPast, VectorOut, AfterLast, OptionalMode, BlockCheck, BlockField, OtherClip, UntrueMark, Invalid, AboveLimit, NotRefresh, AllSent, NoneKept, NoLock}
use Rattle.refusals.specs.declared.Table.{Table}
use Rattle.refusals.specs.declared.Table.TheVariants.{Mba, Mtype, Mvd, Cbp, Tcoeff, McbpcIntra, McbpcInter, Cbpy, Mvd263, Tcoef263}
use Rattle.refusals.specs.declared.Refusal.{Refusal}
use Rattle.refusals.specs.Number.{number, table_number, read_table, refusal}
use Rattle.refusals.specs.Told.{Numbers, numbers_of, Told, accepted, refused_by, told_verdict, verdict_on, found_or, NumbersOnce, RefusalToldOnce, VerdictToldOnce}

-- ---- the table of a number: 1 to 10
abbrev table_named : ℕ → Table
table_named n = get_or (Mba ∷ Mba ∷ Mtype ∷ Mvd ∷ Cbp ∷ Tcoeff ∷ McbpcIntra ∷ McbpcInter ∷ Cbpy ∷ Mvd263 ∷ Tcoef263 ∷ []) n Mba

table_back : (table : Table) → table_named (table_number table) ≡ table
unfolding table_number
table_back Mba = refl
table_back Mtype = refl
table_back Mvd = refl
table_back Cbp = refl
table_back Tcoeff = refl
table_back McbpcIntra = refl
table_back McbpcInter = refl
table_back Cbpy = refl
table_back Mvd263 = refl
table_back Tcoef263 = refl

-- ---- the reason of a number: 1 to 14, 21 to 24, 31 to 34, 43 and 44
abbrev by_number : ℕ → List Reason
by_number table =
    Length ∷ Length ∷ Count ∷ BitsEnd ∷ NoStartCode ∷ OtherFormat ∷ OtherGroup ∷ QuantiserZero ∷ NoCodeword (table_named table) ∷ AddressPast
    ∷ Forbidden ∷ CoefficientPast ∷ VectorOut ∷ AfterLast ∷ OptionalMode ∷ Length ∷ Length ∷ Length ∷ Length ∷ Length
    ∷ Length ∷ BlockCheck ∷ BlockField ∷ OtherClip ∷ UntrueMark ∷ Length ∷ Length ∷ Length ∷ Length ∷ Length
    ∷ Length ∷ Invalid ∷ AboveLimit ∷ NotRefresh ∷ AllSent ∷ Length ∷ Length ∷ Length ∷ Length ∷ Length
    ∷ Length ∷ Length ∷ Length ∷ NoneKept ∷ NoLock ∷ []

unfoldable pub reason_of : ℕ → ℕ → Reason
reason_of n table = get_or (by_number table) n Length

reason_back : (r : Reason) → reason_of (number r) (read_table r) ≡ r
unfolding number read_table reason_of
reason_back Length = refl
reason_back Count = refl
reason_back BitsEnd = refl
reason_back NoStartCode = refl
reason_back OtherFormat = refl
reason_back OtherGroup = refl
reason_back QuantiserZero = refl
reason_back (NoCodeword table) = ap NoCodeword (table_back table)
reason_back AddressPast = refl
reason_back Forbidden = refl
reason_back CoefficientPast = refl
reason_back VectorOut = refl
reason_back AfterLast = refl
reason_back OptionalMode = refl
reason_back BlockCheck = refl
reason_back BlockField = refl
reason_back OtherClip = refl
reason_back UntrueMark = refl
reason_back Invalid = refl
reason_back AboveLimit = refl
reason_back NotRefresh = refl
reason_back AllSent = refl
reason_back NoneKept = refl
reason_back NoLock = refl

pub numbers_once : NumbersOnce
numbers_once a b n t = sym (reason_back a) ∙ (λ i. reason_of (n i) (t i)) ∙ reason_back b

-- the reason of a number: one, whatever its table, unless that is 8
pub reason_numbered : (reason : Reason) (n : ℕ) → number reason ≡ n → reason ≡ reason_of n (read_table reason)
reason_numbered reason n e = sym (reason_back reason) ∙ ap (λ (n : ℕ). reason_of n (read_table reason)) e

-- a refusal, back from its numbers
pub refusal_of : Numbers → Refusal
refusal_of numbers = refusal (reason_of numbers.number numbers.table) numbers.place

pub refusal_back : (why : Refusal) → refusal_of (numbers_of why) ≡ why
unfolding refusal_of
refusal_back why = λ i. record { reason = reason_back why.reason i; place = why.place }

pub refusal_told_once : RefusalToldOnce
refusal_told_once a b e = sym (refusal_back a) ∙ ap refusal_of e ∙ refusal_back b

-- ---- of any answer
-- the numbers that an answer is refused by, or these
numbers_in : {A : Type 0} → Numbers → Told A → Numbers
numbers_in other (accepted a) = other
numbers_in other (refused_by numbers) = numbers

module _ {A : Type 0} where
  -- what is told as a refusal is told so of one refusal alone
  pub same_numbers : {a b : Numbers} → ◌≡◌ {A = Told A} (refused_by a) (refused_by b) → a ≡ b
  unfolding numbers_in
  same_numbers {a} e = ap (numbers_in a) e

  pub refused_once : (a b : Refusal) → ◌≡◌ {A = Told A} (refused_by (numbers_of a)) (refused_by (numbers_of b)) → a ≡ b
  refused_once a b e = refusal_told_once a b (same_numbers e)

  pub accepted_once : {a b : A} → accepted a ≡ accepted b → a ≡ b
  accepted_once e = cc

  -- and never as given
  pub told_apart : {a : A} {numbers : Numbers} → accepted a ≡ refused_by numbers → ⊥
  told_apart e = let z : ◌≡◌ {A = ℕ} 0 1 = cc in omega arith

-- ---- a verdict
pub verdict_told_once : VerdictToldOnce
verdict_told_once (Ok u) (Ok v) e = refl
verdict_told_once (Err a) (Err b) e = ap Err (refused_once a b e)
verdict_told_once (Ok u) (Err b) e = absurd (told_apart e)
verdict_told_once (Err a) (Ok u) e = absurd (told_apart (sym e))

-- the verdict on what is given, with what it left in the buffers
module _ {A : Type 0} {verdict : Result (Unit {0}) Refusal} {left : A} (before : A) (x : Told A) (v : told_verdict verdict ≡ verdict_on x) (b : left ≡ found_or before x) where
  pub was_accepted : verdict ≡ Ok tt → x ≡ accepted left
  was_accepted e = given x (sym (ap told_verdict e) ∙ v) b
    where
      given : (x : Told A) → accepted tt ≡ verdict_on x → left ≡ found_or before x → x ≡ accepted left
      given (accepted a) w b = ap accepted (sym b)
      given (refused_by numbers) w b = absurd (told_apart w)

  pub was_refused : {why : Refusal} → verdict ≡ Err why → x ≡ refused_by (numbers_of why)
  was_refused {why} e = kept x (sym (ap told_verdict e) ∙ v)
    where
      kept : (x : Told A) → refused_by (numbers_of why) ≡ verdict_on x → x ≡ refused_by (numbers_of why)
      kept (accepted a) w = absurd (told_apart (sym w))
      kept (refused_by numbers) w = ap refused_by (sym (same_numbers w))
