-- A refusal carries a table exactly if no codeword was there, and all else that it tells is what it told before: by the cases of a reason. Assumes nothing.
use Rattle.std.specs.Prelude.{Ok, Err}
use Prim.Native.Nat.{ℕ, ◌≤◌}
use mathlib.Core.Path.{◌≡◌, refl}
use native.Mathlib.Omega.{arith}
use lib.Dec.{lit≤}
use Rattle.refusals.specs.declared.Reason.{Reason}
use Rattle.refusals.specs.declared.Reason.TheVariants.{Length, Count, BitsEnd, NoStartCode, OtherFormat, OtherGroup, QuantiserZero, NoCodeword, AddressPast, Forbidden, CoefficientPast, VectorOut, AfterLast, OptionalMode, BlockCheck, BlockField, OtherClip, UntrueMark, Invalid, AboveLimit, NotRefresh, AllSent, NoneKept, NoLock}
use Rattle.refusals.specs.declared.Table.{Table}
use Rattle.refusals.specs.declared.Table.TheVariants.{Mba, Mtype, Mvd, Cbp, Tcoeff, McbpcIntra, McbpcInter, Cbpy, Mvd263, Tcoef263}
use Rattle.refusals.specs.Number.{number, table_number, read_table}
use Rattle.refusals.specs.Told.{untabled}
use Rattle.refusals.specs.Tables.{Tabled, TabledExactly, VerdictStays}

-- no table: any number but 8
pub untabled_tabled : (n place : ℕ) → (n ≡ 8 → ⊥) → Tabled (untabled n place)
untabled_tabled n place other = record { read = λ e. absurd (other e); other = λ h. refl }

of_table : (table : Table) → (1 ≤ table_number table) × (table_number table ≤ 10)
unfolding table_number
of_table Mba = (lit≤ tt, lit≤ tt)
of_table Mtype = (lit≤ tt, lit≤ tt)
of_table Mvd = (lit≤ tt, lit≤ tt)
of_table Cbp = (lit≤ tt, lit≤ tt)
of_table Tcoeff = (lit≤ tt, lit≤ tt)
of_table McbpcIntra = (lit≤ tt, lit≤ tt)
of_table McbpcInter = (lit≤ tt, lit≤ tt)
of_table Cbpy = (lit≤ tt, lit≤ tt)
of_table Mvd263 = (lit≤ tt, lit≤ tt)
of_table Tcoef263 = (lit≤ tt, lit≤ tt)

of_reason : (reason : Reason) (place : ℕ) → Tabled (record { number = number reason; place = place; table = read_table reason })
unfolding number read_table
of_reason Length place = untabled_tabled 1 place (λ e. omega (arith, e))
of_reason Count place = untabled_tabled 2 place (λ e. omega (arith, e))
of_reason BitsEnd place = untabled_tabled 3 place (λ e. omega (arith, e))
of_reason NoStartCode place = untabled_tabled 4 place (λ e. omega (arith, e))
of_reason OtherFormat place = untabled_tabled 5 place (λ e. omega (arith, e))
of_reason OtherGroup place = untabled_tabled 6 place (λ e. omega (arith, e))
of_reason QuantiserZero place = untabled_tabled 7 place (λ e. omega (arith, e))
of_reason (NoCodeword table) place = record { read = λ e. of_table table; other = λ h. absurd (h refl) }
of_reason AddressPast place = untabled_tabled 9 place (λ e. omega (arith, e))
of_reason Forbidden place = untabled_tabled 10 place (λ e. omega (arith, e))
of_reason CoefficientPast place = untabled_tabled 11 place (λ e. omega (arith, e))
of_reason VectorOut place = untabled_tabled 12 place (λ e. omega (arith, e))
of_reason AfterLast place = untabled_tabled 13 place (λ e. omega (arith, e))
of_reason OptionalMode place = untabled_tabled 14 place (λ e. omega (arith, e))
of_reason BlockCheck place = untabled_tabled 21 place (λ e. omega (arith, e))
of_reason BlockField place = untabled_tabled 22 place (λ e. omega (arith, e))
of_reason OtherClip place = untabled_tabled 23 place (λ e. omega (arith, e))
of_reason UntrueMark place = untabled_tabled 24 place (λ e. omega (arith, e))
of_reason Invalid place = untabled_tabled 31 place (λ e. omega (arith, e))
of_reason AboveLimit place = untabled_tabled 32 place (λ e. omega (arith, e))
of_reason NotRefresh place = untabled_tabled 33 place (λ e. omega (arith, e))
of_reason AllSent place = untabled_tabled 34 place (λ e. omega (arith, e))
of_reason NoneKept place = untabled_tabled 43 place (λ e. omega (arith, e))
of_reason NoLock place = untabled_tabled 44 place (λ e. omega (arith, e))

pub tabled_exactly : TabledExactly
tabled_exactly why = of_reason why.reason why.place

pub verdict_stays : VerdictStays
verdict_stays (Ok u) = refl
verdict_stays (Err why) = refl
