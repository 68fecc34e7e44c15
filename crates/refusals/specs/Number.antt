-- Document 01, "Refusal numbers", with those that document 02 adds: the number of each reason, in the table's order; and of a codeword that isn't there, the table that was being read. Assumes nothing.
use Rattle.std.specs.Prelude.{ℕ}
use Rattle.refusals.specs.declared.Reason.{Reason}
use Rattle.refusals.specs.declared.Reason.TheVariants.{Length, Count, BitsEnd, NoStartCode, OtherFormat, OtherGroup, QuantiserZero, NoCodeword, AddressPast, Forbidden, CoefficientPast, VectorOut, AfterLast, OptionalMode, BlockCheck, BlockField, OtherClip, UntrueMark, Invalid, AboveLimit, NotRefresh, AllSent, NoneKept, NoLock}
use Rattle.refusals.specs.declared.Table.{Table}
use Rattle.refusals.specs.declared.Table.TheVariants.{Mba, Mtype, Mvd, Cbp, Tcoeff, McbpcIntra, McbpcInter, Cbpy, Mvd263, Tcoef263}
use Rattle.refusals.specs.declared.Refusal.{Refusal}

unfoldable pub number : Reason → ℕ
number Length = 1
number Count = 2
number BitsEnd = 3
number NoStartCode = 4
number OtherFormat = 5
number OtherGroup = 6
number QuantiserZero = 7
number (NoCodeword table) = 8
number AddressPast = 9
number Forbidden = 10
number CoefficientPast = 11
number VectorOut = 12
number AfterLast = 13
number OptionalMode = 14
number BlockCheck = 21
number BlockField = 22
number OtherClip = 23
number UntrueMark = 24
number Invalid = 31
number AboveLimit = 32
number NotRefresh = 33
number AllSent = 34
number NoneKept = 43
number NoLock = 44

-- ---- "Codeword reads must also say which table was being read: 1 MBA, 2 MTYPE, 3 MVD, 4 CBP, 5 TCOEFF, and for H.263 6 MCBPC in INTRA pictures, 7 in INTER ones, 8 CBPY, 9 MVD, 10 TCOEF."
unfoldable pub table_number : Table → ℕ
table_number Mba = 1
table_number Mtype = 2
table_number Mvd = 3
table_number Cbp = 4
table_number Tcoeff = 5
table_number McbpcIntra = 6
table_number McbpcInter = 7
table_number Cbpy = 8
table_number Mvd263 = 9
table_number Tcoef263 = 10

-- "Other refusals carry table 0."
unfoldable pub read_table : Reason → ℕ
read_table Length = 0
read_table Count = 0
read_table BitsEnd = 0
read_table NoStartCode = 0
read_table OtherFormat = 0
read_table OtherGroup = 0
read_table QuantiserZero = 0
read_table (NoCodeword table) = table_number table
read_table AddressPast = 0
read_table Forbidden = 0
read_table CoefficientPast = 0
read_table VectorOut = 0
read_table AfterLast = 0
read_table OptionalMode = 0
read_table BlockCheck = 0
read_table BlockField = 0
read_table OtherClip = 0
read_table UntrueMark = 0
read_table Invalid = 0
read_table AboveLimit = 0
read_table NotRefresh = 0
read_table AllSent = 0
read_table NoneKept = 0
read_table NoLock = 0

-- the refusal for a reason at a place
abbrev pub refusal : Reason → ℕ → Refusal
refusal reason place = record { reason = reason; place = place }
