-- Document 02, T-06: "Everything else in an answer stays." What was answered before there were tables is what is answered now, without its table. Assumes nothing.
use Rattle.std.specs.Prelude.{ℕ, ◌≡◌, List}
use Rattle.refusals.specs.declared.Table.{Table}
use Rattle.refusals.specs.Number.{number}
use Rattle.refusals.specs.Tables.{without_table}
use Rattle.bits.specs.Bits.{Bit}
use Rattle.bits.specs.Code.{CodeTable, word}
use Rattle.fields.specs.Answer.{found}
use Rattle.ticks.specs.declared.Tick.{Tick}
use Rattle.standing.specs.declared.Answer.{Answer}
use Rattle.standing.specs.declared.Answer.TheVariants as G
use Rattle.standing.specs.Answered.{Said, said}
use Rattle.standing.specs.Answered as A

-- ---- a codeword: under whichever name its table is read, nothing but the table that a refusal carries is another
abbrev pub named : Table → CodeTable → CodeTable
named name table = record { name = name; entries = table.entries }

abbrev pub WordStays : Type 0
WordStays = (table : CodeTable) (name : Table) (bs : List Bit) (at : ℕ) → without_table (found (word table bs at)) ≡ without_table (found (word (named name table) bs at))

-- ---- a block's answer, as it was said before
pub data SaidBefore : Type 0 where
  old : ℕ → ℕ → SaidBefore
  taken : ℕ → ℕ → SaidBefore
  lost : SaidBefore
  picture : ℕ → Tick → SaidBefore
  -- the refusal's number, and its place
  refused : ℕ → ℕ → SaidBefore

abbrev pub said_before : Answer → SaidBefore
said_before (G.Old n part) = old n part
said_before (G.Taken n part) = taken n part
said_before G.Lost = lost
said_before (G.Picture n tick) = picture n tick
said_before (G.Refused why) = refused (number why.reason) why.place

abbrev pub said_without_table : Said → SaidBefore
said_without_table (A.old n part) = old n part
said_without_table (A.taken n part) = taken n part
said_without_table A.lost = lost
said_without_table (A.picture n tick) = picture n tick
said_without_table (A.refused numbers) = refused numbers.number numbers.place

abbrev pub AnswerStays : Type 0
AnswerStays = (a : Answer) → said_before a ≡ said_without_table (said a)
