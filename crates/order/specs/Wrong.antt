-- Readers that the order of refusals rules out. Assumes nothing.
use Rattle.std.specs.Prelude.{ℕ, eqb}
use Rattle.laws.specs.Choice.{pick}
use Rattle.refusals.specs.declared.Reason.TheVariants.{OtherGroup}
use Rattle.bits.specs.Read.{Reader, got, bad, ◌>>=◌, field, judged_read}
use Rattle.bits.specs.Code.{CodeTable}
use Rattle.fields.specs.Rules.{quantiser}
use Rattle.h261_words.specs.Tables.{later_table5}
use Rattle.h261_words.specs.Words.{Event, tcoeff, allowed}
use Rattle.h261_layers.specs.Grammar.{fits}
use Rattle.order.specs.Order.{EarliestPlace, SmallestNumber}
use Rattle.order.specs.Grammar.{backwards, coefficient_rules}

-- ---- wrong: GN, the field at place 0, is judged once GQUANT is read, so that 7 or 3 at GQUANT comes before 6
abbrev pub late_group_number : Reader ℕ
late_group_number = field 4 >>= λ gn. quantiser >>= λ q. λ bs at. pick (eqb gn 1) (got q bs at) (bad OtherGroup 0)

abbrev pub LateWrong : Type 0
LateWrong = EarliestPlace backwards late_group_number → ⊥

-- ---- wrong: 11 is judged before 10 at a coefficient
abbrev pub eleven_first : ℕ → CodeTable → Reader Event
eleven_first room table = judged_read (judged_read (tcoeff table) (fits room)) allowed

abbrev pub ElevenFirstWrong : Type 0
ElevenFirstWrong = SmallestNumber 8 (tcoeff later_table5) (coefficient_rules 0) (λ e. e) (eleven_first 0 later_table5) → ⊥
