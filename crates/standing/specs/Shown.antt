-- "In step, the picture to show is a part of one of the two lent stores, handed back and not copied; otherwise, and with refusal 1, an empty part of the first." Assumes nothing.
use Rattle.std.specs.Prelude.{ℕ, Bool, false, List, eqb}
use Rattle.std.specs.Borrow.{Bor}
use Rattle.laws.specs.Choice.{pick}
use Rattle.coding.specs.Kind.{kind_size}
use Rattle.standing.specs.declared.Holder.{Holder}
use Rattle.standing.specs.declared.Holder.TheVariants.{Neither}
use Rattle.standing.specs.Stores.{Stores, shown_store, HandsBack}
use Rattle.standing.specs.declared.Standing.{Standing}
use Rattle.standing.specs.Answered.{Said, Reply}
use Rattle.standing.specs.declared.Standing.TheVariants as S
use Rattle.standing.specs.Answered as A

-- the store to show, by how the receiver stands
abbrev pub where_shown : Standing → Holder → Holder
where_shown S.Lost holder = Neither
where_shown S.Catching holder = Neither
where_shown (S.InStep k) holder = holder

-- "with refusal 1"
abbrev pub refused_length : Said → Bool
refused_length (A.old picture part) = false
refused_length (A.taken picture part) = false
refused_length A.lost = false
refused_length (A.picture picture tick) = false
refused_length (A.refused numbers) = eqb numbers.number 1

abbrev pub holder_shown : Reply → Holder
holder_shown x = pick (refused_length x.answer) Neither (where_shown x.next.progress.standing x.next.last.holder)

unfoldable pub shown_by : Reply → Stores → List ℕ
shown_by x s = shown_store (kind_size x.next.kind) (holder_shown x) s

-- what `show` promises: the part that it hands back of the two lent stores; its bytes are `shown_by`
abbrev pub ShowHands : Reply → Bor (List ℕ) → Bor (List ℕ) → Bor (List ℕ) → Type 0
ShowHands x first second part = HandsBack (kind_size x.next.kind) (holder_shown x) first second part
