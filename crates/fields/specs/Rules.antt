-- Fields under a rule: a value that is expected, a quantiser, spares; and a read that may be left out. Assumes nothing.
-- Refusals 4, 6 and 7 of document 01's table are given by a rule here, 3 by `field`.
use Rattle.std.specs.Prelude.{ℕ, zero, suc, Bool, true, false, eqb}
use Rattle.laws.specs.Choice.{pick}
use Rattle.refusals.specs.declared.Reason.{Reason}
use Rattle.refusals.specs.declared.Reason.TheVariants.{QuantiserZero}
use Rattle.bits.specs.Places.{Places}
use Rattle.bits.specs.Read.{ReaderIn, ◌>>=◌, done, field, fine, against, judged_read, loop, never}

-- a field of k bits that must hold v, else a refusal for this reason
abbrev pub expect : {P : Places} → ℕ → ℕ → Reason → ReaderIn P ℕ
expect k v reason = judged_read (field k) (λ x. pick (eqb x v) (fine x) (against reason))

-- refusal 7: "quantiser 0"
abbrev pub quantiser : {P : Places} → ReaderIn P ℕ
quantiser = judged_read (field 5) (λ q. pick (eqb q 0) (against QuantiserZero) (fine q))

-- "PEI, then 8 dropped bits and another PEI while PEI is 1"; so too GEI
abbrev pub spares_after : {P : Places} → ReaderIn P ℕ → ℕ → ReaderIn P ℕ
spares_after more zero = done 0
spares_after more (suc n) = field 8 >>= λ spare. more

unfoldable pub spares_from : {P : Places} → ℕ → ReaderIn P ℕ
spares_from zero = never
spares_from (suc turns) = field 1 >>= spares_after (spares_from turns)

unfoldable pub spares : {P : Places} → ReaderIn P ℕ
spares = loop spares_from

-- a read that the type may leave out
abbrev pub optional : {P : Places} {A : Type 0} → Bool → A → ReaderIn P A → ReaderIn P A
optional true a r = r
optional false a r = done a
