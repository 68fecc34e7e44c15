-- What a field under a rule gives, by the logic of reads: the loop over spares ends, every refusal is of the table, and a quantiser is in range. Assumes nothing.
use Prim.Native.Nat.{ℕ, zero, suc, ◌≤◌, ◌<◌}
use mathlib.Core.Path.{◌≡◌}
use mathlib.Core.Bool.{false}
use mathlib.Core.List.{List}
use native.Mathlib.Omega.{arith}
use native.Mathlib.Nat.{pos_of_ne-zero}
use lib.Dec.{T, leb, eqb, le→leb}
use borrow.Author.Tests.{eqb-false}
use Rattle.laws.specs.Choice.{both}
use Rattle.laws.proofs.Choice.{both_make}
use Rattle.refusals.specs.declared.Reason.{Reason}
use Rattle.refusals.specs.declared.Reason.TheVariants.{QuantiserZero}
use Rattle.refusals.specs.Number.{number}
use Rattle.bits.specs.Bits.{Bit}
use Rattle.bits.specs.Read.{AnyReader}
use Rattle.bits.proofs.Logic.{of_bits, Reads, reads_any, reads_done, reads_then, reads_turn, reads_loop, reads_never, reads_judged, makes_field, judges_pick, judges_fine, judges_against, reads_field}
use Rattle.fields.specs.Rules.{expect, quantiser, spares_after, spares_from, spares}

-- nothing is asked of what was read
abbrev pub Any : {A : Type 0} → A → List Bit → Type 0
Any a left = Unit {0}

pub expect_reads : {bound : ℕ} (k v : ℕ) (reason : Reason) → T (leb 1 k) → T (of_bits reason) → Reads bound k Any (λ P. expect k v reason)
expect_reads k v reason some t =
    reads_judged (makes_field k) (reads_field k some) (λ x left l. judges_pick (eqb x v) (λ y. judges_fine x tt) (λ n. judges_against reason t))

is_quantiser_lem : (q : ℕ) → q < 32 → eqb q 0 ≡ false → T (both (leb 1 q) (leb q 31))
is_quantiser_lem q l n =
    let some : 1 ≤ q = pos_of_ne-zero (eqb-false q 0 n) in
    both_make (leb 1 q) (leb q 31) (le→leb 1 q some) (le→leb q 31 (omega arith))

pub quantiser_reads : {bound : ℕ} → Reads bound 5 (λ q left. T (both (leb 1 q) (leb q 31))) (λ P. quantiser)
unfolding number
quantiser_reads =
    reads_judged (makes_field 5) (reads_field 5 tt)
    (λ q left l. judges_pick (eqb q 0) (λ y. judges_against QuantiserZero tt) (λ n. judges_fine q (is_quantiser_lem q l n)))

-- a turn reads PEI at least
spares_after_lem : {bound : ℕ} (r : AnyReader ℕ) (more : ℕ) → Reads bound 0 Any r → Reads bound 0 Any (λ P. spares_after (r P) more)
spares_after_lem r zero h = reads_done (λ left. tt)
spares_after_lem r (suc more) h = reads_any (reads_then (reads_field 8 tt) (λ a left g. h))

spares_from_lem : (turns : ℕ) → Reads turns 0 Any (λ P. spares_from turns)
unfolding spares_from
spares_from_lem zero = reads_never
spares_from_lem (suc turns) =
    reads_any (reads_turn (reads_field 1 tt) (λ more left g. spares_after_lem (λ P. spares_from turns) more (spares_from_lem turns)))

pub spares_reads : {bound : ℕ} → Reads bound 0 Any (λ P. spares)
unfolding spares
spares_reads = reads_loop spares_from_lem
