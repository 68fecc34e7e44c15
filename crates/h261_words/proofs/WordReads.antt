-- Each read of a codeword gives what its table has for the bits left. Assumes nothing.
use Prim.Native.Nat.{ℕ, ◌/◌, ◌%◌, ◌≤◌}
use mathlib.Core.Bool.{Bool, true, false}
use native.Mathlib.Omega.{arith}
use lib.Dec.{T, leb, eqb, leb→le, lit≤}
use Rattle.laws.specs.Choice.{pick, either}
use Rattle.refusals.specs.declared.Reason.TheVariants.{Forbidden}
use Rattle.refusals.specs.Number.{number}
use Rattle.bits.specs.Read.{◌>>=◌, done}
use Rattle.bits.specs.Code.{CodeTable, word}
use Rattle.bits.proofs.Codes.{each}
use Rattle.bits.proofs.Logic.{Reads, reads_any, reads_done, reads_then, reads_map, Judges, Makes, makes_whole, makes_judged, reads_judged, judges_pick, judges_fine, judges_against, reads_whole, reads_field, reads_word}
use Rattle.bits.proofs.Once.{Once, once_whole, once_judged}
use Rattle.h261_words.specs.Tables.{pairs, first_table5, later_table5, end_of_block, escape}
use Rattle.layout.specs.Value.{coefficient}
use Rattle.h261_words.specs.Words.{Event, sent, over, escaped, paired, tcoeff, allowed, coefficient_read}
use Rattle.layout.specs.Numbers.{forbidden, is_code, signed_code}
use Rattle.layout.proofs.Codes.{code_of, signed_byte}

-- what a codeword of Table 5 may mean: EOB where it may come, an escape, or a pair with a level
abbrev pub meant : Bool → ℕ → Bool
meant ends m = pick (eqb m end_of_block) ends (either (eqb m escape) (leb 1 (m % 16)))

-- "EOB can't come first"
pub first_meanings : T (each (meant false) first_table5.entries)
unfolding first_table5 pairs
first_meanings = tt

pub later_meanings : T (each (meant true) later_table5.entries)
unfolding later_table5 pairs
later_meanings = tt

-- a code of eight bits, allowed or not; EOB where it may come
abbrev Eight : Bool → Event → Type 0
Eight ends (sent c) = c.code ≤ 255
Eight ends over = T ends

escaped_reads : {bound : ℕ} (ends : Bool) → Reads bound 0 (λ e left. Eight ends e) (λ P. escaped)
escaped_reads ends =
    reads_any (reads_then (reads_field 6 tt) (λ run left g. reads_map (λ code. sent (coefficient run code)) (reads_field 8 tt) (λ code left l. omega arith)))

paired_reads : {bound : ℕ} (ends : Bool) (m : ℕ) → 1 ≤ m % 16 → Reads bound 0 (λ e left. Eight ends e) (λ P. paired m)
paired_reads ends m some =
    reads_any (reads_map (λ s. sent (coefficient (m / 16) (signed_code s (m % 16)))) (reads_field 1 tt) (λ s left l. signed_byte s (m % 16) some (omega arith)))

-- what follows a codeword of Table 5
tcoeff_after : {bound : ℕ} (ends : Bool) (m : ℕ) → T (meant ends m)
    → Reads bound 0 (λ e left. Eight ends e) (λ P. pick (eqb m end_of_block) (done over) (pick (eqb m escape) escaped (paired m)))
tcoeff_after {bound} ends m t = from (eqb m end_of_block) (eqb m escape) t
  where
    from : (end esc : Bool) → T (pick end ends (either esc (leb 1 (m % 16)))) → Reads bound 0 (λ e left. Eight ends e) (λ P. pick end (done over) (pick esc escaped (paired m)))
    from true esc t = reads_done (λ left. t)
    from false true t = escaped_reads ends
    from false false t = paired_reads ends m (leb→le 1 (m % 16) t)

-- an allowed coefficient; EOB where it may come
abbrev pub Allowed : Bool → Event → Type 0
Allowed ends (sent c) = T (is_code c.code)
Allowed ends over = T ends

judges_allowed : (ends : Bool) (e : Event) → Eight ends e → Judges (Allowed ends) (allowed e)
unfolding number
judges_allowed ends (sent c) h =
    judges_pick (forbidden c.code) (λ y. judges_against Forbidden tt) (λ n. judges_fine (sent c) (code_of c.code h n))
judges_allowed ends over h = judges_fine over h

-- a codeword of Table 5 with its sign, or an escape, is one read
makes_tcoeff : (table : CodeTable) → Makes 1 (λ P. tcoeff table)
unfolding tcoeff
makes_tcoeff table = makes_whole (word table >>= λ m. pick (eqb m end_of_block) (done over) (pick (eqb m escape) escaped (paired m)))

pub makes_coefficient : (table : CodeTable) → Makes 1 (λ P. coefficient_read table)
unfolding coefficient_read
makes_coefficient table = makes_judged allowed (makes_tcoeff table)

pub once_coefficient : (table : CodeTable) → Once (λ P. coefficient_read table)
unfolding coefficient_read tcoeff
once_coefficient table = once_judged allowed (once_whole (word table >>= λ m. pick (eqb m end_of_block) (done over) (pick (eqb m escape) escaped (paired m))))

pub coefficient_reads : {bound : ℕ} (ends : Bool) (table : CodeTable) → T (each (meant ends) table.entries) → Reads bound 1 (λ e left. Allowed ends e) (λ P. coefficient_read table)
unfolding coefficient_read tcoeff
coefficient_reads ends table t =
    reads_judged (makes_tcoeff table) (reads_whole (lit≤ tt) (reads_then (reads_word (meant ends) table t) (λ m left g. tcoeff_after ends m g))) (λ e left g. judges_allowed ends e g)
