-- Each read of a codeword gives a meaning that its table has, from one bit at least, or a refusal of reading. Assumes nothing.
use Prim.Native.Nat.{ℕ, ◌/◌, ◌%◌, ◌≤◌, ◌<◌}
use mathlib.Core.Bool.{Bool, true, false}
use native.Mathlib.Omega.{arith}
use lib.Dec.{T, eqb, ltb, leb, leb→le, lit≤}
use Rattle.laws.specs.Choice.{pick, either}
use Rattle.laws.proofs.Choice.{both_left, both_right}
use Rattle.refusals.specs.declared.Reason.TheVariants.{Forbidden}
use Rattle.refusals.specs.Number.{number}
use Rattle.bits.specs.Read.{◌>>=◌}
use Rattle.bits.specs.Code.{word}
use Rattle.bits.proofs.Logic.{Reads, reads_any, reads_weaker, reads_then, reads_map, Judges, Makes, makes_whole, makes_judged, reads_judged, judges_pick, judges_fine, judges_against, reads_whole, reads_field, reads_word}
use Rattle.bits.proofs.Once.{Once, once_whole, once_judged}
use Rattle.layout.specs.Numbers.{forbidden, is_code, signed_code}
use Rattle.layout.proofs.Codes.{code_of, signed_byte}
use Rattle.h263_words.specs.Tables.{mcbpc_of, cbpy, mvd, escape, tcoef}
use Rattle.h263_words.specs.Words.{Event, event_of, escaped, tabled, tcoef_read, allowed, event_read}
use Rattle.h263_words.proofs.Meanings.{kind_meant, mcbpc_meanings, cbpy_meanings, mvd_meanings, event_meant, tcoef_meanings}

pub mcbpc_reads : {bound : ℕ} (intra : Bool) → Reads bound 1 (λ m left. T (kind_meant intra m)) (λ P. word (mcbpc_of intra))
mcbpc_reads intra = reads_word (kind_meant intra) (mcbpc_of intra) (mcbpc_meanings intra)

pub cbpy_reads : {bound : ℕ} → Reads bound 1 (λ m left. m < 16) (λ P. word cbpy)
cbpy_reads = reads_weaker (reads_word (λ m. ltb m 16) cbpy cbpy_meanings) (leb→le 1 1 tt) (λ m left t. leb→le _ _ t)

pub mvd_reads : {bound : ℕ} → Reads bound 1 (λ m left. m < 64) (λ P. word mvd)
mvd_reads = reads_weaker (reads_word (λ m. ltb m 64) mvd mvd_meanings) (leb→le 1 1 tt) (λ m left t. leb→le _ _ t)

-- ---- TCOEF
-- LAST of one bit, RUN of six and a code of eight, allowed or not
pub record EventFits (e : Event) : Type 0 where
  pub last : e.last ≤ 1
  pub run : e.sent.run ≤ 63
  pub code : e.sent.code ≤ 255

escaped_reads : {bound : ℕ} → Reads bound 0 (λ e left. EventFits e) (λ P. escaped)
escaped_reads =
    reads_any
    (reads_then (reads_field 1 tt)
    (λ last left f.
    reads_then (reads_field 6 tt)
    (λ run left g. reads_map (λ code. event_of last run code) (reads_field 8 tt) (λ code left l. record { last = omega arith; run = omega arith; code = omega arith }))))

tabled_reads : {bound : ℕ} (m : ℕ) → m < 2048 → 1 ≤ m % 16 → Reads bound 0 (λ e left. EventFits e) (λ P. tabled m)
tabled_reads m low some =
    reads_any
    (reads_map (λ s. event_of (m / 1024) (m / 16 % 64) (signed_code s (m % 16))) (reads_field 1 tt)
    (λ s left l. record { last = omega arith; run = omega arith; code = signed_byte s (m % 16) some (omega arith) }))

-- what follows a codeword of TCOEF
tcoef_after : {bound : ℕ} (m : ℕ) → T (event_meant m) → Reads bound 0 (λ e left. EventFits e) (λ P. pick (eqb m escape) escaped (tabled m))
tcoef_after {bound} m t = from (eqb m escape) (both_right (ltb m 2048) _ t)
  where
    from : (esc : Bool) → T (either esc (leb 1 (m % 16))) → Reads bound 0 (λ e left. EventFits e) (λ P. pick esc escaped (tabled m))
    from true u = escaped_reads
    from false u = tabled_reads m (leb→le _ _ (both_left (ltb m 2048) _ t)) (leb→le 1 (m % 16) u)

-- the same with an allowed code
pub record EventGood (e : Event) : Type 0 where
  pub last : e.last ≤ 1
  pub run : e.sent.run ≤ 63
  pub code : T (is_code e.sent.code)

judges_allowed : (e : Event) → EventFits e → Judges EventGood (allowed e)
unfolding number
judges_allowed e h =
    judges_pick (forbidden e.sent.code) (λ y. judges_against Forbidden tt)
    (λ n. judges_fine e (record { last = h.last; run = h.run; code = code_of e.sent.code h.code n }))

-- a codeword of TCOEF with its sign, or an escape, is one read
makes_tcoef : Makes 1 (λ P. tcoef_read)
unfolding tcoef_read
makes_tcoef = makes_whole (word tcoef >>= λ m. pick (eqb m escape) escaped (tabled m))

pub makes_event : Makes 1 (λ P. event_read)
unfolding event_read
makes_event = makes_judged allowed makes_tcoef

pub once_event : Once (λ P. event_read)
unfolding event_read tcoef_read
once_event = once_judged allowed (once_whole (word tcoef >>= λ m. pick (eqb m escape) escaped (tabled m)))

pub event_reads : {bound : ℕ} → Reads bound 1 (λ e left. EventGood e) (λ P. event_read)
unfolding event_read tcoef_read
event_reads = reads_judged makes_tcoef (reads_whole (lit≤ tt) (reads_then (reads_word event_meant tcoef tcoef_meanings) (λ m left g. tcoef_after m g))) (λ e left g. judges_allowed e g)
