-- What the array of tables holds. Its layout is the code's own affair: callers pass the fact `Tables` on, and each read's promise speaks of H.263's tables alone.
-- Every part is a test that antt computes. Assumes nothing.
use Rattle.std.specs.Prelude.{ℕ, List, T, eqb}
use Rattle.laws.specs.Choice.{pick}
use Rattle.bits.specs.Settled.{no_tail, settle_all, TwoParts, settle_parts}
use Rattle.bits.specs.Codewords.{spelt}
use Rattle.h263_words.specs.Tables.{mcbpc_intra, mcbpc_inter, cbpy, mvd, tcoef, escape}

-- ---- where the parts begin: MCBPC by 9 bits, CBPY by 6
abbrev pub mcbpc_intra_at : ℕ
mcbpc_intra_at = 0

abbrev pub mcbpc_inter_at : ℕ
mcbpc_inter_at = 512

abbrev pub cbpy_at : ℕ
cbpy_at = 1024

-- MVD by 13 bits whose number is small, and by the first 8 of any others
abbrev pub mvd_parts : TwoParts
mvd_parts = record { narrow = 8; further = 5; small = 256; small_at = 1088; large_at = 1344 }

-- TCOEF by 12 bits whose number is small, and by the first 7 of any others
abbrev pub tcoef_parts : TwoParts
tcoef_parts = record { narrow = 7; further = 5; small = 512; small_at = 1600; large_at = 2112 }

-- the bits that follow a codeword of TCOEF and are one with it: a sign, or an escape's LAST, RUN and LEVEL
abbrev pub tail : ℕ → ℕ
tail m = pick (eqb m escape) 15 1

-- codewords by their meanings
abbrev pub intra_words_at : ℕ
intra_words_at = 2240

abbrev pub inter_words_at : ℕ
inter_words_at = 2265

abbrev pub cbpy_words_at : ℕ
cbpy_words_at = 2290

abbrev pub mvd_words_at : ℕ
mvd_words_at = 2306

abbrev pub event_words_at : ℕ
event_words_at = 2370

-- ---- the fact that callers pass on
pub record Tables (t : List ℕ) : Type 0 where
  pub intra : T (settle_all no_tail mcbpc_intra.entries t mcbpc_intra_at 9 0 512)
  pub inter : T (settle_all no_tail mcbpc_inter.entries t mcbpc_inter_at 9 0 512)
  pub patterns : T (settle_all no_tail cbpy.entries t cbpy_at 6 0 64)
  pub differences : T (settle_parts no_tail mvd.entries t mvd_parts)
  pub events : T (settle_parts tail tcoef.entries t tcoef_parts)
  pub intra_words : T (spelt t intra_words_at 25 mcbpc_intra.entries)
  pub inter_words : T (spelt t inter_words_at 25 mcbpc_inter.entries)
  pub pattern_words : T (spelt t cbpy_words_at 16 cbpy.entries)
  pub difference_words : T (spelt t mvd_words_at 64 mvd.entries)
  pub event_words : T (spelt t event_words_at 2048 tcoef.entries)
