-- What the codewords of Tables 2 and 5 mean, and the codeword of a coefficient. Assumes nothing.
use Rattle.std.specs.Prelude.{ℕ, ◌/◌, ◌%◌, Bool, List, [], ◌∷◌, ◌++◌, ltb, eqb}
use Rattle.laws.specs.Choice.{pick, both, one_of}
use Rattle.refusals.specs.declared.Reason.TheVariants.{Forbidden}
use Rattle.bits.specs.Bits.{Bit, bits_of}
use Rattle.bits.specs.Places.{Places}
use Rattle.bits.specs.Read.{ReaderIn, ◌>>=◌, done, field, whole, Judged, fine, against, judged_read}
use Rattle.bits.specs.Code.{CodeTable, word, word_of, has}
use Rattle.layout.specs.Value.{Coefficient, coefficient}
use Rattle.layout.specs.Numbers.{forbidden, signed_code, code_sign, code_size}
use Rattle.h261_words.specs.Tables.{pair, end_of_block, escape}

-- ---- Table 2: 1, 2 are Intra; 3, 4 Inter; 5, 6, 7 Inter+MC; 8, 9, 10 Inter+MC+FIL
abbrev pub is_intra : ℕ → Bool
is_intra type = one_of (1 ∷ 2 ∷ []) type

-- "Every MC type has MVD."
abbrev pub is_mc : ℕ → Bool
is_mc type = one_of (5 ∷ 6 ∷ 7 ∷ 8 ∷ 9 ∷ 10 ∷ []) type

abbrev pub is_filtered : ℕ → Bool
is_filtered type = one_of (8 ∷ 9 ∷ 10 ∷ []) type

abbrev pub has_mquant : ℕ → Bool
has_mquant type = one_of (2 ∷ 4 ∷ 7 ∷ 10 ∷ []) type

abbrev pub has_cbp : ℕ → Bool
has_cbp type = one_of (3 ∷ 4 ∷ 6 ∷ 7 ∷ 9 ∷ 10 ∷ []) type

-- ---- Table 5
-- a codeword of Table 5: a coefficient, or EOB
pub data Event : Type 0 where
  sent : Coefficient → Event
  over : Event

-- "Escape is 000001, run 6, level 8 (signed)."
abbrev pub escaped : {P : Places} → ReaderIn P Event
escaped = do
  run ← field 6
  code ← field 8
  done (sent (coefficient run code))

-- "The last bit "s" denotes the sign of the level, "0" for positive and "1" for negative" (H.261)
abbrev pub paired : {P : Places} → ℕ → ReaderIn P Event
paired m = do
  s ← field 1
  done (sent (coefficient (m / 16) (signed_code s (m % 16))))

-- "An escape is one codeword of 20 bits.", and so is a pair with its sign
unfoldable pub tcoeff : {P : Places} → CodeTable → ReaderIn P Event
tcoeff table = whole (word table >>= λ m. pick (eqb m end_of_block) (done over) (pick (eqb m escape) escaped (paired m)))

-- refusal 10
abbrev pub allowed : Event → Judged Event
allowed (sent c) = pick (forbidden c.code) (against Forbidden) (fine (sent c))
allowed over = fine over

-- a codeword of Table 5 with an allowed level
unfoldable pub coefficient_read : {P : Places} → CodeTable → ReaderIn P Event
coefficient_read table = judged_read (tcoeff table) allowed

-- ---- and back: "a table code wherever Table 5 has one"
unfoldable pub tcoeff_of : CodeTable → Coefficient → List Bit
tcoeff_of table c =
    pick (both (ltb (code_size c.code) 16) (has table (pair c.run (code_size c.code))))
    (word_of table (pair c.run (code_size c.code)) ++ bits_of 1 (code_sign c.code))
    (word_of table escape ++ (bits_of 6 c.run ++ bits_of 8 c.code))
