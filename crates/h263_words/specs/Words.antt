-- What the codewords of MCBPC, CBPY and TCOEF and the field DQUANT mean, and the codeword of a coefficient. Assumes nothing.
use Rattle.std.specs.Prelude.{ℕ, ◌+◌, ◌-◌, ◌/◌, ◌%◌, Bool, true, false, List, [], ◌∷◌, ◌++◌, ltb, eqb, get_or}
use Rattle.laws.specs.Choice.{pick, both, one_of}
use Rattle.refusals.specs.declared.Reason.TheVariants.{Forbidden}
use Rattle.bits.specs.Bits.{Bit, bits_of}
use Rattle.bits.specs.Places.{Places}
use Rattle.bits.specs.Read.{ReaderIn, ◌>>=◌, done, field, whole, Judged, fine, against, judged_read}
use Rattle.bits.specs.Code.{word, word_of, has}
use Rattle.layout.specs.Value.{Coefficient, coefficient}
use Rattle.layout.specs.Numbers.{forbidden, signed_code, code_sign, code_size}
use Rattle.h263_words.specs.Tables.{event, escape, tcoef}

-- ---- types: 1 INTRA, 2 INTRA+Q, 3 INTER, 4 INTER+Q; 0 is unsent (COD 1)
abbrev pub is_intra : ℕ → Bool
is_intra type = one_of (1 ∷ 2 ∷ []) type

-- an INTER macroblock has MVD
abbrev pub is_inter : ℕ → Bool
is_inter type = one_of (3 ∷ 4 ∷ []) type

abbrev pub has_dquant : ℕ → Bool
has_dquant type = one_of (2 ∷ 4 ∷ []) type

-- ---- MCBPC: the type of a word, and its CBPC
abbrev pub type_in : ℕ → ℕ
type_in kind = kind / 4

abbrev pub chroma_in : ℕ → ℕ
chroma_in kind = kind % 4

-- an INTER4V word
abbrev pub is_four : ℕ → Bool
is_four kind = eqb (type_in kind) 5

-- ---- CBPY: "in an INTER macroblock the word of the pattern with its four bits turned"
abbrev pub turned : Bool → ℕ → ℕ
turned true pattern = pattern
turned false pattern = 15 - pattern

-- ---- "DQUANT, a field of 2 bits: 00 is -1, 01 is -2, 10 is 1, 11 is 2", in a byte of two's complement
abbrev pub dquants : List ℕ
dquants = 255 ∷ 254 ∷ 1 ∷ 2 ∷ []

abbrev pub dquant_in : ℕ → ℕ
dquant_in field = get_or dquants field 0

abbrev pub is_dquant : ℕ → Bool
is_dquant byte = one_of dquants byte

-- and back
abbrev pub dquant_field : ℕ → ℕ
dquant_field byte = pick (eqb byte 255) 0 (pick (eqb byte 254) 1 (byte + 1))

-- ---- TCOEF
-- an event: a coefficient, and whether it is its block's last, 1 or 0
pub record Event : Type 0 where
  pub last : ℕ
  pub sent : Coefficient

abbrev pub event_of : ℕ → ℕ → ℕ → Event
event_of last run code = record { last = last; sent = coefficient run code }

-- "ESCAPE 0000011, then LAST 1 bit, RUN 6, LEVEL 8"
abbrev pub escaped : {P : Places} → ReaderIn P Event
escaped = do
  last ← field 1
  run ← field 6
  code ← field 8
  done (event_of last run code)

-- "the sign bit (1 is negative) that ends each word"
abbrev pub tabled : {P : Places} → ℕ → ReaderIn P Event
tabled m = do
  s ← field 1
  done (event_of (m / 1024) (m / 16 % 64) (signed_code s (m % 16)))

-- an escape is "one codeword of 22 bits", and "A table word's sign bit belongs to it."
unfoldable pub tcoef_read : {P : Places} → ReaderIn P Event
tcoef_read = whole (word tcoef >>= λ m. pick (eqb m escape) escaped (tabled m))

-- refusal 10: "levels 0 and -128 are 10"
abbrev pub allowed : Event → Judged Event
allowed e = pick (forbidden e.sent.code) (against Forbidden) (fine e)

-- a codeword of TCOEF with an allowed level
unfoldable pub event_read : {P : Places} → ReaderIn P Event
event_read = judged_read tcoef_read allowed

-- ---- and back: "a table code wherever" the table has one
unfoldable pub tcoef_of : ℕ → Coefficient → List Bit
tcoef_of last c =
    pick (both (ltb (code_size c.code) 16) (has tcoef (event last c.run (code_size c.code))))
    (word_of tcoef (event last c.run (code_size c.code)) ++ bits_of 1 (code_sign c.code))
    (word_of tcoef escape ++ (bits_of 1 last ++ (bits_of 6 c.run ++ bits_of 8 c.code)))
