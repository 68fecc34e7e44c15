-- The table of macroblock addresses, "a constant table of 2,048 entries, indexed by the next eleven bits" (document 02, T-03): what an entry says, and
-- that all of them agree with Table 1. Assumes nothing.
use Rattle.std.specs.Prelude.{◌≡◌, Bool, true, false, List, [], ◌∷◌, ℕ, ◌+◌, ◌/◌, ◌%◌, ◌<◌, T, eqb, length, get_or}
use Rattle.laws.specs.Choice.{pick, both, either}
use Rattle.laws.specs.Lists.{alike}
use Rattle.bits.specs.Bits.{Bit, bits_of}
use Rattle.bits.specs.Code.{Entry, entry, starts, word_of}
use Rattle.bits.specs.Entries.{entries_at}
use Rattle.h261_words.specs.Tables.{start_code, table1}
use Rattle.h261_words.specs.Lookup.{mba_entries_at, Tables}

pub data Said : Type 0 where
  -- a codeword begins the bits: its meaning, and its length
  codeword : ℕ → ℕ → Said
  -- "no codeword stands there"
  no_codeword : Said
  -- "only the start code can follow"
  only_start_code : Said

unfoldable pub said_by : ℕ → Said
said_by e = pick (eqb e 0) no_codeword (pick (eqb e 32) only_start_code (codeword (e / 32) (e % 32)))

-- the meanings of the table's codewords that fit the bits: that begin them, or begin with them
unfoldable pub fitting : List Entry → List Bit → List ℕ
fitting [] bs = []
fitting (entry w m ∷ table) bs = pick (either (starts w bs) (starts bs w)) (m ∷ fitting table bs) (fitting table bs)

-- what is said of some bits is what Table 1 has: one codeword alone fits them, and begins them; none does; or the start code alone does
unfoldable pub agrees_with_table1 : List Bit → Said → Bool
agrees_with_table1 bs (codeword m k) = both (alike (fitting table1.entries bs) (m ∷ [])) (both (starts (word_of table1 m) bs) (eqb (length (word_of table1 m)) k))
agrees_with_table1 bs no_codeword = alike (fitting table1.entries bs) []
agrees_with_table1 bs only_start_code = alike (fitting table1.entries bs) (start_code ∷ [])

-- ---- how many say what
abbrev pub is_codeword : Said → Bool
is_codeword (codeword m k) = true
is_codeword no_codeword = false
is_codeword only_start_code = false

abbrev pub is_no_codeword : Said → Bool
is_no_codeword (codeword m k) = false
is_no_codeword no_codeword = true
is_no_codeword only_start_code = false

abbrev pub is_only_start_code : Said → Bool
is_only_start_code (codeword m k) = false
is_only_start_code no_codeword = false
is_only_start_code only_start_code = true

unfoldable pub saying : (Said → Bool) → List ℕ → ℕ
saying p [] = 0
saying p (e ∷ es) = pick (p (said_by e)) 1 0 + saying p es

-- ---- "Shown once for all entries: each agrees with Table 1, or says that no codeword stands there. The entry for eleven zeros says that only the
-- start code can follow."
pub record AddressEntries (t : List ℕ) : Type 0 where
  pub each : (i : ℕ) → i < 2048 → T (agrees_with_table1 (bits_of 11 i) (said_by (get_or t (mba_entries_at + i) 0)))
  pub zeros : said_by (get_or t (mba_entries_at + 0) 0) ≡ only_start_code
  pub codewords : saying is_codeword (entries_at t mba_entries_at 11) ≡ 2025
  pub nones : saying is_no_codeword (entries_at t mba_entries_at 11) ≡ 22
  pub start_codes : saying is_only_start_code (entries_at t mba_entries_at 11) ≡ 1

-- of every array that tells the tables right, as the one does that `h261_words::tables` makes
abbrev pub AddressEntriesAgree : Type 0
AddressEntriesAgree = (t : List ℕ) → Tables t → AddressEntries t
