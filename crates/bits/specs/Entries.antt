-- A table of entries by bits: for each number of some bits, the codeword that begins them. What an entry says, the entries of a table of codewords,
-- and which entry is read. Assumes nothing.
use Rattle.std.specs.Prelude.{Bool, List, [], ◌∷◌, ℕ, zero, suc, ◌+◌, ◌-◌, ◌*◌, ◌^◌, ◌≤◌, eqb, ltb, length, get_or, take, drop}
use Rattle.laws.specs.Choice.{pick}
use Rattle.laws.specs.Lists.{alike}
use Rattle.refusals.specs.declared.Reason.TheVariants.{NoCodeword}
use Rattle.refusals.specs.declared.Table.{Table}
use Rattle.bits.specs.Bits.{Bit, bits_of, value}
use Rattle.bits.specs.Read.{Read, bad}
use Rattle.bits.specs.Code.{Entry}
use Rattle.bits.specs.Tree.{walk_of}
use Rattle.bits.specs.Windows.{Decided, undecided, dead, ended, decide}

-- 32 times a codeword's meaning, and its length. Without a length there is no codeword: 0 where none begins so, 32 where a longer one may
abbrev pub entry_of : Decided → ℕ
entry_of undecided = 32
entry_of (dead k) = 0
entry_of (ended k m) = m * 32 + k

-- the entries for n numbers of `width` bits, from i on
unfoldable pub entries_from : ℕ → List Entry → ℕ → ℕ → List ℕ
entries_from width table i zero = []
entries_from width table i (suc n) = entry_of (decide table (bits_of width i) 0) ∷ entries_from width table (suc i) n

-- those for all of them
abbrev pub entries_of : ℕ → List Entry → List ℕ
entries_of width table = entries_from width table 0 (2 ^ width)

-- as many numbers of t, from a place on
abbrev pub entries_at : List ℕ → ℕ → ℕ → List ℕ
entries_at t from width = take (2 ^ width) (drop from t)

-- the entries that stand there are right for the table
abbrev pub entries_right : List ℕ → ℕ → ℕ → List Entry → Bool
entries_right t from width table = alike (entries_at t from width) (entries_of width table)

-- ---- a read
-- the entries stand in t, and a window has their bits
pub record EntryAsked (t : List ℕ) (from width n at : ℕ) : Type 0 where
  pub room : from + 2 ^ width ≤ length t
  pub short : width ≤ 24
  pub inside : at ≤ n

-- of n bits in the bytes s: the entry for those from `at`, or that which decides nothing where fewer are left
abbrev pub entry_read : List ℕ → ℕ → ℕ → List ℕ → ℕ → ℕ → ℕ
entry_read t from width s n at = pick (ltb (n - at) width) 32 (get_or t (from + value s at width) 0)

-- where the entry e has no length, the tree decides unless no codeword begins so
abbrev pub without_entry : Table → List ℕ → ℕ → ℕ → List Bit → ℕ → Read ℕ
without_entry name t root e bs at = pick (eqb e 0) (bad (NoCodeword name) at) (walk_of name 16 t root bs at at)
