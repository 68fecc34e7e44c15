-- A frame of 64 bytes: the framing bit, then a word of 511 bits. What mending it leaves, and the tables that it is mended by. Assumes nothing.
use Rattle.std.specs.Prelude.{◌≡◌, List, [], ◌∷◌, ◌++◌, ℕ, ◌*◌, ◌<◌, length, get_or}
use Rattle.laws.specs.Row.{row}
use Rattle.bits.specs.Bits.{Bit, bit_at, bits_from}
use Rattle.bch.specs.Division.{Divisor, raised}
use Rattle.bch.specs.Word.{changes}
use Rattle.bch.specs.Code.{generator, Outcome, mended, unmended, corrected}
use Rattle.bch.specs.Locate.{first_logs, second_logs, gaps, starts}
use Rattle.bch.specs.declared.Mending.{Mending}
use Rattle.bch.specs.declared.Mending.TheVariants.{Mended, Unmended}
use Rattle.bch.specs.declared.Places.{Places}
use Rattle.bch.specs.declared.Places.TheVariants.{Nowhere, One, Two}

-- the 511 bits after the framing bit
abbrev pub word : List ℕ → List Bit
word s = bits_from s 1 511

-- ---- what is looked up
-- what the register's eight high bits, h, are worth once a byte follows
unfoldable pub byte_steps : List ℕ
byte_steps = row 256 (λ h. raised generator 8 (h * 1024))

-- four tables of 512 entries, one after the other
unfoldable pub log_tables : List ℕ
log_tables = first_logs ++ (second_logs ++ (gaps ++ starts))

-- x ^ 9 and rest
abbrev pub factor : ℕ → Divisor
factor rest = record { top = 8; rest = rest }

-- ---- wrong bits
abbrev pub as_places : Places → List ℕ
as_places Nowhere = []
as_places (One n) = n ∷ []
as_places (Two m n) = m ∷ n ∷ []

-- the frame t is s with its word changed in these places
pub record Changed (ns : List ℕ) (s t : List ℕ) : Type 0 where
  pub framing : bit_at t 0 ≡ bit_at s 0
  pub changed : word t ≡ changes ns (word s)

-- ---- a frame mended
abbrev pub outcome_of : Mending → List Bit → Outcome
outcome_of Mended w = mended w
outcome_of Unmended w = unmended

-- the frame s has become t: its word is mended, or nothing of it is touched
pub record Mend (s : List ℕ) (v : Mending) (t : List ℕ) : Type 0 where
  pub outcome : outcome_of v (word t) ≡ corrected (word s)
  pub framing : bit_at t 0 ≡ bit_at s 0
  pub untouched : v ≡ Unmended → t ≡ s

-- 64 bytes
pub record Frame (t : List ℕ) : Type 0 where
  pub size : length t ≡ 64
  pub bytes : (i : ℕ) → get_or t i 0 < 256

-- that leaves one verdict and one frame
abbrev pub MendOnce : Type 0
MendOnce = (s : List ℕ) (v v' : Mending) (t t' : List ℕ) → Frame t → Frame t' → Mend s v t → Mend s v' t' → (v ≡ v') × (t ≡ t')
