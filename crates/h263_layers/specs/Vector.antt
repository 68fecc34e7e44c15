-- Reading MVD: of a word's two differences, 64 apart, the one that leads from the predictor to -32..31. Assumes nothing.
use Rattle.std.specs.Prelude.{ℕ, ltb, ℤ, pos, ◌+ℤ◌, ◌-ℤ◌}
use Rattle.laws.specs.Choice.{pick}
use Rattle.refusals.specs.declared.Reason.TheVariants.{VectorOut}
use Rattle.bits.specs.Places.{Places}
use Rattle.bits.specs.Read.{ReaderIn, done, Judged, fine, against, judged_read, ◌>>=◌}
use Rattle.bits.specs.Code.{word}
use Rattle.h263_words.specs.Tables.{mvd}
use Rattle.size.specs.declared.Size.{Size}
use Rattle.layout.specs.Value.{Vector}
use Rattle.h263_description.specs.Vector.{in_range, in_picture}

-- ---- Table 11: "each but 0 stands for itself and the number 64 away"
pub record Pair : Type 0 where
  pub printed : ℤ
  pub other : ℤ

abbrev pub partner : ℕ → ℤ → ℤ
partner n d = pick (ltb n 32) (d +ℤ pos 64) (pick (ltb 32 n) (d -ℤ pos 64) d)

abbrev pub pair_of : ℕ → Pair
pair_of n = record { printed = pos n -ℤ pos 32; other = partner n (pos n -ℤ pos 32) }

-- ---- one component. "exactly one lands: the range never refuses"
abbrev pub landing : ℤ → ℤ → Judged ℤ
landing a b = pick (in_range a) (fine a) (pick (in_range b) (fine b) (against VectorOut))

abbrev pub component : ℤ → Pair → Judged ℤ
component predicted pair = landing (predicted +ℤ pair.printed) (predicted +ℤ pair.other)

unfoldable pub component_read : {P : Places} → ℤ → ReaderIn P ℤ
component_read predicted = judged_read (word mvd) (λ n. component predicted (pair_of n))

-- ---- both: horizontal, then vertical
unfoldable pub components_read : {P : Places} → Vector → ReaderIn P Vector
components_read predicted = do
  h ← component_read predicted.horizontal
  v ← component_read predicted.vertical
  done (record { horizontal = h; vertical = v })

-- refusal 12: "12 is given for vectors out of the picture alone, at the horizontal word, after both words are read"
abbrev pub pointing : Size → ℕ → ℕ → Vector → Judged Vector
pointing size number address v = pick (in_picture size number address v) (fine v) (against VectorOut)

unfoldable pub vector_read : {P : Places} → Size → ℕ → ℕ → Vector → ReaderIn P Vector
vector_read size number address predicted = judged_read (components_read predicted) (pointing size number address)
