-- Reading MVD: document 01, "The vector is the preceding one plus the difference of the pair (Table 3) that lands in -15..15." Assumes nothing.
use Rattle.std.specs.Prelude.{ℕ, ltb, ℤ, pos, ◌+ℤ◌, ◌-ℤ◌}
use Rattle.laws.specs.Choice.{pick}
use Rattle.refusals.specs.declared.Reason.TheVariants.{VectorOut}
use Rattle.bits.specs.Places.{Places}
use Rattle.bits.specs.Read.{ReaderIn, done, Judged, fine, against, judged_read, ◌>>=◌}
use Rattle.bits.specs.Code.{word}
use Rattle.h261_words.specs.Tables.{table3}
use Rattle.h261_groups.specs.declared.Format.{Format}
use Rattle.layout.specs.Value.{Vector}
use Rattle.h261_description.specs.Vector.{in_range, in_picture}

-- ---- Table 3: what a codeword says, "-16 & 16" to "15 & -17"; -1, 0 and 1 stand alone
pub record Pair : Type 0 where
  pub printed : ℤ
  pub other : ℤ

abbrev pub partner : ℕ → ℤ → ℤ
partner n d = pick (ltb n 15) (d +ℤ pos 32) (pick (ltb 17 n) (d -ℤ pos 32) d)

abbrev pub pair_of : ℕ → Pair
pair_of n = record { printed = pos n -ℤ pos 16; other = partner n (pos n -ℤ pos 16) }

-- ---- one component; refusal 12: "vector out of -15..15"
abbrev pub landing : ℤ → ℤ → Judged ℤ
landing a b = pick (in_range a) (fine a) (pick (in_range b) (fine b) (against VectorOut))

abbrev pub component : ℤ → Pair → Judged ℤ
component preceding pair = landing (preceding +ℤ pair.printed) (preceding +ℤ pair.other)

unfoldable pub component_read : {P : Places} → ℤ → ReaderIn P ℤ
component_read preceding = judged_read (word table3) (λ n. component preceding (pair_of n))

-- ---- both: horizontal, then vertical
unfoldable pub components_read : {P : Places} → Vector → ReaderIn P Vector
components_read preceding = do
  h ← component_read preceding.horizontal
  v ← component_read preceding.vertical
  done (record { horizontal = h; vertical = v })

-- refusal 12: "or out of the picture"; "this is judged once both components are read and in range". Its place, as any rule's, is where MVD began: the horizontal component
abbrev pub pointing : Format → ℕ → ℕ → Vector → Judged Vector
pointing f group address v = pick (in_picture f group address v) (fine v) (against VectorOut)

unfoldable pub vector_read : {P : Places} → Format → ℕ → ℕ → Vector → ReaderIn P Vector
vector_read f group address preceding = judged_read (components_read preceding) (pointing f group address)
