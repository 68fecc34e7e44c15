-- Where a refusal of H.263's own stands among the reads of a picture (document 02, T-13). Any other stands as bits has it. Assumes nothing.
use Rattle.std.specs.Prelude.{ℕ, ◌≤◌, ◌≡◌, List, [], ◌∷◌}
use Rattle.refusals.specs.declared.Reason.TheVariants.{AfterLast, OptionalMode}
use Rattle.refusals.specs.declared.Refusal.{Refusal}
use Rattle.bits.specs.Places.{total_width}

-- 14 at a PTYPE bit: PTYPE, which begins at 30, is the third read and the last, and the bit is one of its last four
pub record InPtype (r : Refusal) (widths : List ℕ) : Type 0 where
  pub reason : r.reason ≡ OptionalMode
  pub all : widths ≡ 22 ∷ 8 ∷ 13 ∷ []
  pub first : 39 ≤ r.place
  pub last : r.place ≤ 42

-- 13, "bits left there": no bit of them is read, and all reads are before it
pub record PastReads (r : Refusal) (widths : List ℕ) : Type 0 where
  pub reason : r.reason ≡ AfterLast
  pub placed : total_width widths ≡ r.place
