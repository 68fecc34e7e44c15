-- `test_leaves::blocks::byte` meets its contract: what is cut to 0..255 fits a byte. Assumes nothing.
use mathlib.Core.Path.{◌≡◌, ◌∙◌, ap}
use lib.IntN.{ℤ, pos}
use mir.Syntax.{w32}
use mir.Val.{to_z, of_z}
use mir.Facts.{to_z-of_z, Fits-below}
use Rattle.quantiser.specs.Cut.{cut}
use Rattle.quantiser.proofs.SampleLaws.{cut_sample, sample_not_negative, sample_size}
use borrow.Author.Rules.{rules}
use Rattle.test_leaves.proofs.blocks.byte.Goals as goal
use Rattle.test_leaves.proofs.blocks.byte.Goals.{After-cut}

result_is : (c : After-cut) → to_z w32 (of_z w32 c.cut.result) ≡ cut (pos 0) (pos 255) c.args.z
result_is c =
    let h : to_z w32 (of_z w32 c.cut.result) ≡ c.cut.result = search rules in
    h ∙ c.cut.ensures ∙ ap (λ (z : ℤ). cut (pos 0) (pos 255) z) (to_z-of_z c.ranges.z)

pub overflow_cast-result : goal.overflow_cast-result
overflow_cast-result c =
    let s = cut_sample c.args.z in
    rw (result_is c) (sample_not_negative s, Fits-below {n = 255} tt (sample_size s))
