-- `coding::tr_of` meets its contract: the head's first byte, which no empty head has. Assumes nothing.
use mathlib.Core.Path.{◌≡◌, refl, sym, ◌∙◌}
use native.Mathlib.Omega.{arith}
use lib.ListN.{get_or-eq_default}
use Rattle.layout.specs.Flat.{Flat, flat}
use Rattle.coding.specs.declared.Kind.{Kind}
use Rattle.coding.specs.declared.Kind.TheVariants.{H261, H263}
use Rattle.coding.specs.H261.{tr_of}
use Rattle.coding.specs.Kind.{coding_of}
use Rattle.coding.proofs.tr_of.Goals as goal

first : (k : Kind) (d : Flat) → tr_of d ≡ (coding_of k).tr d
unfolding coding_of
first (H261 f) d = refl
first (H263 size) d = refl

pub returns-then-head-eq0 : goal.returns-then-head-eq0
returns-then-head-eq0 c =
    sym (get_or-eq_default c.args.head.now 0 (omega arith)) ∙ first c.args.kind (flat c.args.head.now c.args.macroblocks.now c.args.levels.now)

pub returns : goal.returns
returns c =
    first c.args.kind (flat c.args.head.now c.args.macroblocks.now c.args.levels.now)
