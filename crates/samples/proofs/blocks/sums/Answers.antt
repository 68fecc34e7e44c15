-- `samples::blocks::sums` meets its contract: each sum is a sample's, by `quantiser::sample`. Assumes nothing.
use mathlib.Core.Path.{◌≡◌, refl, sym, subst, ◌∙◌}
use Prim.Native.Nat.{ℕ, ◌+◌, ◌≤◌}
use native.Mathlib.Omega.{arith}
use lib.ListN.{get_or}
use mir.Val.{to_z}
use mir.Facts.{to_z_pos}
use borrow.Author.Rules.{rules}
use lib.IntN.{pos}
use mir.Syntax.{w32}
use Rattle.laws.proofs.Integer.{back, low_fits}
use Rattle.laws.proofs.Rows.{begins_none, begins_more}
use Rattle.quantiser.proofs.Lines.{starts_line, back16}
use Rattle.quantiser.specs.Sample.{Sample, sample_of}
use Rattle.quantiser.proofs.SampleLaws.{byte_sample, sample_low}
use Rattle.samples.proofs.blocks.sums.Goals as goal

cast_is : (n : ℕ) → n ≤ 255 → to_z w32 n ≡ pos n
cast_is n l = to_z_pos w32 (omega arith)

cast_sampled : (n : ℕ) → n ≤ 255 → Sample (to_z w32 n)
cast_sampled n l = subst Sample (sym (cast_is n l)) (byte_sample n l)

pub loop-j-init : goal.loop-j-init
loop-j-init c = (search rules, begins_none refl)

pub overflow_cast-samples : goal.overflow_cast-samples
overflow_cast-samples c =
    low_fits {m = 255} tt (sample_low (byte_sample _ (omega (arith, c.type_inv.samples (c.args.at + c.loop-j.j)))))

pub sample-requires : goal.sample-requires
sample-requires c =
    let l = c.loop-j in
    let small = c.requires.small c.args.i l.j in
    (cast_sampled (get_or c.args.samples.now (c.args.at + l.j) 0) (omega (arith, c.type_inv.samples (c.args.at + l.j))), rw (back w32 tt small) small)

pub loop-j-preserved : goal.loop-j-preserved
loop-j-preserved c =
    let l = c.loop-j in (
      search rules,
      begins_more l.invariant.1 (search rules) (back16 c.sample.result c.sample.type_inv ∙ c.sample.ensures
          ∙ (λ z. pos (sample_of (cast_is (get_or c.args.samples.now (c.args.at + l.j) 0) (omega (arith, c.type_inv.samples (c.args.at + l.j))) z) (back w32 tt (c.requires.small c.args.i l.j) z)))),
    )

pub returns : goal.returns
returns c = starts_line c.loop-j.invariant.1 (search rules)
