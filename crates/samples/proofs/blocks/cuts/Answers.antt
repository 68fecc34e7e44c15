-- `samples::blocks::cuts` meets its contract: each number is cut to a sample, by `quantiser::sample`. Assumes nothing.
use mathlib.Core.Path.{refl, ◌∙◌}
use native.Mathlib.Omega.{arith}
use borrow.Author.Rules.{rules}
use lib.IntN.{pos}
use mir.Syntax.{w32}
use Rattle.laws.proofs.Integer.{back}
use Rattle.laws.proofs.Rows.{begins_none, begins_more}
use Rattle.quantiser.proofs.Lines.{starts_line, back16}
use Rattle.quantiser.specs.Sample.{sample_of}
use Rattle.quantiser.proofs.SampleLaws.{byte_sample}
use Rattle.samples.proofs.blocks.cuts.Goals as goal

pub loop-j-init : goal.loop-j-init
loop-j-init c = (search rules, begins_none refl)

pub sample-requires : goal.sample-requires
sample-requires c =
    let small = c.requires.0 c.args.i c.loop-j.j in
    (byte_sample 0 (omega arith), rw (back w32 tt small) small)

pub loop-j-preserved : goal.loop-j-preserved
loop-j-preserved c =
    let l = c.loop-j in (
      search rules,
      begins_more l.invariant.1 (search rules) (back16 c.sample.result c.sample.type_inv ∙ c.sample.ensures
          ∙ (λ z. pos (sample_of (pos 0) (back w32 tt (c.requires.0 c.args.i l.j) z)))),
    )

pub returns : goal.returns
returns c = starts_line c.loop-j.invariant.1 (search rules)
