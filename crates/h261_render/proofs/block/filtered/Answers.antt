-- `h261_render::block::filtered` meets its contract: a fetched block is one of samples, and the filter of the block is that of the reference's rows. Assumes nothing.
use mathlib.Core.Path.{subst}
use Prim.Native.Nat.{◌+◌, ◌*◌}
use native.Mathlib.Omega.{arith}
use mathlib.Core.List.{List}
use lib.IntN.{ℤ, pos}
use Rattle.laws.specs.Block.{Is}
use Rattle.laws.proofs.Tabulate.{is_made}
use Rattle.h261_filter.specs.Filter.{filter_at}
use Rattle.h261_filter.proofs.FilterLaws.{filter_samples}
use Rattle.quantiser.proofs.SampleLaws.{byte_sample}
use Rattle.samples.proofs.Bounds.{samples_of}
use Rattle.h261_render.proofs.block.filtered.Goals as goal

pub filter-requires : goal.filter-requires
filter-requires c =
    samples_of c.fetch.ensures (λ i j. byte_sample _ (omega (arith, c.type_inv.reference (c.args.from + i * c.args.stride + j))))

pub returns : goal.returns
returns c =
    record {
      is = subst (λ (b : List (List ℤ)). Is (pos 0) (filter_at b) c.filter.result) (is_made c.fetch.ensures) c.filter.ensures;
      samples = filter_samples c.fetch.result (samples_of c.fetch.ensures (λ k m. byte_sample _ (omega (
        arith,
        c.type_inv.reference
            (c.args.from + k *
            c.args.stride +
            m),
      ))))
          c.filter.ensures;
    }
