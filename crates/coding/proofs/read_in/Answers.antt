-- `coding::read_in` meets its contract: what was parsed is copied on acceptance alone. Assumes nothing.
use native.Mathlib.Omega.{arith}
use Rattle.layout.specs.Flat.{flat}
use Rattle.levels.proofs.Buffers.{zeros_lengths}
use Rattle.coding.specs.Kind.{shape_of, coding_of}
use Rattle.coding.proofs.ReadSteps.{accepted_buffers, refused_buffers}
use Rattle.coding.proofs.read_in.Goals as goal

pub copy_from_slice-requires : goal.copy_from_slice-requires
copy_from_slice-requires c =
    omega (arith, c.parse_counted-read.auto.head, (zeros_lengths (shape_of c.args.kind) c.requires.0).head_length, c.requires.1.head_length)

pub copy_from_slice-requires-in-Ok : goal.copy_from_slice-requires-in-Ok
copy_from_slice-requires-in-Ok c =
    omega (arith, c.parse_counted-read.auto.macroblocks, (zeros_lengths (shape_of c.args.kind) c.requires.0).macroblocks_length, c.requires.1.macroblocks_length)

pub copy_from_slice-requires-in-Ok-2 : goal.copy_from_slice-requires-in-Ok-2
copy_from_slice-requires-in-Ok-2 c =
    omega (arith, c.parse_counted-read.auto.levels, (zeros_lengths (shape_of c.args.kind) c.requires.0).levels_length, c.requires.1.levels_length)

pub returns-in-Err : goal.returns-in-Err
returns-in-Err c = record {
  verdict = c.parse_counted-read.ensures.verdict;
  buffers =
      refused_buffers c.parse_counted-read.result.verdict ((coding_of c.args.kind).read c.args.bytes.now c.args.count) c.parse_counted-read.ensures.verdict
      c.in-Err.is (flat c.args.head.now c.args.macroblocks.now c.args.levels.now);
  reads = c.parse_counted-read.ensures.reads;
}

pub returns-in-Ok : goal.returns-in-Ok
returns-in-Ok c = record {
  verdict = c.parse_counted-read.ensures.verdict;
  buffers =
      accepted_buffers c.parse_counted-read.result.verdict ((coding_of c.args.kind).read c.args.bytes.now c.args.count) c.parse_counted-read.ensures.verdict
      c.in-Ok.is
      (flat c.args.header.now c.args.fields.now c.args.coefficients.now) c.parse_counted-read.ensures.buffers
      (flat c.args.head.now c.args.macroblocks.now c.args.levels.now)
      c.copy_from_slice.ensures.after c.copy_from_slice-in-Ok.ensures.after c.copy_from_slice-in-Ok-2.ensures.after;
  reads = c.parse_counted-read.ensures.reads;
}
