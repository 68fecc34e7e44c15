-- `coding::read` meets its contract: by the lengths, then by the size, whose scratch has room for the kind. Assumes nothing.
use borrow.Author.Rules.{rules}
use borrow.Author.Tests.{not-true, not-false}
use mathlib.Core.Path.{ap}
use native.Mathlib.Omega.{arith}
use Rattle.size.specs.Size.{limit}
use Rattle.layout.specs.Flat.{Flat, flat}
use Rattle.layout.specs.Valid.{Lengths}
use Rattle.coding.specs.Kind.{shape_of}
use Rattle.coding.proofs.Scratch.{room_small, room_large}
use Rattle.coding.proofs.ReadSteps.{unfit, lengths_are, fit}
use Rattle.coding.proofs.read.Goals as goal
use Rattle.coding.proofs.read.Goals.{After-slice_known-in-Cif-3-1, After-slice_known-in-Qcif-3-1, After-slice_known-in-SubQcif-3-1, Else-not-has_lengths, Then-not-has_lengths}

abbrev buffers : (s : Then-not-has_lengths) → Flat
buffers s = flat s.args.head.now s.args.macroblocks.now s.args.levels.now

abbrev buffers-at2 : (s : Else-not-has_lengths) → Flat
buffers-at2 s = flat s.args.head.now s.args.macroblocks.now s.args.levels.now

lengths : (e : Else-not-has_lengths) → Lengths (shape_of e.args.kind) (buffers-at2 e)
lengths e = lengths_are e.args.kind e.args.bytes.now e.args.count (buffers-at2 e) e.has_lengths.ensures (not-false _ e.if-not-has_lengths.false-raw)

abbrev buffers-at3 : (s : After-slice_known-in-SubQcif-3-1) → Flat
buffers-at3 s = flat s.args.head.now s.args.macroblocks.now s.args.levels.now

abbrev buffers-at4 : (s : After-slice_known-in-Qcif-3-1) → Flat
buffers-at4 s = flat s.args.head.now s.args.macroblocks.now s.args.levels.now

abbrev buffers-at5 : (s : After-slice_known-in-Cif-3-1) → Flat
buffers-at5 s = flat s.args.head.now s.args.macroblocks.now s.args.levels.now

pub returns-then-not-has_lengths : goal.returns-then-not-has_lengths
returns-then-not-has_lengths c =
    let all = unfit c.args.kind c.args.bytes.now c.args.count (buffers c) c.has_lengths.ensures (not-true _ c.if-not-has_lengths.true-raw) in
    record { verdict = all.0; buffers = all.1.0; reads = all.1.1 }

pub read_with-requires : goal.read_with-requires
read_with-requires c =
    record { room = room_small c.args.kind c.size_of-size.ensures (omega (arith, ap limit c.in-SubQcif.is)); lengths = lengths (goal.at.read_with-requires c).Else-not-has_lengths; sizes = search rules }

pub read_with-requires-in-Qcif : goal.read_with-requires-in-Qcif
read_with-requires-in-Qcif c =
    record { room = room_small c.args.kind c.size_of-size.ensures (omega (arith, ap limit c.in-Qcif.is)); lengths = lengths (goal.at.read_with-requires-in-Qcif c).Else-not-has_lengths; sizes = search rules }

pub read_with-requires-in-Cif : goal.read_with-requires-in-Cif
read_with-requires-in-Cif c = record { room = room_large c.args.kind; lengths = lengths (goal.at.read_with-requires-in-Cif c).Else-not-has_lengths; sizes = search rules }

pub returns-in-SubQcif : goal.returns-in-SubQcif
returns-in-SubQcif c =
    let call = c.read_with in
    let all = fit c.args.kind c.args.bytes.now c.args.count (buffers-at3 c) c.has_lengths.ensures (not-false _ c.if-not-has_lengths.false-raw) call.result.verdict call.ensures.verdict call.ensures.buffers call.ensures.reads in
    record { verdict = all.0; buffers = all.1.0; reads = all.1.1 }

pub returns-in-Qcif : goal.returns-in-Qcif
returns-in-Qcif c =
    let call = c.read_with-in-Qcif in
    let all = fit c.args.kind c.args.bytes.now c.args.count (buffers-at4 c) c.has_lengths.ensures (not-false _ c.if-not-has_lengths.false-raw) call.result.verdict call.ensures.verdict call.ensures.buffers call.ensures.reads in
    record { verdict = all.0; buffers = all.1.0; reads = all.1.1 }

pub returns-in-Cif : goal.returns-in-Cif
returns-in-Cif c =
    let call = c.read_with-in-Cif in
    let all = fit c.args.kind c.args.bytes.now c.args.count (buffers-at5 c) c.has_lengths.ensures (not-false _ c.if-not-has_lengths.false-raw) call.result.verdict call.ensures.verdict call.ensures.buffers call.ensures.reads in
    record { verdict = all.0; buffers = all.1.0; reads = all.1.1 }
