-- `coding::write` meets its contract: the judgements in their order, then what the bits leave. Assumes nothing.
use mathlib.Core.Path.{◌≡◌, refl, sym, ap, ◌∙◌}
use borrow.Author.Tests.{not-true, not-false}
use lib.ListN.{length}
use Rattle.size.specs.Size.{limit, output_length}
use Rattle.bits.proofs.Output.{Answered, unnamed, unfit, invalid, above, below}
use Rattle.layout.specs.Flat.{Flat, flat}
use Rattle.coding.specs.Kind.{kind_size, coding_of}
use Rattle.coding.specs.Described.{write_of}
use Rattle.coding.proofs.write.Goals as goal
use Rattle.coding.proofs.write.Goals.{After-not_written, After-not_written-then-limit-count, After-not_written-then-not-valid, After-not_written-then-out-output_length, After-write_valid-arg-1, Else-limit-count}

abbrev description : (s : After-not_written) → Flat
description s = flat s.args.head.now s.args.macroblocks.now s.args.levels.now

answered : (s : After-not_written) → Answered ((coding_of s.args.kind).named (description s)) ((coding_of s.args.kind).valid (description s))
    (output_length (kind_size s.args.kind)) (limit (kind_size s.args.kind)) ((coding_of s.args.kind).written (description s)) s.args.out.now
    (write_of s.args.kind (description s) (length s.args.out.now))
unfolding write_of
answered s = record { is = refl }

abbrev description-at2 : (s : After-not_written-then-out-output_length) → Flat
description-at2 s = flat s.args.head.now s.args.macroblocks.now s.args.levels.now

answered-at2 : (s : After-not_written-then-out-output_length) → Answered ((coding_of s.args.kind).named (description-at2 s)) ((coding_of s.args.kind).valid (description-at2 s))
    (output_length (kind_size s.args.kind)) (limit (kind_size s.args.kind)) ((coding_of s.args.kind).written (description-at2 s)) s.args.out.now
    (write_of s.args.kind (description-at2 s) (length s.args.out.now))
unfolding write_of
answered-at2 s = record { is = refl }

named_is : (n : After-not_written-then-out-output_length) → n.output_length.result ≡ output_length (kind_size n.args.kind)
named_is n = n.output_length.ensures ∙ ap output_length n.size_of-size.ensures

abbrev description-at3 : (s : After-not_written-then-not-valid) → Flat
description-at3 s = flat s.args.head.now s.args.macroblocks.now s.args.levels.now

answered-at3 : (s : After-not_written-then-not-valid) → Answered ((coding_of s.args.kind).named (description-at3 s)) ((coding_of s.args.kind).valid (description-at3 s))
    (output_length (kind_size s.args.kind)) (limit (kind_size s.args.kind)) ((coding_of s.args.kind).written (description-at3 s)) s.args.out.now
    (write_of s.args.kind (description-at3 s) (length s.args.out.now))
unfolding write_of
answered-at3 s = record { is = refl }

named_is-at2 : (n : After-not_written-then-not-valid) → n.output_length.result ≡ output_length (kind_size n.args.kind)
named_is-at2 n = n.output_length.ensures ∙ ap output_length n.size_of-size.ensures

named_is-at3 : (n : After-write_valid-arg-1) → n.output_length.result ≡ output_length (kind_size n.args.kind)
named_is-at3 n = n.output_length.ensures ∙ ap output_length n.size_of-size.ensures

abbrev description-at4 : (s : After-not_written-then-limit-count) → Flat
description-at4 s = flat s.args.head.now s.args.macroblocks.now s.args.levels.now

answered-at4 : (s : After-not_written-then-limit-count) → Answered ((coding_of s.args.kind).named (description-at4 s)) ((coding_of s.args.kind).valid (description-at4 s))
    (output_length (kind_size s.args.kind)) (limit (kind_size s.args.kind)) ((coding_of s.args.kind).written (description-at4 s)) s.args.out.now
    (write_of s.args.kind (description-at4 s) (length s.args.out.now))
unfolding write_of
answered-at4 s = record { is = refl }

named_is-at4 : (n : After-not_written-then-limit-count) → n.output_length.result ≡ output_length (kind_size n.args.kind)
named_is-at4 n = n.output_length.ensures ∙ ap output_length n.size_of-size.ensures

limit_is : (m : After-not_written-then-limit-count) → m.limit.result ≡ limit (kind_size m.args.kind)
limit_is m = m.limit.ensures ∙ ap limit m.size_of-size.ensures

abbrev description-at5 : (s : Else-limit-count) → Flat
description-at5 s = flat s.args.head.now s.args.macroblocks.now s.args.levels.now

answered-at5 : (s : Else-limit-count) → Answered ((coding_of s.args.kind).named (description-at5 s)) ((coding_of s.args.kind).valid (description-at5 s))
    (output_length (kind_size s.args.kind)) (limit (kind_size s.args.kind)) ((coding_of s.args.kind).written (description-at5 s)) s.args.out.now
    (write_of s.args.kind (description-at5 s) (length s.args.out.now))
unfolding write_of
answered-at5 s = record { is = refl }

named_is-at5 : (n : Else-limit-count) → n.output_length.result ≡ output_length (kind_size n.args.kind)
named_is-at5 n = n.output_length.ensures ∙ ap output_length n.size_of-size.ensures

limit_is-at2 : (m : Else-limit-count) → m.limit.result ≡ limit (kind_size m.args.kind)
limit_is-at2 m = m.limit.ensures ∙ ap limit m.size_of-size.ensures

pub returns-then-not-named : goal.returns-then-not-named
returns-then-not-named c = let all = unnamed (answered c) c.named.ensures (not-true _ c.if-not-named.true-raw) c.not_written.ensures in
    record { write_says = all.0; write_leaves = all.1 }

pub returns-then-out-output_length : goal.returns-then-out-output_length
returns-then-out-output_length c =
    let all = unfit (answered-at2 c) c.named.ensures (not-false _ c.if-not-named.false-raw) (named_is c) c.if-out-output_length.true c.not_written-then-out-output_length.ensures in
    record { write_says = all.0; write_leaves = all.1 }

pub returns-then-not-valid : goal.returns-then-not-valid
returns-then-not-valid c =
    let all = invalid (answered-at3 c) c.named.ensures (not-false _ c.if-not-named.false-raw) (named_is-at2 c) c.if-out-output_length.false c.valid.ensures
    (not-true _ c.if-not-valid.true-raw) c.not_written-then-not-valid.ensures in
    record { write_says = all.0; write_leaves = all.1 }

pub write_valid-count-requires : goal.write_valid-count-requires
write_valid-count-requires c =
    record { valid_is = sym c.valid.ensures ∙ not-false _ c.if-not-valid.false-raw; out_long = c.if-out-output_length.false ∙ named_is-at3 c }

pub returns-then-limit-count : goal.returns-then-limit-count
returns-then-limit-count c =
    let all = above (answered-at4 c) c.named.ensures (not-false _ c.if-not-named.false-raw) (named_is-at4 c) c.if-out-output_length.false c.valid.ensures
    (not-false _ c.if-not-valid.false-raw) c.write_valid-count.ensures.count (limit_is c) c.if-limit-count.true c.not_written-then-limit-count.ensures c.write_valid-count.ensures.bytes in
    record { write_says = all.0; write_leaves = all.1 }

pub returns : goal.returns
returns c =
    let all = below (answered-at5 c) c.named.ensures (not-false _ c.if-not-named.false-raw) (named_is-at5 c) c.if-out-output_length.false c.valid.ensures
    (not-false _ c.if-not-valid.false-raw) c.write_valid-count.ensures.count (limit_is-at2 c) c.if-limit-count.false c.write_valid-count.ensures.bytes in
    record { write_says = all.0; write_leaves = all.1 }
