-- `coding::write_in` meets its contract: the scratch has room for what isn't above the limit, and that is copied. Assumes nothing.
use mathlib.Core.Path.{◌≡◌, sym, ap, ◌∙◌}
use mathlib.Core.List.{List, ◌++◌}
use Prim.Native.Nat.{ℕ, ◌+◌, ◌/◌}
use native.Mathlib.Omega.{arith}
use lib.ListN.{length, take, drop}
use lib.Seq.{take-length, length-take-le}
use Rattle.bits.proofs.Output.{counted, left_alone, copy_within, copy_fits, filled_in}
use Rattle.size.specs.Size.{limit}
use Rattle.coding.specs.Kind.{kind_size}
use Rattle.coding.proofs.Scratch.{limit_most, scratch_room}
use Rattle.coding.proofs.write_in.Goals as goal
use Rattle.coding.proofs.write_in.Goals.{Else-most-count}

-- a list put over a prefix that is as long
put_first : (xs out : List ℕ) (n : ℕ) → n ≡ length xs → xs ++ drop n out ≡ take (length xs) xs ++ drop (length xs) out
put_first xs out n e = (λ i. sym (take-length xs) i ++ drop (e i) out)

pub returns-then-most-count : goal.returns-then-most-count
returns-then-most-count c =
    let e : c.limit-most.result ≡ limit (kind_size c.args.kind) = c.limit-most.ensures ∙ ap limit c.size_of-size.ensures in record {
      count = counted c.append_picture-count.ensures e c.args.out.now;
      bytes = left_alone c.append_picture-count.ensures e c.args.out.now c.if-most-count.true;
    }

pub overflow_add-started : goal.overflow_add-started
overflow_add-started c =
    let e : c.limit-most.result ≡ limit (kind_size c.args.kind) = c.limit-most.ensures ∙ ap limit c.size_of-size.ensures in
    omega (arith, c.if-most-count.false, e, limit_most c.args.kind)

pub slice_bounds-copy_from_slice-end : goal.slice_bounds-copy_from_slice-end
slice_bounds-copy_from_slice-end c =
    let e : c.limit-most.result ≡ limit (kind_size c.args.kind) = c.limit-most.ensures ∙ ap limit c.size_of-size.ensures in
    let within = copy_within c.append_picture-count.ensures e c.args.out.now c.if-most-count.false (scratch_room c.args.kind c.requires.scratch_long) in
    omega (
      arith,
      length-take-le _ _ within,
      copy_fits c.append_picture-count.ensures e c.args.out.now c.if-most-count.false (scratch_room c.args.kind c.requires.scratch_long)
          (c.requires.out_long ∙ sym c.requires.scratch_long),
    )

pub slice_bounds-copy_from_slice-end-2 : goal.slice_bounds-copy_from_slice-end-2
slice_bounds-copy_from_slice-end-2 c = sym (length-take-le _ _ (slice_bounds-copy_from_slice-end (goal.at.slice_bounds-copy_from_slice-end-2 c).Else-most-count))

pub slice_bounds-copy_from_slice-end-3 : goal.slice_bounds-copy_from_slice-end-3
slice_bounds-copy_from_slice-end-3 c =
    let e : c.limit-most.result ≡ limit (kind_size c.args.kind) = c.limit-most.ensures ∙ ap limit c.size_of-size.ensures in
    copy_within c.append_picture-count.ensures e c.args.out.now c.if-most-count.false (scratch_room c.args.kind c.requires.scratch_long)

pub slice_bounds-copy_from_slice-end-4 : goal.slice_bounds-copy_from_slice-end-4
slice_bounds-copy_from_slice-end-4 c = sym (length-take-le _ _ (slice_bounds-copy_from_slice-end-3 c))

pub copy_from_slice-requires : goal.copy_from_slice-requires
copy_from_slice-requires c =
    sym (slice_bounds-copy_from_slice-end-2 c) ∙ slice_bounds-copy_from_slice-end-4 c

pub returns : goal.returns
returns c =
    let e : c.limit-most.result ≡ limit (kind_size c.args.kind) = c.limit-most.ensures ∙ ap limit c.size_of-size.ensures in
    let room = scratch_room c.args.kind c.requires.scratch_long in
    let started : ℕ = (c.append_picture-count.result + 7) / 8 in record {
      count = counted c.append_picture-count.ensures e c.args.out.now;
      bytes =
          filled_in c.append_picture-count.ensures e c.args.out.now c.if-most-count.false room
          (ap (λ (xs : List ℕ). xs ++ drop started c.args.out.now) c.copy_from_slice.ensures.after
          ∙ put_first _ c.args.out.now started
          (sym (length-take-le _ _ (copy_within c.append_picture-count.ensures e c.args.out.now c.if-most-count.false room))));
    }
