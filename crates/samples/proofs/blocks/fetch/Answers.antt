-- `samples::blocks::fetch` meets its contract: cell by cell, since every sample fits. Assumes nothing.
use Prim.Native.Nat.{ℕ, ◌+◌, ◌*◌, ◌≤◌}
use native.Mathlib.Omega.{arith}
use borrow.Author.Rules.{rules}
use lib.IntN.{pos}
use mir.Syntax.{w32}
use mir.Val.{SFits}
use mir.Facts.{to_z_pos}
use Rattle.laws.proofs.Integer.{low_fits}
use Rattle.laws.proofs.Block.{shape_fill, done_none, done_more, done_row, done_all}
use Rattle.samples.proofs.blocks.fetch.Goals as goal

byte_fits : (n : ℕ) → n ≤ 255 → SFits w32 (pos n)
byte_fits n l = low_fits {m = 255} tt (record { low = l })

pub loop-i-init : goal.loop-i-init
loop-i-init c = (search rules, done_none (pos 0) _ (shape_fill (pos 0)))

pub overflow_mul-at : goal.overflow_mul-at
overflow_mul-at c = omega (arith, c.requires c.loop-i.i (search rules))

pub overflow_add-at : goal.overflow_add-at
overflow_add-at c = omega (arith, c.requires c.loop-i.i (search rules))

pub loop-j-init : goal.loop-j-init
loop-j-init c = (search rules, c.loop-i.invariant.1)

pub overflow_add-block : goal.overflow_add-block
overflow_add-block c = omega (arith, c.requires c.loop-i.i (search rules))

pub bounds-samples-at : goal.bounds-samples-at
bounds-samples-at c = omega (arith, c.requires c.loop-i.i (search rules))

pub overflow_cast-block : goal.overflow_cast-block
overflow_cast-block c =
    byte_fits _ (omega (arith, c.type_inv.samples (c.args.start + c.loop-i.i * c.args.stride + c.loop-j.j)))

pub loop-j-preserved : goal.loop-j-preserved
loop-j-preserved c = (
  search rules,
  done_more (pos 0) _ _ _ _ c.loop-j.invariant.1 (search rules) (search rules)
      (to_z_pos w32
      (omega (arith, c.type_inv.samples (c.args.start + c.loop-i.i * c.args.stride + c.loop-j.j)))),
)

pub loop-i-preserved : goal.loop-i-preserved
loop-i-preserved c = (search rules, done_row (pos 0) _ _ _ c.loop-j.invariant.1 (search rules))

pub returns : goal.returns
returns c = done_all (pos 0) _ _ c.loop-i.invariant.1 (search rules)
