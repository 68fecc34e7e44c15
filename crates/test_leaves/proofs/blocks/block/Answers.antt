-- `test_leaves::blocks::block` meets its contract. The loop's invariant: the coefficients before the k-th are laid out. Assumes nothing.
use mathlib.Core.Path.{◌≡◌, ◌∙◌, subst}
use mathlib.Core.List.{List}
use Prim.Native.Nat.{ℕ, ◌+◌, ◌*◌, ◌/◌, ◌%◌}
use native.Mathlib.Omega.{arith}
use lib.IntN.{ℤ, pos}
use mir.Syntax.{w32}
use mir.Val.{to_z, of_z}
use Rattle.laws.proofs.Block.{Done, shape_fill, done_none, done_more, done_all}
use borrow.Author.Rules.{rules}
use Rattle.test_leaves.proofs.blocks.block.Goals as goal

so_many : {g : ℕ → ℕ → ℤ} {n m : ℕ} {t : List (List ℤ)} → n ≡ m → Done (pos 0) g n t → Done (pos 0) g m t
so_many {g} {n} {m} {t} e = subst (λ (k : ℕ). Done (pos 0) g k t) e

pub loop-k-init : goal.loop-k-init
loop-k-init c = (search rules, done_none (pos 0) _ (shape_fill (pos 0)))

pub loop-k-preserved : goal.loop-k-preserved
loop-k-preserved c =
    let at_loop = c.loop-k in
    let h : to_z w32 (of_z w32 c.coefficient.result) ≡ c.coefficient.result = search rules in
    let row : at_loop.k ≡ at_loop.k / 8 * 8 + at_loop.k % 8 = omega arith in
    let next : at_loop.k / 8 * 8 + (at_loop.k % 8 + 1) ≡ at_loop.k + 1 = omega arith in
    (search rules, so_many next (done_more (pos 0) _ _ _ _ (so_many row at_loop.invariant.1) (omega arith) (omega arith) (h ∙ c.coefficient.ensures)))

pub returns : goal.returns
returns c = let end : c.loop-k.k ≡ 64 = omega arith in done_all (pos 0) _ 8 (so_many end c.loop-k.invariant.1) (omega arith)
