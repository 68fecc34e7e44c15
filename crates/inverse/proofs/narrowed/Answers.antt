-- `inverse::narrowed` meets its contract: each number of the column is small, so that it is the same in 16 bits.
use Prim.Native.Nat.{ℕ}
use lib.Dec.{lit≤}
use lib.IntN.{pos}
use mir.Syntax.{w32}
use mir.Val.{to_z, of_z}
use Rattle.laws.specs.Integer.{Low}
use Rattle.laws.proofs.Integer.{low_up, low_back}
use Rattle.laws.specs.Block.{cell}
use Rattle.quantiser.proofs.Lines.{line_of_lem}
use Rattle.inverse.proofs.Parts.{call_is}
use Rattle.inverse.proofs.narrowed.Goals as goal
use Rattle.inverse.proofs.narrowed.Goals.{Start}

number_low : (s : Start) → (v : ℕ) → Low 16384 (to_z w32 (of_z w32 (cell (pos 0) s.args.f.now v s.args.u)))
number_low s v = low_back w32 tt (low_up 16384 (s.requires.0 v s.args.u) (lit≤ tt))

pub narrow-requires : goal.narrow-requires
narrow-requires c = number_low (goal.at.narrow-requires c).Start 0

pub narrow-requires-2 : goal.narrow-requires-2
narrow-requires-2 c = number_low (goal.at.narrow-requires-2 c).Start 1

pub narrow-requires-3 : goal.narrow-requires-3
narrow-requires-3 c = number_low (goal.at.narrow-requires-3 c).Start 2

pub narrow-requires-4 : goal.narrow-requires-4
narrow-requires-4 c = number_low (goal.at.narrow-requires-4 c).Start 3

pub narrow-requires-5 : goal.narrow-requires-5
narrow-requires-5 c = number_low (goal.at.narrow-requires-5 c).Start 4

pub narrow-requires-6 : goal.narrow-requires-6
narrow-requires-6 c = number_low (goal.at.narrow-requires-6 c).Start 5

pub narrow-requires-7 : goal.narrow-requires-7
narrow-requires-7 c = number_low (goal.at.narrow-requires-7 c).Start 6

pub narrow-requires-8 : goal.narrow-requires-8
narrow-requires-8 c = number_low (goal.at.narrow-requires-8 c).Start 7

pub returns : goal.returns
returns c =
    let n = c.requires.0 in
    let u = c.args.u in
    line_of_lem
    (call_is (λ z. z) tt (n 0 u) c.narrow.type_inv c.narrow.ensures) (call_is (λ z. z) tt (n 1 u) c.narrow-2.type_inv c.narrow-2.ensures)
    (call_is (λ z. z) tt (n 2 u) c.narrow-3.type_inv c.narrow-3.ensures) (call_is (λ z. z) tt (n 3 u) c.narrow-4.type_inv c.narrow-4.ensures)
    (call_is (λ z. z) tt (n 4 u) c.narrow-5.type_inv c.narrow-5.ensures) (call_is (λ z. z) tt (n 5 u) c.narrow-6.type_inv c.narrow-6.ensures)
    (call_is (λ z. z) tt (n 6 u) c.narrow-7.type_inv c.narrow-7.ensures) (call_is (λ z. z) tt (n 7 u) c.narrow-8.type_inv c.narrow-8.ensures)
