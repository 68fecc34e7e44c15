-- `inverse::lows` meets its contract: each number is the low part of its own.
use lib.IntN.{pos, ◌-ℤ◌, ◌*ℤ◌}
use mir.Syntax.{w32}
use Rattle.laws.proofs.Integer.{low_back}
use Rattle.laws.specs.Floor.{floor_divided}
use Rattle.quantiser.proofs.Lines.{line_of_lem}
use Rattle.inverse.proofs.Parts.{call_is}
use Rattle.inverse.proofs.lows.Goals as goal

pub low-requires : goal.low-requires
low-requires c = low_back w32 tt (c.requires 0)

pub low-requires-2 : goal.low-requires-2
low-requires-2 c = low_back w32 tt (c.requires 1)

pub low-requires-3 : goal.low-requires-3
low-requires-3 c = low_back w32 tt (c.requires 2)

pub low-requires-4 : goal.low-requires-4
low-requires-4 c = low_back w32 tt (c.requires 3)

pub low-requires-5 : goal.low-requires-5
low-requires-5 c = low_back w32 tt (c.requires 4)

pub low-requires-6 : goal.low-requires-6
low-requires-6 c = low_back w32 tt (c.requires 5)

pub low-requires-7 : goal.low-requires-7
low-requires-7 c = low_back w32 tt (c.requires 6)

pub low-requires-8 : goal.low-requires-8
low-requires-8 c = low_back w32 tt (c.requires 7)

pub returns : goal.returns
returns c =
    let g = c.requires in
    line_of_lem
    (call_is (λ z. z -ℤ floor_divided z 8192 *ℤ pos 8192) tt (g 0) c.low.type_inv c.low.ensures) (call_is (λ z. z -ℤ floor_divided z 8192 *ℤ pos 8192) tt (g 1) c.low-2.type_inv c.low-2.ensures)
    (call_is (λ z. z -ℤ floor_divided z 8192 *ℤ pos 8192) tt (g 2) c.low-3.type_inv c.low-3.ensures) (call_is (λ z. z -ℤ floor_divided z 8192 *ℤ pos 8192) tt (g 3) c.low-4.type_inv c.low-4.ensures)
    (call_is (λ z. z -ℤ floor_divided z 8192 *ℤ pos 8192) tt (g 4) c.low-5.type_inv c.low-5.ensures) (call_is (λ z. z -ℤ floor_divided z 8192 *ℤ pos 8192) tt (g 5) c.low-6.type_inv c.low-6.ensures)
    (call_is (λ z. z -ℤ floor_divided z 8192 *ℤ pos 8192) tt (g 6) c.low-7.type_inv c.low-7.ensures) (call_is (λ z. z -ℤ floor_divided z 8192 *ℤ pos 8192) tt (g 7) c.low-8.type_inv c.low-8.ensures)
