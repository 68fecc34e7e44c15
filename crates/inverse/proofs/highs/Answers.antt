-- `inverse::highs` meets its contract: each number is the high part of its own.
use mir.Syntax.{w32}
use Rattle.laws.proofs.Integer.{low_back}
use Rattle.laws.specs.Floor.{floor_divided}
use Rattle.quantiser.proofs.Lines.{line_of_lem}
use Rattle.inverse.proofs.Parts.{call_is}
use Rattle.inverse.proofs.highs.Goals as goal

pub high-requires : goal.high-requires
high-requires c = low_back w32 tt (c.requires 0)

pub high-requires-2 : goal.high-requires-2
high-requires-2 c = low_back w32 tt (c.requires 1)

pub high-requires-3 : goal.high-requires-3
high-requires-3 c = low_back w32 tt (c.requires 2)

pub high-requires-4 : goal.high-requires-4
high-requires-4 c = low_back w32 tt (c.requires 3)

pub high-requires-5 : goal.high-requires-5
high-requires-5 c = low_back w32 tt (c.requires 4)

pub high-requires-6 : goal.high-requires-6
high-requires-6 c = low_back w32 tt (c.requires 5)

pub high-requires-7 : goal.high-requires-7
high-requires-7 c = low_back w32 tt (c.requires 6)

pub high-requires-8 : goal.high-requires-8
high-requires-8 c = low_back w32 tt (c.requires 7)

pub returns : goal.returns
returns c =
    let g = c.requires in
    line_of_lem
    (call_is (λ z. floor_divided z 8192) tt (g 0) c.high.type_inv c.high.ensures) (call_is (λ z. floor_divided z 8192) tt (g 1) c.high-2.type_inv c.high-2.ensures)
    (call_is (λ z. floor_divided z 8192) tt (g 2) c.high-3.type_inv c.high-3.ensures) (call_is (λ z. floor_divided z 8192) tt (g 3) c.high-4.type_inv c.high-4.ensures)
    (call_is (λ z. floor_divided z 8192) tt (g 4) c.high-5.type_inv c.high-5.ensures) (call_is (λ z. floor_divided z 8192) tt (g 5) c.high-6.type_inv c.high-6.ensures)
    (call_is (λ z. floor_divided z 8192) tt (g 6) c.high-7.type_inv c.high-7.ensures) (call_is (λ z. floor_divided z 8192) tt (g 7) c.high-8.type_inv c.high-8.ensures)
