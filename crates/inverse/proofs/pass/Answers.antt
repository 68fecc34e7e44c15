-- `inverse::pass` meets its contract: each sum of pairs has the table's factors, by a computed test.
use lib.IntN.{pos, negsuc}
use Rattle.laws.specs.Linear.{Lin, plus, less}
use Rattle.quantiser.proofs.Lines.{line_of_lem}
use Rattle.inverse.specs.Inverse.{A, cosine}
use Rattle.inverse.specs.Passes.{pair_of}
use Rattle.inverse.proofs.Pairs.{SumOver, asked, half_asked, pair_is, sum_over, difference_over, joined_is}
use Rattle.inverse.proofs.pass.Goals as goal
use Rattle.inverse.proofs.pass.Goals.{After-difference-e3, After-pair-b3, After-pair-q}

abbrev outer_plus : Lin
outer_plus = pair_of 0 (pos 2048) 4 (pos 2048)

abbrev outer_less : Lin
outer_less = pair_of 0 (pos 2048) 4 (negsuc 2047)

abbrev inner_plus : Lin
inner_plus = pair_of 2 (pos 2676) 6 (pos 1108)

abbrev inner_less : Lin
inner_less = pair_of 2 (pos 1108) 6 (negsuc 2675)

outer_plus_lem : (c : After-pair-q) → SumOver c.args.f 93093888 outer_plus c.pair-s.result
outer_plus_lem c = pair_is c.args.f c.requires 0 (pos 2048) 4 (pos 2048) tt tt c.pair-s.type_inv c.pair-s.ensures

inner_plus_lem : (c : After-pair-q) → SumOver c.args.f 93093888 inner_plus c.pair-p.result
inner_plus_lem c = pair_is c.args.f c.requires 2 (pos 2676) 6 (pos 1108) tt tt c.pair-p.type_inv c.pair-p.ensures

outer_less_lem : (c : After-pair-q) → SumOver c.args.f 93093888 outer_less c.pair-d.result
outer_less_lem c = pair_is c.args.f c.requires 0 (pos 2048) 4 (negsuc 2047) tt tt c.pair-d.type_inv c.pair-d.ensures

inner_less_lem : (c : After-pair-q) → SumOver c.args.f 93093888 inner_less c.pair-q.result
inner_less_lem c = pair_is c.args.f c.requires 2 (pos 1108) 6 (negsuc 2675) tt tt c.pair-q.type_inv c.pair-q.ensures

outer_plus_lem-at2 : (c : After-difference-e3) → SumOver c.args.f 93093888 outer_plus c.pair-s.result
outer_plus_lem-at2 c = pair_is c.args.f c.requires 0 (pos 2048) 4 (pos 2048) tt tt c.pair-s.type_inv c.pair-s.ensures

inner_plus_lem-at2 : (c : After-difference-e3) → SumOver c.args.f 93093888 inner_plus c.pair-p.result
inner_plus_lem-at2 c = pair_is c.args.f c.requires 2 (pos 2676) 6 (pos 1108) tt tt c.pair-p.type_inv c.pair-p.ensures

even0 : (c : After-difference-e3) → SumOver c.args.f 186187776 (plus outer_plus inner_plus) c.sum-e0.result
even0 c = sum_over (outer_plus_lem-at2 c) (inner_plus_lem-at2 c) c.sum-e0.type_inv c.sum-e0.ensures

a0 : (c : After-pair-b3) → SumOver c.args.f 93093888 (pair_of 1 (pos 2841) 3 (pos 2408)) c.pair-a0.result
a0 c = pair_is c.args.f c.requires 1 (pos 2841) 3 (pos 2408) tt tt c.pair-a0.type_inv c.pair-a0.ensures

b0 : (c : After-pair-b3) → SumOver c.args.f 93093888 (pair_of 5 (negsuc 1608) 7 (negsuc 564)) c.pair-b0.result
b0 c = pair_is c.args.f c.requires 5 (negsuc 1608) 7 (negsuc 564) tt tt c.pair-b0.type_inv c.pair-b0.ensures

outer_less_lem-at2 : (c : After-difference-e3) → SumOver c.args.f 93093888 outer_less c.pair-d.result
outer_less_lem-at2 c = pair_is c.args.f c.requires 0 (pos 2048) 4 (negsuc 2047) tt tt c.pair-d.type_inv c.pair-d.ensures

inner_less_lem-at2 : (c : After-difference-e3) → SumOver c.args.f 93093888 inner_less c.pair-q.result
inner_less_lem-at2 c = pair_is c.args.f c.requires 2 (pos 1108) 6 (negsuc 2675) tt tt c.pair-q.type_inv c.pair-q.ensures

even1 : (c : After-difference-e3) → SumOver c.args.f 186187776 (plus outer_less inner_less) c.sum-e1.result
even1 c = sum_over (outer_less_lem-at2 c) (inner_less_lem-at2 c) c.sum-e1.type_inv c.sum-e1.ensures

a1 : (c : After-pair-b3) → SumOver c.args.f 93093888 (pair_of 1 (pos 2408) 3 (negsuc 564)) c.pair-a1.result
a1 c = pair_is c.args.f c.requires 1 (pos 2408) 3 (negsuc 564) tt tt c.pair-a1.type_inv c.pair-a1.ensures

b1 : (c : After-pair-b3) → SumOver c.args.f 93093888 (pair_of 5 (pos 2841) 7 (pos 1609)) c.pair-b1.result
b1 c = pair_is c.args.f c.requires 5 (pos 2841) 7 (pos 1609) tt tt c.pair-b1.type_inv c.pair-b1.ensures

even2 : (c : After-difference-e3) → SumOver c.args.f 186187776 (less outer_less inner_less) c.difference-e2.result
even2 c = difference_over (outer_less_lem-at2 c) (inner_less_lem-at2 c) c.difference-e2.type_inv c.difference-e2.ensures

a2 : (c : After-pair-b3) → SumOver c.args.f 93093888 (pair_of 1 (pos 1609) 3 (negsuc 2840)) c.pair-a2.result
a2 c = pair_is c.args.f c.requires 1 (pos 1609) 3 (negsuc 2840) tt tt c.pair-a2.type_inv c.pair-a2.ensures

b2 : (c : After-pair-b3) → SumOver c.args.f 93093888 (pair_of 5 (negsuc 564) 7 (negsuc 2407)) c.pair-b2.result
b2 c = pair_is c.args.f c.requires 5 (negsuc 564) 7 (negsuc 2407) tt tt c.pair-b2.type_inv c.pair-b2.ensures

even3 : (c : After-difference-e3) → SumOver c.args.f 186187776 (less outer_plus inner_plus) c.difference-e3.result
even3 c = difference_over (outer_plus_lem-at2 c) (inner_plus_lem-at2 c) c.difference-e3.type_inv c.difference-e3.ensures

a3 : (c : After-pair-b3) → SumOver c.args.f 93093888 (pair_of 1 (pos 565) 3 (negsuc 1608)) c.pair-a3.result
a3 c = pair_is c.args.f c.requires 1 (pos 565) 3 (negsuc 1608) tt tt c.pair-a3.type_inv c.pair-a3.ensures

b3 : (c : After-pair-b3) → SumOver c.args.f 93093888 (pair_of 5 (negsuc 2407) 7 (pos 2841)) c.pair-b3.result
b3 c = pair_is c.args.f c.requires 5 (negsuc 2407) 7 (pos 2841) tt tt c.pair-b3.type_inv c.pair-b3.ensures

pub sum-e0-requires : goal.sum-e0-requires
sum-e0-requires c = (asked (outer_plus_lem c), asked (inner_plus_lem c))

pub sum-e1-requires : goal.sum-e1-requires
sum-e1-requires c =
    let at-after-pair-q = (goal.at.sum-e1-requires c).After-pair-q in
    (asked (outer_less_lem at-after-pair-q), asked (inner_less_lem at-after-pair-q))

pub difference-e2-requires : goal.difference-e2-requires
difference-e2-requires c =
    let at-after-pair-q = (goal.at.difference-e2-requires c).After-pair-q in
    (asked (outer_less_lem at-after-pair-q), asked (inner_less_lem at-after-pair-q))

pub difference-e3-requires : goal.difference-e3-requires
difference-e3-requires c =
    let at-after-pair-q = (goal.at.difference-e3-requires c).After-pair-q in
    (asked (outer_plus_lem at-after-pair-q), asked (inner_plus_lem at-after-pair-q))

pub joined-requires : goal.joined-requires
joined-requires c = half_asked (even0 (goal.at.joined-requires c).After-difference-e3) (a0 c) (b0 c)

pub joined-requires-2 : goal.joined-requires-2
joined-requires-2 c =
    let at-after-pair-b3 = (goal.at.joined-requires-2 c).After-pair-b3 in
    half_asked (even1 (goal.at.joined-requires-2 c).After-difference-e3) (a1 at-after-pair-b3) (b1 at-after-pair-b3)

pub joined-requires-3 : goal.joined-requires-3
joined-requires-3 c =
    let at-after-pair-b3 = (goal.at.joined-requires-3 c).After-pair-b3 in
    half_asked (even2 (goal.at.joined-requires-3 c).After-difference-e3) (a2 at-after-pair-b3) (b2 at-after-pair-b3)

pub joined-requires-4 : goal.joined-requires-4
joined-requires-4 c =
    let at-after-pair-b3 = (goal.at.joined-requires-4 c).After-pair-b3 in
    half_asked (even3 (goal.at.joined-requires-4 c).After-difference-e3) (a3 at-after-pair-b3) (b3 at-after-pair-b3)

pub joined-requires-5 : goal.joined-requires-5
joined-requires-5 c =
    let at-after-pair-b3 = (goal.at.joined-requires-5 c).After-pair-b3 in
    half_asked (even3 (goal.at.joined-requires-5 c).After-difference-e3) (b3 at-after-pair-b3) (a3 at-after-pair-b3)

pub joined-requires-6 : goal.joined-requires-6
joined-requires-6 c =
    let at-after-pair-b3 = (goal.at.joined-requires-6 c).After-pair-b3 in
    half_asked (even2 (goal.at.joined-requires-6 c).After-difference-e3) (b2 at-after-pair-b3) (a2 at-after-pair-b3)

pub joined-requires-7 : goal.joined-requires-7
joined-requires-7 c =
    let at-after-pair-b3 = (goal.at.joined-requires-7 c).After-pair-b3 in
    half_asked (even1 (goal.at.joined-requires-7 c).After-difference-e3) (b1 at-after-pair-b3) (a1 at-after-pair-b3)

pub joined-requires-8 : goal.joined-requires-8
joined-requires-8 c =
    let at-after-pair-b3 = (goal.at.joined-requires-8 c).After-pair-b3 in
    half_asked (even0 (goal.at.joined-requires-8 c).After-difference-e3) (b0 at-after-pair-b3) (a0 at-after-pair-b3)

pub returns : goal.returns
unfolding A cosine
returns c =
    let at-after-pair-b3 = (goal.at.returns c).After-pair-b3 in
    let at-after-difference-e3 = (goal.at.returns c).After-difference-e3 in
    line_of_lem
    (joined_is 0 (even0 at-after-difference-e3) (a0 at-after-pair-b3) (b0 at-after-pair-b3) tt tt c.joined.type_inv c.joined.ensures)
    (joined_is 1 (even1 at-after-difference-e3) (a1 at-after-pair-b3) (b1 at-after-pair-b3) tt tt c.joined-2.type_inv c.joined-2.ensures)
    (joined_is 2 (even2 at-after-difference-e3) (a2 at-after-pair-b3) (b2 at-after-pair-b3) tt tt c.joined-3.type_inv c.joined-3.ensures)
    (joined_is 3 (even3 at-after-difference-e3) (a3 at-after-pair-b3) (b3 at-after-pair-b3) tt tt c.joined-4.type_inv c.joined-4.ensures)
    (joined_is 4 (even3 at-after-difference-e3) (b3 at-after-pair-b3) (a3 at-after-pair-b3) tt tt c.joined-5.type_inv c.joined-5.ensures)
    (joined_is 5 (even2 at-after-difference-e3) (b2 at-after-pair-b3) (a2 at-after-pair-b3) tt tt c.joined-6.type_inv c.joined-6.ensures)
    (joined_is 6 (even1 at-after-difference-e3) (b1 at-after-pair-b3) (a1 at-after-pair-b3) tt tt c.joined-7.type_inv c.joined-7.ensures)
    (joined_is 7 (even0 at-after-difference-e3) (b0 at-after-pair-b3) (a0 at-after-pair-b3) tt tt c.joined-8.type_inv c.joined-8.ensures)
