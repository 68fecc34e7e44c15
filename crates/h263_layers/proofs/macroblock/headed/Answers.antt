-- `h263_layers::macroblock::headed` meets its contract: the header, where one may stand.
use Rattle.h263_layers.specs.Grammar.{group_head, may_stand}
use Rattle.h263_layers.proofs.MacroblockSteps.{optional_there, optional-not}
use Rattle.h263_layers.proofs.macroblock.headed.Goals as goal

pub returns-then-may_stand : goal.returns-then-may_stand
returns-then-may_stand c =
    let a = c.args in
    optional_there (may_stand a.number a.address a.gquant) c.may_stand.result a.gquant (group_head a.number) _ _ c.may_stand.ensures _ c.if-may_stand.true c.group_head.ensures

pub returns : goal.returns
returns c =
    let a = c.args in
    optional-not (may_stand a.number a.address a.gquant) c.may_stand.result a.gquant (group_head a.number) _ _ c.may_stand.ensures c.if-may_stand.false
