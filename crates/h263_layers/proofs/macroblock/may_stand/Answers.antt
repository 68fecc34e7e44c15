-- `h263_layers::macroblock::may_stand` meets its contract: by each of the three tests.
use Rattle.h263_layers.proofs.MacroblockSteps.{first_group, not_first, one_header}
use Rattle.h263_layers.proofs.macroblock.may_stand.Goals as goal

pub returns-then-number-eq0 : goal.returns-then-number-eq0
returns-then-number-eq0 c = first_group c.args.number c.args.address c.args.gquant c.if-number-eq0.true

pub returns-then-address-ne1 : goal.returns-then-address-ne1
returns-then-address-ne1 c = not_first c.args.number c.args.address c.args.gquant c.if-address-ne1.true

pub returns : goal.returns
returns c = one_header c.args.number c.args.address c.args.gquant c.if-number-eq0.false c.if-address-ne1.false
