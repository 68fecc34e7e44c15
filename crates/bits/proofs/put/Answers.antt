-- `bits::put` meets its contract: the bytes that the bits start are stored one after another, each the right part of one number.
use mathlib.Core.Path.{refl, ◌∙◌}
use lib.ListN.{length-set}
use Rattle.bits.proofs.Stores.{field_low, stored_none, stored_more, stored_all}
use Rattle.bits.proofs.put.Goals as goal

pub overflow_add-number : goal.overflow_add-number
overflow_add-number c = record { fits = field_low c.args.out.now c.args.at c.requires.0 (λ i. (c.type_inv.out i).fits) }

pub loop-i-init : goal.loop-i-init
loop-i-init c =
    (refl, stored_none c.args.out.now c.args.at c.requires.0 (λ i. (c.type_inv.out i).fits) c.requires.1)

pub loop-i-preserved : goal.loop-i-preserved
loop-i-preserved c = let l = c.loop-i in (length-set l.out _ _ ∙ l.invariant.0, stored_more _ l.i _ _ l.out _ c.loop-i-test.true l.invariant.1)

pub returns : goal.returns
returns c = let l = c.loop-i in stored_all _ l.i _ _ l.out _ c.loop-i-test.false l.invariant.1
