-- `bits::four` meets its contract: four bytes as a number, whether by one load or each by itself.
use mathlib.Core.Path.{refl, ◌∙◌}
use Rattle.bits.proofs.Value.{four_bytes}
use borrow.Author.Rules.{rules}
use Rattle.bits.proofs.four.Goals as goal

pub returns-then-j-bytes : goal.returns-then-j-bytes
returns-then-j-bytes c =
    let s = c.args.bytes.now in
    let j = c.args.j in
    c.joined.ensures ∙ four_bytes s j _ _ _ _ refl refl refl refl (search rules) (search rules) (search rules) (search rules)

pub returns-else-j-bytes : goal.returns-else-j-bytes
returns-else-j-bytes c =
    c.joined-else-j-bytes.ensures
    ∙ four_bytes c.args.bytes.now c.args.j _ _ _ _ c.byte_at.ensures c.byte_at-else-j-bytes.ensures c.byte_at-else-j-bytes-2.ensures c.byte_at-else-j-bytes-3.ensures (search rules) (search rules) (search rules) (search rules)
