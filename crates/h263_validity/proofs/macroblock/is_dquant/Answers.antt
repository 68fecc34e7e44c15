-- `h263_validity::macroblock::is_dquant` meets its contract: the byte is compared with each of the four. Assumes nothing.
use mathlib.Core.List.{[], ◌∷◌}
use Rattle.h263_description.proofs.OneOf.{one_here, one_past, one_last}
use Rattle.h263_validity.proofs.macroblock.is_dquant.Goals as goal

pub returns-then-byte-eq255 : goal.returns-then-byte-eq255
returns-then-byte-eq255 c = one_here 255 (254 ∷ 1 ∷ 2 ∷ []) _ c.if-byte-eq255.true

pub returns-then-byte-eq254 : goal.returns-then-byte-eq254
returns-then-byte-eq254 c = one_past 255 (254 ∷ 1 ∷ 2 ∷ []) _ c.if-byte-eq255.false (one_here 254 (1 ∷ 2 ∷ []) _ c.if-byte-eq254.true)

pub returns-then-byte-eq1 : goal.returns-then-byte-eq1
returns-then-byte-eq1 c =
    one_past 255 (254 ∷ 1 ∷ 2 ∷ []) _ c.if-byte-eq255.false (one_past 254 (1 ∷ 2 ∷ []) _ c.if-byte-eq254.false (one_here 1 (2 ∷ []) _ c.if-byte-eq1.true))

pub returns : goal.returns
returns c =
    one_past 255 (254 ∷ 1 ∷ 2 ∷ []) _ c.if-byte-eq255.false
    (one_past 254 (1 ∷ 2 ∷ []) _ c.if-byte-eq254.false (one_past 1 (2 ∷ []) _ c.if-byte-eq1.false (one_last 2 c.args.byte)))
