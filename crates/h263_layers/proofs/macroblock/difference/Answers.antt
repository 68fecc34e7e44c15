-- `h263_layers::macroblock::difference` meets its contract: a field of two bits, and the difference that each of its four values stands for.
use mathlib.Core.Path.{◌≡◌, ap, ◌∙◌}
use native.Mathlib.Omega.{arith}
use Prim.Native.Nat.{◌<◌, ◌^◌}
use Rattle.bits.specs.Bits.{bits_left}
use Rattle.bits.specs.Places.{counted}
use Rattle.bits.specs.Read.{got, refused, field}
use Rattle.bits.proofs.Logic.{reads_field}
use Rattle.bits.proofs.Once.{once_field}
use Rattle.fields.specs.Answer.{as_number}
use Rattle.fields.proofs.Meaning.{onward}
use Rattle.fields.proofs.Told.{no_number, is_number, number_once}
use Rattle.h263_layers.proofs.MacroblockSteps.{dquant_refused, dquant_got, dquant_down, dquant_up}
use borrow.Author.Rules.{rules}
use Rattle.h263_layers.proofs.macroblock.difference.Goals as goal
use Rattle.h263_layers.proofs.macroblock.difference.Goals.{After-stopped, In-Got}

code_read : (c : After-stopped) → as_number c.args.bytes.now c.args.count c.once-read.result ≡ field {P = counted} 2 (bits_left c.args.bytes.now c.args.count c.args.at.bit) c.args.at
code_read c = number_once (once_field 2) _ _ _ c.field.result c.once-read.ensures c.field.ensures

code_read-at2 : (c : In-Got) → as_number c.args.bytes.now c.args.count c.once-read.result ≡ field {P = counted} 2 (bits_left c.args.bytes.now c.args.count c.args.at.bit) c.args.at
code_read-at2 c = number_once (once_field 2) _ _ _ c.field.result c.once-read.ensures c.field.ensures

code : (t : In-Got) → field {P = counted} 2 (bits_left t.args.bytes.now t.args.count t.args.at.bit) t.args.at
    ≡ got t.in-Got.code (bits_left t.args.bytes.now t.args.count t.in-Got.next.bit) t.in-Got.next
code t = is_number _ _ _ _ _ (code_read-at2 t) t.in-Got.is

small : (t : In-Got) → t.in-Got.code < 2 ^ 2
small t = (onward _ _ _ _ _ (reads_field 2 tt) t.requires.within.inside (code t)).good

pub field-requires : goal.field-requires
field-requires c = (c.requires.within, search rules)

pub once-read-requires : goal.once-read-requires
once-read-requires c = let l = c.requires.countable in omega arith

pub returns-in_default : goal.returns-in_default
returns-in_default c =
    ap refused c.stopped.ensures ∙ dquant_refused _ _ _ (no_number _ _ c.once-read.result c.in_default.is (code_read c))

pub returns-then-code-lt2 : goal.returns-then-code-lt2
returns-then-code-lt2 c = dquant_got _ _ _ _ _ _ (code (goal.at.returns-then-code-lt2 c).In-Got) (dquant_down _ c.if-code-lt2.true)

pub returns : goal.returns
returns c =
    let at-in-got = (goal.at.returns c).In-Got in
    dquant_got _ _ _ _ _ _ (code at-in-got) (dquant_up _ c.if-code-lt2.false (small at-in-got))
