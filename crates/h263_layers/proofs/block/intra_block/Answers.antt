-- `h263_layers::block::intra_block` meets its contract: the DC code, which is allowed, stands first, and the events' coefficients after it.
use mathlib.Core.Path.{◌≡◌, ap, ◌∙◌}
use native.Mathlib.Omega.{arith}
use lib.ListN.{length-set}
use Rattle.bits.specs.Bits.{bits_left}
use Rattle.bits.specs.Places.{counted}
use Rattle.bits.specs.Read.{got, refused, field}
use Prim.Native.Nat.{◌<◌, ◌^◌}
use Rattle.bits.proofs.Logic.{reads_field}
use Rattle.bits.proofs.Once.{once_field}
use Rattle.fields.proofs.Meaning.{onward}
use Rattle.fields.proofs.Told.{no_number, is_number, number_once, within_next}
use Rattle.fields.specs.Answer.{as_number}
use Rattle.h263_layers.proofs.BlockSteps.{bit_off, bit_on, intra_refused, intra_forbidden, intra_alone, intra_more}
use borrow.Author.Rules.{rules}
use Rattle.h263_layers.proofs.block.intra_block.Goals as goal
use Rattle.h263_layers.proofs.block.intra_block.Goals.{After-events-arg-1, After-stopped, After-slice_known-2-1, Else-code-eq0, Then-code-eq0, Then-coded-eq0}

code_read : (c : After-stopped) → as_number c.args.bytes.now c.args.count c.once-read.result ≡ field {P = counted} 8 (bits_left c.args.bytes.now c.args.count c.args.at.bit) c.args.at
code_read c = number_once (once_field 8) _ _ _ c.field.result c.once-read.ensures c.field.ensures

code_read-at2 : (c : Then-code-eq0) → as_number c.args.bytes.now c.args.count c.once-read.result ≡ field {P = counted} 8 (bits_left c.args.bytes.now c.args.count c.args.at.bit) c.args.at
code_read-at2 c = number_once (once_field 8) _ _ _ c.field.result c.once-read.ensures c.field.ensures

code : (t : Then-code-eq0) → field {P = counted} 8 (bits_left t.args.bytes.now t.args.count t.args.at.bit) t.args.at
    ≡ got t.in-Got.code (bits_left t.args.bytes.now t.args.count t.in-Got.next.bit) t.in-Got.next
code t = is_number _ _ _ _ _ (code_read-at2 t) t.in-Got.is

small : (t : Then-code-eq0) → t.in-Got.code < 2 ^ 8
small t = (onward _ _ _ _ _ (reads_field 8 tt) t.requires.0.placed.within.inside (code t)).good

code_read-at3 : (c : Else-code-eq0) → as_number c.args.bytes.now c.args.count c.once-read.result ≡ field {P = counted} 8 (bits_left c.args.bytes.now c.args.count c.args.at.bit) c.args.at
code_read-at3 c = number_once (once_field 8) _ _ _ c.field.result c.once-read.ensures c.field.ensures

code-at2 : (t : Else-code-eq0) → field {P = counted} 8 (bits_left t.args.bytes.now t.args.count t.args.at.bit) t.args.at
    ≡ got t.in-Got.code (bits_left t.args.bytes.now t.args.count t.in-Got.next.bit) t.in-Got.next
code-at2 t = is_number _ _ _ _ _ (code_read-at3 t) t.in-Got.is

small-at2 : (t : Else-code-eq0) → t.in-Got.code < 2 ^ 8
small-at2 t = (onward _ _ _ _ _ (reads_field 8 tt) t.requires.0.placed.within.inside (code-at2 t)).good

code_read-at4 : (c : Then-coded-eq0) → as_number c.args.bytes.now c.args.count c.once-read.result ≡ field {P = counted} 8 (bits_left c.args.bytes.now c.args.count c.args.at.bit) c.args.at
code_read-at4 c = number_once (once_field 8) _ _ _ c.field.result c.once-read.ensures c.field.ensures

code-at3 : (t : Then-coded-eq0) → field {P = counted} 8 (bits_left t.args.bytes.now t.args.count t.args.at.bit) t.args.at
    ≡ got t.in-Got.code (bits_left t.args.bytes.now t.args.count t.in-Got.next.bit) t.in-Got.next
code-at3 t = is_number _ _ _ _ _ (code_read-at4 t) t.in-Got.is

code_read-at5 : (c : After-events-arg-1) → as_number c.args.bytes.now c.args.count c.once-read.result ≡ field {P = counted} 8 (bits_left c.args.bytes.now c.args.count c.args.at.bit) c.args.at
code_read-at5 c = number_once (once_field 8) _ _ _ c.field.result c.once-read.ensures c.field.ensures

code-at4 : (t : After-events-arg-1) → field {P = counted} 8 (bits_left t.args.bytes.now t.args.count t.args.at.bit) t.args.at
    ≡ got t.in-Got.code (bits_left t.args.bytes.now t.args.count t.in-Got.next.bit) t.in-Got.next
code-at4 t = is_number _ _ _ _ _ (code_read-at5 t) t.in-Got.is

code_read-at6 : (c : After-slice_known-2-1) → as_number c.args.bytes.now c.args.count c.once-read.result ≡ field {P = counted} 8 (bits_left c.args.bytes.now c.args.count c.args.at.bit) c.args.at
code_read-at6 c = number_once (once_field 8) _ _ _ c.field.result c.once-read.ensures c.field.ensures

code-at5 : (t : After-slice_known-2-1) → field {P = counted} 8 (bits_left t.args.bytes.now t.args.count t.args.at.bit) t.args.at
    ≡ got t.in-Got.code (bits_left t.args.bytes.now t.args.count t.in-Got.next.bit) t.in-Got.next
code-at5 t = is_number _ _ _ _ _ (code_read-at6 t) t.in-Got.is

pub field-requires : goal.field-requires
field-requires c = (c.requires.0.placed.within, search rules)

pub once-read-requires : goal.once-read-requires
once-read-requires c = let l = c.requires.0.placed.countable in omega arith

pub returns-in_default : goal.returns-in_default
returns-in_default c =
    ap refused c.stopped.ensures ∙ intra_refused _ _ _ _ _ _ (no_number _ _ c.once-read.result c.in_default.is (code_read c))

pub returns-then-code-eq0 : goal.returns-then-code-eq0
returns-then-code-eq0 c = intra_forbidden _ _ _ _ _ _ _ (code c) _ (small c) c.if-code-eq0.true

pub overflow_cast-levels : goal.overflow_cast-levels
overflow_cast-levels c = omega (arith, small-at2 c)

pub returns-then-coded-eq0 : goal.returns-then-coded-eq0
returns-then-coded-eq0 c = intra_alone _ _ _ _ _ _ _ (code-at3 c) c.if-code-eq0.false _ (bit_off _ c.if-coded-eq0.true)

pub events-requires : goal.events-requires
events-requires c = (
  record { tabled = c.requires.0.tabled; placed = within_next _ _ _ _ _ (reads_field 8 tt) c.requires.0.placed (code-at4 c) },
  record { forward = search rules; room = simp length-set c.requires.1 },
)

pub returns : goal.returns
returns c =
    intra_more _ _ _ _ _ _ _ (code-at5 c) c.if-code-eq0.false _ _ (bit_on _ c.if-coded-eq0.false) c.events.ensures
