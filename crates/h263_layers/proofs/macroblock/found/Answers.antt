-- `h263_layers::macroblock::found` meets its contract: MCBPC alone in an INTRA picture; in another COD, and MCBPC unless COD is 1.
use mathlib.Core.Path.{◌≡◌, ap, ◌∙◌}
use native.Mathlib.Omega.{arith}
use Prim.Native.Nat.{◌<◌, ◌^◌}
use Rattle.bits.specs.Bits.{bits_left}
use Rattle.bits.specs.Places.{counted}
use Rattle.bits.specs.Read.{got, refused, field}
use Rattle.bits.proofs.Logic.{reads_field}
use Rattle.bits.proofs.Once.{once_field}
use Rattle.fields.specs.Answer.{as_number}
use Rattle.fields.proofs.Meaning.{onward}
use Rattle.fields.proofs.Told.{no_number, is_number, number_once, within_next}
use Rattle.h263_layers.proofs.MacroblockSteps.{found_intra, found_refused, found_unsent, found_sent}
use borrow.Author.Rules.{rules}
use Rattle.h263_layers.proofs.macroblock.found.Goals as goal
use Rattle.h263_layers.proofs.macroblock.found.Goals.{After-kind_found-2, After-stopped, Else-cod-eq1, Then-cod-eq1}

cod_read : (c : After-stopped) → as_number c.args.bytes.now c.args.count c.once-read.result ≡ field {P = counted} 1 (bits_left c.args.bytes.now c.args.count c.args.at.bit) c.args.at
cod_read c = number_once (once_field 1) _ _ _ c.field.result c.once-read.ensures c.field.ensures

cod_read-at2 : (c : Then-cod-eq1) → as_number c.args.bytes.now c.args.count c.once-read.result ≡ field {P = counted} 1 (bits_left c.args.bytes.now c.args.count c.args.at.bit) c.args.at
cod_read-at2 c = number_once (once_field 1) _ _ _ c.field.result c.once-read.ensures c.field.ensures

cod : (t : Then-cod-eq1) → field {P = counted} 1 (bits_left t.args.bytes.now t.args.count t.args.at.bit) t.args.at
    ≡ got t.in-Got.cod (bits_left t.args.bytes.now t.args.count t.in-Got.next.bit) t.in-Got.next
cod t = is_number _ _ _ _ _ (cod_read-at2 t) t.in-Got.is

cod_read-at3 : (c : Else-cod-eq1) → as_number c.args.bytes.now c.args.count c.once-read.result ≡ field {P = counted} 1 (bits_left c.args.bytes.now c.args.count c.args.at.bit) c.args.at
cod_read-at3 c = number_once (once_field 1) _ _ _ c.field.result c.once-read.ensures c.field.ensures

cod-at2 : (t : Else-cod-eq1) → field {P = counted} 1 (bits_left t.args.bytes.now t.args.count t.args.at.bit) t.args.at
    ≡ got t.in-Got.cod (bits_left t.args.bytes.now t.args.count t.in-Got.next.bit) t.in-Got.next
cod-at2 t = is_number _ _ _ _ _ (cod_read-at3 t) t.in-Got.is

cod_read-at4 : (c : After-kind_found-2) → as_number c.args.bytes.now c.args.count c.once-read.result ≡ field {P = counted} 1 (bits_left c.args.bytes.now c.args.count c.args.at.bit) c.args.at
cod_read-at4 c = number_once (once_field 1) _ _ _ c.field.result c.once-read.ensures c.field.ensures

cod-at3 : (t : After-kind_found-2) → field {P = counted} 1 (bits_left t.args.bytes.now t.args.count t.args.at.bit) t.args.at
    ≡ got t.in-Got.cod (bits_left t.args.bytes.now t.args.count t.in-Got.next.bit) t.in-Got.next
cod-at3 t = is_number _ _ _ _ _ (cod_read-at4 t) t.in-Got.is

small : (t : After-kind_found-2) → t.in-Got.cod < 2 ^ 1
small t = (onward _ _ _ _ _ (reads_field 1 tt) t.requires.placed.within.inside (cod-at3 t)).good

pub returns-then-intra : goal.returns-then-intra
returns-then-intra c = found_intra _ _ _ _ c.if-intra.true c.kind_found.ensures

pub field-requires : goal.field-requires
field-requires c = (c.requires.placed.within, search rules)

pub once-read-requires : goal.once-read-requires
once-read-requires c = let l = c.requires.placed.countable in omega arith

pub returns-in_default : goal.returns-in_default
returns-in_default c =
    ap refused c.stopped.ensures
    ∙ found_refused _ _ _ c.if-intra.false _ (no_number _ _ c.once-read.result c.in_default.is (cod_read c))

pub returns-then-cod-eq1 : goal.returns-then-cod-eq1
returns-then-cod-eq1 c =
    found_unsent _ _ _ c.if-intra.false _ _ _ (cod c) c.if-cod-eq1.true

pub kind_found-requires-2 : goal.kind_found-requires-2
kind_found-requires-2 c =
    record { tabled = c.requires.tabled; placed = within_next _ _ _ _ _ (reads_field 1 tt) c.requires.placed (cod-at2 c) }

pub returns : goal.returns
returns c =
    found_sent _ _ _ c.if-intra.false _ _ _ (cod-at3 c) (small c) c.if-cod-eq1.false _ c.kind_found-2.ensures
