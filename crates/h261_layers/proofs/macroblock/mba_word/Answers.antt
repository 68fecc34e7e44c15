-- `h261_layers::macroblock::mba_word` meets its contract: a codeword of Table 1, or its refusal, and then by what it means.
use mathlib.Core.Path.{◌≡◌, ap, ◌∙◌}
use Rattle.bits.specs.Bits.{bits_left}
use Rattle.bits.specs.Places.{counted}
use Rattle.bits.specs.Read.{got, refused}
use Rattle.bits.specs.Code.{word}
use Rattle.h261_words.specs.Tables.{table1}
use native.Mathlib.Omega.{arith}
use Rattle.bits.proofs.Once.{once_word}
use Rattle.fields.specs.Answer.{as_number}
use Rattle.fields.proofs.Told.{no_number, is_number, number_once}
use Rattle.h261_layers.proofs.MacroblockSteps.{mba-refused, mba-stuffed, mba_start_last, mba_start, mba_past, mba-step}
use Rattle.h261_layers.proofs.macroblock.mba_word.Goals as goal
use Rattle.h261_layers.proofs.macroblock.mba_word.Goals.{After-stopped, Else-address-step-gt33, Else-last, Then-address-step-gt33, Then-last, Then-meaning-eq34}

mba_read : (c : After-stopped) → as_number c.args.bytes.now c.args.count c.once-read.result ≡ word {P = counted} table1 (bits_left c.args.bytes.now c.args.count c.args.at.bit) c.args.at
mba_read c = number_once (once_word table1) _ _ _ c.mba.result c.once-read.ensures c.mba.ensures

mba_read-at2 : (c : Then-meaning-eq34) → as_number c.args.bytes.now c.args.count c.once-read.result ≡ word {P = counted} table1 (bits_left c.args.bytes.now c.args.count c.args.at.bit) c.args.at
mba_read-at2 c = number_once (once_word table1) _ _ _ c.mba.result c.once-read.ensures c.mba.ensures

found : (t : Then-meaning-eq34) → word {P = counted} table1 (bits_left t.args.bytes.now t.args.count t.args.at.bit) t.args.at
    ≡ got t.in-Got.meaning (bits_left t.args.bytes.now t.args.count t.in-Got.next.bit) t.in-Got.next
found t = is_number _ _ _ _ _ (mba_read-at2 t) t.in-Got.is

mba_read-at3 : (c : Then-last) → as_number c.args.bytes.now c.args.count c.once-read.result ≡ word {P = counted} table1 (bits_left c.args.bytes.now c.args.count c.args.at.bit) c.args.at
mba_read-at3 c = number_once (once_word table1) _ _ _ c.mba.result c.once-read.ensures c.mba.ensures

found-at2 : (t : Then-last) → word {P = counted} table1 (bits_left t.args.bytes.now t.args.count t.args.at.bit) t.args.at
    ≡ got t.in-Got.meaning (bits_left t.args.bytes.now t.args.count t.in-Got.next.bit) t.in-Got.next
found-at2 t = is_number _ _ _ _ _ (mba_read-at3 t) t.in-Got.is

mba_read-at4 : (c : Else-last) → as_number c.args.bytes.now c.args.count c.once-read.result ≡ word {P = counted} table1 (bits_left c.args.bytes.now c.args.count c.args.at.bit) c.args.at
mba_read-at4 c = number_once (once_word table1) _ _ _ c.mba.result c.once-read.ensures c.mba.ensures

found-at3 : (t : Else-last) → word {P = counted} table1 (bits_left t.args.bytes.now t.args.count t.args.at.bit) t.args.at
    ≡ got t.in-Got.meaning (bits_left t.args.bytes.now t.args.count t.in-Got.next.bit) t.in-Got.next
found-at3 t = is_number _ _ _ _ _ (mba_read-at4 t) t.in-Got.is

mba_read-at5 : (c : Then-address-step-gt33) → as_number c.args.bytes.now c.args.count c.once-read.result ≡ word {P = counted} table1 (bits_left c.args.bytes.now c.args.count c.args.at.bit) c.args.at
mba_read-at5 c = number_once (once_word table1) _ _ _ c.mba.result c.once-read.ensures c.mba.ensures

found-at4 : (t : Then-address-step-gt33) → word {P = counted} table1 (bits_left t.args.bytes.now t.args.count t.args.at.bit) t.args.at
    ≡ got t.in-Got.meaning (bits_left t.args.bytes.now t.args.count t.in-Got.next.bit) t.in-Got.next
found-at4 t = is_number _ _ _ _ _ (mba_read-at5 t) t.in-Got.is

mba_read-at6 : (c : Else-address-step-gt33) → as_number c.args.bytes.now c.args.count c.once-read.result ≡ word {P = counted} table1 (bits_left c.args.bytes.now c.args.count c.args.at.bit) c.args.at
mba_read-at6 c = number_once (once_word table1) _ _ _ c.mba.result c.once-read.ensures c.mba.ensures

found-at5 : (t : Else-address-step-gt33) → word {P = counted} table1 (bits_left t.args.bytes.now t.args.count t.args.at.bit) t.args.at
    ≡ got t.in-Got.meaning (bits_left t.args.bytes.now t.args.count t.in-Got.next.bit) t.in-Got.next
found-at5 t = is_number _ _ _ _ _ (mba_read-at6 t) t.in-Got.is

pub mba-requires : goal.mba-requires
mba-requires c = (c.requires.0.tabled, c.requires.0.placed.within)

pub once-read-requires : goal.once-read-requires
once-read-requires c = let l = c.requires.0.placed.countable in omega arith

pub returns-in_default : goal.returns-in_default
returns-in_default c =
    ap refused c.stopped.ensures
    ∙ mba-refused c.args.last c.args.address _ _ _ (no_number _ _ c.once-read.result c.in_default.is (mba_read c))

pub returns-then-meaning-eq34 : goal.returns-then-meaning-eq34
returns-then-meaning-eq34 c = mba-stuffed c.args.last c.args.address _ _ _ _ _ (found c) c.if-meaning-eq34.true

pub returns-then-last : goal.returns-then-last
returns-then-last c = mba_start_last c.args.last c.args.address _ _ _ _ _ (found-at2 c) c.if-meaning-eq34.false c.if-meaning-eq35.true c.if-last.true

pub returns-then-meaning-eq35 : goal.returns-then-meaning-eq35
returns-then-meaning-eq35 c = mba_start c.args.last c.args.address _ _ _ _ _ (found-at3 c) c.if-meaning-eq34.false c.if-meaning-eq35.true c.if-last.false

pub returns-then-address-step-gt33 : goal.returns-then-address-step-gt33
returns-then-address-step-gt33 c = mba_past c.args.last c.args.address _ _ _ _ _ (found-at4 c) c.if-meaning-eq34.false c.if-meaning-eq35.false c.if-address-step-gt33.true

pub returns : goal.returns
returns c = mba-step c.args.last c.args.address _ _ _ _ _ (found-at5 c) c.if-meaning-eq34.false c.if-meaning-eq35.false c.if-address-step-gt33.false
