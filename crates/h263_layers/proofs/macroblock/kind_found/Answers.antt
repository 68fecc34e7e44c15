-- `h263_layers::macroblock::kind_found` meets its contract: a codeword of the picture's table of MCBPC, or its refusal, and then by what it means.
use mathlib.Core.Path.{◌≡◌, ap, ◌∙◌}
use native.Mathlib.Omega.{arith}
use Rattle.bits.specs.Bits.{bits_left}
use Rattle.bits.specs.Places.{counted}
use Rattle.bits.specs.Read.{got, refused}
use Rattle.bits.specs.Code.{word}
use Rattle.bits.proofs.Once.{once_word}
use Rattle.fields.specs.Answer.{as_number}
use Rattle.fields.proofs.Told.{no_number, is_number, number_once}
use Rattle.h263_words.specs.Tables.{mcbpc_of}
use Rattle.h263_layers.proofs.MacroblockSteps.{kind_refused, kind_stuffed, kind_four, kind_coded}
use Rattle.h263_layers.proofs.macroblock.kind_found.Goals as goal
use Rattle.h263_layers.proofs.macroblock.kind_found.Goals.{After-stopped, Else-kind-eq5, Then-kind-eq24, Then-kind-eq5}

kind_read : (c : After-stopped) → as_number c.args.bytes.now c.args.count c.once-read.result ≡ word {P = counted} (mcbpc_of c.args.intra) (bits_left c.args.bytes.now c.args.count c.args.at.bit) c.args.at
kind_read c = number_once (once_word (mcbpc_of c.args.intra)) _ _ _ c.mcbpc.result c.once-read.ensures c.mcbpc.ensures

kind_read-at2 : (c : Then-kind-eq24) → as_number c.args.bytes.now c.args.count c.once-read.result ≡ word {P = counted} (mcbpc_of c.args.intra) (bits_left c.args.bytes.now c.args.count c.args.at.bit) c.args.at
kind_read-at2 c = number_once (once_word (mcbpc_of c.args.intra)) _ _ _ c.mcbpc.result c.once-read.ensures c.mcbpc.ensures

kind : (t : Then-kind-eq24) → word {P = counted} (mcbpc_of t.args.intra) (bits_left t.args.bytes.now t.args.count t.args.at.bit) t.args.at
    ≡ got t.in-Got.kind (bits_left t.args.bytes.now t.args.count t.in-Got.next.bit) t.in-Got.next
kind t = is_number _ _ _ _ _ (kind_read-at2 t) t.in-Got.is

kind_read-at3 : (c : Then-kind-eq5) → as_number c.args.bytes.now c.args.count c.once-read.result ≡ word {P = counted} (mcbpc_of c.args.intra) (bits_left c.args.bytes.now c.args.count c.args.at.bit) c.args.at
kind_read-at3 c = number_once (once_word (mcbpc_of c.args.intra)) _ _ _ c.mcbpc.result c.once-read.ensures c.mcbpc.ensures

kind-at2 : (t : Then-kind-eq5) → word {P = counted} (mcbpc_of t.args.intra) (bits_left t.args.bytes.now t.args.count t.args.at.bit) t.args.at
    ≡ got t.in-Got.kind (bits_left t.args.bytes.now t.args.count t.in-Got.next.bit) t.in-Got.next
kind-at2 t = is_number _ _ _ _ _ (kind_read-at3 t) t.in-Got.is

kind_read-at4 : (c : Else-kind-eq5) → as_number c.args.bytes.now c.args.count c.once-read.result ≡ word {P = counted} (mcbpc_of c.args.intra) (bits_left c.args.bytes.now c.args.count c.args.at.bit) c.args.at
kind_read-at4 c = number_once (once_word (mcbpc_of c.args.intra)) _ _ _ c.mcbpc.result c.once-read.ensures c.mcbpc.ensures

kind-at3 : (t : Else-kind-eq5) → word {P = counted} (mcbpc_of t.args.intra) (bits_left t.args.bytes.now t.args.count t.args.at.bit) t.args.at
    ≡ got t.in-Got.kind (bits_left t.args.bytes.now t.args.count t.in-Got.next.bit) t.in-Got.next
kind-at3 t = is_number _ _ _ _ _ (kind_read-at4 t) t.in-Got.is

pub mcbpc-requires : goal.mcbpc-requires
mcbpc-requires c = (c.requires.tabled, c.requires.placed.within)

pub once-read-requires : goal.once-read-requires
once-read-requires c = let l = c.requires.placed.countable in omega arith

pub returns-in_default : goal.returns-in_default
returns-in_default c =
    ap refused c.stopped.ensures
    ∙ kind_refused c.args.intra _ _ _ (no_number _ _ c.once-read.result c.in_default.is (kind_read c))

pub returns-then-kind-eq24 : goal.returns-then-kind-eq24
returns-then-kind-eq24 c = kind_stuffed c.args.intra _ _ _ _ _ (kind c) c.if-kind-eq24.true

pub returns-then-kind-eq5 : goal.returns-then-kind-eq5
returns-then-kind-eq5 c = kind_four c.args.intra _ _ _ _ _ (kind-at2 c) c.if-kind-eq24.false c.if-kind-eq5.true

pub returns : goal.returns
returns c = kind_coded c.args.intra _ _ _ _ _ (kind-at3 c) c.if-kind-eq24.false c.if-kind-eq5.false
