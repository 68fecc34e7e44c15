-- `h261_layers::vector::component` meets its contract: a pair is below 32, and its differences land by one test over all pairs.
use native.Mathlib.Omega.{arith}
use mathlib.Core.Path.{◌≡◌, ap, ◌∙◌}
use Prim.Native.Nat.{◌<◌}
use Rattle.bits.specs.Bits.{bits_left}
use Rattle.bits.specs.Places.{counted}
use Rattle.bits.specs.Read.{got, refused}
use Rattle.bits.specs.Code.{word}
use Rattle.bits.proofs.Once.{once_word}
use Rattle.fields.specs.Answer.{as_number}
use Rattle.fields.proofs.Told.{no_number, is_number, number_once}
use Rattle.h261_words.specs.Tables.{table3}
use Rattle.h261_layers.proofs.VectorSteps.{component-refused, component_out, component_in, pair_below}
use Rattle.h261_layers.proofs.vector.component.Goals as goal
use Rattle.h261_layers.proofs.vector.component.Goals.{After-stopped, In-Got}

pair_read : (c : After-stopped) → as_number c.args.bytes.now c.args.count c.once-read.result ≡ word {P = counted} table3 (bits_left c.args.bytes.now c.args.count c.args.at.bit) c.args.at
pair_read c = number_once (once_word table3) _ _ _ c.mvd.result c.once-read.ensures c.mvd.ensures

pair_read-at2 : (c : In-Got) → as_number c.args.bytes.now c.args.count c.once-read.result ≡ word {P = counted} table3 (bits_left c.args.bytes.now c.args.count c.args.at.bit) c.args.at
pair_read-at2 c = number_once (once_word table3) _ _ _ c.mvd.result c.once-read.ensures c.mvd.ensures

pair : (c : In-Got) → word {P = counted} table3 (bits_left c.args.bytes.now c.args.count c.args.at.bit) c.args.at
    ≡ got c.in-Got.difference (bits_left c.args.bytes.now c.args.count c.in-Got.next.bit) c.in-Got.next
pair c = is_number _ _ _ _ _ (pair_read-at2 c) c.in-Got.is

below : (c : In-Got) → c.in-Got.difference < 32
below c = pair_below _ _ _ _ _ c.requires.0.placed.within.inside (pair c)

pub mvd-requires : goal.mvd-requires
mvd-requires c = (c.requires.0.tabled, c.requires.0.placed.within)

pub once-read-requires : goal.once-read-requires
once-read-requires c = let l = c.requires.0.placed.countable in omega arith

pub returns-in_default : goal.returns-in_default
returns-in_default c =
    ap refused c.stopped.ensures
    ∙ component-refused _ c.requires.1 _ _ _ (no_number _ _ c.once-read.result c.in_default.is (pair_read c))

pub overflow_add-landed : goal.overflow_add-landed
overflow_add-landed c = omega (arith, below c, c.requires.1.high)

pub overflow_add-landed-2 : goal.overflow_add-landed-2
overflow_add-landed-2 c = omega (arith, below c, c.requires.1.high)

pub returns-then-landed-eq0 : goal.returns-then-landed-eq0
returns-then-landed-eq0 c =
    let at-in-got = (goal.at.returns-then-landed-eq0 c).In-Got in
    component_out _ c.requires.1 _ _ _ _ _ (pair at-in-got) (below at-in-got) c.if-landed-eq0.true

pub returns : goal.returns
returns c =
    let at-in-got = (goal.at.returns c).In-Got in
    component_in _ c.requires.1 _ _ _ _ _ (pair at-in-got) (below at-in-got) c.if-landed-eq0.false
