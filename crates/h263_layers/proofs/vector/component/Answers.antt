-- `h263_layers::vector::component` meets its contract: a word is below 64, and what lands of its two differences is the sum modulo 64.
use native.Mathlib.Omega.{arith}
use mathlib.Core.Path.{◌≡◌, ap, ◌∙◌}
use Prim.Native.Nat.{◌<◌}
use Rattle.bits.specs.Bits.{bits_left}
use Rattle.bits.specs.Places.{counted}
use Rattle.bits.specs.Read.{got, refused}
use Rattle.bits.specs.Code.{word}
use Rattle.bits.proofs.Once.{once_word}
use Rattle.fields.specs.Answer.{as_number}
use Rattle.fields.proofs.Told.{no_number, is_number, number_once}
use Rattle.h263_words.specs.Tables.{mvd}
use Rattle.h263_layers.proofs.VectorSteps.{component-refused, component_in, word_below}
use Rattle.h263_layers.proofs.vector.component.Goals as goal
use Rattle.h263_layers.proofs.vector.component.Goals.{After-stopped, In-Got}

word_read : (c : After-stopped) → as_number c.args.bytes.now c.args.count c.once-read.result ≡ word {P = counted} mvd (bits_left c.args.bytes.now c.args.count c.args.at.bit) c.args.at
word_read c = number_once (once_word mvd) _ _ _ c.mvd.result c.once-read.ensures c.mvd.ensures

word_read-at2 : (c : In-Got) → as_number c.args.bytes.now c.args.count c.once-read.result ≡ word {P = counted} mvd (bits_left c.args.bytes.now c.args.count c.args.at.bit) c.args.at
word_read-at2 c = number_once (once_word mvd) _ _ _ c.mvd.result c.once-read.ensures c.mvd.ensures

difference : (c : In-Got) → word {P = counted} mvd (bits_left c.args.bytes.now c.args.count c.args.at.bit) c.args.at
    ≡ got c.in-Got.difference (bits_left c.args.bytes.now c.args.count c.in-Got.next.bit) c.in-Got.next
difference c = is_number _ _ _ _ _ (word_read-at2 c) c.in-Got.is

below : (c : In-Got) → c.in-Got.difference < 64
below c = word_below _ _ _ _ _ c.requires.0.placed.within.inside (difference c)

pub mvd-requires : goal.mvd-requires
mvd-requires c = (c.requires.0.tabled, c.requires.0.placed.within)

pub once-read-requires : goal.once-read-requires
once-read-requires c = let l = c.requires.0.placed.countable in omega arith

pub returns-in_default : goal.returns-in_default
returns-in_default c =
    ap refused c.stopped.ensures ∙ component-refused c.args.predicted _ _ _ (no_number _ _ c.once-read.result c.in_default.is (word_read c))

pub overflow_add-result : goal.overflow_add-result
overflow_add-result c = omega (arith, below c, c.requires.1)

pub overflow_add-result-2 : goal.overflow_add-result-2
overflow_add-result-2 c = omega (arith, below c, c.requires.1)

pub returns : goal.returns
returns c = component_in c.args.predicted _ _ c.requires.1 _ _ _ (difference c) (below c)
