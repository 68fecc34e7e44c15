-- `h263_words::mcbpc_codeword` meets its contract: in either picture's table the entry by the meaning spells the codeword.
use Prim.Native.Nat.{◌<◌}
use native.Mathlib.Omega.{arith}
use Rattle.bits.proofs.Codewords.{entry_writes}
use Rattle.h263_words.specs.Tables.{mcbpc_intra, mcbpc_inter}
use Rattle.h263_words.specs.Lookup.{intra_words_at, inter_words_at}
use Rattle.h263_words.proofs.Codewords.{kind_low}
use Rattle.h263_words.proofs.mcbpc_codeword.Goals as goal
use Rattle.h263_words.proofs.mcbpc_codeword.Goals.{After-spelt, After-spelt-2, After-spelt-arg-1, After-spelt-arg-2-1}

low : (c : After-spelt-arg-1) → c.args.meaning < 25
low c = kind_low c.args.intra c.args.meaning c.requires.known

low-at2 : (c : After-spelt) → c.args.meaning < 25
low-at2 c = kind_low c.args.intra c.args.meaning c.requires.known

low-at3 : (c : After-spelt-arg-2-1) → c.args.meaning < 25
low-at3 c = kind_low c.args.intra c.args.meaning c.requires.known

low-at4 : (c : After-spelt-2) → c.args.meaning < 25
low-at4 c = kind_low c.args.intra c.args.meaning c.requires.known

pub overflow_add-meaning : goal.overflow_add-meaning
overflow_add-meaning c = omega (arith, low c)

pub spelt-requires : goal.spelt-requires
spelt-requires c = omega (arith, low c)

pub returns-then-intra : goal.returns-then-intra
returns-then-intra c =
    let is = c.if-intra.true in
    rw is (entry_writes c.args.tables.now intra_words_at 25 mcbpc_intra.entries c.requires.tables.intra_words c.args.meaning (low-at2 c) (rw is at c.requires.known) c.spelt.ensures)

pub overflow_add-meaning-2 : goal.overflow_add-meaning-2
overflow_add-meaning-2 c = omega (arith, low-at3 c)

pub spelt-requires-2 : goal.spelt-requires-2
spelt-requires-2 c = omega (arith, low-at3 c)

pub returns : goal.returns
returns c =
    let is = c.if-intra.false in
    rw is (entry_writes c.args.tables.now inter_words_at 25 mcbpc_inter.entries c.requires.tables.inter_words c.args.meaning (low-at4 c) (rw is at c.requires.known) c.spelt-2.ensures)
