-- `h261_words::coefficient_codeword` meets its contract: a law for each return, by whether Table 5 has a code.
use Prim.Native.Nat.{◌+◌}
use native.Mathlib.Omega.{arith}
use borrow.Author.Rules.{rules}
use lib.ListN.{get_or}
use Rattle.bits.proofs.Codewords.{Spells, spelt_at, word_small, width_in, bits_in}
use Rattle.layout.proofs.Codes.{sign_small}
use Rattle.h261_words.specs.Tables.{pair, pairs}
use Rattle.h261_words.specs.Lookup.{pair_words_at}
use Rattle.h261_words.proofs.Codewords.{escape_large, escape_far, escape-none, pair-writes, one_first, one_later}
use Rattle.h261_words.proofs.coefficient_codeword.Goals as goal
use Rattle.h261_words.proofs.coefficient_codeword.Goals.{After-escape-then-width-eq0, Else-width-eq0}

spelling : (c : After-escape-then-width-eq0) → let a = c.args in let m = pair a.run c.magnitude-level.result in
    Spells pairs m (get_or a.tables.now (pair_words_at + m) 0)
spelling c =
    spelt_at c.args.tables.now pair_words_at 432 pairs c.requires.0.pair_words (pair c.args.run c.magnitude-level.result) (search rules)

spelling-at2 : (c : Else-width-eq0) → let a = c.args in let m = pair a.run c.magnitude-level.result in
    Spells pairs m (get_or a.tables.now (pair_words_at + m) 0)
spelling-at2 c =
    spelt_at c.args.tables.now pair_words_at 432 pairs c.requires.0.pair_words (pair c.args.run c.magnitude-level.result) (search rules)

pub returns-then-level-ge16 : goal.returns-then-level-ge16
returns-then-level-ge16 c =
    let a = c.args in
    rw c.escape.ensures
    (escape_large a.first a.run a.code _ _ c.requires.1 c.magnitude-level.ensures c.sign-minus.ensures c.if-level-ge16.true)

pub returns-then-run-ge27 : goal.returns-then-run-ge27
returns-then-run-ge27 c =
    let a = c.args in
    rw c.escape-then-run-ge27.ensures (escape_far a.first a.run a.code _ _ c.requires.1 c.magnitude-level.ensures
    c.sign-minus.ensures c.if-level-ge16.false c.if-run-ge27.true)

pub overflow_add-result : goal.overflow_add-result
overflow_add-result c = omega (arith, c.sign-minus.ensures, sign_small c.args.code)

pub returns-then-first : goal.returns-then-first
returns-then-first c =
    let a = c.args in
    one_first a.run a.code _ _ c.requires.1 c.magnitude-level.ensures c.sign-minus.ensures c.if-level-ge16.false
    c.if-pair-eq1.true a.first c.if-first.true

pub overflow_add-result-then-pair-eq1 : goal.overflow_add-result-then-pair-eq1
overflow_add-result-then-pair-eq1 c = omega (arith, c.sign-minus.ensures, sign_small c.args.code)

pub returns-then-pair-eq1 : goal.returns-then-pair-eq1
returns-then-pair-eq1 c =
    let a = c.args in
    one_later a.run a.code _ _ c.requires.1 c.magnitude-level.ensures c.sign-minus.ensures c.if-level-ge16.false
    c.if-pair-eq1.true a.first c.if-first.false

pub returns-then-width-eq0 : goal.returns-then-width-eq0
returns-then-width-eq0 c =
    let a = c.args in
    rw c.escape-then-width-eq0.ensures (escape-none a.first a.run a.code _ _ c.requires.1 c.magnitude-level.ensures
    c.sign-minus.ensures c.if-level-ge16.false _ _ (spelling c)
    c.if-pair-eq1.false (width_in _ c.spelt-word.ensures) c.if-width-eq0.true)

pub overflow_add-result-2 : goal.overflow_add-result-2
overflow_add-result-2 c = omega (arith, width_in _ c.spelt-word.ensures)

pub overflow_mul-result : goal.overflow_mul-result
overflow_mul-result c = omega (arith, bits_in _ c.spelt-word.ensures, word_small (spelling-at2 c))

pub overflow_add-result-3 : goal.overflow_add-result-3
overflow_add-result-3 c =
    omega (arith, c.sign-minus.ensures, sign_small c.args.code, bits_in _ c.spelt-word.ensures, word_small (spelling-at2 c))

pub returns : goal.returns
returns c =
    let a = c.args in
    pair-writes a.first a.run a.code _ _ c.requires.1 c.magnitude-level.ensures c.sign-minus.ensures c.if-level-ge16.false _ _ _ (spelling-at2 c)
    c.if-pair-eq1.false (width_in _ c.spelt-word.ensures) (bits_in _ c.spelt-word.ensures) c.if-width-eq0.false
