-- `h263_words::event_codeword` meets its contract: a law for each return, by whether TCOEF has a code.
use Prim.Native.Nat.{◌+◌}
use native.Mathlib.Omega.{arith}
use lib.ListN.{get_or}
use Rattle.bits.proofs.Codewords.{Spells, spelt_at, word_small, width_in, bits_in}
use Rattle.layout.proofs.Codes.{sign_small}
use Rattle.h263_words.specs.Tables.{event, tcoef}
use Rattle.h263_words.specs.Lookup.{event_words_at}
use Rattle.h263_words.proofs.Codewords.{escape_large, escape-none, event-writes}
use Rattle.h263_words.proofs.event_codeword.Goals as goal
use Rattle.h263_words.proofs.event_codeword.Goals.{After-escape-then-width-eq0, Else-width-eq0}

spelling : (c : After-escape-then-width-eq0) → let a = c.args in let m = event a.last a.run c.magnitude-level.result in
    Spells tcoef.entries m (get_or a.tables.now (event_words_at + m) 0)
spelling c =
    spelt_at c.args.tables.now event_words_at 2048 tcoef.entries c.requires.tables.event_words (event c.args.last c.args.run c.magnitude-level.result)
    (omega (arith, c.requires.last, c.requires.sendable.run, c.if-level-ge16.false))

spelling-at2 : (c : Else-width-eq0) → let a = c.args in let m = event a.last a.run c.magnitude-level.result in
    Spells tcoef.entries m (get_or a.tables.now (event_words_at + m) 0)
spelling-at2 c =
    spelt_at c.args.tables.now event_words_at 2048 tcoef.entries c.requires.tables.event_words (event c.args.last c.args.run c.magnitude-level.result)
    (omega (arith, c.requires.last, c.requires.sendable.run, c.if-level-ge16.false))

pub returns-then-level-ge16 : goal.returns-then-level-ge16
returns-then-level-ge16 c =
    let a = c.args in
    rw c.escape.ensures (escape_large a.last a.run a.code _ _ c.requires.last c.requires.sendable c.magnitude-level.ensures
    c.sign-minus.ensures c.if-level-ge16.true)

pub returns-then-width-eq0 : goal.returns-then-width-eq0
returns-then-width-eq0 c =
    let a = c.args in
    rw c.escape-then-width-eq0.ensures (escape-none a.last a.run a.code _ _ c.requires.last c.requires.sendable c.magnitude-level.ensures
    c.sign-minus.ensures c.if-level-ge16.false _ _ (spelling c) (width_in _ c.spelt-word.ensures) c.if-width-eq0.true)

pub overflow_add-result : goal.overflow_add-result
overflow_add-result c = omega (arith, width_in _ c.spelt-word.ensures)

pub overflow_mul-result : goal.overflow_mul-result
overflow_mul-result c = omega (arith, bits_in _ c.spelt-word.ensures, word_small (spelling-at2 c))

pub overflow_add-result-2 : goal.overflow_add-result-2
overflow_add-result-2 c =
    omega (arith, c.sign-minus.ensures, sign_small c.args.code, bits_in _ c.spelt-word.ensures, word_small (spelling-at2 c))

pub returns : goal.returns
returns c =
    let a = c.args in
    event-writes a.last a.run a.code _ _ c.requires.last c.requires.sendable c.magnitude-level.ensures c.sign-minus.ensures c.if-level-ge16.false _ _
    (spelling-at2 c) (width_in _ c.spelt-word.ensures) _ (bits_in _ c.spelt-word.ensures) c.if-width-eq0.false
