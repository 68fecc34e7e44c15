-- `vault::follows` meets its contract: at each `return` the tests that led there. Assumes nothing.
use borrow.Author.Tests.{le-leb, lt-leb, not-true, not-false}
use mathlib.Core.Path.{◌≡◌, sym, ap, ◌∙◌}
use mathlib.Core.Bool.{Bool}
use Rattle.vault.specs.declared.Header.{Header}
use Rattle.vault.specs.Block.{header_ruled, unused_clear, payload_of, fields_follow}
use Rattle.vault.proofs.follows.Goals as goal

of_header : {read own : Header} {told is : Bool} (test : Header → Bool) → told ≡ test read → read ≡ own → told ≡ is → test own ≡ is
of_header test e h t = sym (e ∙ ap test h) ∙ t

pub returns-then-not-ruled : goal.returns-then-not-ruled
unfolding fields_follow
returns-then-not-ruled c =
    simp (of_header (header_ruled c.args.size) c.ruled.ensures c.requires.1 (not-true _ c.if-not-ruled.true-raw))

pub returns-then-block-gt7 : goal.returns-then-block-gt7
unfolding fields_follow
returns-then-block-gt7 c =
    simp (
      of_header (header_ruled c.args.size) c.ruled.ensures c.requires.1 (not-false _ c.if-not-ruled.false-raw),
      lt-leb _ _ c.if-block-gt7.true,
    )

pub returns-then-not-unused_zero : goal.returns-then-not-unused_zero
unfolding fields_follow
returns-then-not-unused_zero c =
    simp (
      of_header (header_ruled c.args.size) c.ruled.ensures c.requires.1 (not-false _ c.if-not-ruled.false-raw),
      le-leb _ _ c.if-block-gt7.false,
      of_header (λ (h : Header). unused_clear h.used (payload_of c.args.block.now) 500) c.unused_zero.ensures c.requires.1
          (not-true _ c.if-not-unused_zero.true-raw),
    )

pub returns : goal.returns
unfolding fields_follow
returns c =
    simp (
      of_header (header_ruled c.args.size) c.ruled.ensures c.requires.1 (not-false _ c.if-not-ruled.false-raw),
      le-leb _ _ c.if-block-gt7.false,
      of_header (λ (h : Header). unused_clear h.used (payload_of c.args.block.now) 500) c.unused_zero.ensures c.requires.1
          (not-false _ c.if-not-unused_zero.false-raw),
    )
