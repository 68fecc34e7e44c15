-- `samples::draw::draw` meets its contract: by whether the block is INTRA, and whether there is anything to add. Assumes nothing.
use mathlib.Core.Path.{◌≡◌, sym, subst}
use mathlib.Core.Bool.{Bool, true, false}
use mathlib.Core.List.{List}
use Prim.Native.Nat.{ℕ}
use native.Mathlib.Omega.{arith}
use lib.IntN.{pos}
use Rattle.laws.specs.Rows.{Put}
use Rattle.quantiser.specs.Level.{bytes_from}
use Rattle.quantiser.specs.Sample.{sample_of}
use Rattle.samples.specs.Content.{difference_of, unless_intra}
use Rattle.samples.specs.Wrote.{block_from}
use Rattle.samples.proofs.Zero.{all_zero}
use Rattle.samples.proofs.Added.{put_output, put_nothing}
use Rattle.samples.proofs.draw.draw.Goals as goal

abbrev PutSent : (ℕ → ℕ) → ℕ → ℕ → ℕ → List ℕ → List ℕ → Bool → Type 0
PutSent bytes quantiser to stride s t intra =
    Put 8 8 to stride (λ i j. sample_of (unless_intra intra (block_from s to stride) i j) (difference_of bytes intra quantiser i j)) s t

intra_sent : {intra : Bool} (bytes : ℕ → ℕ) (q to stride : ℕ) {s t : List ℕ} → intra ≡ true → PutSent bytes q to stride s t true → PutSent bytes q to stride s t intra
intra_sent bytes q to stride {s} {t} e h = subst (PutSent bytes q to stride s t) (sym e) h

inter_sent : {intra : Bool} (bytes : ℕ → ℕ) (q to stride : ℕ) {s t : List ℕ} → intra ≡ false → PutSent bytes q to stride s t false → PutSent bytes q to stride s t intra
inter_sent bytes q to stride {s} {t} e h = subst (PutSent bytes q to stride s t) (sym e) h

pub returns-then-intra : goal.returns-then-intra
returns-then-intra c =
    let a = c.args in
    intra_sent (bytes_from a.levels.now a.at) a.quantiser a.to a.stride c.if-intra.true
    (put_output (λ i j. pos 0) c.output-output.ensures.is c.put.ensures)

pub returns-then-empty : goal.returns-then-empty
returns-then-empty c =
    let a = c.args in
    let bytes = bytes_from a.levels.now a.at in
    inter_sent bytes a.quantiser a.to a.stride c.if-intra.false
    (put_nothing a.store.now bytes a.quantiser (λ n. omega (arith, c.type_inv.store n)) (all_zero 64 bytes c.empty.ensures c.if-empty.true))

pub returns : goal.returns
returns c =
    let a = c.args in
    inter_sent (bytes_from a.levels.now a.at) a.quantiser a.to a.stride c.if-intra.false
    (put_output (block_from a.store.now a.to a.stride) c.output-output-2.ensures.is c.add.ensures)
