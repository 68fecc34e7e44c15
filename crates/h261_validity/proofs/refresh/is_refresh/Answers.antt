-- `h261_validity::refresh::is_refresh` meets its contract. The loop's invariant: the macroblocks passed are sent as INTRA. Assumes nothing.
use borrow.Author.Tests.{not-true, not-false}
use native.Mathlib.Omega.{arith}
use native.Mathlib.Numerals.{add-one}
use native.Mathlib.Nat.{eq-or-lt_of_le, le_of_suc-le-suc, not-suc-le-zero}
use mathlib.Core.Path.{◌≡◌, refl, sym, ap, ◌∙◌}
use mathlib.Core.Bool.{Bool, true, false}
use mathlib.Core.List.{List, []}
use mathlib.Core.Logic.{⊎_elim}
use Prim.Native.Nat.{ℕ, zero, suc, ◌+◌, ◌*◌, ◌<◌}
use lib.ListN.{get_or}
use Rattle.laws.specs.Choice.{both}
use Rattle.laws.proofs.Choice.{first_no, second_no}
use Rattle.laws.specs.Table.{all_b}
use Rattle.h261_words.specs.Words.{is_intra}
use Rattle.h261_groups.specs.declared.Format.{Format}
use Rattle.h261_groups.specs.Order.{macroblock_count}
use Rattle.layout.specs.Flat.{flat}
use Rattle.h261_description.specs.Fields.{refresh}
use Rattle.h261_validity.proofs.refresh.is_refresh.Goals as goal

abbrev intra_at : List ℕ → ℕ → Bool
intra_at macroblocks n = is_intra (get_or macroblocks (n * 4) 0)

fails : (m : ℕ) (p : ℕ → Bool) (n : ℕ) → n < m → p n ≡ false → all_b m p ≡ false
fails zero p n l e = absurd (not-suc-le-zero l)
fails (suc m) p n l e =
    ⊎_elim (λ same. first_no (p m) (all_b m p) (ap p (sym same) ∙ e)) (λ less. second_no (p m) (all_b m p) (fails m p n less e)) (eq-or-lt_of_le (le_of_suc-le-suc l))

more : (p : ℕ → Bool) (n : ℕ) → all_b n p ≡ true → p n ≡ true → all_b (n + 1) p ≡ true
more p n h e = ap (λ (k : ℕ). all_b k p) (add-one n) ∙ (λ i. both (e i) (all_b n p)) ∙ h

is_all : (f : Format) (macroblocks : List ℕ) {count : ℕ} (b : Bool) → count ≡ macroblock_count f → all_b count (intra_at macroblocks) ≡ b → b ≡ refresh f (flat [] macroblocks [])
unfolding refresh
is_all f macroblocks b e h = sym h ∙ ap (λ (k : ℕ). all_b k (intra_at macroblocks)) e

all_passed : (p : ℕ → Bool) (n count : ℕ) → n ≡ count → all_b n p ≡ true → all_b count p ≡ true
all_passed p n count e h = ap (λ (k : ℕ). all_b k p) (sym e) ∙ h

pub loop-n-init : goal.loop-n-init
loop-n-init c = (omega arith, refl)

pub returns-then-not-is_intra : goal.returns-then-not-is_intra
returns-then-not-is_intra c =
    let macroblocks = c.args.macroblocks.now in
    is_all c.args.format macroblocks false c.macroblock_count-count.ensures
    (fails c.macroblock_count-count.result (intra_at macroblocks) c.loop-n.n (omega arith)
    (sym c.is_intra.ensures ∙ not-true _ c.if-not-is_intra.true-raw))

pub loop-n-preserved : goal.loop-n-preserved
loop-n-preserved c = (
  omega arith,
  more (intra_at c.args.macroblocks.now) c.loop-n.n c.loop-n.invariant.1 (sym c.is_intra.ensures ∙ not-false _ c.if-not-is_intra.false-raw),
)

pub returns : goal.returns
returns c =
    let macroblocks = c.args.macroblocks.now in
    is_all c.args.format macroblocks true c.macroblock_count-count.ensures
    (all_passed (intra_at macroblocks) c.loop-n.n c.macroblock_count-count.result (omega arith) c.loop-n.invariant.1)
