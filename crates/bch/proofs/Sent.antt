-- The document's numbers; and a word as H.261 5.4 sends it, 493 bits and their parity, is a codeword. Assumes nothing.
use mathlib.Core.Path.{◌≡◌, refl, sym, ap, ap₂, ◌∙◌}
use Prim.Native.Nat.{ℕ, ◌+◌, ◌^◌, ◌<◌}
use lib.Dec.{eqb, lit<, eqb→eq}
use lib.Bits.{xor_self, xor_zero_r}
use lib.ListN.{replicate, length-append}
use Rattle.laws.proofs.Table.{all_at}
use Rattle.laws.specs.Xor.{◌⊕◌}
use Rattle.laws.proofs.Xor.{additive_same}
use Rattle.bits.specs.Bits.{bit0, bits_of}
use Rattle.bits.proofs.Fields.{length-bits_of}
use Rattle.bch.specs.Division.{up, fed}
use Rattle.bch.proofs.Division.{fed-append, fed-lt}
use Rattle.bch.specs.Code.{generator, remainder, parity}
use Rattle.bch.specs.Theorems.{times, Product, Example, SentDivided}
use Rattle.bch.proofs.Syndrome.{bits_xor}

pub product : Product
unfolding times
product = refl

pub example : Example
unfolding parity fed up
example = refl

-- 18 bits alone leave their number
alone : (x : ℕ) → x < 2 ^ 18 → fed generator (bits_of 18 x) 0 ≡ x
unfolding fed up
alone =
    additive_same (λ x. fed generator (bits_of 18 x) 0) (λ x. x) (λ a b. bits_xor generator 18 a b 0 0) (λ a b. refl) 18
    (λ n l. eqb→eq _ (2 ^ n) (all_at 18 (λ n. eqb (fed generator (bits_of 18 (2 ^ n)) 0) (2 ^ n)) tt n l))

pub sent_divided : SentDivided
unfolding parity
sent_divided w size =
    record {
      size = length-append w (bits_of 18 x) ∙ ap₂ ◌+◌ size (length-bits_of 18 x);
      divided =
          fed-append generator w (bits_of 18 x) 0
          ∙ ap (λ (y : ℕ). fed generator (bits_of 18 y) (remainder w)) (sym (xor_zero_r x))
          ∙ bits_xor generator 18 x 0 0 (remainder w) ∙ ap (λ (y : ℕ). y ⊕ x) (alone x below) ∙ xor_self x;
    }
  where
    x : ℕ
    x = fed generator (replicate 18 bit0) (remainder w)

    below : x < 2 ^ 18
    below = fed-lt generator (lit< tt) (replicate 18 bit0) (remainder w) (fed-lt generator (lit< tt) w 0 (lit< tt))
