-- Laws of Table 5: what a read of a coefficient comes to, by what its codeword means and what stands behind it. Assumes nothing.
use mathlib.Core.Path.{◌≡◌}
use mathlib.Core.Bool.{true, false}
use mathlib.Core.List.{List}
use Prim.Native.Nat.{ℕ, ◌/◌, ◌%◌}
use borrow.Author.Tests.{eq-eqb, ne_eqb}
use Rattle.refusals.specs.declared.Reason.{Reason}
use Rattle.refusals.specs.declared.Reason.TheVariants.{BitsEnd, Forbidden}
use Rattle.bits.specs.Bits.{Bit}
use Rattle.bits.specs.Places.{plain}
use Rattle.bits.specs.Read.{Read, got, bad, next, settle, moved_read, field}
use Rattle.bits.specs.Code.{CodeTable, word}
use Rattle.h261_words.specs.Tables.{end_of_block, escape}
use Rattle.h261_words.specs.Words.{Event, sent, over, escaped, paired, tcoeff, allowed, coefficient_read}
use Rattle.layout.specs.Value.{coefficient}
use Rattle.layout.specs.Numbers.{forbidden, signed_code}

module _ (table : CodeTable) (bs : List Bit) (at : ℕ) where
  pub coefficient_refused : (r : Reason) → word table bs at ≡ bad r at → coefficient_read {P = plain} table bs at ≡ bad r at
  unfolding tcoeff coefficient_read
  coefficient_refused r e = rw e

  module _ (m : ℕ) (cs : List Bit) (p : ℕ) (e : word {P = plain} table bs at ≡ got m cs p) where
    pub end_read : m ≡ end_of_block → coefficient_read {P = plain} table bs at ≡ got over cs p
    unfolding tcoeff coefficient_read
    end_read z = rw (e, eq-eqb m end_of_block z)

    module _ (n : m ≡ end_of_block → ⊥) (z : m ≡ escape) where
      pub escape_from : (x : Read Event) → escaped cs p ≡ x → coefficient_read {P = plain} table bs at ≡ next (moved_read at x) (λ a. settle at (allowed a))
      unfolding tcoeff coefficient_read
      escape_from x f = rw (e, ne_eqb m end_of_block n, eq-eqb m escape z, f)

      pub escape_short_run : field 6 cs p ≡ bad BitsEnd p → coefficient_read {P = plain} table bs at ≡ bad BitsEnd at
      escape_short_run f = escape_from (bad BitsEnd p) (rw f)

      pub escape_short_level : (run : ℕ) (ds : List Bit) (q : ℕ) → field {P = plain} 6 cs p ≡ got run ds q → field 8 ds q ≡ bad BitsEnd q → coefficient_read {P = plain} table bs at ≡ bad BitsEnd at
      escape_short_level run ds q f g = escape_from (bad BitsEnd q) (rw (f, g))

      pub escape_read : (run : ℕ) (ds : List Bit) (q code : ℕ) (es : List Bit) (r : ℕ) → field {P = plain} 6 cs p ≡ got run ds q → field {P = plain} 8 ds q ≡ got code es r
          → coefficient_read {P = plain} table bs at ≡ settle at (allowed (sent (coefficient run code))) es r
      escape_read run ds q code es r f g = escape_from (got (sent (coefficient run code)) es r) (rw (f, g))

    module _ (n : m ≡ end_of_block → ⊥) (z : m ≡ escape → ⊥) where
      pub pair_from : (x : Read Event) → paired m cs p ≡ x → coefficient_read {P = plain} table bs at ≡ next (moved_read at x) (λ a. settle at (allowed a))
      unfolding tcoeff coefficient_read
      pair_from x f = rw (e, ne_eqb m end_of_block n, ne_eqb m escape z, f)

      pub pair_short : field 1 cs p ≡ bad BitsEnd p → coefficient_read {P = plain} table bs at ≡ bad BitsEnd at
      pair_short f = pair_from (bad BitsEnd p) (rw f)

      pub pair_read : (s : ℕ) (ds : List Bit) (q : ℕ) → field {P = plain} 1 cs p ≡ got s ds q
          → coefficient_read {P = plain} table bs at ≡ settle at (allowed (sent (coefficient (m / 16) (signed_code s (m % 16))))) ds q
      pair_read s ds q f = pair_from (got (sent (coefficient (m / 16) (signed_code s (m % 16)))) ds q) (rw f)

-- ---- refusal 10
pub settle-allowed : (at run code : ℕ) (cs : List Bit) (p : ℕ) → forbidden code ≡ false → settle {P = plain} at (allowed (sent (coefficient run code))) cs p ≡ got (sent (coefficient run code)) cs p
settle-allowed at run code cs p e = rw e

pub settle-forbidden : (at run code : ℕ) (cs : List Bit) (p : ℕ) → forbidden code ≡ true → settle at (allowed (sent (coefficient run code))) cs p ≡ bad Forbidden at
settle-forbidden at run code cs p e = rw e
