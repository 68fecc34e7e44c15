-- Laws of TCOEF: what a read of an event comes to, by what its codeword means and what stands behind it. Assumes nothing.
use mathlib.Core.Path.{◌≡◌}
use mathlib.Core.Bool.{true, false}
use mathlib.Core.List.{List}
use Prim.Native.Nat.{ℕ, ◌/◌, ◌%◌}
use borrow.Author.Tests.{eq-eqb, ne_eqb}
use Rattle.refusals.specs.declared.Reason.TheVariants.{Forbidden}
use Rattle.bits.specs.Bits.{Bit}
use Rattle.bits.specs.Places.{plain}
use Rattle.bits.specs.Read.{Read, got, bad, next, settle, moved_read, field}
use Rattle.bits.specs.Code.{word}
use Rattle.layout.specs.Numbers.{forbidden, signed_code}
use Rattle.h263_words.specs.Tables.{escape, tcoef}
use Rattle.h263_words.specs.Words.{Event, event_of, escaped, tabled, tcoef_read, allowed, event_read}

module _ (bs : List Bit) (at m : ℕ) (cs : List Bit) (p : ℕ) (e : word {P = plain} tcoef bs at ≡ got m cs p) where
  escape_from : m ≡ escape → (x : Read Event) → escaped cs p ≡ x → event_read {P = plain} bs at ≡ next (moved_read at x) (λ a. settle at (allowed a))
  unfolding tcoef_read event_read
  escape_from z x f = rw (e, eq-eqb m escape z, f)

  pub escape_read : m ≡ escape → (last : ℕ) (ds : List Bit) (q run : ℕ) (es : List Bit) (r code : ℕ) (fs : List Bit) (t : ℕ)
      → field {P = plain} 1 cs p ≡ got last ds q → field {P = plain} 6 ds q ≡ got run es r → field {P = plain} 8 es r ≡ got code fs t → event_read {P = plain} bs at ≡ settle at (allowed (event_of last run code)) fs t
  escape_read z last ds q run es r code fs t f g h = escape_from z (got (event_of last run code) fs t) (rw (f, g, h))

  tabled_from : (m ≡ escape → ⊥) → (x : Read Event) → tabled m cs p ≡ x → event_read {P = plain} bs at ≡ next (moved_read at x) (λ a. settle at (allowed a))
  unfolding tcoef_read event_read
  tabled_from z x f = rw (e, ne_eqb m escape z, f)

  pub tabled_read : (m ≡ escape → ⊥) → (s : ℕ) (ds : List Bit) (q : ℕ) → field {P = plain} 1 cs p ≡ got s ds q
      → event_read {P = plain} bs at ≡ settle at (allowed (event_of (m / 1024) (m / 16 % 64) (signed_code s (m % 16)))) ds q
  tabled_read z s ds q f = tabled_from z (got (event_of (m / 1024) (m / 16 % 64) (signed_code s (m % 16))) ds q) (rw f)

-- ---- refusal 10
pub settle-allowed : (at last run code : ℕ) (cs : List Bit) (p : ℕ) → forbidden code ≡ false → settle {P = plain} at (allowed (event_of last run code)) cs p ≡ got (event_of last run code) cs p
settle-allowed at last run code cs p e = rw e

pub settle-forbidden : (at last run code : ℕ) (cs : List Bit) (p : ℕ) → forbidden code ≡ true → settle at (allowed (event_of last run code)) cs p ≡ bad Forbidden at
settle-forbidden at last run code cs p e = rw e
