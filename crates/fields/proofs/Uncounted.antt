-- A counted read without its count, and its count: the plain read, and the length of the list of reads. Assumes nothing.
use Prim.Native.Nat.{ℕ}
use mathlib.Core.Path.{◌≡◌, refl}
use lib.ListN.{length}
use Rattle.bits.specs.Places.{plain, counted, listed}
use Rattle.bits.specs.Read.{ReadIn, Read, got, refused, endless, seen_read, widths_in}
use Rattle.fields.specs.Answer.{map_read}

abbrev pub uncounted : {A : Type 0} → ReadIn counted A → Read A
uncounted (got a bs p) = got a bs p.bit
uncounted (refused r) = refused r.refusal
uncounted endless = endless

abbrev pub count_in : {A : Type 0} → ReadIn counted A → ℕ
count_in (got a bs p) = p.reads
count_in (refused r) = r.reads
count_in endless = 0

module _ {A : Type 0} where
  pub seen_uncounted : (x : ReadIn listed A) → uncounted (seen_read counted x) ≡ seen_read plain x
  seen_uncounted (got a bs p) = refl
  seen_uncounted (refused r) = refl
  seen_uncounted endless = refl

  pub seen_count : (x : ReadIn listed A) → count_in (seen_read counted x) ≡ length (widths_in x)
  seen_count (got a bs p) = refl
  seen_count (refused r) = refl
  seen_count endless = refl

  pub map-uncounted : {B : Type 0} (g : A → B) (x : ReadIn counted A) → uncounted (map_read g x) ≡ map_read g (uncounted x)
  map-uncounted g (got a bs p) = refl
  map-uncounted g (refused r) = refl
  map-uncounted g endless = refl

  pub map_count : {B : Type 0} (g : A → B) (x : ReadIn counted A) → count_in (map_read g x) ≡ count_in x
  map_count g (got a bs p) = refl
  map_count g (refused r) = refl
  map_count g endless = refl
