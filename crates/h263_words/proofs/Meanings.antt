-- What the codewords of each table can mean, and that no codeword of a table is a beginning of another: a computed test for each. Assumes nothing.
use mathlib.Core.Path.{◌≡◌}
use mathlib.Core.Bool.{Bool, true, false}
use Prim.Native.Nat.{ℕ, ◌%◌, ◌≤◌}
use native.Mathlib.Omega.{arith}
use borrow.Author.Tests.{ne_eqb}
use lib.Dec.{T, eqb, ltb, leb, leb→le}
use Rattle.laws.specs.Choice.{pick, both, either}
use Rattle.laws.proofs.Choice.{both_left, both_right, either_right}
use Rattle.bits.proofs.Codes.{each, free}
use Rattle.layout.specs.Numbers.{within}
use Rattle.h263_words.specs.Tables.{kind, stuffing, mcbpc_intra, mcbpc_inter, mcbpc_of, cbpy, mvd, escape, tcoef}
use Rattle.h263_words.specs.Words.{type_in, chroma_in}

-- stuffing, or a type that the picture may have: INTRA ones in an INTRA picture, and INTER4V, which is refused, in an INTER one
abbrev pub kind_meant : Bool → ℕ → Bool
kind_meant intra m = either (eqb m stuffing) (within 1 (pick intra 2 5) (type_in m))

pub mcbpc_meanings : (intra : Bool) → T (each (kind_meant intra) (mcbpc_of intra).entries)
unfolding mcbpc_intra mcbpc_inter
mcbpc_meanings true = tt
mcbpc_meanings false = tt

-- a meaning that isn't stuffing has such a type
pub record KindFits (most m : ℕ) : Type 0 where
  pub some : 1 ≤ type_in m
  pub known : type_in m ≤ most
  pub chroma : chroma_in m ≤ 3

pub kind_fits : (intra : Bool) (m : ℕ) → T (kind_meant intra m) → (m ≡ stuffing → ⊥) → KindFits (pick intra 2 5) m
kind_fits intra m t n =
    let u = either_right (eqb m stuffing) _ (ne_eqb m stuffing n) t in
    record {
      some = leb→le 1 (type_in m) (both_left (leb 1 (type_in m)) _ u);
      known = leb→le (type_in m) (pick intra 2 5) (both_right (leb 1 (type_in m)) _ u);
      chroma = omega arith;
    }

-- and the two parts of a meaning are those that it was made of
pub kind_type : (type chroma : ℕ) → chroma ≤ 3 → type_in (kind type chroma) ≡ type
kind_type type chroma l = omega arith

pub kind_chroma : (type chroma : ℕ) → chroma ≤ 3 → chroma_in (kind type chroma) ≡ chroma
kind_chroma type chroma l = omega arith

pub cbpy_meanings : T (each (λ m. ltb m 16) cbpy.entries)
unfolding cbpy
cbpy_meanings = tt

pub mvd_meanings : T (each (λ m. ltb m 64) mvd.entries)
unfolding mvd
mvd_meanings = tt

-- an escape, or an event with a level
abbrev pub event_meant : ℕ → Bool
event_meant m = both (ltb m 2048) (either (eqb m escape) (leb 1 (m % 16)))

pub tcoef_meanings : T (each event_meant tcoef.entries)
unfolding tcoef
tcoef_meanings = tt

pub mcbpc_free : (intra : Bool) → T (free (mcbpc_of intra).entries)
unfolding mcbpc_intra mcbpc_inter
mcbpc_free true = tt
mcbpc_free false = tt

pub cbpy-free : T (free cbpy.entries)
unfolding cbpy
cbpy-free = tt

pub mvd-free : T (free mvd.entries)
unfolding mvd
mvd-free = tt

pub tcoef-free : T (free tcoef.entries)
unfolding tcoef
tcoef-free = tt
