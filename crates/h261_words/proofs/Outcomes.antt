-- An entry of Table 5 that settles its codeword: what the read of a coefficient comes to, by the entry's two parts. Assumes nothing.
use mathlib.Core.Path.{◌≡◌, refl, sym, ap, ◌∙◌}
use mathlib.Core.Bool.{Bool, true, false}
use mathlib.Core.List.{List}
use Prim.Native.Nat.{ℕ, ◌+◌, ◌-◌, ◌/◌, ◌%◌, ◌^◌, ◌<◌, ◌≤◌}
use native.Mathlib.Nat.{mod-lt}
use native.Mathlib.Omega.{arith}
use borrow.Author.Tests.{ne_eqb}
use lib.Dec.{T, lit<, eqb, leb→le}
use lib.ListN.{get_or}
use Rattle.laws.specs.Choice.{pick}
use Rattle.laws.proofs.Choice.{either_right}
use Rattle.refusals.specs.declared.Reason.TheVariants.{BitsEnd, NoCodeword, Forbidden}
use Rattle.refusals.specs.declared.Table.{Table}
use Rattle.refusals.specs.declared.Table.TheVariants.{Tcoeff}
use Rattle.bits.specs.Bits.{value, bits_left}
use Rattle.bits.specs.Places.{plain}
use Rattle.bits.specs.Read.{got, bad, done, settle}
use Rattle.bits.specs.Settled.{part_place}
use Rattle.bits.proofs.Codes.{each}
use Rattle.bits.proofs.Value.{value_first, window_first}
use Rattle.bits.proofs.SettledWords.{Known, settled_part, settled_meaning, Takes, takes_none, takes_field, takes_then, takes_pick, tailed_short, tailed_none, tailed_is}
use Rattle.layout.specs.Value.{coefficient}
use Rattle.layout.specs.Numbers.{signed_code}
use Rattle.layout.proofs.Codes.{forbidden_yes, forbidden_no, signed_minus, plus_allowed, minus_allowed}
use Rattle.h261_words.specs.Tables.{end_of_block, escape, pairs, first_table5, later_table5, table_of}
use Rattle.h261_words.specs.Words.{Event, sent, over, escaped, paired, tcoeff, allowed, coefficient_read}
use Rattle.h261_words.specs.Lookup.{tail, first_at, later_at, Tables, parts_from}
use Rattle.h261_words.proofs.Coefficients.{settle-allowed, settle-forbidden}
use Rattle.h261_words.proofs.WordReads.{meant}

-- what is made of a codeword's meaning and the number of the bits that are one with it
abbrev made : ℕ → ℕ → Event
made m x = pick (eqb m end_of_block) over (pick (eqb m escape) (sent (coefficient (x / 2 ^ 8) (x % 2 ^ 8))) (sent (coefficient (m / 16) (signed_code x (m % 16)))))

makes : (m : ℕ) → Takes (tail m) (pick (eqb m end_of_block) (done over) (pick (eqb m escape) escaped (paired m))) (made m)
makes m =
    takes_pick (eqb m end_of_block) (takes_none over)
    (takes_pick (eqb m escape) (takes_then 6 8 (λ run. takes_field 8 (λ code. sent (coefficient run code)))) (takes_field 1 (λ s. sent (coefficient (m / 16) (signed_code s (m % 16))))))

-- the name of either table; and a pair has a level
named : (first : Bool) → (table_of first).name ≡ Tcoeff
unfolding first_table5 later_table5
named true = refl
named false = refl

meanings : (first : Bool) → T (each (meant true) (table_of first).entries)
unfolding first_table5 later_table5 pairs
meanings true = tt
meanings false = tt

-- ---- the entry that the code looks up
pub known : (t s : List ℕ) (n at w : ℕ) (first : Bool) → Tables t → w ≡ value s at 24
    → Known tail (table_of first) s n at (get_or t (part_place (parts_from (pick first first_at later_at)) (w / 2048)) 0)
unfolding pairs first_table5 later_table5
known t s n at w first ok v = go (ap (λ (i : ℕ). i / 2048) v ∙ value_first s at 13 11) first
  where
    go : w / 2048 ≡ value s at 13 → (b : Bool) → Known tail (pick b first_table5 later_table5) s n at (get_or t (part_place (parts_from (pick b first_at later_at)) (w / 2048)) 0)
    go x true = settled_part tail first_table5 tt tt t s n at (parts_from first_at) ok.first (w / 2048) x
    go x false = settled_part tail later_table5 tt tt t s n at (parts_from later_at) ok.later (w / 2048) x

-- ---- the outcomes
less : {x y : ℕ} → x ≡ y + 1 → x - 1 ≡ y
less q = omega arith

run_of : (v : ℕ) → v % 2 ^ 14 / 2 ^ 8 ≡ v / 256 % 64
run_of v = omega arith

code_of : (v : ℕ) → v % 2 ^ 14 % 2 ^ 8 ≡ v % 256
code_of v = omega arith

module _ (first : Bool) {s : List ℕ} {n at e : ℕ} (inside : at ≤ n) (k : Known tail (table_of first) s n at e) where
  pub short : n - at < e % 32 → bad BitsEnd at ≡ coefficient_read {P = plain} (table_of first) (bits_left s n at) at
  unfolding tcoeff coefficient_read
  short l = tailed_short (table_of first) makes allowed inside k l

  module _ (l : e % 32 ≤ n - at) where
    pub none : e / 32 ≡ 0 → bad (NoCodeword Tcoeff) at ≡ coefficient_read {P = plain} (table_of first) (bits_left s n at) at
    unfolding tcoeff coefficient_read
    none z = ap (λ (name : Table). bad (NoCodeword name) at) (sym (named first)) ∙ tailed_none (table_of first) makes allowed inside k l z

    read_is : (m : ℕ) → e / 32 ≡ m + 1
        → coefficient_read {P = plain} (table_of first) (bits_left s n at) at ≡ settle at (allowed (made m (value s at (e % 32) % 2 ^ tail m))) (bits_left s n (at + e % 32)) (at + e % 32)
    unfolding tcoeff coefficient_read
    read_is m q =
        let z : e / 32 ≡ 0 → ⊥ = λ y. omega arith in
        tailed_is (table_of first) makes allowed inside k l z
        ∙ ap (λ (i : ℕ). settle at (allowed (made i (value s at (e % 32) % 2 ^ tail i))) (bits_left s n (at + e % 32)) (at + e % 32)) (less q)

    pub end : e / 32 ≡ 1 → got over (bits_left s n (at + e % 32)) (at + e % 32) ≡ coefficient_read {P = plain} (table_of first) (bits_left s n at) at
    end z = sym (read_is end_of_block z)

    escape_is : e / 32 ≡ 513
        → coefficient_read {P = plain} (table_of first) (bits_left s n at) at
        ≡ settle at (allowed (sent (coefficient (value s at (e % 32) / 256 % 64) (value s at (e % 32) % 256)))) (bits_left s n (at + e % 32)) (at + e % 32)
    escape_is z =
        read_is escape z
        ∙ (λ i. settle at (allowed (sent (coefficient (run_of (value s at (e % 32)) i) (code_of (value s at (e % 32)) i)))) (bits_left s n (at + e % 32)) (at + e % 32))

    -- a pair: neither none, nor EOB, nor an escape
    module _ (a0 : e / 32 ≡ 0 → ⊥) (a1 : e / 32 ≡ 1 → ⊥) (a5 : e / 32 ≡ 513 → ⊥) where
      m0 : e / 32 - 1 ≡ end_of_block → ⊥
      m0 y = a1 (omega arith)

      m5 : e / 32 - 1 ≡ escape → ⊥
      m5 y = a5 (omega arith)

      pub pair_level : 0 < (e / 32 - 1) % 16
      pair_level =
          let t = settled_meaning (meant true) (meanings first) inside k l a0 in
          leb→le _ _ (either_right (eqb (e / 32 - 1) escape) _ (ne_eqb (e / 32 - 1) escape m5) (rw (ne_eqb (e / 32 - 1) end_of_block m0) at t))

      pair_is : coefficient_read {P = plain} (table_of first) (bits_left s n at) at
          ≡ settle at (allowed (sent (coefficient ((e / 32 - 1) / 16) (signed_code (value s at (e % 32) % 2) ((e / 32 - 1) % 16))))) (bits_left s n (at + e % 32)) (at + e % 32)
      pair_is = let q : e / 32 ≡ e / 32 - 1 + 1 = omega arith in read_is (e / 32 - 1) q ∙ rw (ne_eqb (e / 32 - 1) end_of_block m0, ne_eqb (e / 32 - 1) escape m5)

    -- ---- by the window w, as the code takes the last bits of the codeword from it
    module _ (w : ℕ) (v : w ≡ value s at 24) where
      taken_is : w / 2 ^ (24 - e % 32) ≡ value s at (e % 32)
      taken_is = window_first s at w (e % 32) v (omega (arith, k.1.small))

      module _ (z : e / 32 ≡ 513) where
        pub escape-bad : w / 2 ^ (24 - e % 32) % 256 % 128 ≡ 0 → bad Forbidden at ≡ coefficient_read {P = plain} (table_of first) (bits_left s n at) at
        escape-bad f =
            sym (escape_is z ∙ settle-forbidden at (value s at (e % 32) / 256 % 64) (value s at (e % 32) % 256) (bits_left s n (at + e % 32)) (at + e % 32)
            (forbidden_yes (value s at (e % 32) % 256) (mod-lt _ (lit< tt)) (ap (λ (x : ℕ). x % 256 % 128) (sym taken_is) ∙ f)))

        pub escape_good : (w / 2 ^ (24 - e % 32) % 256 % 128 ≡ 0 → ⊥)
            → got (sent (coefficient (w / 2 ^ (24 - e % 32) / 256 % 64) (w / 2 ^ (24 - e % 32) % 256))) (bits_left s n (at + e % 32)) (at + e % 32)
            ≡ coefficient_read {P = plain} (table_of first) (bits_left s n at) at
        escape_good f =
            rw taken_is (sym (escape_is z ∙ settle-allowed at _ _ _ _ (forbidden_no (value s at (e % 32) % 256) (λ y. f (ap (λ (x : ℕ). x % 256 % 128) taken_is ∙ y)))))

      module _ (a0 : e / 32 ≡ 0 → ⊥) (a1 : e / 32 ≡ 1 → ⊥) (a5 : e / 32 ≡ 513 → ⊥) where
        pub pair_plus : w / 2 ^ (24 - e % 32) % 2 ≡ 0
            → got (sent (coefficient ((e / 32 - 1) / 16) ((e / 32 - 1) % 16))) (bits_left s n (at + e % 32)) (at + e % 32) ≡ coefficient_read {P = plain} (table_of first) (bits_left s n at) at
        pair_plus f =
            sym (pair_is a0 a1 a5
            ∙ ap (λ (x : ℕ). settle at (allowed (sent (coefficient ((e / 32 - 1) / 16) x))) (bits_left s n (at + e % 32)) (at + e % 32))
            (ap (λ (x : ℕ). signed_code x ((e / 32 - 1) % 16)) (ap (λ (x : ℕ). x % 2) (sym taken_is) ∙ f))
            ∙ settle-allowed at _ _ _ _ (plus_allowed ((e / 32 - 1) % 16) (pair_level a0 a1 a5) (mod-lt _ (lit< tt))))

        pub pair_minus : (w / 2 ^ (24 - e % 32) % 2 ≡ 0 → ⊥)
            → got (sent (coefficient ((e / 32 - 1) / 16) (256 - (e / 32 - 1) % 16))) (bits_left s n (at + e % 32)) (at + e % 32) ≡ coefficient_read {P = plain} (table_of first) (bits_left s n at) at
        pair_minus f =
            sym (pair_is a0 a1 a5
            ∙ ap (λ (x : ℕ). settle at (allowed (sent (coefficient ((e / 32 - 1) / 16) x))) (bits_left s n (at + e % 32)) (at + e % 32))
            (signed_minus (value s at (e % 32) % 2) ((e / 32 - 1) % 16) (λ y. f (ap (λ (x : ℕ). x % 2) taken_is ∙ y)))
            ∙ settle-allowed at _ _ _ _ (minus_allowed ((e / 32 - 1) % 16) (pair_level a0 a1 a5) (mod-lt _ (lit< tt))))
