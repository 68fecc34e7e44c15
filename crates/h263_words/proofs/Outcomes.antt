-- An entry that settles its codeword: what each read comes to. For MCBPC, CBPY and MVD by one law; for an event by the entry's two parts. Assumes nothing.
use mathlib.Core.Path.{◌≡◌, sym, ap, ◌∙◌}
use mathlib.Core.List.{List}
use Prim.Native.Nat.{ℕ, ◌+◌, ◌-◌, ◌/◌, ◌%◌, ◌^◌, ◌<◌, ◌≤◌}
use native.Mathlib.Nat.{mod-lt}
use native.Mathlib.Omega.{arith}
use borrow.Author.Tests.{ne_eqb}
use lib.Dec.{lit<, eqb, ltb, leb→le}
use lib.ListN.{get_or}
use Rattle.laws.specs.Choice.{pick}
use Rattle.laws.proofs.Choice.{both_right, either_right}
use Rattle.refusals.specs.declared.Reason.TheVariants.{BitsEnd, NoCodeword, Forbidden}
use Rattle.refusals.specs.declared.Table.TheVariants.{McbpcIntra, McbpcInter, Cbpy, Mvd263, Tcoef263}
use Rattle.bits.specs.Bits.{value, bits_left}
use Rattle.bits.specs.Places.{plain}
use Rattle.bits.specs.Read.{got, bad, settle}
use Rattle.bits.specs.Code.{word}
use Rattle.bits.specs.Answer.{as_field}
use Rattle.bits.specs.Settled.{no_tail, part_place, settled_field}
use Rattle.bits.proofs.Value.{value-lt, value_first, window_first}
use Rattle.bits.proofs.SettledWords.{Known, settled_at, settled_part, settled-word, settled_meaning, Takes, takes_field, takes_then, takes_pick, tailed_short, tailed_none, tailed_is}
use Rattle.layout.specs.Numbers.{signed_code}
use Rattle.layout.proofs.Codes.{forbidden_yes, forbidden_no, signed_minus, plus_allowed, minus_allowed}
use Rattle.h263_words.specs.Tables.{mcbpc_intra, mcbpc_inter, cbpy, mvd, escape, tcoef}
use Rattle.h263_words.specs.Words.{Event, event_of, escaped, tabled, tcoef_read, allowed, event_read}
use Rattle.h263_words.specs.Lookup.{mcbpc_intra_at, mcbpc_inter_at, cbpy_at, mvd_parts, tcoef_parts, tail, Tables}
use Rattle.h263_words.proofs.Meanings.{event_meant, tcoef_meanings}
use Rattle.h263_words.proofs.Events.{settle-allowed, settle-forbidden}

-- ---- MCBPC, CBPY, MVD: by the window w
module _ (t s : List ℕ) (n at w : ℕ) (ok : Tables t) (inside : at ≤ n) (v : w ≡ value s at 24) where
  pub intra_is : (e : ℕ) → e ≡ get_or t (mcbpc_intra_at + w / 32768) 0 → as_field s n (settled_field McbpcIntra e n at) ≡ word mcbpc_intra (bits_left s n at) at
  unfolding mcbpc_intra
  intra_is e q =
      let x : w / 32768 ≡ value s at 9 = ap (λ (i : ℕ). i / 32768) v ∙ value_first s at 9 15 in
      settled-word inside (rw q (settled_at no_tail mcbpc_intra tt tt t s n at mcbpc_intra_at 9 0 512 ok.intra (w / 32768) x (omega arith) (rw x (value-lt s at 9))))

  pub inter_is : (e : ℕ) → e ≡ get_or t (mcbpc_inter_at + w / 32768) 0 → as_field s n (settled_field McbpcInter e n at) ≡ word mcbpc_inter (bits_left s n at) at
  unfolding mcbpc_inter
  inter_is e q =
      let x : w / 32768 ≡ value s at 9 = ap (λ (i : ℕ). i / 32768) v ∙ value_first s at 9 15 in
      settled-word inside (rw q (settled_at no_tail mcbpc_inter tt tt t s n at mcbpc_inter_at 9 0 512 ok.inter (w / 32768) x (omega arith) (rw x (value-lt s at 9))))

  pub pattern_is : (e : ℕ) → e ≡ get_or t (cbpy_at + w / 262144) 0 → as_field s n (settled_field Cbpy e n at) ≡ word cbpy (bits_left s n at) at
  unfolding cbpy
  pattern_is e q =
      let x : w / 262144 ≡ value s at 6 = ap (λ (i : ℕ). i / 262144) v ∙ value_first s at 6 18 in
      settled-word inside (rw q (settled_at no_tail cbpy tt tt t s n at cbpy_at 6 0 64 ok.patterns (w / 262144) x (omega arith) (rw x (value-lt s at 6))))

  pub difference_is : (e : ℕ) → e ≡ get_or t (part_place mvd_parts (w / 2048)) 0 → as_field s n (settled_field Mvd263 e n at) ≡ word mvd (bits_left s n at) at
  unfolding mvd
  difference_is e q =
      let x : w / 2048 ≡ value s at 13 = ap (λ (i : ℕ). i / 2048) v ∙ value_first s at 13 11 in
      settled-word inside (rw q (settled_part no_tail mvd tt tt t s n at mvd_parts ok.differences (w / 2048) x))

-- ---- an event
-- what is made of a codeword's meaning and the number of the bits that are one with it
abbrev made : ℕ → ℕ → Event
made m x = pick (eqb m escape) (event_of (x / 2 ^ 14) (x % 2 ^ 14 / 2 ^ 8) (x % 2 ^ 14 % 2 ^ 8)) (event_of (m / 1024) (m / 16 % 64) (signed_code x (m % 16)))

makes : (m : ℕ) → Takes (tail m) (pick (eqb m escape) escaped (tabled m)) (made m)
makes m =
    takes_pick (eqb m escape) (takes_then 1 14 (λ last. takes_then 6 8 (λ run. takes_field 8 (λ code. event_of last run code))))
    (takes_field 1 (λ s. event_of (m / 1024) (m / 16 % 64) (signed_code s (m % 16))))

-- the entry that the code looks up
pub known : (t s : List ℕ) (n at w : ℕ) → Tables t → w ≡ value s at 24 → Known tail tcoef s n at (get_or t (part_place tcoef_parts (w / 4096)) 0)
unfolding tcoef
known t s n at w ok v = settled_part tail tcoef tt tt t s n at tcoef_parts ok.events (w / 4096) (ap (λ (i : ℕ). i / 4096) v ∙ value_first s at 12 12)

less : {x y : ℕ} → x ≡ y + 1 → x - 1 ≡ y
less q = omega arith

last_of : (v : ℕ) → v % 2 ^ 15 / 2 ^ 14 ≡ v / 16384 % 2
last_of v = omega arith

run_of : (v : ℕ) → v % 2 ^ 15 % 2 ^ 14 / 2 ^ 8 ≡ v / 256 % 64
run_of v = omega arith

code_of : (v : ℕ) → v % 2 ^ 15 % 2 ^ 14 % 2 ^ 8 ≡ v % 256
code_of v = omega arith

module _ {s : List ℕ} {n at e : ℕ} (inside : at ≤ n) (k : Known tail tcoef s n at e) where
  pub short : n - at < e % 32 → bad BitsEnd at ≡ event_read {P = plain} (bits_left s n at) at
  unfolding tcoef_read event_read
  short l = tailed_short tcoef makes allowed inside k l

  module _ (l : e % 32 ≤ n - at) where
    pub none : e / 32 ≡ 0 → bad (NoCodeword Tcoef263) at ≡ event_read {P = plain} (bits_left s n at) at
    unfolding tcoef tcoef_read event_read
    none z = tailed_none tcoef makes allowed inside k l z

    read_is : (m : ℕ) → e / 32 ≡ m + 1
        → event_read {P = plain} (bits_left s n at) at ≡ settle at (allowed (made m (value s at (e % 32) % 2 ^ tail m))) (bits_left s n (at + e % 32)) (at + e % 32)
    unfolding tcoef_read event_read
    read_is m q =
        let z : e / 32 ≡ 0 → ⊥ = λ y. omega arith in
        tailed_is tcoef makes allowed inside k l z
        ∙ ap (λ (i : ℕ). settle at (allowed (made i (value s at (e % 32) % 2 ^ tail i))) (bits_left s n (at + e % 32)) (at + e % 32)) (less q)

    escape_is : e / 32 ≡ 1
        → event_read {P = plain} (bits_left s n at) at
        ≡ settle at (allowed (event_of (value s at (e % 32) / 16384 % 2) (value s at (e % 32) / 256 % 64) (value s at (e % 32) % 256))) (bits_left s n (at + e % 32)) (at + e % 32)
    escape_is z =
        let x = value s at (e % 32) in
        read_is escape z ∙ (λ i. settle at (allowed (event_of (last_of x i) (run_of x i) (code_of x i))) (bits_left s n (at + e % 32)) (at + e % 32))

    -- an event of the table: neither none nor an escape
    module _ (a0 : e / 32 ≡ 0 → ⊥) (a1 : e / 32 ≡ 1 → ⊥) where
      m1 : e / 32 - 1 ≡ escape → ⊥
      m1 y = a1 (omega arith)

      pub event_level : 0 < (e / 32 - 1) % 16
      event_level =
          let t = settled_meaning event_meant tcoef_meanings inside k l a0 in
          leb→le _ _ (either_right (eqb (e / 32 - 1) escape) _ (ne_eqb (e / 32 - 1) escape m1) (both_right (ltb (e / 32 - 1) 2048) _ t))

      table_is : event_read {P = plain} (bits_left s n at) at
          ≡ settle at (allowed (event_of ((e / 32 - 1) / 1024) ((e / 32 - 1) / 16 % 64) (signed_code (value s at (e % 32) % 2) ((e / 32 - 1) % 16)))) (bits_left s n (at + e % 32)) (at + e % 32)
      table_is = let q : e / 32 ≡ e / 32 - 1 + 1 = omega arith in read_is (e / 32 - 1) q ∙ rw (ne_eqb (e / 32 - 1) escape m1)

    -- ---- by the window w, as the code takes the last bits of the codeword from it
    module _ (w : ℕ) (v : w ≡ value s at 24) where
      taken_is : w / 2 ^ (24 - e % 32) ≡ value s at (e % 32)
      taken_is = window_first s at w (e % 32) v (omega (arith, k.1.small))

      module _ (z : e / 32 ≡ 1) where
        pub escape-bad : w / 2 ^ (24 - e % 32) % 256 % 128 ≡ 0 → bad Forbidden at ≡ event_read {P = plain} (bits_left s n at) at
        escape-bad f =
            let x = value s at (e % 32) in
            sym (escape_is z ∙ settle-forbidden at (x / 16384 % 2) (x / 256 % 64) (x % 256) (bits_left s n (at + e % 32)) (at + e % 32)
            (forbidden_yes (x % 256) (mod-lt _ (lit< tt)) (ap (λ (x : ℕ). x % 256 % 128) (sym taken_is) ∙ f)))

        pub escape_good : (w / 2 ^ (24 - e % 32) % 256 % 128 ≡ 0 → ⊥)
            → got (event_of (w / 2 ^ (24 - e % 32) / 16384 % 2) (w / 2 ^ (24 - e % 32) / 256 % 64) (w / 2 ^ (24 - e % 32) % 256)) (bits_left s n (at + e % 32)) (at + e % 32)
            ≡ event_read {P = plain} (bits_left s n at) at
        escape_good f =
            let x = value s at (e % 32) in
            rw taken_is
            (sym (escape_is z ∙ settle-allowed at (x / 16384 % 2) (x / 256 % 64) (x % 256) _ _ (forbidden_no (x % 256) (λ y. f (ap (λ (x : ℕ). x % 256 % 128) taken_is ∙ y)))))

      module _ (a0 : e / 32 ≡ 0 → ⊥) (a1 : e / 32 ≡ 1 → ⊥) where
        pub event_plus : w / 2 ^ (24 - e % 32) % 2 ≡ 0
            → got (event_of ((e / 32 - 1) / 1024) ((e / 32 - 1) / 16 % 64) ((e / 32 - 1) % 16)) (bits_left s n (at + e % 32)) (at + e % 32) ≡ event_read {P = plain} (bits_left s n at) at
        event_plus f =
            let m = e / 32 - 1 in
            sym (table_is a0 a1
            ∙ ap (λ (x : ℕ). settle at (allowed (event_of (m / 1024) (m / 16 % 64) x)) (bits_left s n (at + e % 32)) (at + e % 32))
            (ap (λ (x : ℕ). signed_code x (m % 16)) (ap (λ (x : ℕ). x % 2) (sym taken_is) ∙ f))
            ∙ settle-allowed at (m / 1024) (m / 16 % 64) (m % 16) _ _ (plus_allowed (m % 16) (event_level a0 a1) (mod-lt _ (lit< tt))))

        pub event_minus : (w / 2 ^ (24 - e % 32) % 2 ≡ 0 → ⊥)
            → got (event_of ((e / 32 - 1) / 1024) ((e / 32 - 1) / 16 % 64) (256 - (e / 32 - 1) % 16)) (bits_left s n (at + e % 32)) (at + e % 32) ≡ event_read {P = plain} (bits_left s n at) at
        event_minus f =
            let m = e / 32 - 1 in
            sym (table_is a0 a1
            ∙ ap (λ (x : ℕ). settle at (allowed (event_of (m / 1024) (m / 16 % 64) x)) (bits_left s n (at + e % 32)) (at + e % 32))
            (signed_minus (value s at (e % 32) % 2) (m % 16) (λ y. f (ap (λ (x : ℕ). x % 2) taken_is ∙ y)))
            ∙ settle-allowed at (m / 1024) (m / 16 % 64) (256 - m % 16) _ _ (minus_allowed (m % 16) (event_level a0 a1) (mod-lt _ (lit< tt))))
