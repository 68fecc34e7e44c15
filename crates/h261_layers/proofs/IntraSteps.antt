-- An INTRA block: its DC code, then its coefficients, on plain values. Assumes nothing.
use mathlib.Core.Path.{◌≡◌, sym, ap, ◌∙◌}
use mathlib.Core.Bool.{Bool, true, false}
use mathlib.Core.List.{List, ◌∷◌}
use Prim.Native.Nat.{ℕ, ◌+◌, ◌-◌, ◌%◌, ◌<◌}
use native.Mathlib.Omega.{arith}
use native.Mathlib.Nat.{add-zero}
use lib.ListN.{set}
use Rattle.laws.specs.Choice.{pick}
use Rattle.refusals.specs.declared.Reason.TheVariants.{Forbidden}
use Rattle.refusals.specs.Number.{refusal}
use Rattle.bits.specs.Bits.{Bit}
use Rattle.bits.specs.Places.{counted, stop_in}
use Rattle.bits.specs.Read.{ReadIn, got, refused, field, loop}
use Rattle.bits.specs.declared.Place.{Place}
use Rattle.bits.specs.declared.Stopped.{Stopped}
use Rattle.h261_words.specs.Tables.{first_table5, later_table5}
use Rattle.layout.specs.Value.{coefficient}
use Rattle.layout.proofs.Codes.{forbidden_yes, forbidden_no}
use Rattle.layout.specs.Flat.{put_block}
use Rattle.fields.specs.Answer.{map_read}
use Rattle.h261_layers.specs.Grammar.{coefficients, intra_block, inter_block}
use Rattle.fields.proofs.Meaning.{map-done}

module _ (l : List ℕ) (base : ℕ) (bs : List Bit) (at : Place) where
  pub intra_refused : (r : Stopped) → field {P = counted} 8 bs at ≡ refused r → refused r ≡ map_read {P = counted} (put_block l base) (intra_block bs at)
  unfolding intra_block
  intra_refused r e = rw e

  module _ (code : ℕ) (cs : List Bit) (q : Place) (e : field {P = counted} 8 bs at ≡ got code cs q) where
    pub intra_forbidden : code < 256 → code % 128 ≡ 0 → refused (stop_in counted (refusal Forbidden at.bit) q) ≡ map_read {P = counted} (put_block l base) (intra_block bs at)
    unfolding intra_block
    intra_forbidden s h = rw (e, forbidden_yes code s h)

    pub intra_more : (x : ReadIn counted (List ℕ)) → (code % 128 ≡ 0 → ⊥)
        → x ≡ map_read (put_block (set l base code) (base + 1)) (loop (λ turns. coefficients turns (base + 64 - (base + 1)) later_table5) cs q)
        → x ≡ map_read (put_block l base) (intra_block bs at)
    unfolding intra_block put_block
    intra_more x h w =
        let z : base + 0 ≡ base = add-zero base in
        let r : base + 64 - (base + 1) ≡ 63 = omega arith in
        w ∙ (λ i. map_read (put_block (set l (sym z i) code) (base + 1)) (loop (λ turns. coefficients turns (r i) later_table5) cs q))
        ∙ sym (rw (e, forbidden_no code h) (map-done (put_block l base) (λ rest. coefficient 0 code ∷ rest) (loop (λ turns. coefficients turns 63 later_table5) cs q)))

-- ---- a block by its kind
module _ (l : List ℕ) (base : ℕ) (bs : List Bit) (at : Place) (intra : Bool) (x : ReadIn counted (List ℕ)) where
  pub one_intra : intra ≡ true → x ≡ map_read (put_block l base) (intra_block bs at) → x ≡ map_read (put_block l base) (pick intra intra_block inter_block bs at)
  one_intra e h = rw e h

  pub one_inter : intra ≡ false → x ≡ map_read (put_block l base) (loop (λ turns. coefficients turns (base + 64 - base) first_table5) bs at) → x ≡ map_read (put_block l base) (pick intra intra_block inter_block bs at)
  unfolding inter_block
  one_inter e h =
      let r : base + 64 - base ≡ 64 = omega arith in
      rw e (h ∙ ap (λ (k : ℕ). map_read (put_block l base) (loop (λ turns. coefficients turns k first_table5) bs at)) r)
