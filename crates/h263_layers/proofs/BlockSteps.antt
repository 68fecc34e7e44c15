-- One block: its DC code where it is INTRA, then its events where the pattern's bit is set, on plain values. Assumes nothing.
use mathlib.Core.Path.{◌≡◌, refl, sym, ap, ◌∙◌}
use mathlib.Core.Bool.{Bool, true, false}
use mathlib.Core.List.{List, ◌∷◌}
use Prim.Native.Nat.{ℕ, zero, suc, ◌+◌, ◌-◌, ◌%◌, ◌<◌}
use native.Mathlib.Omega.{arith}
use native.Mathlib.Nat.{add-zero}
use lib.ListN.{set}
use Rattle.laws.specs.Choice.{pick}
use Rattle.refusals.specs.declared.Reason.TheVariants.{Forbidden}
use Rattle.refusals.specs.Number.{refusal}
use Rattle.bits.specs.Bits.{Bit, bit0, bit1, bit_of}
use Rattle.bits.specs.Places.{counted, stop_in}
use Rattle.bits.specs.Read.{ReadIn, got, refused, field, loop}
use Rattle.bits.specs.declared.Place.{Place}
use Rattle.bits.specs.declared.Stopped.{Stopped}
use Rattle.layout.specs.Value.{coefficient}
use Rattle.layout.specs.Flat.{put_block}
use Rattle.layout.proofs.Codes.{forbidden_yes, forbidden_no}
use Rattle.fields.specs.Answer.{map_read}
use Rattle.fields.proofs.Meaning.{map-done}
use Rattle.h263_layers.specs.Grammar.{events, intra_block, inter_block}

-- a bit of the pattern by its number
pub bit_off : (x : ℕ) → x ≡ 0 → bit_of x ≡ bit0
bit_off x e = ap bit_of e

pub bit_on : (x : ℕ) → (x ≡ 0 → ⊥) → bit_of x ≡ bit1
bit_on zero f = absurd (f refl)
bit_on (suc x) f = refl

-- ---- INTRA
module _ (l : List ℕ) (base : ℕ) (bs : List Bit) (at : Place) where
  pub intra_refused : (x : Bit) (r : Stopped) → field {P = counted} 8 bs at ≡ refused r → refused r ≡ map_read {P = counted} (put_block l base) (intra_block x bs at)
  unfolding intra_block
  intra_refused bit0 r e = rw e
  intra_refused bit1 r e = rw e

  module _ (code : ℕ) (cs : List Bit) (q : Place) (e : field {P = counted} 8 bs at ≡ got code cs q) where
    pub intra_forbidden : (x : Bit) → code < 256 → code % 128 ≡ 0 → refused (stop_in counted (refusal Forbidden at.bit) q) ≡ map_read {P = counted} (put_block l base) (intra_block x bs at)
    unfolding intra_block
    intra_forbidden bit0 s h = rw (e, forbidden_yes code s h)
    intra_forbidden bit1 s h = rw (e, forbidden_yes code s h)

    module _ (h : code % 128 ≡ 0 → ⊥) where
      pub intra_alone : (x : Bit) → x ≡ bit0 → got (set l base code) cs q ≡ map_read {P = counted} (put_block l base) (intra_block x bs at)
      unfolding intra_block put_block
      intra_alone x b =
          let z : base + 0 ≡ base = add-zero base in
          (λ i. got (set l (sym z i) code) cs q) ∙ sym (rw (b, e, forbidden_no code h))

      pub intra_more : (x : Bit) (y : ReadIn counted (List ℕ)) → x ≡ bit1 → y ≡ map_read (put_block (set l base code) (base + 1)) (loop (λ turns. events turns (base + 64 - (base + 1))) cs q)
          → y ≡ map_read (put_block l base) (intra_block x bs at)
      unfolding intra_block put_block
      intra_more x y b w =
          let z : base + 0 ≡ base = add-zero base in
          let r : base + 64 - (base + 1) ≡ 63 = omega arith in
          w ∙ (λ i. map_read (put_block (set l (sym z i) code) (base + 1)) (loop (λ turns. events turns (r i)) cs q))
          ∙ sym (rw (b, e, forbidden_no code h) (map-done (put_block l base) (λ rest. coefficient 0 code ∷ rest) (loop (λ turns. events turns 63) cs q)))

-- ---- INTER
module _ (l : List ℕ) (base : ℕ) (bs : List Bit) (at : Place) (x : Bit) where
  pub inter_none : x ≡ bit0 → got l bs at ≡ map_read {P = counted} (put_block l base) (inter_block x bs at)
  unfolding inter_block put_block
  inter_none b = rw b

  pub inter_some : (y : ReadIn counted (List ℕ)) → x ≡ bit1 → y ≡ map_read (put_block l base) (loop (λ turns. events turns (base + 64 - base)) bs at)
      → y ≡ map_read (put_block l base) (inter_block x bs at)
  unfolding inter_block
  inter_some y b w =
      let r : base + 64 - base ≡ 64 = omega arith in
      rw b (w ∙ ap (λ (k : ℕ). map_read (put_block l base) (loop (λ turns. events turns k) bs at)) r)

-- ---- a block by its kind
module _ (l : List ℕ) (base : ℕ) (bs : List Bit) (at : Place) (x : Bit) (intra : Bool) (y : ReadIn counted (List ℕ)) where
  pub one_intra : intra ≡ true → y ≡ map_read (put_block l base) (intra_block x bs at) → y ≡ map_read (put_block l base) (pick intra (intra_block x) (inter_block x) bs at)
  one_intra e h = rw e h

  pub one_inter : intra ≡ false → y ≡ map_read (put_block l base) (inter_block x bs at) → y ≡ map_read (put_block l base) (pick intra (intra_block x) (inter_block x) bs at)
  one_inter e h = rw e h
