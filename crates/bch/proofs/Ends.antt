-- The ends of mending a frame, and that its promise leaves one verdict and one frame. Assumes nothing.
use mathlib.Core.Path.{◌≡◌, refl, sym, ap, subst, ◌∙◌}
use mathlib.Core.List.{List}
use Prim.Native.Nat.{ℕ, zero, suc, ◌+◌, ◌-◌, ◌*◌, ◌/◌, ◌%◌, ◌^◌, ◌<◌, zero-le, suc-le-suc}
use native.Mathlib.Nat.{add-zero, div-one, le_of_suc-le-suc, not-suc-le-zero}
use native.Mathlib.Numerals.{add-one, one-add}
use native.Mathlib.Omega.{arith}
use lib.Arith.{lt-one}
use lib.Pow.{shr_lt, shr-shr}
use lib.ListN.{get_or}
use lib.Seq.{ext_get_or}
use Rattle.bits.specs.Bits.{Bit, bit0, num, bit_num, bit_at, bits_from}
use Rattle.bits.proofs.Value.{num_bit, length_bits}
use Rattle.bch.specs.Word.{changes}
use Rattle.bch.specs.Code.{remainder, mended, unmended, Near}
use Rattle.bch.specs.Locate.{locate}
use Rattle.bch.specs.Frame.{word, Changed, Mend, Frame, MendOnce}
use Rattle.bch.specs.declared.Mending.TheVariants.{Mended, Unmended}
use Rattle.bch.proofs.Unique.{tried, tried_near, tried_far, clean}
use Rattle.bch.proofs.Search.{corrected_is}

-- t is what was tried
module _ (s t : List ℕ) (ns : List ℕ) (r : ℕ) (c : Changed ns s t) (e : ns ≡ locate r) (f : r ≡ remainder (word s)) where
  is_tried : word t ≡ tried (word s)
  is_tried = c.changed ∙ ap (λ (ns : List ℕ). changes ns (word s)) (e ∙ ap locate f)

  pub mend_unmended : (remainder (word t) ≡ 0 → ⊥) → Mend s Unmended s
  mend_unmended n =
      record {
        outcome = sym (corrected_is (word s) (length_bits s 1 511) unmended (tried_far (word s) (length_bits s 1 511) (λ z. n (ap remainder is_tried ∙ z))));
        framing = refl;
        untouched = λ v. refl;
      }

  pub mend_mended : remainder (word t) ≡ 0 → Mend s Mended t
  mend_mended z =
      record {
        outcome =
            sym
            (corrected_is (word s) (length_bits s 1 511) (mended (word t))
            (subst (Near (word s)) (sym is_tried) (tried_near (word s) (length_bits s 1 511) (sym (ap remainder is_tried) ∙ z))));
        framing = c.framing;
        untouched = λ v. absurd (other v);
      }
    where
      other : Mended ≡ Unmended → ⊥
      other v = let z : ◌≡◌ {A = ℕ} 0 1 = cc in omega arith

pub mend_clean : (s : List ℕ) → remainder (word s) ≡ 0 → Mend s Mended s
mend_clean s z =
    record {
      outcome = sym (corrected_is (word s) (length_bits s 1 511) (mended (word s)) (clean (word s) (length_bits s 1 511) z));
      framing = refl;
      untouched = λ v. refl;
    }

-- ---- a frame is its bits
bit_in : (s : List ℕ) (a m i : ℕ) → i < m → get_or (bits_from s a m) i bit0 ≡ bit_at s (a + i)
unfolding bits_from
bit_in s a zero i l = absurd (not-suc-le-zero l)
bit_in s a (suc m) zero l = ap (bit_at s) (sym (add-zero a))
bit_in s a (suc m) (suc i) l =
    let e : a + 1 + i ≡ a + suc i = omega arith in
    bit_in s (a + 1) m i (le_of_suc-le-suc l) ∙ ap (bit_at s) e

digit_up : (x e : ℕ) → x / 2 / 2 ^ e % 2 ≡ x / 2 ^ suc e % 2
digit_up x e = ap (λ (i : ℕ). i % 2) (shr-shr x 1 e ∙ ap (λ (i : ℕ). x / 2 ^ i) (one-add e))

digits_same : (k x y : ℕ) → x < 2 ^ k → y < 2 ^ k → ((e : ℕ) → e < k → x / 2 ^ e % 2 ≡ y / 2 ^ e % 2) → x ≡ y
digits_same zero x y l m h = lt-one l ∙ sym (lt-one m)
digits_same (suc k) x y l m h =
    let halves : x / 2 ≡ y / 2 =
    digits_same k (x / 2) (y / 2) (shr_lt k 1 (rw (add-one k) l)) (shr_lt k 1 (rw (add-one k) m))
    (λ e n. digit_up x e ∙ h (suc e) (suc-le-suc n) ∙ sym (digit_up y e)) in
    let last : x % 2 ≡ y % 2 = sym (ap (λ (i : ℕ). i % 2) (div-one x)) ∙ h 0 (suc-le-suc zero-le) ∙ ap (λ (i : ℕ). i % 2) (div-one y) in
    omega arith

module _ (t t' : List ℕ) (f : Frame t) (f' : Frame t') (first : bit_at t 0 ≡ bit_at t' 0) (others : word t ≡ word t') where
  bit_same : (i : ℕ) → i < 512 → bit_num t i ≡ bit_num t' i
  bit_same zero l = sym (num_bit t 0) ∙ ap num first ∙ num_bit t' 0
  bit_same (suc i) l =
      let e : 1 + i ≡ suc i = omega arith in
      let same : bit_at t (1 + i) ≡ bit_at t' (1 + i) =
      sym (bit_in t 1 511 i (le_of_suc-le-suc l)) ∙ ap (λ (w : List Bit). get_or w i bit0) others ∙ bit_in t' 1 511 i (le_of_suc-le-suc l) in
      ap (bit_num t) (sym e) ∙ sym (num_bit t (1 + i)) ∙ ap num same ∙ num_bit t' (1 + i) ∙ ap (bit_num t') e

  byte_same : (k : ℕ) → k < 64 → get_or t k 0 ≡ get_or t' k 0
  unfolding bit_num
  byte_same k l = digits_same 8 (get_or t k 0) (get_or t' k 0) (f.bytes k) (f'.bytes k) bit
    where
      bit : (e : ℕ) → e < 8 → get_or t k 0 / 2 ^ e % 2 ≡ get_or t' k 0 / 2 ^ e % 2
      bit e m =
          let d : (k * 8 + (7 - e)) / 8 ≡ k = omega arith in
          let r : 7 - (k * 8 + (7 - e)) % 8 ≡ e = omega arith in
          rw (d, r) at (bit_same (k * 8 + (7 - e)) (omega arith))

  frame_same : t ≡ t'
  frame_same = ext_get_or 0 t t' (f.size ∙ sym f'.size) (λ k l. byte_same k (omega (arith, f.size)))

pub mend_once : MendOnce
mend_once s Mended Mended t t' f f' m m' =
    let same : mended (word t) ≡ mended (word t') = m.outcome ∙ sym m'.outcome in
    let others : word t ≡ word t' = cc in
    (refl, frame_same t t' f f' (m.framing ∙ sym m'.framing) others)
mend_once s Mended Unmended t t' f f' m m' =
    let other : mended (word t) ≡ unmended = m.outcome ∙ sym m'.outcome in
    let z : ◌≡◌ {A = ℕ} 0 1 = cc in
    absurd (omega arith)
mend_once s Unmended Mended t t' f f' m m' =
    let other : unmended ≡ mended (word t') = m.outcome ∙ sym m'.outcome in
    let z : ◌≡◌ {A = ℕ} 0 1 = cc in
    absurd (omega arith)
mend_once s Unmended Unmended t t' f f' m m' = (refl, m.untouched refl ∙ sym (m'.untouched refl))
