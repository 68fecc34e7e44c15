-- Bits appended one after another are the bits of both, as far as there is room for them. Assumes nothing.
use mathlib.Core.Path.{◌≡◌, refl, sym, ap, subst, ◌∙◌}
use mathlib.Core.Bool.{Bool, true, false}
use mathlib.Core.List.{List, [], ◌∷◌, ◌++◌, append-nil}
use Prim.Native.Nat.{ℕ, ◌+◌, ◌-◌, ◌*◌, ◌/◌, ◌%◌, ◌^◌, ◌≤◌, ◌<◌}
use native.Mathlib.Nat.{add-zero, add_assoc, mod-lt, min-le_left}
use native.Mathlib.Omega.{arith}
use borrow.Author.Tests.{ltb-true, ltb-false}
use lib.Dec.{T, leb, ltb, leb→le, ltb→lt}
use lib.Pow.{split, pow_pos, shr_lt}
use lib.ListN.{length, take, length-append, length-take}
use lib.Seq.{take_all, take_at, take-append-le, take-append-add}
use Rattle.bits.specs.Bits.{Bit, bits_of}
use Rattle.bits.specs.Write.{bytes_with, bits_if}
use Rattle.bits.specs.Appended.{FieldFits, appended_bits, bits_with_room, WroteBits, CountablePlace}
use Rattle.bits.proofs.Numbers.{bits_of-append}
use Rattle.bits.proofs.Fields.{length-bits_of}
use Rattle.bits.proofs.Write.{length_written, written_more}

-- ---- bits that all have room
length_appended : (s : List ℕ) (at : ℕ) (w : List Bit) → at + length w ≤ 8 * length s → length (appended_bits s at w) ≡ length s
length_appended s at [] h = refl
length_appended s at (b ∷ bs) h = length_written s at (b ∷ bs) h

appended_more : (s : List ℕ) (at : ℕ) (w v : List Bit) → at + length w ≤ 8 * length s → appended_bits (appended_bits s at w) (at + length w) v ≡ appended_bits s at (w ++ v)
appended_more s at [] v h = ap (λ (k : ℕ). appended_bits s k v) (add-zero at)
appended_more s at (b ∷ bs) [] h = ap (λ (l : List Bit). bytes_with s at (b ∷ l)) (sym (append-nil bs))
appended_more s at (b ∷ bs) (c ∷ cs) h = written_more s at (b ∷ bs) h (c ∷ cs)

appended_some : (s : List ℕ) (at : ℕ) (w : List Bit) → 1 ≤ length w → appended_bits s at w ≡ bytes_with s at w
appended_some s at [] h = absurd (omega arith)
appended_some s at (b ∷ bs) h = refl

-- ---- those that have room
pub room_whole : (s : List ℕ) (at : ℕ) (w : List Bit) → at + length w ≤ 8 * length s → bits_with_room s at w ≡ w
room_whole s at w h = take_all (8 * length s - at) w (omega arith)

room_none : (s : List ℕ) (at : ℕ) (w : List Bit) → 8 * length s ≤ at → bits_with_room s at w ≡ []
room_none s at w h = let e : 8 * length s - at ≡ 0 = omega arith in ap (λ (k : ℕ). take k w) e

-- the first of two: all of it and some of the second, or not more than the first
room_both : (s : List ℕ) (at : ℕ) (w v : List Bit) → at + length w ≤ 8 * length s → bits_with_room s at (w ++ v) ≡ w ++ bits_with_room s (at + length w) v
room_both s at w v h =
    let e : 8 * length s - at ≡ length w + (8 * length s - (at + length w)) = omega arith in
    ap (λ (k : ℕ). take k (w ++ v)) e ∙ take-append-add w v (8 * length s - (at + length w))

room_first : (s : List ℕ) (at : ℕ) (w v : List Bit) → 8 * length s ≤ at + length w → bits_with_room s at (w ++ v) ≡ bits_with_room s at w
room_first s at w v h = take-append-le (8 * length s - at) w v (omega arith)

length_room : (s : List ℕ) (at : ℕ) (w : List Bit) → length (appended_bits s at (bits_with_room s at w)) ≡ length s
length_room s at w = go (ltb (8 * length s) at) refl
  where
    go : (b : Bool) → ltb (8 * length s) at ≡ b → length (appended_bits s at (bits_with_room s at w)) ≡ length s
    go true e = ap (λ (l : List Bit). length (appended_bits s at l)) (room_none s at w (omega (arith, ltb-true (8 * length s) at e)))
    go false e =
        let n = 8 * length s - at in
        let m : length (take n w) ≤ n = rw (length-take n w) (min-le_left n (length w)) in
        length_appended s at (bits_with_room s at w) (omega (arith, ltb-false (8 * length s) at e))

-- ---- one after another
pub wrote_none : (s : List ℕ) (at : ℕ) → WroteBits [] s at s at
wrote_none s at = record { is = ap (appended_bits s at) (sym (room_whole_nil (8 * length s - at))); next = sym (add-zero at) }
  where
    room_whole_nil : (n : ℕ) → ◌≡◌ {A = List Bit} (take n []) []
    room_whole_nil n = take_all n [] (omega arith)

module _ {w : List Bit} {s : List ℕ} {at : ℕ} {t : List ℕ} {p : ℕ} (h : WroteBits w s at t p) where
  pub wrote_as : {v : List Bit} → w ≡ v → WroteBits v s at t p
  wrote_as e = subst (λ (x : List Bit). WroteBits x s at t p) e h

  pub wrote_long : length t ≡ length s
  wrote_long = ap length h.is ∙ length_room s at w

  pub wrote_then : {v : List Bit} {u : List ℕ} {q : ℕ} → WroteBits v t p u q → WroteBits (w ++ v) s at u q
  wrote_then {v} {u} g = record {
    is = g.is ∙ (λ i. appended_bits t (h.next i) (take (8 * wrote_long i - h.next i) v)) ∙ go (ltb (8 * length s) (at + length w)) refl;
    next = g.next ∙ ap (λ (k : ℕ). k + length v) h.next ∙ add_assoc at (length w) (length v) ∙ ap (λ (k : ℕ). at + k) (sym (length-append w v));
  }
    where
      go : (b : Bool) → ltb (8 * length s) (at + length w) ≡ b → appended_bits t (at + length w) (bits_with_room s (at + length w) v) ≡ appended_bits s at (bits_with_room s at (w ++ v))
      go true e =
          let l : 8 * length s ≤ at + length w = omega (arith, ltb-true (8 * length s) (at + length w) e) in
          ap (appended_bits t (at + length w)) (room_none s (at + length w) v l) ∙ h.is ∙ ap (appended_bits s at) (sym (room_first s at w v l))
      go false e =
          let l : at + length w ≤ 8 * length s = ltb-false (8 * length s) (at + length w) e in
          ap (λ (x : List ℕ). appended_bits x (at + length w) (bits_with_room s (at + length w) v)) (h.is ∙ ap (appended_bits s at) (room_whole s at w l))
          ∙ appended_more s at w (bits_with_room s (at + length w) v) l ∙ ap (appended_bits s at) (sym (room_both s at w v l))

-- ---- places that can be counted: the first of two bits' end, and the second's after it
pub first_countable : {at : ℕ} (w v : List Bit) → CountablePlace at (w ++ v) → CountablePlace at w
first_countable w v h = record { low = omega (arith, h.low, length-append w v) }

pub then_countable : {w : List Bit} {s : List ℕ} {at : ℕ} {t : List ℕ} {p : ℕ} → WroteBits w s at t p → (v : List Bit) → CountablePlace at (w ++ v) → CountablePlace p v
then_countable {w} h v l = record { low = omega (arith, l.low, h.next, length-append w v) }

-- parts one after another
abbrev joined : List (List Bit) → List Bit
joined [] = []
joined (w ∷ []) = w
joined (w ∷ v ∷ rest) = w ++ joined (v ∷ rest)

pub record CountableParts (at : ℕ) (parts : List (List Bit)) : Type 0 where
  pub counts : CountablePlace at (joined parts)

pub first_part : {at : ℕ} {w : List Bit} {rest : List (List Bit)} → CountableParts at (w ∷ rest) → CountablePlace at w
first_part {rest = []} n = n.counts
first_part {w = w} {rest = v ∷ rest} n = first_countable w (joined (v ∷ rest)) n.counts

module _ {at : ℕ} {w v : List Bit} {rest : List (List Bit)} (n : CountableParts at (w ∷ v ∷ rest)) {s t : List ℕ} {p : ℕ} (h : WroteBits w s at t p) where
  then_parts : CountableParts p (v ∷ rest)
  then_parts = record { counts = then_countable h (joined (v ∷ rest)) n.counts }

  pub second_part : CountablePlace p v
  second_part = first_part then_parts

module _ {at : ℕ} {a b c : List Bit} {rest : List (List Bit)} (n : CountableParts at (a ∷ b ∷ c ∷ rest)) {s t₁ t₂ : List ℕ} {p₁ p₂ : ℕ} (h₁ : WroteBits a s at t₁ p₁) (h₂ : WroteBits b t₁ p₁ t₂ p₂) where
  pub third_part : CountablePlace p₂ c
  third_part = second_part (then_parts n h₁) h₂

module _ {at : ℕ} {a b c d : List Bit} {rest : List (List Bit)} (n : CountableParts at (a ∷ b ∷ c ∷ d ∷ rest)) {s t₁ t₂ t₃ : List ℕ} {p₁ p₂ p₃ : ℕ} (h₁ : WroteBits a s at t₁ p₁)
    (h₂ : WroteBits b t₁ p₁ t₂ p₂) (h₃ : WroteBits c t₂ p₂ t₃ p₃)
  where
    pub fourth_part : CountablePlace p₃ d
    fourth_part = third_part (then_parts n h₁) h₂ h₃

module _ {at : ℕ} {a b c d e : List Bit} {rest : List (List Bit)} (n : CountableParts at (a ∷ b ∷ c ∷ d ∷ e ∷ rest)) {s t₁ t₂ t₃ t₄ : List ℕ} {p₁ p₂ p₃ p₄ : ℕ}
    (h₁ : WroteBits a s at t₁ p₁) (h₂ : WroteBits b t₁ p₁ t₂ p₂) (h₃ : WroteBits c t₂ p₂ t₃ p₃) (h₄ : WroteBits d t₃ p₃ t₄ p₄)
  where
    pub fifth_part : CountablePlace p₄ e
    fifth_part = fourth_part (then_parts n h₁) h₂ h₃ h₄

module _ {at : ℕ} {a b c d e f : List Bit} {rest : List (List Bit)} (n : CountableParts at (a ∷ b ∷ c ∷ d ∷ e ∷ f ∷ rest)) {s t₁ t₂ t₃ t₄ t₅ : List ℕ} {p₁ p₂ p₃ p₄ p₅ : ℕ}
    (h₁ : WroteBits a s at t₁ p₁) (h₂ : WroteBits b t₁ p₁ t₂ p₂) (h₃ : WroteBits c t₂ p₂ t₃ p₃) (h₄ : WroteBits d t₃ p₃ t₄ p₄) (h₅ : WroteBits e t₄ p₄ t₅ p₅)
  where
    pub sixth_part : CountablePlace p₅ f
    sixth_part = fifth_part (then_parts n h₁) h₂ h₃ h₄ h₅

module _ {at : ℕ} {a b c d e f g : List Bit} {rest : List (List Bit)} (n : CountableParts at (a ∷ b ∷ c ∷ d ∷ e ∷ f ∷ g ∷ rest)) {s t₁ t₂ t₃ t₄ t₅ t₆ : List ℕ} {p₁ p₂ p₃ p₄ p₅ p₆ : ℕ}
    (h₁ : WroteBits a s at t₁ p₁) (h₂ : WroteBits b t₁ p₁ t₂ p₂) (h₃ : WroteBits c t₂ p₂ t₃ p₃) (h₄ : WroteBits d t₃ p₃ t₄ p₄) (h₅ : WroteBits e t₄ p₄ t₅ p₅) (h₆ : WroteBits f t₅ p₅ t₆ p₆)
  where
    pub seventh_part : CountablePlace p₆ g
    seventh_part = sixth_part (then_parts n h₁) h₂ h₃ h₄ h₅ h₆

-- the bits that come next, where some are behind and more may follow
pub next_countable : {done : List Bit} {s : List ℕ} {at : ℕ} {t : List ℕ} {p : ℕ} → WroteBits done s at t p → {whole : List Bit} (w rest : List Bit) → whole ≡ done ++ (w ++ rest)
    → CountablePlace at whole → CountablePlace p w
next_countable h w rest e l = first_countable w rest (then_countable h (w ++ rest) (rw e at l))

-- ---- bits that may be left out
pub left_out : (bits : List Bit) {s : List ℕ} {at : ℕ} (b : Bool) → b ≡ false → WroteBits (bits_if b bits) s at s at
left_out bits {s} {at} b e = wrote_as (wrote_none s at) (sym (ap (λ (x : Bool). bits_if x bits) e))

module _ {bits : List Bit} {at : ℕ} (b : Bool) (e : b ≡ true) where
  pub sent_counts : CountablePlace at (bits_if b bits) → CountablePlace at bits
  sent_counts n = subst (λ (x : Bool). CountablePlace at (bits_if x bits)) e n

  pub sent_wrote : {s t : List ℕ} {p : ℕ} → WroteBits bits s at t p → WroteBits (bits_if b bits) s at t p
  sent_wrote w = wrote_as w (sym (ap (λ (x : Bool). bits_if x bits) e))

-- ---- a field of a start code, or a bit that is 0
pub fixed_fits : (width value : ℕ) → T (leb 1 width) → T (leb width 24) → T (ltb value (2 ^ width)) → FieldFits width value
fixed_fits width value a b c = record { some = leb→le 1 width a; short = leb→le width 24 b; small = ltb→lt value (2 ^ width) c }

-- ---- a field: all of it, its first bits, or none
pub first_bits : (room rest value : ℕ) → take room (bits_of (room + rest) value) ≡ bits_of room (value / 2 ^ rest)
first_bits room rest value =
    let x = value / 2 ^ rest in
    let y = value % 2 ^ rest in
    ap (λ (n : ℕ). take room (bits_of (room + rest) n)) (sym (split value rest))
    ∙ ap (take room) (sym (bits_of-append room rest x y (mod-lt value (pow_pos rest))))
    ∙ take_at (bits_of room x) (bits_of rest y) room (length-bits_of room x)

module _ {width value : ℕ} (f : FieldFits width value) (s : List ℕ) (at : ℕ) where
  next_place : at + width ≡ at + length (bits_of width value)
  next_place = ap (λ (k : ℕ). at + k) (sym (length-bits_of width value))

  pub field_whole : {t : List ℕ} → (at + width + 7) / 8 ≤ length s → t ≡ bytes_with s at (bits_of width value) → WroteBits (bits_of width value) s at t (at + width)
  field_whole l e = record {
    is =
        e ∙ sym (appended_some s at (bits_of width value) (omega (arith, length-bits_of width value, f.some)))
        ∙ ap (appended_bits s at) (sym (room_whole s at (bits_of width value) (omega (arith, length-bits_of width value))));
    next = next_place;
  }

  module _ (l : length s < (at + width + 7) / 8) where
    pub field_none : length s ≤ at / 8 → WroteBits (bits_of width value) s at s (at + width)
    field_none h = record { is = ap (appended_bits s at) (sym (room_none s at (bits_of width value) (omega arith))); next = next_place }

    module _ (h : at / 8 < length s) where
      -- the first bits are a field themselves
      pub part_fits : FieldFits (length s * 8 - at) (value / 2 ^ (width - (length s * 8 - at)))
      part_fits =
          let room = length s * 8 - at in
          let e : room + (width - room) ≡ width = omega arith in
          record { some = omega arith; short = omega (arith, f.short); small = shr_lt room (width - room) (rw e f.small) }

      pub field_part : {t : List ℕ} → t ≡ bytes_with s at (bits_of (length s * 8 - at) (value / 2 ^ (width - (length s * 8 - at)))) → WroteBits (bits_of width value) s at t (at + width)
      field_part e =
          let room = length s * 8 - at in
          let rest = width - room in
          let r : room + rest ≡ width = omega arith in
          let n : 8 * length s - at ≡ room = omega arith in
          let w = bits_of room (value / 2 ^ rest) in
          let q : bits_with_room s at (bits_of width value) ≡ w = (λ i. take (n i) (bits_of (sym r i) value)) ∙ first_bits room rest value in
          record {
            is = e ∙ sym (appended_some s at w (omega (arith, length-bits_of room (value / 2 ^ rest), part_fits.some))) ∙ ap (appended_bits s at) (sym q);
            next = next_place;
          }
