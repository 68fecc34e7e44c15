-- The answer and the output of a writer, in the order of its judgements: what it writes in scratch is copied where it isn't above the limit. Assumes nothing.
use Rattle.std.specs.Prelude.{Result, Ok, Err}
use mathlib.Core.Path.{◌≡◌, refl, sym, ap, ◌∙◌}
use mathlib.Core.Bool.{Bool, true, false}
use mathlib.Core.List.{List, [], ◌∷◌, ◌++◌}
use Prim.Native.Nat.{ℕ, ◌+◌, ◌*◌, ◌/◌, ◌≤◌, ◌<◌}
use native.Mathlib.Omega.{arith}
use native.Mathlib.Nat.{zero-add}
use borrow.Author.Tests.{eq-eqb, ne_eqb, lt-ltb, le-ltb}
use lib.Dec.{eqb, ltb}
use lib.ListN.{length, take, drop}
use lib.Seq.{take_at, take-length, length-take-le}
use Rattle.laws.specs.Choice.{pick, both}
use Rattle.refusals.specs.Number.{refusal, number, read_table}
use Rattle.refusals.specs.Told.{Numbers, Told, accepted, refused_by, refused}
use Rattle.refusals.specs.Writing.{told_written}
use Rattle.refusals.specs.declared.Reason.TheVariants.{Length, Invalid, AboveLimit}
use Rattle.refusals.specs.declared.Refusal.{Refusal}
use Rattle.bits.specs.Bits.{Bit, bits_from}
use Rattle.bits.specs.Write.{started_bytes, bytes_of}
use Rattle.bits.specs.Appended.{appended_bits, WroteBits}
use Rattle.bits.specs.Output.{written_answer, filled_output, limited_output, output_left}
use Rattle.bits.proofs.Write.{length-bytes_of, written_is}
use Rattle.bits.proofs.Appended.{room_whole, wrote_long}

-- ---- the answer, in its order: by the lengths of the description's slices, the output's, and whether the description is valid
pub record Answered (one good : Bool) (room limit : ℕ) (bits : List Bit) (out : List ℕ) (answer : Told ℕ) : Type 0 where
  pub is : answer ≡ written_answer (both one (eqb (length out) room)) good limit bits

leaves_refused : (out : List ℕ) (bits : List Bit) (numbers : Numbers) → output_left out bits (refused_by numbers) ≡ out
unfolding output_left
leaves_refused out bits numbers = refl

leaves_bits : (out : List ℕ) (bits : List Bit) (n : ℕ) → output_left out bits (accepted n) ≡ filled_output out bits
unfolding output_left
leaves_bits out bits n = refl

-- what is told, and what is left in the output
abbrev pub ToldAndLeft : Told ℕ → List Bit → List ℕ → Result ℕ Refusal → List ℕ → Type 0
ToldAndLeft answer bits out w u = (told_written w ≡ answer) × (u ≡ output_left out bits answer)

module _ {one good : Bool} {room limit : ℕ} {bits : List Bit} {out : List ℕ} {answer : Told ℕ} (h : Answered one good room limit bits out answer) where
  told : Bool → Bool → Bool → Bool → Told ℕ
  told a b c d = pick (both a b) (pick c (pick d (refused 32 0) (accepted (length bits))) (refused 31 0)) (refused 1 0)

  told_is : answer ≡ told one (eqb (length out) room) good (ltb limit (length bits))
  unfolding told
  told_is = h.is

  refuses : {r : Refusal} {w : Result ℕ Refusal} → w ≡ Err r → told_written (Err r) ≡ answer → ToldAndLeft answer bits out w out
  refuses e a = (ap told_written e ∙ a, sym (ap (output_left out bits) (sym a) ∙ leaves_refused out bits _))

  module _ {o : Bool} (oe : o ≡ one) where
    pub unnamed : o ≡ false → {w : Result ℕ Refusal} → w ≡ Err (refusal Length 0) → ToldAndLeft answer bits out w out
    unfolding told number read_table
    unnamed n e = refuses e (sym (told_is ∙ ap (λ (b : Bool). told b (eqb (length out) room) good (ltb limit (length bits))) (sym oe ∙ n)))

    module _ (ot : o ≡ true) {m : ℕ} (me : m ≡ room) where
      pub unfit : (length out ≡ m → ⊥) → {w : Result ℕ Refusal} → w ≡ Err (refusal Length 0) → ToldAndLeft answer bits out w out
      unfolding told number read_table
      unfit n e = refuses e (sym (told_is ∙ (λ i. told ((sym oe ∙ ot) i) (ne_eqb (length out) room (λ x. n (x ∙ sym me)) i) good (ltb limit (length bits)))))

      module _ (mt : length out ≡ m) {v : Bool} (ve : v ≡ good) where
        fitting : eqb (length out) room ≡ true
        fitting = eq-eqb (length out) room (mt ∙ me)

        pub invalid : v ≡ false → {w : Result ℕ Refusal} → w ≡ Err (refusal Invalid 0) → ToldAndLeft answer bits out w out
        unfolding told number read_table
        invalid n e = refuses e (sym (told_is ∙ (λ i. told ((sym oe ∙ ot) i) (fitting i) ((sym ve ∙ n) i) (ltb limit (length bits)))))

        module _ (vt : v ≡ true) {c : ℕ} (ce : c ≡ length bits) {l : ℕ} (le : l ≡ limit) where
          on : (b : Bool) → ltb limit (length bits) ≡ b → answer ≡ pick b (refused 32 0) (accepted (length bits))
          unfolding told
          on b e = told_is ∙ (λ i. told ((sym oe ∙ ot) i) (fitting i) ((sym ve ∙ vt) i) (e i))

          is_past : l < c → ltb limit (length bits) ≡ true
          is_past k = lt-ltb limit (length bits) (omega arith)

          not_past : c ≤ l → ltb limit (length bits) ≡ false
          not_past k = le-ltb limit (length bits) (omega arith)

          -- what is left is what a picture of that many bits leaves
          pub above : l < c → {w : Result ℕ Refusal} {u : List ℕ} → w ≡ Err (refusal AboveLimit 0) → u ≡ limited_output limit bits out → ToldAndLeft answer bits out w u
          unfolding number read_table
          above k a e = (ap told_written a ∙ sym (on true (is_past k)), e ∙ rw (is_past k) (sym (ap (output_left out bits) (on true (is_past k)) ∙ leaves_refused out bits _)))

          pub below : c ≤ l → {u : List ℕ} → u ≡ limited_output limit bits out → ToldAndLeft answer bits out (Ok c) u
          below k e = (
            ap accepted ce ∙ sym (on false (not_past k)),
            e ∙ rw (not_past k) (sym (ap (output_left out bits) (on false (not_past k)) ∙ leaves_bits out bits (length bits))),
          )

-- ---- the first bytes of an output with these bits from its first on
no_bits : (s : List ℕ) → bits_from s 0 0 ≡ []
unfolding bits_from
no_bits s = refl

no_bytes : [] ≡ bytes_of 0 []
unfolding bytes_of
no_bytes = refl

first_bytes : (bits : List Bit) (s : List ℕ) → take (started_bytes (length bits)) (appended_bits s 0 bits) ≡ bytes_of (started_bytes (length bits)) bits
first_bytes [] s = no_bytes
first_bytes (b ∷ bs) s =
    let n : ℕ = started_bytes (length (b ∷ bs)) in
    let k : 0 + length (b ∷ bs) ≡ length (b ∷ bs) = zero-add (length (b ∷ bs)) in
    ap (take n) (written_is s 0 (b ∷ bs) ∙ (λ i. bytes_of (started_bytes (k i)) (no_bits s i ++ (b ∷ bs)) ++ drop (started_bytes (k i)) s))
    ∙ take_at (bytes_of n (b ∷ bs)) (drop n s) n (length-bytes_of n (b ∷ bs))

-- ---- bits in scratch, which has room for the limit; they are copied where they are not above it
module _ {bits : List Bit} {s t : List ℕ} {c : ℕ} (w : WroteBits bits s 0 t c) {l limit : ℕ} (le : l ≡ limit) (out : List ℕ) where
  pub counted : c ≡ length bits
  counted = w.next ∙ zero-add (length bits)

  pub left_alone : l < c → out ≡ limited_output limit bits out
  left_alone h = sym (rw (lt-ltb limit (length bits) (omega (arith, counted))))

  module _ (h : c ≤ l) (room : limit ≡ 8 * length s) where
    within : c ≤ 8 * length s
    within = omega arith

    pub first : take (started_bytes (length bits)) t ≡ bytes_of (started_bytes (length bits)) bits
    first = ap (take (started_bytes (length bits))) (w.is ∙ ap (appended_bits s 0) (room_whole s 0 bits (omega (arith, counted, within)))) ∙ first_bytes bits s

    pub copy_within : (c + 7) / 8 ≤ length t
    copy_within = omega (arith, wrote_long w, within)

    -- the bytes that are started, which are copied
    abbrev copied : List ℕ
    copied = take ((c + 7) / 8) t

    copied_long : length copied ≡ (c + 7) / 8
    copied_long = length-take-le ((c + 7) / 8) t copy_within

    pub copy_fits : length out ≡ length s → length copied ≤ length out
    copy_fits e = omega (arith, copied_long, within)

    pub filled_in : {u : List ℕ} → u ≡ take (length copied) copied ++ drop (length copied) out → u ≡ limited_output limit bits out
    filled_in e =
        e ∙ (λ i. take-length copied i ++ drop (copied_long i) out)
        ∙ ap (λ (n : ℕ). take ((n + 7) / 8) t ++ drop ((n + 7) / 8) out) counted
        ∙ ap (λ (x : List ℕ). x ++ drop (started_bytes (length bits)) out) first
        ∙ sym (rw (le-ltb limit (length bits) (omega (arith, counted))))
