-- No two codewords lie within two bits of one word; and the one that does, if any, is found. Assumes nothing.
use mathlib.Core.Path.{◌≡◌, refl, sym, ap, ◌∙◌}
use mathlib.Core.Bool.{Bool, true, false}
use mathlib.Core.List.{List, [], ◌∷◌}
use Prim.Native.Nat.{ℕ, ◌≤◌, zero-le}
use native.Mathlib.Nat.{le_trans}
use native.Mathlib.Omega.{arith}
use lib.Dec.{eqb, lit≤}
use lib.Bits.{xor_zero_r}
use lib.ListN.{length, get_or}
use Rattle.laws.specs.Choice.{pick}
use Rattle.laws.specs.Xor.{◌⊕◌}
use Rattle.laws.proofs.Xor.{xor_assoc, xor_equal}
use Rattle.bits.specs.Bits.{Bit}
use Rattle.bch.specs.Division.{raised}
use Rattle.bch.specs.Word.{errors, changes}
use Rattle.bch.proofs.Word.{Falling, falling_up, errors_fall, errors_undone, length-changes, changes_near}
use Rattle.bch.specs.Code.{first, second, generator, remainder, Near, mended, unmended}
use Rattle.bch.proofs.Syndrome.{sum_of, remainder-errors}
use Rattle.bch.specs.Locate.{part, first_logs, second_logs, lag, gaps, starts, pair_at, seek, locate}
use Rattle.bch.specs.Theorems.{Unique, Settled, FiveApart}
use Rattle.bch.proofs.FoundPlaces.{located}

module _ (f : List Bit) (size : length f ≡ 511) where
  places_found : (c : List Bit) → Near f c → locate (remainder f) ≡ errors f c
  places_found c near =
      ap locate (remainder-errors f c size near.codeword) ∙ located (errors f c) (rw size at (errors_fall f c)) near.close

  -- the codeword within two bits, if there is one, is the word changed in the places that its remainder tells
  found : (c : List Bit) → Near f c → changes (locate (remainder f)) f ≡ c
  found c near = ap (λ (ns : List ℕ). changes ns f) (places_found c near) ∙ errors_undone f c (size ∙ sym near.codeword.size)

pub unique : Unique
unique f size c c' near near' = sym (found f size c near) ∙ found f size c' near'

-- ---- mending, as it can be done
-- at most two places are looked for
few : (r : ℕ) → length (locate r) ≤ 2
unfolding locate seek
few r = go (eqb r 0) (get_or first_logs (part first r) 0) (get_or second_logs (part second r) 0)
  where
    one_or_two : (b : Bool) (u start gap : ℕ) → length (pick b (u ∷ []) (pair_at u start gap)) ≤ 2
    one_or_two true u start gap = lit≤ tt
    one_or_two false u start gap = lit≤ tt

    sought : (u v : ℕ) → length (seek u v) ≤ 2
    sought u v = one_or_two (eqb (lag u v) 0) u (get_or starts (lag u v) 0) (get_or gaps (lag u v) 0)

    go : (b : Bool) (u v : ℕ) → length (pick b [] (seek u v)) ≤ 2
    go true u v = zero-le
    go false u v = sought u v

-- the word changed in the places that its remainder tells: if a codeword lies within two bits, it is this
abbrev pub tried : List Bit → List Bit
tried f = changes (locate (remainder f)) f

module _ (f : List Bit) (size : length f ≡ 511) where
  pub tried_near : remainder (tried f) ≡ 0 → Near f (tried f)
  tried_near e =
      record {
        codeword = record { size = length-changes (locate (remainder f)) f ∙ size; divided = e };
        close = le_trans (changes_near (locate (remainder f)) f) (few (remainder f));
      }

  pub tried_far : (remainder (tried f) ≡ 0 → ⊥) → (c : List Bit) → Near f c → ⊥
  tried_far n c near = n (ap remainder (found f size c near) ∙ near.codeword.divided)

  pub clean : remainder f ≡ 0 → Near f f
  unfolding changes
  clean e = record { codeword = record { size = size; divided = e }; close = le_trans (changes_near [] f) zero-le }

pub settled : Settled
settled f size (mended c) (mended c') m m' = ap mended (unique f size c c' m m')
settled f size (mended c) unmended m m' = absurd (m' c m)
settled f size unmended (mended c) m m' = absurd (m c m')
settled f size unmended unmended m m' = refl

-- ---- two codewords that differ do so in at least five places
-- what places leave tells them
told : (ms ns : List ℕ) → Falling 511 ms → Falling 511 ns → length ms ≤ 2 → length ns ≤ 2 → sum_of generator ms ≡ sum_of generator ns → ms ≡ ns
told ms ns g h l m e = sym (located ms g l) ∙ ap locate e ∙ located ns h m

five_places : (ns : List ℕ) → Falling 511 ns → length ns ≤ 4 → sum_of generator ns ≡ 0 → ns ≡ []
unfolding sum_of
five_places [] h l e = refl
five_places (a ∷ []) h l e = told (a ∷ []) [] h tt (lit≤ tt) zero-le e
five_places (a ∷ b ∷ ns) h l e = absurd (apart ns h.1.1 told_apart)
  where
    told_apart : a ∷ b ∷ [] ≡ ns
    told_apart =
        told (a ∷ b ∷ []) ns (h.0, (h.1.0, tt)) (falling_up b 511 ns (omega arith) h.1.1) (lit≤ tt) (omega arith)
        (ap (λ (s : ℕ). raised generator a 1 ⊕ s) (xor_zero_r (raised generator b 1))
        ∙ xor_equal (raised generator a 1 ⊕ raised generator b 1) (sum_of generator ns) (xor_assoc (raised generator a 1) (raised generator b 1) (sum_of generator ns) ∙ e))

    apart : (ns : List ℕ) → Falling b ns → a ∷ b ∷ [] ≡ ns → ⊥
    apart [] k e = omega (arith, ap length e)
    apart (c ∷ ns) k e = omega (arith, ap (λ (l : List ℕ). get_or l 0 0) e)

pub five_apart : FiveApart
unfolding changes
five_apart c c' k k' l =
    let none : errors c c' ≡ [] =
    five_places (errors c c') (rw k.size at (errors_fall c c')) l (sym (remainder-errors c c' k.size k') ∙ k.divided) in
    sym (ap (λ (ns : List ℕ). changes ns c) none) ∙ errors_undone c c' (k.size ∙ sym k'.size)
