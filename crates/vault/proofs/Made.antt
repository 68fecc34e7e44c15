-- Laws of a block made of a header and a payload: its length, and how stores in a block of any bytes make it. Assumes nothing.
use mathlib.Core.Path.{◌≡◌, refl, ap, ◌∙◌}
use mathlib.Core.List.{List, ◌++◌, append-nil}
use Prim.Native.Nat.{ℕ, zero, suc, ◌+◌, ◌*◌, ◌%◌, ◌≤◌}
use native.Mathlib.Omega.{arith}
use lib.ListN.{length, drop, length-append, length-drop, get_or-append, drop_of_length-le}
use lib.Seq.{sets, paste, sets-eq}
use Rattle.laws.proofs.Splice.{sets_after, paste_after}
use Rattle.vault.specs.declared.Header.{Header}
use Rattle.vault.specs.Block.{weighted, sum_of, two_bytes, head_bytes, end_bytes, body_for, block_for}

-- the sum reads no further than it goes
pub weighted-append : (xs ys : List ℕ) (n : ℕ) → n ≤ length xs → weighted (xs ++ ys) n ≡ weighted xs n
unfolding weighted
weighted-append xs ys zero l = refl
weighted-append xs ys (suc n) l =
    λ i. weighted-append xs ys n (less l) i + suc n * get_or-append xs ys 0 n l i
  where
    less : suc n ≤ length xs → n ≤ length xs
    less l = omega arith

module _ (header : Header) (payload : List ℕ) (e : length payload ≡ 500) where
  pub before_end_lem : length (head_bytes header ++ payload) ≡ 508
  before_end_lem = length-append (head_bytes header) payload ∙ ap (λ (n : ℕ). 8 + n) e

  pub body-length : length (body_for header payload) ≡ 510
  unfolding body_for
  body-length = length-append (head_bytes header ++ payload) (end_bytes header) ∙ ap (λ (n : ℕ). n + 2) before_end_lem

  pub block_length : length (block_for header payload) ≡ 512
  unfolding block_for
  block_length = length-append (body_for header payload) _ ∙ ap (λ (n : ℕ). n + 2) body-length

  pub sum_body : (rest : List ℕ) → sum_of (body_for header payload ++ rest) ≡ sum_of (body_for header payload)
  sum_body rest = ap (λ (n : ℕ). n % 65521) (weighted-append (body_for header payload) rest 510 (omega (arith, body-length)))

  -- the head, the payload, what ends it, and then the sum, stored one after another
  module _ (block₀ : List ℕ) (f : length block₀ ≡ 512) where
    abbrev rest : List ℕ
    rest = drop 2 (drop 500 (drop 8 block₀))

    rest-length : length rest ≡ 2
    rest-length = omega (arith, length-drop 2 (drop 500 (drop 8 block₀)), length-drop 500 (drop 8 block₀), length-drop 8 block₀)

    pub head_stored : sets block₀ 0 (head_bytes header) ≡ head_bytes header ++ drop 8 block₀
    head_stored = sets-eq (head_bytes header) block₀ 0 (omega arith)

    pub payload_stored : paste (head_bytes header ++ drop 8 block₀) 8 payload 500 ≡ head_bytes header ++ payload ++ drop 500 (drop 8 block₀)
    payload_stored = paste_after (head_bytes header) payload (drop 8 block₀) 8 500 refl e

    pub end_stored : sets (head_bytes header ++ payload ++ drop 500 (drop 8 block₀)) 508 (end_bytes header) ≡ body_for header payload ++ rest
    unfolding body_for
    end_stored =
        sets_after (head_bytes header ++ payload) (end_bytes header) (drop 500 (drop 8 block₀)) 508 before_end_lem
        (omega (arith, length-drop 500 (drop 8 block₀), length-drop 8 block₀))

    pub sum-stored : sets (body_for header payload ++ rest) 510 (two_bytes (sum_of (body_for header payload ++ rest))) ≡ block_for header payload
    unfolding block_for
    sum-stored =
        ap (λ (n : ℕ). sets (body_for header payload ++ rest) 510 (two_bytes n)) (sum_body rest)
        ∙ sets_after (body_for header payload) (two_bytes (sum_of (body_for header payload))) rest 510 body-length (omega (arith, rest-length))
        ∙ ap (λ (l : List ℕ). body_for header payload ++ two_bytes (sum_of (body_for header payload)) ++ l) (drop_of_length-le rest nothing)
        ∙ append-nil (body_for header payload ++ two_bytes (sum_of (body_for header payload)))
      where
        nothing : length rest ≤ 2
        nothing = omega (arith, rest-length)

    pub stored : (block₁ block₂ block₃ : List ℕ) → block₁ ≡ sets block₀ 0 (head_bytes header) → block₂ ≡ paste block₁ 8 payload 500
        → block₃ ≡ sets (sets block₂ 508 (end_bytes header)) 510 (two_bytes (sum_of (sets block₂ 508 (end_bytes header))))
        → block₃ ≡ block_for header payload
    stored block₁ block₂ block₃ p q r =
        r ∙ ap (λ (l : List ℕ). sets l 510 (two_bytes (sum_of l))) ended ∙ sum-stored
      where
        ended : sets block₂ 508 (end_bytes header) ≡ body_for header payload ++ rest
        ended =
            ap (λ (l : List ℕ). sets l 508 (end_bytes header))
            (q ∙ ap (λ (l : List ℕ). paste l 8 payload 500) (p ∙ head_stored) ∙ payload_stored)
            ∙ end_stored
