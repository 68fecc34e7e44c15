-- The levels of a block as its coefficients: one after another, and whether there are any. Assumes nothing.
use mathlib.Core.Path.{◌≡◌, refl, sym, ap, subst, ◌∙◌}
use mathlib.Core.Bool.{Bool, true, false}
use mathlib.Core.List.{List, [], ◌∷◌}
use Prim.Native.Nat.{ℕ, zero, suc, ◌+◌, ◌-◌, ◌*◌, ◌≤◌, ◌<◌}
use native.Mathlib.Omega.{arith}
use native.Mathlib.Numerals.{add-one}
use borrow.Author.Tests.{ne_eqb}
use lib.Dec.{T, leb, eqb, leb→le, lit≤, eqb-suc-zero}
use lib.ListN.{length, get_or, take, drop}
use lib.Seq.{drop-drop, get_or-drop, get_or-take}
use Rattle.laws.specs.Choice.{both, either, opposite}
use Rattle.laws.proofs.Choice.{both_left, both_right, T_true, true-T, true-false, opposite_no}
use Rattle.layout.specs.Value.{coefficient, Block}
use Rattle.layout.specs.Flat.{gather}
use Rattle.layout.specs.Numbers.{forbidden, all, is_zero, is_level, codes_first}
use Rattle.layout.specs.Sendable.{Sendable}
use Rattle.layout.specs.Pattern.{presence_of}
use Rattle.layout.proofs.Levels.{all_index, all_drop}

-- ---- a part of a list, as the code takes it
pub piece : (l : List ℕ) (a n : ℕ) → take (a + n - a) (drop a l) ≡ take n (drop a l)
piece l a n = let e : a + n - a ≡ n = omega arith in ap (λ (k : ℕ). take k (drop a l)) e

pub piece_first : (l : List ℕ) (a n : ℕ) → 0 < n → get_or (take (a + n - a) (drop a l)) 0 0 ≡ get_or l a 0
piece_first l a n h =
    let z : a + 0 ≡ a = omega arith in
    ap (λ (x : List ℕ). get_or x 0 0) (piece l a n) ∙ get_or-take n (drop a l) 0 0 h ∙ get_or-drop a l 0 0 ∙ ap (λ (k : ℕ). get_or l k 0) z

-- ---- one level that can be sent
level_fine : (b : ℕ) → T (is_level b) → (b ≡ 0 → ⊥) → forbidden b ≡ false
level_fine b t n = λ i. either (ne_eqb b 0 n i) (either (opposite_no (eqb b 128) (both_right (leb b 255) (opposite (eqb b 128)) t) i) false)

pub level_sendable : (run b : ℕ) → T (is_level b) → (b ≡ 0 → ⊥) → run ≤ 63 → Sendable (coefficient run b)
level_sendable run b g n r =
    let h : b ≤ 255 = leb→le b 255 (both_left (leb b 255) (opposite (eqb b 128)) g) in
    record { run = r; byte = omega arith; level = level_fine b g n }

pub sendable : (levels : List ℕ) (k run : ℕ) → T (all is_level levels) → k < length levels → (get_or levels k 0 ≡ 0 → ⊥) → run ≤ 63 → Sendable (coefficient run (get_or levels k 0))
sendable levels k run t l n r = level_sendable run (get_or levels k 0) (all_index is_level levels t k l) n r

-- ---- one level after another
pub gather-zero : (run code : ℕ) (ls : List ℕ) → code ≡ 0 → gather run (code ∷ ls) ≡ gather (run + 1) ls
unfolding gather
gather-zero run code ls e = ap (λ (c : ℕ). gather run (c ∷ ls)) e ∙ ap (λ (r : ℕ). gather r ls) (sym (add-one run))

pub gather_code : (run code : ℕ) (ls : List ℕ) → (code ≡ 0 → ⊥) → gather run (code ∷ ls) ≡ coefficient run code ∷ gather 0 ls
unfolding gather
gather_code run zero ls n = absurd (n refl)
gather_code run (suc code) ls n = refl

pub gather-zeros : (run : ℕ) (l : List ℕ) → T (all is_zero l) → gather run l ≡ []
unfolding gather
gather-zeros run [] z = refl
gather-zeros run (zero ∷ xs) z = gather-zeros (suc run) xs z
gather-zeros run (suc x ∷ xs) z = absurd (subst T (eqb-suc-zero x) (both_left (is_zero (suc x)) (all is_zero xs) z))

pub zeros_on : (levels : List ℕ) (end k : ℕ) → end ≤ k → T (all is_zero (drop end levels)) → T (all is_zero (drop k levels))
zeros_on levels end k l z =
    let e : end + (k - end) ≡ k = omega (arith, l) in
    true-T (all is_zero (drop k levels))
    (ap (λ (n : ℕ). all is_zero (drop n levels)) (sym e) ∙ ap (all is_zero) (sym (drop-drop (k - end) end levels)) ∙ T_true (all is_zero (drop (k - end) (drop end levels))) (all_drop is_zero (k - end) (drop end levels) z))

-- no more coefficients than levels
pub gather_short : (run : ℕ) (l : List ℕ) → length (gather run l) ≤ length l
unfolding gather
gather_short run [] = omega arith
gather_short run (zero ∷ ls) = omega (arith, gather_short (suc run) ls)
gather_short run (suc code ∷ ls) = omega (arith, gather_short 0 ls)

-- ---- whether there are any
pub present_none : (run : ℕ) (l : List ℕ) → all is_zero l ≡ true → 0 ≡ presence_of (gather run l)
unfolding gather
present_none run [] e = refl
present_none run (zero ∷ xs) e = present_none (suc run) xs e
present_none run (suc x ∷ xs) e = absurd (true-false (sym e ∙ ap (λ (b : Bool). both b (all is_zero xs)) (eqb-suc-zero x)))

pub present_some : (run : ℕ) (l : List ℕ) → all is_zero l ≡ false → 1 ≡ presence_of (gather run l)
unfolding gather
present_some run [] e = absurd (true-false e)
present_some run (zero ∷ xs) e = present_some (suc run) xs e
present_some run (suc x ∷ xs) e = refl

pub present_low : (b : Block) → presence_of b ≤ 1
present_low [] = lit≤ tt
present_low (c ∷ cs) = lit≤ tt

-- ---- blocks of a macroblock: an INTRA one begins with its code
codes_at : (n b : ℕ) (l : List ℕ) → T (codes_first n l) → b < n → T (opposite (is_zero (get_or l (b * 64) 0)))
unfolding codes_first
codes_at zero b l t h = absurd (omega arith)
codes_at (suc n) zero l t h = both_left (opposite (is_zero (get_or l 0 0))) (codes_first n (drop 64 l)) t
codes_at (suc n) (suc b) l t h =
    let e : 64 + b * 64 ≡ suc b * 64 = omega arith in
    let r = codes_at n b (drop 64 l) (both_right (opposite (is_zero (get_or l 0 0))) (codes_first n (drop 64 l)) t) (omega arith) in
    subst (λ (x : ℕ). T (opposite (is_zero x))) (get_or-drop 64 l (b * 64) 0 ∙ ap (λ (k : ℕ). get_or l k 0) e) r

pub block_begins : (levels : List ℕ) (intra : Bool) (b : ℕ) → T (either (opposite intra) (codes_first 6 levels)) → b < 6
    → T (either (opposite intra) (opposite (is_zero (get_or (take (b * 64 + 64 - b * 64) (drop (b * 64) levels)) 0 0))))
block_begins levels false b t l = tt
block_begins levels true b t l =
    subst (λ (x : ℕ). T (opposite (is_zero x))) (sym (piece_first levels (b * 64) 64 (omega arith))) (codes_at 6 b levels t l)
