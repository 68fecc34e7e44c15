-- The last twenty bits as a number. Assumes nothing.
use mathlib.Core.Path.{◌≡◌, refl, sym, ap, ◌∙◌}
use mathlib.Core.Bool.{Bool, true, false}
use mathlib.Core.List.{List, [], ◌∷◌, ◌++◌, append_assoc, head-eq_of_cons-eq, tail-eq_of_cons-eq}
use Prim.Native.Nat.{ℕ, zero, suc, ◌+◌, ◌*◌, ◌%◌, ◌^◌, ◌<◌, ◌≤◌}
use native.Mathlib.Nat.{pow-suc}
use native.Mathlib.Omega.{arith}
use lib.Dec.{lit<, lit≤}
use lib.Pow.{low}
use lib.ListN.{length, take, drop, replicate, length-append, length-drop, length-replicate, take-append-drop}
use lib.Seq.{drop-append-le, drop-drop, drop_at}
use Rattle.laws.proofs.Choice.{true-false}
use Rattle.stream.specs.Stream.{bit_number, window_after}
use Rattle.stream.specs.Last.{start_code}
use Rattle.stream.proofs.Last.{length_snoc, code_length}
use Rattle.stream.specs.Window.{number, last_twenty}

-- ---- numbers
number_lt : (bits : List Bool) → number bits < 2 ^ length bits
unfolding number
number_lt [] = lit< tt
number_lt (true ∷ bits) = omega (arith, pow-suc 2 (length bits), number_lt bits)
number_lt (false ∷ bits) = omega (arith, pow-suc 2 (length bits), number_lt bits)

number_snoc : (bits : List Bool) (b : Bool) → number (bits ++ (b ∷ [])) ≡ number bits * 2 + bit_number b
unfolding number
number_snoc [] true = refl
number_snoc [] false = refl
number_snoc (true ∷ bits) b =
    let power = ap (λ (n : ℕ). 2 ^ n) (length_snoc bits b) ∙ pow-suc 2 (length bits) in
    omega (arith, power, number_snoc bits b)
number_snoc (false ∷ bits) b = omega (arith, number_snoc bits b)

-- as many bits with the same number are the same
number_once : (xs ys : List Bool) → length xs ≡ length ys → number xs ≡ number ys → xs ≡ ys
unfolding number
number_once [] [] l e = refl
number_once [] (y ∷ ys) l e = absurd (omega (arith, l))
number_once (x ∷ xs) [] l e = absurd (omega (arith, l))
number_once (true ∷ xs) (true ∷ ys) l e =
    let same : length xs ≡ length ys = omega (arith, l) in
    let power = ap (λ (n : ℕ). 2 ^ n) same in
    ap (λ (bits : List Bool). true ∷ bits) (number_once xs ys same (omega (arith, e, power)))
number_once (false ∷ xs) (false ∷ ys) l e =
    let same : length xs ≡ length ys = omega (arith, l) in
    ap (λ (bits : List Bool). false ∷ bits) (number_once xs ys same (omega (arith, e)))
number_once (true ∷ xs) (false ∷ ys) l e =
    let same : length xs ≡ length ys = omega (arith, l) in
    let power = ap (λ (n : ℕ). 2 ^ n) same in
    absurd (omega (arith, e, power, number_lt ys))
number_once (false ∷ xs) (true ∷ ys) l e =
    let same : length xs ≡ length ys = omega (arith, l) in
    let power = ap (λ (n : ℕ). 2 ^ n) same in
    absurd (omega (arith, e, power, number_lt xs))

-- ---- one more bit
length_last : (seen : List Bool) → length (last_twenty seen) ≡ 20
length_last seen =
    let ones : List Bool = replicate 20 true in
    omega (arith, length-drop (length seen) (ones ++ seen), length-append ones seen, length-replicate 20 true)

last_snoc : (ones seen : List Bool) (b : Bool) → 1 ≤ length ones
    → drop (length (seen ++ (b ∷ []))) (ones ++ (seen ++ (b ∷ []))) ≡ drop 1 (drop (length seen) (ones ++ seen)) ++ (b ∷ [])
last_snoc ones seen b l =
    let e : length (seen ++ (b ∷ [])) ≡ length seen + 1 = omega (arith, length_snoc seen b) in
    let room : length seen + 1 ≤ length (ones ++ seen) = omega (arith, length-append ones seen) in
    ap (λ (n : ℕ). drop n (ones ++ (seen ++ (b ∷ [])))) e
    ∙ ap (drop (length seen + 1)) (sym (append_assoc ones seen (b ∷ [])))
    ∙ drop-append-le (length seen + 1) (ones ++ seen) (b ∷ []) room
    ∙ ap (λ (l : List Bool). l ++ (b ∷ [])) (sym (drop-drop 1 (length seen) (ones ++ seen)))

shifted : (w : List Bool) (b : Bool) → length w ≡ 20 → window_after (number w) b ≡ number (drop 1 w ++ (b ∷ []))
unfolding number
shifted [] b e = absurd (omega (arith, e))
shifted (x ∷ w) b e =
    let rest : 19 ≡ length w = omega (arith, e) in
    let kept : number (x ∷ w) % 2 ^ 19 ≡ number w = ap (λ (k : ℕ). number (x ∷ w) % 2 ^ k) rest ∙ low (bit_number x) (length w) (number_lt w) in
    ap (λ (n : ℕ). n * 2 + bit_number b) kept ∙ sym (number_snoc w b)

pub window_more : (seen : List Bool) (b : Bool) → window_after (number (last_twenty seen)) b ≡ number (last_twenty (seen ++ (b ∷ [])))
window_more seen b =
    shifted (last_twenty seen) b (length_last seen) ∙ ap number (sym (last_snoc (replicate 20 true) seen b (lit≤ tt)))

-- ---- the start code
code_number : number start_code ≡ 16
unfolding start_code number
code_number = refl

-- a start code begins with a zero: it has none of the ones before the first bit
past_ones : (k : ℕ) (front seen : List Bool) → replicate k true ++ seen ≡ front ++ start_code → (earlier : List Bool) × (seen ≡ earlier ++ start_code)
unfolding start_code
past_ones zero front seen e = (front, e)
past_ones (suc k) [] seen e = absurd (true-false (head-eq_of_cons-eq e))
past_ones (suc k) (x ∷ front) seen e = past_ones k front seen (tail-eq_of_cons-eq e)

pub ends_with : (seen : List Bool) → number (last_twenty seen) ≡ 16 → (earlier : List Bool) × (seen ≡ earlier ++ start_code)
ends_with seen e =
    let all = replicate 20 true ++ seen in
    let same : last_twenty seen ≡ start_code = number_once (last_twenty seen) start_code (length_last seen ∙ sym code_length) (e ∙ sym code_number) in
    past_ones 20 (take (length seen) all) seen (sym (take-append-drop (length seen) all) ∙ ap (λ (l : List Bool). take (length seen) all ++ l) same)

last_code : (ones earlier : List Bool) → length ones ≡ 20 → drop (length (earlier ++ start_code)) (ones ++ (earlier ++ start_code)) ≡ start_code
last_code ones earlier l =
    let e : length (ones ++ earlier) ≡ length (earlier ++ start_code) = omega (arith, length-append ones earlier, length-append earlier start_code, code_length) in
    ap (drop (length (earlier ++ start_code))) (sym (append_assoc ones earlier start_code)) ∙ drop_at (ones ++ earlier) start_code (length (earlier ++ start_code)) e

pub with_end : (seen earlier : List Bool) → seen ≡ earlier ++ start_code → number (last_twenty seen) ≡ 16
with_end seen earlier e = ap (λ (l : List Bool). number (last_twenty l)) e ∙ ap number (last_code (replicate 20 true) earlier refl) ∙ code_number
