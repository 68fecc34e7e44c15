-- A register is fed a byte at a time by a table of what its eight high bits are worth, and a short one bit by bit. Assumes nothing.
use mathlib.Core.Path.{◌≡◌, refl, sym, ap, subst, ◌∙◌}
use mathlib.Core.List.{List}
use Prim.Native.Nat.{ℕ, zero, suc, ◌+◌, ◌-◌, ◌*◌, ◌/◌, ◌%◌, ◌^◌, ◌≤◌, ◌<◌}
use native.Mathlib.Nat.{zero-mul, one-mul, zero-div, mod-lt, mod-eq_of_lt}
use native.Mathlib.Omega.{arith}
use lib.Dec.{eqb, lit<, lit≤, eqb→eq}
use lib.Pow.{pow_pos, split}
use lib.Bits.{xor_lt, xor_zero_r, xor_shifted}
use lib.ListN.{get_or}
use Rattle.laws.proofs.Table.{all_at}
use Rattle.laws.proofs.Row.{get_d_row}
use Rattle.laws.specs.Xor.{◌⊕◌}
use Rattle.bits.specs.Bits.{Bit, bits_of, bits_from}
use Rattle.bits.proofs.Value.{bits_split, byte_bits}
use Rattle.bits.proofs.Numbers.{bits_of-mod}
use Rattle.bch.specs.Division.{Divisor, up, fed, raised}
use Rattle.bch.proofs.Division.{up_lt, raised-xor, fed-append, fed-lt}
use Rattle.bch.specs.Code.{generator, remainder}
use Rattle.bch.specs.Frame.{word, byte_steps, factor}
use Rattle.bch.proofs.Syndrome.{num_odd, bits_xor}

-- ---- a byte into the register of 18 bits
zeros_fed : (d : Divisor) (k r : ℕ) → fed d (bits_of k 0) r ≡ raised d k r
unfolding fed raised
zeros_fed d zero r = refl
zeros_fed d (suc k) r =
    let z : 0 / 2 ^ k ≡ 0 = zero-div (2 ^ k) in
    rw z (ap (fed d (bits_of k 0)) (xor_zero_r (up d r)) ∙ zeros_fed d k (up d r))

-- a byte alone leaves its number; ten bits move up
byte_alone : (b : ℕ) → b < 256 → fed generator (bits_of 8 b) 0 ≡ b
unfolding fed up
byte_alone b l = eqb→eq _ b (all_at 256 (λ b. eqb (fed generator (bits_of 8 b) 0) b) tt b l)

low_raised : (x : ℕ) → x < 1024 → raised generator 8 x ≡ x * 256
unfolding raised up
low_raised x l = eqb→eq _ _ (all_at 1024 (λ x. eqb (raised generator 8 x) (x * 256)) tt x l)

steps_at : (h : ℕ) → h < 256 → get_or byte_steps h 0 ≡ raised generator 8 (h * 1024)
unfolding byte_steps
steps_at h l = get_d_row 256 (λ h. raised generator 8 (h * 1024)) 0 h l

pub byte_fed : (t : List ℕ) → t ≡ byte_steps → (r b : ℕ) → r < 262144 → b < 256
    → get_or t (r / 1024) 0 ⊕ (r % 1024 * 256) ⊕ b ≡ fed generator (bits_of 8 b) r
byte_fed t e r b l m =
    let parted : r / 1024 * 1024 ⊕ r % 1024 ≡ r = xor_shifted (r / 2 ^ 10) 10 (r % 2 ^ 10) (mod-lt r (pow_pos 10)) ∙ split r 10 in
    let high : get_or t (r / 1024) 0 ≡ raised generator 8 (r / 1024 * 1024) = ap (λ (t : List ℕ). get_or t (r / 1024) 0) e ∙ steps_at (r / 1024) (omega arith) in
    let low : r % 1024 * 256 ≡ raised generator 8 (r % 1024) = sym (low_raised (r % 1024) (mod-lt r (lit< tt))) in
    (λ i. high i ⊕ low i ⊕ sym (byte_alone b m) i)
    ∙ ap (λ (x : ℕ). x ⊕ fed generator (bits_of 8 b) 0)
    (sym (raised-xor generator 8 (r / 1024 * 1024) (r % 1024)) ∙ ap (raised generator 8) parted ∙ sym (zeros_fed generator 8 r))
    ∙ sym (bits_xor generator 8 0 b r 0) ∙ ap (fed generator (bits_of 8 b)) (xor_zero_r r)

pub byte_fed_lt : (r b : ℕ) → r < 262144 → fed generator (bits_of 8 b) r < 262144
byte_fed_lt r b l = fed-lt generator (lit< tt) (bits_of 8 b) r l

-- ---- the bytes of a frame
pub byte_next : (s : List ℕ) (i r : ℕ) → i < 64
    → fed generator (bits_from s (i * 8) (512 - i * 8)) r ≡ fed generator (bits_from s ((i + 1) * 8) (512 - (i + 1) * 8)) (fed generator (bits_of 8 (get_or s i 0)) r)
byte_next s i r l =
    let e : 512 - i * 8 ≡ 8 + (512 - (i + 1) * 8) = omega arith in
    let f : i * 8 + 8 ≡ (i + 1) * 8 = omega arith in
    ap (λ (w : List Bit). fed generator w r) (ap (bits_from s (i * 8)) e ∙ bits_split s (i * 8) 8 (512 - (i + 1) * 8))
    ∙ fed-append generator (bits_from s (i * 8) 8) (bits_from s (i * 8 + 8) (512 - (i + 1) * 8)) r
    ∙ (λ j. fed generator (bits_from s (f j) (512 - (i + 1) * 8)) (fed generator (byte_bits s i (i * 8) 8 (lit≤ tt) refl j) r))

pub none-fed : (s : List ℕ) (i r : ℕ) → 64 ≤ i → fed generator (bits_from s (i * 8) (512 - i * 8)) r ≡ r
unfolding fed bits_from
none-fed s i r l = let e : 512 - i * 8 ≡ 0 = omega arith in ap (λ (n : ℕ). fed generator (bits_from s (i * 8) n) r) e

seven_alone : (x : ℕ) → x < 128 → fed generator (bits_of 7 x) 0 ≡ x
unfolding fed up
seven_alone x l = eqb→eq _ x (all_at 128 (λ x. eqb (fed generator (bits_of 7 x) 0) x) tt x l)

pub first_fed : (s : List ℕ) → fed generator (bits_from s 8 504) (get_or s 0 0 % 128) ≡ remainder (word s)
first_fed s =
    let low = sym (mod-eq_of_lt (mod-lt (get_or s 0 0) (lit< tt))) in
    let seven : fed generator (bits_from s 1 7) 0 ≡ get_or s 0 0 % 128 =
    ap (λ (w : List Bit). fed generator w 0) (byte_bits s 0 1 7 (lit≤ tt) refl ∙ bits_of-mod 7 (get_or s 0 0) (get_or s 0 0 % 128) low)
    ∙ seven_alone (get_or s 0 0 % 128) (mod-lt (get_or s 0 0) (lit< tt)) in
    ap (fed generator (bits_from s 8 504)) (sym seven) ∙ sym (fed-append generator (bits_from s 1 7) (bits_from s 8 504) 0)
    ∙ ap remainder (sym (bits_split s 1 7 504))

-- ---- the register of 9 bits
pub part_next : (d : Divisor) (x k r : ℕ) → 0 < k → fed d (bits_of k x) r ≡ fed d (bits_of (k - 1) x) (up d r ⊕ (x / 2 ^ (k - 1) % 2))
unfolding fed
part_next d x k r l =
    let e : k ≡ suc (k - 1) = omega arith in
    ap (λ (n : ℕ). fed d (bits_of n x) r) e ∙ ap (λ (b : ℕ). fed d (bits_of (k - 1) x) (up d r ⊕ b)) (num_odd (x / 2 ^ (k - 1)))

-- a register of 9 bits stays one
pub short_lt : (rest r b t : ℕ) → rest < 512 → b < 2 → t ≡ up (factor rest) r ⊕ b → t < 512
short_lt rest r b t l m e = subst (λ (n : ℕ). n < 512) (sym e) (xor_lt 9 (up (factor rest) r) b (up_lt (factor rest) r l) (omega arith))

pub scaled : (b m : ℕ) → b < 2 → m < 512 → b * m < 4294967296
scaled zero m l h = omega (arith, zero-mul m)
scaled (suc zero) m l h = omega (arith, one-mul m)
scaled (suc (suc b)) m l h = absurd (omega arith)
