-- Where the wrong bits stand, told from what the word leaves. Two wrong bits, at the places n and n + g, leave x ^ n (1 + x ^ g). Modulo either factor
-- of the generator 1 + x ^ g is a power of x, so the log of what is left there is n and that power; the second log less the first, the lag, tells
-- the gap g, whatever n is: no two gaps of 1 to 255 give the same lag. One wrong bit gives the lag 0. Since x ^ 511 is 1 all this is modulo 511, and
-- a gap of more than 255 is one of less than 256 the other way round. Assumes nothing.
use Rattle.std.specs.Prelude.{List, [], ◌∷◌, ℕ, zero, suc, ◌+◌, ◌-◌, ◌/◌, ◌%◌, ◌^◌, max, min, eqb, get_or, set, replicate}
use Rattle.laws.specs.Choice.{pick}
use Rattle.laws.specs.Row.{row}
use Rattle.laws.specs.Xor.{◌⊕◌}
use Rattle.bits.specs.Bits.{bits_of}
use Rattle.bch.specs.Division.{Divisor, up, fed}
use Rattle.bch.specs.Code.{first, second}

-- the remainder by a factor of the generator, of degree 9, from the remainder by the generator: the nine bits from x ^ 9 on, then the others
unfoldable pub part : Divisor → ℕ → ℕ
part d r = fed d (bits_of 9 r) (r / 2 ^ 9)

-- ---- powers and their logarithms
-- r, x times r and so on, n of them
unfoldable pub powers_from : Divisor → ℕ → ℕ → List ℕ
powers_from d zero r = []
powers_from d (suc n) r = r ∷ powers_from d n (up d r)

-- a table in which each number of a list has its place: n stands at the first of them, n + 1 at the second, and so on
unfoldable pub places_of : List ℕ → ℕ → List ℕ → List ℕ
places_of [] n table = table
places_of (x ∷ xs) n table = places_of xs (suc n) (set table x n)

-- 1, x, x ^ 2, .. x ^ 510 by each factor, and the table that has n at the remainder of x ^ n, and 511 at 0
unfoldable pub first_powers : List ℕ
first_powers = powers_from first 511 1

unfoldable pub second_powers : List ℕ
second_powers = powers_from second 511 1

unfoldable pub first_logs : List ℕ
first_logs = places_of first_powers 0 (replicate 512 511)

unfoldable pub second_logs : List ℕ
second_logs = places_of second_powers 0 (replicate 512 511)

-- the log of 1 + x ^ g
unfoldable pub step : List ℕ → List ℕ → ℕ → ℕ
step powers logs g = get_or logs (1 ⊕ get_or powers g 0) 0

abbrev pub first_step : ℕ → ℕ
first_step g = step first_powers first_logs g

abbrev pub second_step : ℕ → ℕ
second_step g = step second_powers second_logs g

-- ---- lags and gaps
abbrev pub lag : ℕ → ℕ → ℕ
lag u v = (v + 511 - u) % 511

-- the lags of the gaps 1 to 255; and the gap at each lag, 0 where none has it
unfoldable pub lags : List ℕ
lags = row 255 (λ k. lag (first_step (suc k)) (second_step (suc k)))

unfoldable pub gaps : List ℕ
gaps = places_of lags 1 (replicate 512 0)

-- where the pair of that lag begins whose first log is 0
unfoldable pub starts : List ℕ
starts = row 512 (λ l. (511 - first_step (get_or gaps l 0)) % 511)

abbrev pub pair_at : ℕ → ℕ → ℕ → List ℕ
pair_at u start gap =
    let m = (u + start) % 511 in
    let n = (m + gap) % 511 in
    max m n ∷ min m n ∷ []

-- the places of one or two wrong bits, by the two logs of what the word leaves
unfoldable pub seek : ℕ → ℕ → List ℕ
seek u v = pick (eqb (lag u v) 0) (u ∷ []) (pair_at u (get_or starts (lag u v) 0) (get_or gaps (lag u v) 0))

unfoldable pub locate : ℕ → List ℕ
locate r = pick (eqb r 0) [] (seek (get_or first_logs (part first r) 0) (get_or second_logs (part second r) 0))
