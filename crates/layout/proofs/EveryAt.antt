-- What a test of every macroblock says of each, by its group and its place there. Assumes nothing.
use Prim.Native.Nat.{ℕ, zero, suc, ◌+◌, ◌*◌, ◌<◌}
use mathlib.Core.Path.{◌≡◌, ap, subst, ◌∙◌}
use mathlib.Core.Bool.{Bool}
use mathlib.Core.List.{List, [], ◌∷◌}
use native.Mathlib.Nat.{le_of_suc-le-suc, not-suc-le-zero, zero-mul}
use native.Mathlib.Omega.{arith}
use lib.Dec.{T}
use lib.ListN.{get_or, length, take, drop}
use lib.Seq.{drop-drop}
use Rattle.laws.proofs.Choice.{both_left, both_right}
use Rattle.layout.specs.Flat.{Flat}
use Rattle.layout.specs.Valid.{every_macroblock, every_group}

-- the four bytes and the 384 levels of macroblock n, in sending order
abbrev pub fields_at : Flat → ℕ → List ℕ
fields_at d n = take 4 (drop (n * 4) d.macroblocks)

abbrev pub levels_at : Flat → ℕ → List ℕ
levels_at d n = take 384 (drop (n * 384) d.levels)

-- past one entry of w numbers, then k more; past g groups of `each`, then m entries
drop_next : (w k : ℕ) (xs : List ℕ) → drop (k * w) (drop w xs) ≡ drop (suc k * w) xs
drop_next w k xs = drop-drop (k * w) w xs ∙ ap (λ (n : ℕ). drop n xs) next
  where
    next : w + k * w ≡ suc k * w
    next = omega arith

drop_entries : (each g m w : ℕ) (xs : List ℕ) → drop (m * w) (drop (g * (each * w)) xs) ≡ drop ((g * each + m) * w) xs
drop_entries each g m w xs = drop-drop (m * w) (g * (each * w)) xs ∙ ap (λ (n : ℕ). drop n xs) entries
  where
    entries : g * (each * w) + m * w ≡ (g * each + m) * w
    entries = omega arith

module _ (good : ℕ → List ℕ → List ℕ → Bool) where
  macroblock_in : (k address : ℕ) (fields levels : List ℕ) → T (every_macroblock good k address fields levels) → (m : ℕ) → m < k
      → T (good (address + m) (take 4 (drop (m * 4) fields)) (take 384 (drop (m * 384) levels)))
  unfolding every_macroblock
  macroblock_in zero address fields levels t m l = absurd (not-suc-le-zero l)
  macroblock_in (suc k) address fields levels t zero l =
      let first : address ≡ address + 0 = omega arith in
      let this = both_left (good address (take 4 fields) (take 384 levels)) (every_macroblock good k (address + 1) (drop 4 fields) (drop 384 levels)) t in
      subst (λ (a : ℕ). T (good a (take 4 fields) (take 384 levels))) first this
  macroblock_in (suc k) address fields levels t (suc m) l =
      let later : address + 1 + m ≡ address + suc m = omega arith in
      let rest = both_right (good address (take 4 fields) (take 384 levels)) (every_macroblock good k (address + 1) (drop 4 fields) (drop 384 levels)) t in
      coe 0 1 (i. T (good (later i) (take 4 (drop_next 4 m fields i)) (take 384 (drop_next 384 m levels i))))
      (macroblock_in k (address + 1) (drop 4 fields) (drop 384 levels) rest m (le_of_suc-le-suc l))

module _ (each : ℕ) (good : ℕ → ℕ → List ℕ → List ℕ → Bool) where
  group_in : (numbers fields levels : List ℕ) → T (every_group each good numbers fields levels) → (g : ℕ) → g < length numbers
      → T (every_macroblock (good (get_or numbers g 0)) each 1 (drop (g * (each * 4)) fields) (drop (g * (each * 384)) levels))
  unfolding every_group
  group_in [] fields levels t g l = absurd (not-suc-le-zero l)
  group_in (number ∷ numbers) fields levels t zero l =
      let this = both_left (every_macroblock (good number) each 1 fields levels) (every_group each good numbers (drop (each * 4) fields) (drop (each * 384) levels)) t in
      coe 1 0 (i. T (every_macroblock (good number) each 1 (drop (zero-mul (each * 4) i) fields) (drop (zero-mul (each * 384) i) levels))) this
  group_in (number ∷ numbers) fields levels t (suc g) l =
      let rest = both_right (every_macroblock (good number) each 1 fields levels) (every_group each good numbers (drop (each * 4) fields) (drop (each * 384) levels)) t in
      coe 0 1 (i. T (every_macroblock (good (get_or numbers g 0)) each 1 (drop_next (each * 4) g fields i) (drop_next (each * 384) g levels i)))
      (group_in numbers (drop (each * 4) fields) (drop (each * 384) levels) rest g (le_of_suc-le-suc l))

  -- macroblock m of group g, both from 0
  pub every_at : (numbers : List ℕ) (d : Flat) → T (every_group each good numbers d.macroblocks d.levels) → (g m : ℕ) → g < length numbers → m < each
      → T (good (get_or numbers g 0) (m + 1) (fields_at d (g * each + m)) (levels_at d (g * each + m)))
  every_at numbers d t g m l h =
      let address : 1 + m ≡ m + 1 = omega arith in
      let fields = d.macroblocks in
      let levels = d.levels in
      coe 0 1 (i. T (good (get_or numbers g 0) (address i) (take 4 (drop_entries each g m 4 fields i)) (take 384 (drop_entries each g m 384 levels i))))
      (macroblock_in (good (get_or numbers g 0)) each 1 (drop (g * (each * 4)) fields) (drop (g * (each * 384)) levels) (group_in numbers fields levels t g l) m h)
