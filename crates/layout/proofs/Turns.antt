-- The turns of loops over a description's bytes: every byte, every macroblock of a group, every group; and the parts of lists that they look at. Assumes nothing.
use Prim.Native.Nat.{ℕ, zero, suc, ◌+◌, ◌-◌, ◌*◌, ◌≤◌, ◌<◌}
use mathlib.Core.Path.{◌≡◌, refl, sym, ap, ap₂, ◌∙◌}
use mathlib.Core.Bool.{Bool, true, false}
use mathlib.Core.List.{List, ◌∷◌}
use native.Mathlib.Nat.{zero-mul}
use native.Mathlib.Omega.{arith}
use lib.ListN.{length, get_or, take, drop, length-drop}
use lib.Seq.{drop-length, drop-drop, take_all, length-take-le}
use Rattle.laws.specs.Choice.{both}
use Rattle.laws.proofs.Lists.{drop_on}
use Rattle.laws.proofs.Rows.{rows_less}
use Rattle.layout.specs.Numbers.{all}
use Rattle.layout.specs.Valid.{every_macroblock, every_group}

-- ---- parts of a list: one to the end is the rest, and one of n has n
pub part_rest : (l : List ℕ) (a : ℕ) → take (length l - a) (drop a l) ≡ drop a l
part_rest l a = take_all (length l - a) (drop a l) (omega (arith, length-drop a l))

pub part_length : (l : List ℕ) (a n : ℕ) → a + n ≤ length l → n ≤ length (take (length l - a) (drop a l))
part_length l a n h = omega (arith, ap length (part_rest l a), length-drop a l)

pub piece_length : (l : List ℕ) (a n : ℕ) → a + n ≤ length l → length (take (a + n - a) (drop a l)) ≡ n
piece_length l a n h =
    let e : a + n - a ≡ n = omega arith in
    ap (λ (k : ℕ). length (take k (drop a l))) e ∙ length-take-le n (drop a l) (omega (arith, length-drop a l))

-- ---- every byte
pub record AllSoFar (whole : Bool) (good : ℕ → Bool) (bytes : List ℕ) (i : ℕ) : Type 0 where
  pub inside : i ≤ length bytes
  pub same : whole ≡ all good (drop i bytes)

pub all_first : (good : ℕ → Bool) (bytes : List ℕ) (i : ℕ) → i ≤ length bytes → AllSoFar (all good (drop i bytes)) good bytes i
all_first good bytes i h = record { inside = h; same = refl }

module _ {whole : Bool} {good : ℕ → Bool} {bytes : List ℕ} {i : ℕ} (h : AllSoFar whole good bytes i) where
  pub all_done : length bytes ≤ i → true ≡ whole
  all_done l =
      let e : i ≡ length bytes = omega (arith, h.inside) in
      sym (h.same ∙ ap (λ (n : ℕ). all good (drop n bytes)) e ∙ ap (all good) (drop-length bytes))

  module _ (l : i < length bytes) where
    on : whole ≡ both (good (get_or bytes i 0)) (all good (drop (i + 1) bytes))
    on = h.same ∙ ap (all good) (drop_on bytes i l)

    pub all_no : good (get_or bytes i 0) ≡ false → false ≡ whole
    all_no e = sym (on ∙ ap (λ (b : Bool). both b (all good (drop (i + 1) bytes))) e)

    pub all_more : good (get_or bytes i 0) ≡ true → AllSoFar whole good bytes (i + 1)
    all_more e = record { inside = omega arith; same = on ∙ ap (λ (b : Bool). both b (all good (drop (i + 1) bytes))) e }

-- ---- the macroblocks of a group: k are behind
pub record GroupSoFar (each : ℕ) (good : ℕ → List ℕ → List ℕ → Bool) (whole : Bool) (fields levels : List ℕ) (k : ℕ) : Type 0 where
  pub left : ℕ
  pub count : k + left ≡ each
  pub same : whole ≡ every_macroblock good left (k + 1) (drop (k * 4) fields) (drop (k * 384) levels)

pub group_begin : (each : ℕ) (good : ℕ → List ℕ → List ℕ → Bool) (fields levels : List ℕ) → GroupSoFar each good (every_macroblock good each 1 fields levels) fields levels 0
group_begin each good fields levels = record { left = each; count = none each; same = refl }
  where
    none : (n : ℕ) → 0 + n ≡ n
    none n = omega arith

module _ (good : ℕ → List ℕ → List ℕ → Bool) where
  macroblocks_none : (n address : ℕ) (fields levels : List ℕ) → n ≡ 0 → every_macroblock good n address fields levels ≡ true
  unfolding every_macroblock
  macroblocks_none zero address fields levels e = refl
  macroblocks_none (suc n) address fields levels e = absurd (omega arith)

  macroblocks_one : (n address : ℕ) (fields levels : List ℕ)
      → every_macroblock good (suc n) address fields levels ≡ both (good address (take 4 fields) (take 384 levels)) (every_macroblock good n (address + 1) (drop 4 fields) (drop 384 levels))
  unfolding every_macroblock
  macroblocks_one n address fields levels = refl

module _ {each : ℕ} {good : ℕ → List ℕ → List ℕ → Bool} {whole : Bool} {fields levels : List ℕ} {k : ℕ} (h : GroupSoFar each good whole fields levels k) where
  pub group_done : each ≤ k → true ≡ whole
  group_done l = sym (h.same ∙ macroblocks_none good h.left _ _ _ (omega (arith, h.count)))

  module _ (l : k < each) (r : Bool) (m : r ≡ good (k + 1) (take (k * 4 + 4 - k * 4) (drop (k * 4) fields)) (take (k * 384 + 384 - k * 384) (drop (k * 384) levels))) where
    abbrev others : Bool
    others = every_macroblock good (each - suc k) (k + 1 + 1) (drop ((k + 1) * 4) fields) (drop ((k + 1) * 384) levels)

    group_on : whole ≡ both r others
    group_on =
        let e : h.left ≡ suc (each - suc k) = omega (arith, h.count) in
        let four : k * 4 + 4 - k * 4 ≡ 4 = omega arith in
        let many : k * 384 + 384 - k * 384 ≡ 384 = omega arith in
        let a : k * 4 + 4 ≡ (k + 1) * 4 = omega arith in
        let b : k * 384 + 384 ≡ (k + 1) * 384 = omega arith in
        h.same ∙ ap (λ (n : ℕ). every_macroblock good n (k + 1) (drop (k * 4) fields) (drop (k * 384) levels)) e
        ∙ macroblocks_one good (each - suc k) (k + 1) (drop (k * 4) fields) (drop (k * 384) levels)
        ∙ ap₂ both (sym (m ∙ ap₂ (λ (x y : ℕ). good (k + 1) (take x (drop (k * 4) fields)) (take y (drop (k * 384) levels))) four many))
        (ap₂ (every_macroblock good (each - suc k) (k + 1 + 1))
        (drop-drop 4 (k * 4) fields ∙ ap (λ (n : ℕ). drop n fields) a)
        (drop-drop 384 (k * 384) levels ∙ ap (λ (n : ℕ). drop n levels) b))

    pub group_no : r ≡ false → false ≡ whole
    group_no e = sym (group_on ∙ ap (λ (b : Bool). both b others) e)

    pub group_more : r ≡ true → GroupSoFar each good whole fields levels (k + 1)
    group_more e = record { left = each - suc k; count = omega arith; same = group_on ∙ ap (λ (b : Bool). both b others) e }

-- ---- the groups: g are behind
pub record GroupsSoFar (each : ℕ) (good : ℕ → ℕ → List ℕ → List ℕ → Bool) (numbers : List ℕ) (whole : Bool) (fields levels : List ℕ) (g : ℕ) : Type 0 where
  pub within_count : g ≤ length numbers
  pub same : whole ≡ every_group each good (drop g numbers) (drop (g * (each * 4)) fields) (drop (g * (each * 384)) levels)

module _ (each : ℕ) (good : ℕ → ℕ → List ℕ → List ℕ → Bool) where
  pub groups_begin : (numbers fields levels : List ℕ) → GroupsSoFar each good numbers (every_group each good numbers fields levels) fields levels 0
  groups_begin numbers fields levels = record {
    within_count = omega arith;
    same = sym (λ i. every_group each good numbers (drop (zero-mul (each * 4) i) fields) (drop (zero-mul (each * 384) i) levels));
  }

  groups_one : (number : ℕ) (numbers fields levels : List ℕ)
      → every_group each good (number ∷ numbers) fields levels ≡ both (every_macroblock (good number) each 1 fields levels) (every_group each good numbers (drop (each * 4) fields) (drop (each * 384) levels))
  unfolding every_group
  groups_one number numbers fields levels = refl

-- past a group more of w numbers
past : (g w : ℕ) → g * w + w ≡ (g + 1) * w
past g w = omega arith

module _ {each : ℕ} {good : ℕ → ℕ → List ℕ → List ℕ → Bool} {numbers : List ℕ} {whole : Bool} {fields levels : List ℕ} {g : ℕ} (h : GroupsSoFar each good numbers whole fields levels g) where
  pub groups_done : length numbers ≤ g → true ≡ whole
  unfolding every_group
  groups_done l =
      let e : g ≡ length numbers = omega (arith, h.within_count) in
      sym (h.same ∙ ap (λ (ns : List ℕ). every_group each good ns (drop (g * (each * 4)) fields) (drop (g * (each * 384)) levels)) (ap (λ (n : ℕ). drop n numbers) e ∙ drop-length numbers))

  module _ (l : g < length numbers) (r : Bool) (m : r ≡ every_macroblock (good (get_or numbers g 0)) each 1 (drop (g * (each * 4)) fields) (drop (g * (each * 384)) levels)) where
    abbrev more : Bool
    more = every_group each good (drop (g + 1) numbers) (drop ((g + 1) * (each * 4)) fields) (drop ((g + 1) * (each * 384)) levels)

    groups_on : whole ≡ both r more
    groups_on =
        h.same
        ∙ ap (λ (ns : List ℕ). every_group each good ns (drop (g * (each * 4)) fields) (drop (g * (each * 384)) levels)) (drop_on numbers g l)
        ∙ groups_one each good (get_or numbers g 0) (drop (g + 1) numbers) (drop (g * (each * 4)) fields) (drop (g * (each * 384)) levels)
        ∙ ap₂ both (sym m)
        (ap₂ (every_group each good (drop (g + 1) numbers))
        (drop-drop (each * 4) (g * (each * 4)) fields ∙ ap (λ (n : ℕ). drop n fields) (past g (each * 4)))
        (drop-drop (each * 384) (g * (each * 384)) levels ∙ ap (λ (n : ℕ). drop n levels) (past g (each * 384))))

    pub groups_no : r ≡ false → false ≡ whole
    groups_no e = sym (groups_on ∙ ap (λ (b : Bool). both b more) e)

    pub groups_more : r ≡ true → GroupsSoFar each good numbers whole fields levels (g + 1)
    groups_more e = record { within_count = omega arith; same = groups_on ∙ ap (λ (b : Bool). both b more) e }

-- a group's own parts, from its first byte on
pub group_part : (each : ℕ) (good : ℕ → ℕ → List ℕ → List ℕ → Bool) (fields levels : List ℕ) (a b number n : ℕ) (r : Bool) → n ≡ number
    → r ≡ every_macroblock (good n) each 1 (take (length fields - a) (drop a fields)) (take (length levels - b) (drop b levels))
    → r ≡ every_macroblock (good number) each 1 (drop a fields) (drop b levels)
group_part each good fields levels a b number n r e m = m ∙ (λ i. every_macroblock (good (e i)) each 1 (part_rest fields a i) (part_rest levels b i))

-- they lie in the lists
pub record GroupWithin (each g : ℕ) (fields levels : List ℕ) : Type 0 where
  pub fields_fit : g * (each * 4) + each * 4 ≤ length fields
  pub levels_fit : g * (each * 384) + each * 384 ≤ length levels

pub group_within : {count each g : ℕ} {fields levels : List ℕ} → length fields ≡ count * (each * 4) → length levels ≡ count * (each * 384) → g < count → GroupWithin each g fields levels
group_within {each = each} a b l = record { fields_fit = omega (arith, rows_less (each * 4) l); levels_fit = omega (arith, rows_less (each * 384) l) }
