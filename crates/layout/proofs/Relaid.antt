-- A description of macroblocks that can be read is the layout of the picture that is read of it. Assumes nothing.
use Prim.Native.Nat.{ℕ, zero, suc, ◌+◌, ◌-◌, ◌*◌, ◌≤◌, ◌<◌}
use mathlib.Core.Path.{◌≡◌, refl, sym, ap, ◌∙◌}
use mathlib.Core.Bool.{Bool}
use mathlib.Core.List.{List, [], ◌∷◌, ◌++◌, append-nil}
use native.Mathlib.Nat.{zero-mul, suc-mul}
use native.Mathlib.Omega.{arith}
use lib.Dec.{T}
use lib.ListN.{length, take, drop, length-drop, take-append-drop}
use lib.Seq.{length-take-le}
use mir.Syntax.{w8}
use mir.Facts.{of_z-to_z}
use Rattle.laws.proofs.Choice.{both_left, both_right}
use Rattle.laws.proofs.Zeros.{zeros, zeros_split}
use Rattle.layout.specs.Value.{Macroblock, Group}
use Rattle.layout.specs.Flat.{byte_of, number_of, fields_of, macroblock_in, macroblocks_in, groups_in, read_back}
use Rattle.layout.specs.Valid.{every_macroblock, every_group}
use Rattle.layout.specs.Proper.{Storable, GoodGroup}
use Rattle.layout.specs.Back.{Readable, Reading, LaidOutBack}
use Rattle.layout.proofs.Levels.{zero-all}
use Rattle.layout.proofs.Blocks.{length-gathers, gathers_fit, take_more, spreads-gathers}
use Rattle.layout.proofs.LaidOut.{has_lengths_lem}
use Rattle.layout.proofs.Pictured.{numbered_length, numbered_any, groups_good, groups_storable}
use Rattle.layout.proofs.Spread.{rows, levels_of, columns, gquants, laid_spread}

-- ---- a macroblock
pub byte_back : (c : ℕ) → c ≤ 255 → byte_of (number_of c) ≡ c
byte_back c l = of_z-to_z {w = w8} (record { fits = omega arith })

pub readable_storable : (address t b c d : ℕ) (ls : List ℕ) → Readable (suc t) b c d ls → Storable (macroblock_in address (suc t ∷ b ∷ c ∷ d ∷ []) ls)
readable_storable address t b c d ls p = record {
  sent = omega arith;
  horizontally = ap number_of (byte_back c p.horizontal);
  vertically = ap number_of (byte_back d p.vertical);
  six = length-gathers 6 ls;
  fitting = gathers_fit 6 ls p.levelled;
}

fields_back : (address a b c d : ℕ) (ls ms : List ℕ) → Readable a b c d ls → fields_of (macroblock_in address (a ∷ b ∷ c ∷ d ∷ []) ms) ≡ a ∷ b ∷ c ∷ d ∷ []
fields_back address a b c d ls ms p = λ i. a ∷ b ∷ byte_back c p.horizontal i ∷ byte_back d p.vertical i ∷ []

-- an unsent one is all zeros
unsent : (b c d : ℕ) (ls : List ℕ) → Readable 0 b c d ls → 0 ∷ b ∷ c ∷ d ∷ [] ≡ zeros 4
unfolding zeros
unsent b c d ls p = let z = p.unsent refl in (λ i. 0 ∷ z.0 i ∷ z.1 i ∷ z.2 i ∷ [])

-- ---- the rows of a group: those past `last` begin with zeros up to `address`, and k follow
module _ (each w : ℕ) (row : Macroblock → List ℕ) (last : ℕ) where
  rows_end : (address : ℕ) → address ≡ suc each → rows each w row last [] ≡ zeros ((address - suc last) * w) ++ []
  unfolding rows
  rows_end address e =
      let n : each - last ≡ address - suc last = omega arith in
      ap (λ (n : ℕ). zeros (n * w)) n ∙ sym (append-nil (zeros ((address - suc last) * w)))

  module _ (k : ℕ) (xs : List ℕ) where
    rows_skip : (address : ℕ) (ms : List Macroblock) → last < address → take w xs ≡ zeros w
        → rows each w row last ms ≡ zeros ((address + 1 - suc last) * w) ++ take (k * w) (drop w xs)
        → rows each w row last ms ≡ zeros ((address - suc last) * w) ++ take (suc k * w) xs
    rows_skip address ms l z e =
        let n : address + 1 - suc last ≡ suc (address - suc last) = omega arith in
        e ∙ ap (λ (n : ℕ). zeros (n * w) ++ take (k * w) (drop w xs)) n
        ∙ zeros_split ((address - suc last) * w) w (suc (address - suc last) * w) (take (k * w) (drop w xs)) (suc-mul (address - suc last) w)
        ∙ ap (λ (l : List ℕ). zeros ((address - suc last) * w) ++ l)
        (ap (λ (l : List ℕ). l ++ take (k * w) (drop w xs)) (sym z) ∙ sym (take_more w k xs))

    rows_send : (m : Macroblock) (ms : List Macroblock) → row m ≡ take w xs
        → rows each w row m.address ms ≡ zeros ((m.address + 1 - suc m.address) * w) ++ take (k * w) (drop w xs)
        → rows each w row last (m ∷ ms) ≡ zeros ((m.address - suc last) * w) ++ take (suc k * w) xs
    unfolding rows zeros
    rows_send m ms r e =
        let n : (m.address + 1 - suc m.address) * w ≡ 0 = ap (λ (n : ℕ). n * w) (none m.address) ∙ zero-mul w in
        let others : rows each w row m.address ms ≡ take (k * w) (drop w xs) = e ∙ ap (λ (n : ℕ). zeros n ++ take (k * w) (drop w xs)) n in
        ap (λ (l : List ℕ). zeros ((m.address - suc last) * w) ++ l) ((λ i. r i ++ others i) ∙ sym (take_more w k xs))
      where
        none : (a : ℕ) → a + 1 - suc a ≡ 0
        none a = omega arith

record Rows (each k last address : ℕ) (fields levels : List ℕ) (ms : List Macroblock) : Type 0 where
  pub in_fields : rows each 4 fields_of last ms ≡ zeros ((address - suc last) * 4) ++ take (k * 4) fields
  pub in_levels : rows each 384 levels_of last ms ≡ zeros ((address - suc last) * 384) ++ take (k * 384) levels

record Columns (each : ℕ) (qs fields levels : List ℕ) (gs : List Group) : Type 0 where
  pub in_head : gquants gs ≡ qs
  pub in_fields : columns each 4 fields_of gs ≡ fields
  pub in_levels : columns each 384 levels_of gs ≡ levels

none_left : (xs : List ℕ) (w : ℕ) → length xs ≡ 0 * w → [] ≡ xs
none_left [] w e = refl
none_left (x ∷ xs) w e = let z = zero-mul w in absurd (omega arith)

-- a group's numbers, and those of the others
group_first : (n size k : ℕ) → k ≡ suc n * size → (size ≤ k) × (k - size ≡ n * size)
group_first n size k e = let m = suc-mul n size in (omega arith, omega arith)

-- nothing stands before the first
row_first : (w : ℕ) {xs ys : List ℕ} → xs ≡ zeros ((1 - 1) * w) ++ ys → xs ≡ ys
unfolding zeros
row_first w {xs} {ys} e = e ∙ ap (λ (n : ℕ). zeros n ++ ys) (zero-mul w)

module _ (each : ℕ) (good : ℕ → ℕ → List ℕ → List ℕ → Bool) (reads : Reading good) where
  rows_back : (number k last address : ℕ) (fields levels : List ℕ) → last < address → address + k ≡ suc each → k * 4 ≤ length fields
      → k * 384 ≤ length levels → T (every_macroblock (good number) k address fields levels) → Rows each k last address fields levels (macroblocks_in k address fields levels)
  unfolding macroblocks_in every_macroblock
  rows_back number zero last address fields levels l h n o t =
      record { in_fields = rows_end each 4 fields_of last address (omega arith); in_levels = rows_end each 384 levels_of last address (omega arith) }
  rows_back number (suc k) last address [] levels l h n o t = absurd (omega arith)
  rows_back number (suc k) last address (a ∷ []) levels l h n o t = absurd (omega arith)
  rows_back number (suc k) last address (a ∷ b ∷ []) levels l h n o t = absurd (omega arith)
  rows_back number (suc k) last address (a ∷ b ∷ c ∷ []) levels l h n o t = absurd (omega arith)
  rows_back number (suc k) last address (zero ∷ b ∷ c ∷ d ∷ fields) levels l h n o t =
      let this = good number address (0 ∷ b ∷ c ∷ d ∷ []) (take 384 levels) in
      let rest = every_macroblock (good number) k (address + 1) fields (drop 384 levels) in
      let p = reads number address 0 b c d (take 384 levels) (both_left this rest t) in
      let ms = macroblocks_in k (address + 1) fields (drop 384 levels) in
      let q = rows_back number k last (address + 1) fields (drop 384 levels) (omega arith) (omega arith) (omega arith) (omega (arith, length-drop 384 levels)) (both_right this rest t) in
      record {
        in_fields = rows_skip each 4 fields_of last k (0 ∷ b ∷ c ∷ d ∷ fields) address ms l (unsent b c d (take 384 levels) p) q.in_fields;
        in_levels = rows_skip each 384 levels_of last k levels address ms l (zero-all 384 (take 384 levels) (length-take-le 384 levels (omega arith)) (p.unsent refl).3) q.in_levels;
      }
  rows_back number (suc k) last address (suc a ∷ b ∷ c ∷ d ∷ fields) levels l h n o t =
      let this = good number address (suc a ∷ b ∷ c ∷ d ∷ []) (take 384 levels) in
      let rest = every_macroblock (good number) k (address + 1) fields (drop 384 levels) in
      let p = reads number address (suc a) b c d (take 384 levels) (both_left this rest t) in
      let m = macroblock_in address (suc a ∷ b ∷ c ∷ d ∷ []) levels in
      let ms = macroblocks_in k (address + 1) fields (drop 384 levels) in
      let q = rows_back number k address (address + 1) fields (drop 384 levels) (omega arith) (omega arith) (omega arith) (omega (arith, length-drop 384 levels)) (both_right this rest t) in
      record {
        in_fields = rows_send each 4 fields_of last k (suc a ∷ b ∷ c ∷ d ∷ fields) m ms (fields_back address (suc a) b c d (take 384 levels) levels p) q.in_fields;
        in_levels = rows_send each 384 levels_of last k levels m ms (spreads-gathers 6 levels (omega arith)) q.in_levels;
      }

  -- ---- the groups
  columns_back : (numbers qs fields levels : List ℕ) → length qs ≡ length numbers → length fields ≡ length numbers * (each * 4)
      → length levels ≡ length numbers * (each * 384) → T (every_group each good numbers fields levels) → Columns each qs fields levels (groups_in each qs fields levels)
  unfolding groups_in every_group columns zeros
  columns_back [] [] fields levels e n o t = record { in_head = refl; in_fields = none_left fields (each * 4) n; in_levels = none_left levels (each * 384) o }
  columns_back [] (x ∷ qs) fields levels e n o t = absurd (omega arith)
  columns_back (number ∷ numbers) [] fields levels e n o t = absurd (omega arith)
  columns_back (number ∷ numbers) (x ∷ qs) fields levels e n o t =
      let this = every_macroblock (good number) each 1 fields levels in
      let rest = every_group each good numbers (drop (each * 4) fields) (drop (each * 384) levels) in
      let first = group_first (length numbers) (each * 4) (length fields) n in
      let second = group_first (length numbers) (each * 384) (length levels) o in
      let r = rows_back number each 0 1 fields levels (omega arith) (omega arith) first.0 second.0 (both_left this rest t) in
      let q = columns_back numbers qs (drop (each * 4) fields) (drop (each * 384) levels) (omega arith) (length-drop (each * 4) fields ∙ first.1) (length-drop (each * 384) levels ∙ second.1) (both_right this rest t) in
      record {
        in_head = ap (λ (l : List ℕ). x ∷ l) q.in_head;
        in_fields = (λ i. row_first 4 r.in_fields i ++ q.in_fields i) ∙ take-append-drop (each * 4) fields;
        in_levels = (λ i. row_first 384 r.in_levels i ++ q.in_levels i) ∙ take-append-drop (each * 384) levels;
      }

-- ---- the theorem
pub laid_out_back : LaidOutBack
laid_out_back good reads s numbers d e t u =
    let v = has_lengths_lem s d t in
    let qs : List ℕ = drop s.fixed d.head in
    let counted : length qs ≡ length numbers = omega (arith, length-drop s.fixed d.head, v.head_length) in
    let sized : length d.macroblocks ≡ length numbers * (s.each * 4) = v.macroblocks_length ∙ ap (λ (n : ℕ). n * (s.each * 4)) (sym e) in
    let levelled : length d.levels ≡ length numbers * (s.each * 384) = v.levels_length ∙ ap (λ (n : ℕ). n * (s.each * 384)) (sym e) in
    let c = columns_back s.each good reads numbers qs d.macroblocks d.levels counted sized levelled u in
    let headed : length (take s.fixed d.head) ≡ s.fixed = length-take-le s.fixed d.head (omega (arith, v.head_length)) in
    let any : ℕ → ℕ → Type 0 = λ number q. Unit {0} in
    let held : ℕ → Macroblock → Type 0 = λ number. Storable in
    let gs =
    groups_good s.each good any held (λ number address a b c d ls l t. readable_storable address a b c d ls (reads number address (suc a) b c d ls t))
    numbers qs d.macroblocks d.levels (omega arith) (numbered_any numbers qs counted) u in
    laid_spread s (read_back s d) (record {
      headed = headed;
      counted = numbered_length (GoodGroup s.each any held) numbers (read_back s d).groups gs ∙ e;
      grouped = groups_storable s.each any held (λ number m h. h) numbers (read_back s d).groups gs;
    })
    ∙ (λ i. record { head = take s.fixed d.head ++ c.in_head i; macroblocks = c.in_fields i; levels = c.in_levels i })
    ∙ (λ i. record { head = take-append-drop s.fixed d.head i; macroblocks = d.macroblocks; levels = d.levels })
