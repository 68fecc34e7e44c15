-- A picture of good macroblocks lays out as a description that passes their test. Assumes nothing.
use Prim.Native.Nat.{ℕ, suc, ◌+◌, ◌-◌, ◌*◌, ◌≤◌, ◌<◌}
use mathlib.Core.Path.{◌≡◌, sym, ap, subst, ◌∙◌}
use mathlib.Core.Bool.{Bool}
use mathlib.Core.List.{List, [], ◌∷◌, ◌++◌}
use native.Mathlib.Omega.{arith}
use lib.Dec.{T, eqb, eqb→eq}
use lib.ListN.{length, take, drop, length-append}
use lib.Seq.{take_at, drop_at}
use mir.Facts.{yes_eqb}
use Rattle.laws.specs.Choice.{both}
use Rattle.laws.proofs.Choice.{both_left, both_right, both_make, T_true, true-T}
use Rattle.laws.proofs.Zeros.{zeros, length-zeros}
use Rattle.layout.specs.Value.{Macroblock, Group, Picture}
use Rattle.layout.specs.Flat.{Flat, Shape, fields_of}
use Rattle.layout.specs.Valid.{every_macroblock, every_group, has_lengths, Lengths}
use Rattle.layout.specs.Proper.{Numbered, Storable, RisingTo, GoodGroup, StorableGroup, StorablePicture}
use Rattle.layout.proofs.Walk.{walk_none, walk_more}
use Rattle.layout.proofs.Pictured.{rising_all}
use Rattle.layout.proofs.Spread.{rows, store_fields, store_levels, levels_of, fields_written, levels_written, length_levels, length_group, columns, length-columns, gquants, length-gquants, spread_out}

-- what holds at each address past `last` where nothing is sent
abbrev pub Unsent : (ℕ → Type 0) → ℕ → ℕ → List Macroblock → Type 0
Unsent May each last [] = (address : ℕ) → last < address → address ≤ each → May address
Unsent May each last (m ∷ ms) = ((address : ℕ) → last < address → address < m.address → May address) × Unsent May each m.address ms

pub unsent_all : (May : ℕ → Type 0) → ((address : ℕ) → May address) → (each last : ℕ) (ms : List Macroblock) → Unsent May each last ms
unsent_all May law each last [] = λ address l h. law address
unsent_all May law each last (m ∷ ms) = ((λ address l h. law address), unsent_all May law each m.address ms)

-- an unsent macroblock passes
abbrev pub Absent : (ℕ → List ℕ → List ℕ → Bool) → ℕ → Type 0
Absent good address = T (good address (zeros 4) (zeros 384))

-- ---- the macroblocks of a group
module _ (each : ℕ) (good : ℕ → List ℕ → List ℕ → Bool) (Good : Macroblock → Type 0) (storable : (m : Macroblock) → Good m → Storable m)
    (sent : (m : Macroblock) → Good m → T (good m.address (fields_of m) (levels_of m))) where
  unsent_passes : (k address : ℕ) (fields levels : List ℕ) → Absent good address
      → every_macroblock good (suc k) address (zeros 4 ++ fields) (zeros 384 ++ levels) ≡ every_macroblock good k (address + 1) fields levels
  unfolding every_macroblock
  unsent_passes k address fields levels t =
      let n = length-zeros 4 in
      let o = length-zeros 384 in
      (λ i. both (good address (take_at (zeros 4) fields 4 n i) (take_at (zeros 384) levels 384 o i)) (every_macroblock good k (address + 1) (drop_at (zeros 4) fields 4 n i) (drop_at (zeros 384) levels 384 o i)))
      ∙ ap (λ (b : Bool). both b (every_macroblock good k (address + 1) fields levels)) (T_true (good address (zeros 4) (zeros 384)) t)

  macroblocks_pass : (last : ℕ) (ms : List Macroblock) → last ≤ each → RisingTo Good each last ms → Unsent (Absent good) each last ms → (fields levels : List ℕ)
      → T (every_macroblock good (each - last) (suc last) (rows each 4 fields_of last ms ++ fields) (rows each 384 levels_of last ms ++ levels))
  unfolding every_macroblock
  macroblocks_pass last [] o h u fields levels =
      true-T _ (walk_none each Bool (every_macroblock good) (Absent good) unsent_passes last fields levels o u)
  macroblocks_pass last (m ∷ ms) o h u fields levels =
      let e : m.address + 1 ≡ suc m.address = omega arith in
      let rm : List ℕ = rows each 4 fields_of m.address ms ++ fields in
      let rl : List ℕ = rows each 384 levels_of m.address ms ++ levels in
      let size : length (levels_of m) ≡ 384 = length_levels m (storable m h.2) in
      let rest : T (every_macroblock good (each - m.address) (m.address + 1) rm (drop 384 (levels_of m ++ rl))) =
      rw (e, drop_at (levels_of m) rl 384 size) (macroblocks_pass m.address ms h.1 h.3 u.1 fields levels) in
      let this : T (good m.address (fields_of m) (take 384 (levels_of m ++ rl))) =
      rw (take_at (levels_of m) rl 384 size) (sent m h.2) in
      subst (λ (b : Bool). T b) (sym (walk_more each Bool (every_macroblock good) (Absent good) unsent_passes last m ms h.0 h.1 u.0 fields levels))
      (both_make (good m.address (fields_of m) (take 384 (levels_of m ++ rl))) _ this rest)

  group_passes : (x : Group) → RisingTo Good each 0 x.macroblocks → Unsent (Absent good) each 0 x.macroblocks → (fields levels : List ℕ)
      → T (every_macroblock good each 1 (rows each 4 fields_of 0 x.macroblocks ++ fields) (rows each 384 levels_of 0 x.macroblocks ++ levels))
  group_passes x h u fields levels =
      subst (λ (n : ℕ). T (every_macroblock good n 1 (rows each 4 fields_of 0 x.macroblocks ++ fields) (rows each 384 levels_of 0 x.macroblocks ++ levels))) whole
      (macroblocks_pass 0 x.macroblocks (omega arith) h u fields levels)
    where
      whole : each - 0 ≡ each
      whole = omega arith

-- ---- the groups
module _ (each : ℕ) (good : ℕ → ℕ → List ℕ → List ℕ → Bool) (Quant : ℕ → ℕ → Type 0) (Good : ℕ → Macroblock → Type 0)
    (storable : (number : ℕ) (m : Macroblock) → Good number m → Storable m)
    (sent : (number : ℕ) (m : Macroblock) → Good number m → T (good number m.address (fields_of m) (levels_of m))) where
  pub groups_pass : (numbers : List ℕ) (xs : List Group) → Numbered (GoodGroup each Quant Good) numbers xs
      → Numbered (λ number x. Unsent (Absent (good number)) each 0 x.macroblocks) numbers xs
      → T (every_group each good numbers (columns each 4 fields_of xs) (columns each 384 levels_of xs))
  unfolding every_group columns
  groups_pass [] [] h u = tt
  groups_pass [] (x ∷ xs) h u = absurd h
  groups_pass (number ∷ numbers) [] h u = absurd h
  groups_pass (number ∷ numbers) (x ∷ xs) h u =
      let fields : List ℕ = columns each 4 fields_of xs in
      let levels : List ℕ = columns each 384 levels_of xs in
      let held : StorableGroup each x = rising_all each (Good number) Storable (storable number) 0 x.macroblocks h.0.1 in
      both_make (every_macroblock (good number) each 1 (rows each 4 fields_of 0 x.macroblocks ++ fields) (rows each 384 levels_of 0 x.macroblocks ++ levels)) _
      (group_passes each (good number) (Good number) (storable number) (sent number) x h.0.1 u.0 fields levels)
      (rw (
        drop_at (rows each 4 fields_of 0 x.macroblocks) fields (each * 4) (length_group each 4 store_fields fields_of fields_written x held),
        drop_at (rows each 384 levels_of 0 x.macroblocks) levels (each * 384) (length_group each 384 store_levels levels_of levels_written x held),
      )
      (groups_pass numbers xs h.1 u.1))

-- ---- the lengths
pub lengths_pass : (s : Shape) (p : Picture) → StorablePicture s p → T (has_lengths s (spread_out s p))
lengths_pass s p h =
    let fields : List ℕ = columns s.each 4 fields_of p.groups in
    let levels : List ℕ = columns s.each 384 levels_of p.groups in
    let hs : length (p.fields ++ gquants p.groups) ≡ s.fixed + s.groups =
    omega (arith, length-append p.fields (gquants p.groups), length-gquants p.groups, h.headed, h.counted) in
    let ms : length fields ≡ s.groups * (s.each * 4) = length-columns s.each 4 store_fields fields_of fields_written p.groups h.grouped ∙ ap (λ (k : ℕ). k * (s.each * 4)) h.counted in
    let ls : length levels ≡ s.groups * (s.each * 384) = length-columns s.each 384 store_levels levels_of levels_written p.groups h.grouped ∙ ap (λ (k : ℕ). k * (s.each * 384)) h.counted in
    both_make (eqb (length (p.fields ++ gquants p.groups)) (s.fixed + s.groups)) _ (yes_eqb hs)
    (both_make (eqb (length fields) (s.groups * (s.each * 4))) _ (yes_eqb ms) (yes_eqb ls))

-- and what the test says
pub has_lengths_lem : (s : Shape) (d : Flat) → T (has_lengths s d) → Lengths s d
has_lengths_lem s d t =
    let a = eqb (length d.head) (s.fixed + s.groups) in
    let b = eqb (length d.macroblocks) (s.groups * (s.each * 4)) in
    let c = eqb (length d.levels) (s.groups * (s.each * 384)) in
    let u = both_right a (both b c) t in
    record {
      head_length = eqb→eq _ _ (both_left a (both b c) t);
      macroblocks_length = eqb→eq _ _ (both_left b c u);
      levels_length = eqb→eq _ _ (both_right b c u);
    }
