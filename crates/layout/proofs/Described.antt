-- A picture that can be laid out is read back as it was. Assumes nothing.
use Prim.Native.Nat.{ℕ, zero, suc, ◌+◌, ◌-◌, ◌*◌, ◌≤◌}
use mathlib.Core.Path.{◌≡◌, refl, sym, ap, ap₂, ◌∙◌}
use mathlib.Core.List.{List, [], ◌∷◌, ◌++◌}
use native.Mathlib.Omega.{arith}
use lib.ListN.{drop}
use lib.Seq.{take_at, drop_at}
use Rattle.laws.proofs.Zeros.{zeros, length-zeros}
use Rattle.layout.specs.Value.{Macroblock, Group}
use Rattle.layout.specs.Flat.{fields_of, gathers, macroblocks_in, groups_in, read_back}
use Rattle.layout.specs.Proper.{Each, Storable, RisingTo, StorableGroup}
use Rattle.layout.specs.Back.{ReadBack}
use Rattle.layout.proofs.Blocks.{gathers-spreads}
use Rattle.layout.proofs.Walk.{walk_none, walk_more}
use Rattle.layout.proofs.Spread.{rows, store_fields, store_levels, levels_of, fields_written, levels_written, length_levels, length_group, columns, gquants, laid_spread}

described_sent : (type : ℕ) (m : Macroblock) (rest : List Macroblock) → 1 ≤ type → elim type as (λ n. List Macroblock) [ zero ↦ rest | suc n ↦ m ∷ rest ] ≡ m ∷ rest
described_sent zero m rest l = absurd (omega arith)
described_sent (suc type) m rest l = refl

-- a macroblock that is sent
macroblock_in : (k : ℕ) (m : Macroblock) → Storable m → (fields levels : List ℕ)
    → macroblocks_in (suc k) m.address (fields_of m ++ fields) (levels_of m ++ levels) ≡ m ∷ macroblocks_in k (m.address + 1) fields levels
unfolding macroblocks_in
macroblock_in k m h fields levels =
    let blocks : gathers 6 (levels_of m ++ levels) ≡ m.blocks =
    ap (λ (n : ℕ). gathers n (levels_of m ++ levels)) (sym h.six) ∙ gathers-spreads m.blocks h.fitting levels in
    let past : drop 384 (levels_of m ++ levels) ≡ levels = drop_at (levels_of m) levels 384 (length_levels m h) in
    described_sent m.type _ _ h.sent
    ∙ ap₂ (λ (x : Macroblock) (xs : List Macroblock). x ∷ xs)
    (λ i. record {
      address = m.address;
      type = m.type;
      quant = m.quant;
      vector = record { horizontal = h.horizontally i; vertical = h.vertically i };
      blocks = blocks i;
    }) (ap (macroblocks_in k (m.address + 1) fields) past)

-- one that isn't
unsent_in : (k address : ℕ) (fields levels : List ℕ) → Unit {0} → macroblocks_in (suc k) address (zeros 4 ++ fields) (zeros 384 ++ levels) ≡ macroblocks_in k (address + 1) fields levels
unfolding macroblocks_in zeros
unsent_in k address fields levels u = ap (macroblocks_in k (address + 1) fields) (drop_at (zeros 384) levels 384 (length-zeros 384))

module _ (each : ℕ) where
  macroblocks_in_lem : (last : ℕ) (ms : List Macroblock) → last ≤ each → RisingTo Storable each last ms → (fields levels : List ℕ)
      → macroblocks_in (each - last) (suc last) (rows each 4 fields_of last ms ++ fields) (rows each 384 levels_of last ms ++ levels) ≡ ms
  unfolding macroblocks_in
  macroblocks_in_lem last [] o h fields levels = walk_none each (List Macroblock) macroblocks_in (λ a. Unit {0}) unsent_in last fields levels o (λ a l h. tt)
  macroblocks_in_lem last (m ∷ ms) o h fields levels =
      let e : m.address + 1 ≡ suc m.address = omega arith in
      walk_more each (List Macroblock) macroblocks_in (λ a. Unit {0}) unsent_in last m ms h.0 h.1 (λ a l h. tt) fields levels
      ∙ macroblock_in (each - m.address) m h.2 (rows each 4 fields_of m.address ms ++ fields) (rows each 384 levels_of m.address ms ++ levels)
      ∙ ap (λ (xs : List Macroblock). m ∷ xs)
      (ap (λ (a : ℕ). macroblocks_in (each - m.address) a (rows each 4 fields_of m.address ms ++ fields) (rows each 384 levels_of m.address ms ++ levels)) e
      ∙ macroblocks_in_lem m.address ms h.1 h.3 fields levels)

  group_in : (x : Group) → StorableGroup each x → (fields levels : List ℕ)
      → macroblocks_in each 1 (rows each 4 fields_of 0 x.macroblocks ++ fields) (rows each 384 levels_of 0 x.macroblocks ++ levels) ≡ x.macroblocks
  group_in x h fields levels =
      ap (λ (n : ℕ). macroblocks_in n 1 (rows each 4 fields_of 0 x.macroblocks ++ fields) (rows each 384 levels_of 0 x.macroblocks ++ levels)) whole
      ∙ macroblocks_in_lem 0 x.macroblocks (omega arith) h fields levels
    where
      whole : each ≡ each - 0
      whole = omega arith

  pub groups_in_lem : (xs : List Group) → Each (StorableGroup each) xs → groups_in each (gquants xs) (columns each 4 fields_of xs) (columns each 384 levels_of xs) ≡ xs
  unfolding groups_in columns
  groups_in_lem [] h = refl
  groups_in_lem (x ∷ xs) h =
      let fields : List ℕ = columns each 4 fields_of xs in
      let levels : List ℕ = columns each 384 levels_of xs in
      ap₂ (λ (y : Group) (ys : List Group). y ∷ ys)
      (λ i. record { gquant = x.gquant; macroblocks = group_in x h.0 fields levels i })
      (ap₂ (groups_in each (gquants xs))
      (drop_at (rows each 4 fields_of 0 x.macroblocks) fields (each * 4) (length_group each 4 store_fields fields_of fields_written x h.0))
      (drop_at (rows each 384 levels_of 0 x.macroblocks) levels (each * 384) (length_group each 384 store_levels levels_of levels_written x h.0))
      ∙ groups_in_lem xs h.1)

-- ---- the theorem: what a picture's layout is read back as is the picture
pub read_back_lem : ReadBack
read_back_lem s p h =
    let qs : List ℕ = gquants p.groups in
    let fields : List ℕ = columns s.each 4 fields_of p.groups in
    let levels : List ℕ = columns s.each 384 levels_of p.groups in
    ap (read_back s) (laid_spread s p h)
    ∙ (λ i. record {
      fields = take_at p.fields qs s.fixed h.headed i;
      groups = groups_in s.each (drop_at p.fields qs s.fixed h.headed i) fields levels;
    })
    ∙ (λ i. record { fields = p.fields; groups = groups_in_lem s.each p.groups h.grouped i })
