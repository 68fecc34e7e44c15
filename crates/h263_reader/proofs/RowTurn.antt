-- Turns of the loops over a picture's groups and a group's macroblocks, on plain values: what the grammar gives from here, on what is laid out, is what it gave from the start. Assumes nothing.
use Prim.Native.Nat.{ℕ, suc, ◌+◌, ◌*◌, ◌<◌}
use mathlib.Core.Path.{◌≡◌, refl, ap, ◌∙◌}
use mathlib.Core.Bool.{Bool}
use mathlib.Core.List.{List, [], ◌∷◌, ◌++◌}
use native.Mathlib.Omega.{arith}
use lib.ListN.{length, set, drop}
use lib.Seq.{sets}
use Rattle.laws.proofs.Lists.{drop_on}
use Rattle.bits.specs.Bits.{Bit}
use Rattle.bits.specs.Places.{counted}
use Rattle.bits.specs.Read.{ReadIn, got, refused, endless, ReaderIn, next, done}
use Rattle.bits.specs.declared.Place.{Place}
use Rattle.bits.specs.declared.Stopped.{Stopped}
use Rattle.fields.specs.Answer.{map_read}
use Rattle.fields.proofs.Meaning.{map-done}
use Rattle.size.specs.declared.Size.{Size}
use Rattle.size.specs.Place.{macroblocks_across, macroblocks_down}
use Rattle.layout.specs.Value.{Vector, zero_vector, Macroblock}
use Rattle.layout.specs.Flat.{Flat, flat, index, fields_of, put_blocks, put_macroblocks, put_groups}
use Rattle.h263_description.specs.Vector.{vectors_of, predictor}
use Rattle.h263_description.specs.Value.{shape, group_numbers}
use Rattle.h263_description.specs.Fields.{stands}
use Rattle.h263_description.proofs.Groups.{groups_listed, number_at}
use Rattle.h263_layers.specs.Answer.{opened_of}
use Rattle.h263_layers.specs.Grammar.{unsent, coded, macroblock, opened, Row, row_with, row_from, groups_read}

-- ---- what the grammar gives from a place on, laid out over what the buffers hold
-- the groups from group g on
abbrev pub groups_on : Size → Bool → ℕ → Flat → List Vector → ReaderIn counted Flat
groups_on size intra g d vectors = λ bs at. map_read (put_groups (shape size) g d) (groups_read size intra (drop g (group_numbers size)) vectors bs at)

-- the buffers with the rest of group g, and its GQUANT
abbrev pub put_row : Size → ℕ → Flat → Row → Flat
put_row size g d row = put_macroblocks (macroblocks_across size) g (flat (set d.head (5 + g) row.gquant) d.macroblocks d.levels) row.macroblocks

-- k macroblocks of group g from an address on, and the groups after it
abbrev pub row_on : Size → Bool → ℕ → ℕ → ℕ → ℕ → Flat → List Vector → ReaderIn counted Flat
row_on size intra g k address gquant d vectors = λ bs at.
    next (row_from k size intra g address gquant vectors bs at) (λ row. groups_on size intra (g + 1) (put_row size g d row) row.vectors)

-- the buffers with a macroblock more
abbrev pub put_one : Size → ℕ → Flat → Macroblock → Flat
put_one size g d m =
    flat d.head (sets d.macroblocks (index (macroblocks_across size) g m.address * 4) (fields_of m)) (put_blocks d.levels (index (macroblocks_across size) g m.address * 384) m.blocks)

-- what follows a read whose meaning is only added to
next-done : {A B C : Type 0} (f : A → B) (k : B → ReaderIn counted C) (x : ReadIn counted A) → next (next x (λ a. done (f a))) k ≡ next x (λ a. k (f a))
next-done f k (got a bs at) = refl
next-done f k (refused r) = refl
next-done f k endless = refl

-- ---- groups
module _ (size : Size) (intra : Bool) (g : ℕ) (d : Flat) (vectors : List Vector) (bs : List Bit) (at : Place) where
  pub groups_none : drop g (group_numbers size) ≡ [] → groups_on size intra g d vectors bs at ≡ got d bs at
  unfolding groups_read put_groups
  groups_none e = ap (λ (numbers : List ℕ). map_read (put_groups (shape size) g d) (groups_read size intra numbers vectors bs at)) e

  one_group : (numbers : List ℕ) → map_read (put_groups (shape size) g d) (groups_read {P = counted} size intra (g ∷ numbers) vectors bs at)
      ≡ next (row_from (macroblocks_across size) size intra g 1 0 vectors bs at) (λ row cs q. map_read (put_groups (shape size) (g + 1) (put_row size g d row)) (groups_read size intra numbers row.vectors cs q))
  unfolding groups_read put_groups
  one_group numbers = go (row_from (macroblocks_across size) size intra g 1 0 vectors bs at)
    where
      go : (x : ReadIn counted Row)
          → map_read (put_groups (shape size) g d) (next x (λ row cs q. next (groups_read size intra numbers row.vectors cs q) (λ rest. done (record { gquant = row.gquant; macroblocks = row.macroblocks } ∷ rest))))
          ≡ next x (λ row cs q. map_read (put_groups (shape size) (g + 1) (put_row size g d row)) (groups_read size intra numbers row.vectors cs q))
      go (got row cs q) = map-done (put_groups (shape size) g d) (λ rest. record { gquant = row.gquant; macroblocks = row.macroblocks } ∷ rest) (groups_read size intra numbers row.vectors cs q)
      go (refused r) = refl
      go endless = refl

  pub groups_row : g < macroblocks_down size → groups_on size intra g d vectors bs at ≡ row_on size intra g (macroblocks_across size) 1 0 d vectors bs at
  groups_row l =
      ap (λ (numbers : List ℕ). map_read (put_groups (shape size) g d) (groups_read size intra numbers vectors bs at))
      (drop_on (group_numbers size) g (omega (arith, groups_listed size)) ∙ ap (λ (k : ℕ). k ∷ drop (g + 1) (group_numbers size)) (number_at size g l))
      ∙ one_group (drop (g + 1) (group_numbers size))

-- ---- macroblocks
module _ (size : Size) (intra : Bool) (g address gquant : ℕ) (d : Flat) (vectors : List Vector) (bs : List Bit) (at : Place) where
  pub row_none : row_on size intra g 0 address gquant d vectors bs at ≡ groups_on size intra (g + 1) (flat (set d.head (5 + g) gquant) d.macroblocks d.levels) vectors bs at
  unfolding row_from put_macroblocks
  row_none = refl

  module _ (k : ℕ) where
    pub row_no_slot : (r : Stopped) → opened {P = counted} intra g address gquant bs at ≡ refused r → row_on size intra g (suc k) address gquant d vectors bs at ≡ refused r
    unfolding row_from
    row_no_slot r e = rw e

    pub row_unsent : (q : ℕ) (cs : List Bit) (z : Place) → opened {P = counted} intra g address gquant bs at ≡ got (opened_of q unsent) cs z
        → row_on size intra g (suc k) address gquant d vectors bs at ≡ row_on size intra g k (address + 1) q d (vectors ++ zero_vector ∷ []) cs z
    unfolding row_from
    row_unsent q cs z e = rw e

    module _ (q kind : ℕ) (cs : List Bit) (z : Place) (e : opened {P = counted} intra g address gquant bs at ≡ got (opened_of q (coded kind)) cs z) where
      abbrev predicted : Vector
      predicted = predictor (macroblocks_across size) (stands q) (vectors_of vectors) (length vectors)

      pub row_no_macroblock : (r : Stopped) → macroblock {P = counted} size g address predicted kind cs z ≡ refused r → row_on size intra g (suc k) address gquant d vectors bs at ≡ refused r
      unfolding row_from
      row_no_macroblock r h = rw (e, h)

      pub row_sent : (m : Macroblock) (ds : List Bit) (y : Place) → macroblock {P = counted} size g address predicted kind cs z ≡ got m ds y
          → row_on size intra g (suc k) address gquant d vectors bs at ≡ row_on size intra g k (address + 1) q (put_one size g d m) (vectors ++ m.vector ∷ []) ds y
      unfolding row_from put_macroblocks
      row_sent m ds y h =
          rw (e, h)
          (next-done (row_with m) (λ row. groups_on size intra (g + 1) (put_row size g d row) row.vectors) (row_from k size intra g (address + 1) q (vectors ++ m.vector ∷ []) ds y))
