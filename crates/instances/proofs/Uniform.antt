-- Every kind's descriptions whose macroblocks are all alike: each is valid, a refresh or none, and has so many bits. Assumes nothing.
use Prim.Native.Nat.{ℕ, suc, ◌+◌, ◌*◌, ◌≤◌, ◌<◌}
use mathlib.Core.Path.{◌≡◌, refl, ap, subst, ◌∙◌, sym}
use mathlib.Core.Bool.{true, false}
use lib.Dec.{lit<, lit≤}
use lib.ListN.{length}
use Rattle.laws.proofs.Choice.{T_true}
use Rattle.size.specs.Size.{limit}
use Rattle.size.specs.Place.{macroblocks_across, macroblocks_down}
use Rattle.h261_groups.specs.Format.{group_count}
use Rattle.vault.specs.Parts.{part_count}
use Rattle.coding.specs.declared.Kind.{Kind}
use Rattle.coding.specs.declared.Kind.TheVariants.{H261, H263}
use Rattle.coding.specs.Kind.{kind_size, coding_of}
use Rattle.instances.specs.Uniform.{uniform, grey_levels, still, grey, heavy}
use Rattle.instances.specs.Instances.{before_last}
use Rattle.instances.proofs.Codes.{Code, code_of}
use Rattle.instances.proofs.H261 as P261
use Rattle.instances.proofs.H263 as P263
use Rattle.h261_groups.specs.declared.Format.TheVariants as F
use Rattle.size.specs.declared.Size.TheVariants as S

-- ---- nothing is sent
pub still-valid : (k : Kind) → (coding_of k).valid (still k) ≡ true
unfolding coding_of
still-valid (H261 f) = T_true _ (P261.still-valid f)
still-valid (H263 size) = T_true _ (P263.still-valid size)

pub still_plain : (k : Kind) → (coding_of k).refresh (still k) ≡ false
unfolding coding_of
still_plain (H261 f) = P261.still_plain f
still_plain (H263 size) = P263.still_plain size

abbrev still_bits : Kind → ℕ
still_bits (H261 f) = 32 + group_count f * 26
still_bits (H263 size) = 50 + macroblocks_down size * macroblocks_across size

still_long : (k : Kind) → length ((coding_of k).written (still k)) ≡ still_bits k
unfolding coding_of
still_long (H261 f) = P261.still_long f
still_long (H263 size) = P263.still_long size

pub still_fits : (k : Kind) → length ((coding_of k).written (still k)) ≤ limit (kind_size k)
still_fits k = subst (λ (n : ℕ). n ≤ limit (kind_size k)) (sym (still_long k)) (fits k)
  where
    fits : (k : Kind) → still_bits k ≤ limit (kind_size k)
    fits (H261 F.Qcif) = lit≤ tt
    fits (H261 F.Cif) = lit≤ tt
    fits (H263 S.SubQcif) = lit≤ tt
    fits (H263 S.Qcif) = lit≤ tt
    fits (H263 S.Cif) = lit≤ tt

-- one block
pub still_parts : (k : Kind) → part_count (length ((coding_of k).written (still k))) ≡ 1
still_parts k = ap part_count (still_long k) ∙ parts k
  where
    parts : (k : Kind) → part_count (still_bits k) ≡ 1
    parts (H261 F.Qcif) = refl
    parts (H261 F.Cif) = refl
    parts (H263 S.SubQcif) = refl
    parts (H263 S.Qcif) = refl
    parts (H263 S.Cif) = refl

-- ---- a refresh
pub grey-valid : (c : Code) (k : Kind) → (coding_of k).valid (grey k (code_of c)) ≡ true
unfolding coding_of
grey-valid c (H261 f) = T_true _ (P261.grey-valid f c)
grey-valid c (H263 size) = T_true _ (P263.grey-valid size c)

pub grey_refresh : (k : Kind) (c : Code) → (coding_of k).refresh (grey k (code_of c)) ≡ true
unfolding coding_of
grey_refresh (H261 f) c = P261.intra-refresh f 0 (grey_levels (H261 f) (code_of c))
grey_refresh (H263 size) c = P263.intra-refresh size (grey_levels (H263 size) (code_of c))

abbrev grey_bits : Kind → ℕ
grey_bits (H261 f) = 32 + group_count f * 2171
grey_bits (H263 size) = 50 + macroblocks_down size * (macroblocks_across size * 83)

grey_long : (k : Kind) (c : Code) → length ((coding_of k).written (grey k (code_of c))) ≡ grey_bits k
unfolding coding_of
grey_long (H261 f) c = P261.grey_long f c
grey_long (H263 size) c = P263.grey_long size c

pub grey_fits : (k : Kind) (c : Code) → length ((coding_of k).written (grey k (code_of c))) ≤ limit (kind_size k)
grey_fits k c = subst (λ (n : ℕ). n ≤ limit (kind_size k)) (sym (grey_long k c)) (fits k)
  where
    fits : (k : Kind) → grey_bits k ≤ limit (kind_size k)
    fits (H261 F.Qcif) = lit≤ tt
    fits (H261 F.Cif) = lit≤ tt
    fits (H263 S.SubQcif) = lit≤ tt
    fits (H263 S.Qcif) = lit≤ tt
    fits (H263 S.Cif) = lit≤ tt

-- more than one block
pub grey_parts : (k : Kind) (c : Code) → part_count (length ((coding_of k).written (grey k (code_of c)))) ≡ suc (before_last k)
grey_parts k c = ap part_count (grey_long k c) ∙ parts k
  where
    parts : (k : Kind) → part_count (grey_bits k) ≡ suc (before_last k)
    parts (H261 F.Qcif) = refl
    parts (H261 F.Cif) = refl
    parts (H263 S.SubQcif) = refl
    parts (H263 S.Qcif) = refl
    parts (H263 S.Cif) = refl

pub some_left : (k : Kind) → 1 ≤ before_last k
some_left (H261 F.Qcif) = lit≤ tt
some_left (H261 F.Cif) = lit≤ tt
some_left (H263 S.SubQcif) = lit≤ tt
some_left (H263 S.Qcif) = lit≤ tt
some_left (H263 S.Cif) = lit≤ tt

-- ---- one above the limit
pub heavy-valid : (k : Kind) → (coding_of k).valid (heavy k) ≡ true
unfolding coding_of
heavy-valid (H261 f) = T_true _ (P261.heavy-valid f)
heavy-valid (H263 size) = T_true _ (P263.heavy-valid size)

abbrev heavy_bits : Kind → ℕ
heavy_bits (H261 f) = 32 + group_count f * 251651
heavy_bits (H263 size) = 50 + macroblocks_down size * (macroblocks_across size * 8369)

heavy_long : (k : Kind) → length ((coding_of k).written (heavy k)) ≡ heavy_bits k
unfolding coding_of
heavy_long (H261 f) = P261.heavy_long f
heavy_long (H263 size) = P263.heavy_long size

pub heavy_past : (k : Kind) → limit (kind_size k) < length ((coding_of k).written (heavy k))
heavy_past k = subst (λ (n : ℕ). limit (kind_size k) < n) (sym (heavy_long k)) (past k)
  where
    past : (k : Kind) → limit (kind_size k) < heavy_bits k
    past (H261 F.Qcif) = lit< tt
    past (H261 F.Cif) = lit< tt
    past (H263 S.SubQcif) = lit< tt
    past (H263 S.Qcif) = lit< tt
    past (H263 S.Cif) = lit< tt

-- ---- TR 0
pub still_tr : (k : Kind) → (coding_of k).tr (still k) ≡ 0
unfolding coding_of uniform
still_tr (H261 f) = refl
still_tr (H263 size) = refl

pub grey_tr : (k : Kind) (code : ℕ) → (coding_of k).tr (grey k code) ≡ 0
unfolding coding_of uniform
grey_tr (H261 f) code = refl
grey_tr (H263 size) code = refl
