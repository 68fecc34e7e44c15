-- A proper picture can be laid out, and its layout describes the picture again. Assumes nothing.
use Prim.Native.Nat.{ℕ}
use mathlib.Core.Path.{◌≡◌, refl, ap, ◌∙◌}
use mathlib.Core.Bool.{Bool, true, false}
use native.Mathlib.Omega.{arith}
use lib.Dec.{leb, leb→le}
use lib.IntN.{nat_abs}
use mir.Syntax.{w8}
use Rattle.laws.proofs.Choice.{both_left}
use Rattle.laws.specs.Integer.{Low}
use Rattle.laws.proofs.Integer.{back}
use Rattle.layout.specs.Value.{Vector, zero_vector, Macroblock}
use Rattle.layout.specs.Proper.{If, Storable, StorablePicture}
use Rattle.layout.proofs.Pictured.{numbered_length, groups_storable}
use Rattle.layout.proofs.Described.{groups_in_lem}
use Rattle.layout.proofs.Spread.{laid_spread}
use Rattle.h261_words.specs.Words.{is_mc}
use Rattle.h261_groups.specs.Format.{group_numbers}
use Rattle.h261_groups.specs.declared.Format.{Format}
use Rattle.h261_groups.proofs.Room.{groups_listed}
use Rattle.h261_description.specs.Value.{Picture, shape, value_of, laid_picture, picture_in}
use Rattle.h261_description.specs.Proper.{ProperVector, ProperMacroblock, ProperGroup, ProperGquant, Proper}

-- both components are small
pub small_vector : (f : Format) (number address : ℕ) (v : Vector) (mc : Bool) → If mc (ProperVector f number address v) (v ≡ zero_vector) → Low 15 v.horizontal × Low 15 v.vertical
small_vector f number address v true h =
    (record { low = leb→le (nat_abs v.horizontal) 15 h.horizontally }, record { low = leb→le (nat_abs v.vertical) 15 h.vertically })
small_vector f number address v false h =
    (record { low = rw h (omega arith) }, record { low = rw h (omega arith) })

pub proper_storable : (f : Format) (number : ℕ) (m : Macroblock) → ProperMacroblock f number m → Storable m
proper_storable f number m h =
    let v = small_vector f number m.address m.vector (is_mc m.type) h.pointed in
    record {
      sent = leb→le 1 m.type (both_left (leb 1 m.type) (leb m.type 10) h.typed);
      horizontally = back w8 tt v.0;
      vertically = back w8 tt v.1;
      six = h.blocked.six;
      fitting = h.blocked.fitting;
    }

pub picture_storable : (f : Format) (p : Picture) → Proper f p → StorablePicture (shape f) (value_of f p)
picture_storable f p h = record {
  headed = refl;
  counted = numbered_length (ProperGroup f) (group_numbers f) p.groups h.grouped ∙ groups_listed f;
  grouped = groups_storable 33 ProperGquant (ProperMacroblock f) (proper_storable f) (group_numbers f) p.groups h.grouped;
}

-- ---- the theorem: what a proper picture's layout describes is the picture
pub proper_described : (f : Format) (p : Picture) → Proper f p → picture_in (laid_picture f p) ≡ p
unfolding laid_picture picture_in
proper_described f p h =
    let held = picture_storable f p h in
    ap picture_in (laid_spread (shape f) (value_of f p) held)
    ∙ (λ i. record { tr = p.tr; ptype = p.ptype; groups = groups_in_lem 33 p.groups held.grouped i })
