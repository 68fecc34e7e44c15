-- H.263 obeys the laws of a coding. Assumes nothing.
use mathlib.Core.Path.{◌≡◌, refl, sym, ap, subst, ◌∙◌}
use mathlib.Core.List.{List}
use mathlib.Core.Bool.{true}
use Prim.Native.Nat.{ℕ, ◌≤◌, ◌<◌, zero-le, suc-le-suc}
use native.Mathlib.Omega.{arith}
use borrow.Author.Tests.{leb-true}
use lib.Dec.{T, leb, lit≤}
use lib.ListN.{length}
use Rattle.laws.proofs.Choice.{T_true, true-T, two_of}
use Rattle.refusals.specs.Told.{accepted}
use Rattle.refusals.proofs.Told.{accepted_once, told_apart}
use Rattle.bits.specs.Read.{Read, got, endless, refused as unread}
use Rattle.bits.specs.Write.{Holds}
use Rattle.size.specs.declared.Size.{Size}
use Rattle.size.specs.Size.{limit}
use Rattle.layout.specs.Flat.{Flat}
use Rattle.fields.specs.Answer.{map_read, found}
use Rattle.h263_description.specs.Value.{Picture, laid_picture}
use Rattle.h263_description.specs.Valid.{lengths_of, valid_head, valid}
use Rattle.h263_description.specs.Fields.{refresh}
use Rattle.h263_layers.specs.Grammar.{reading}
use Rattle.h263_reader.specs.Described.{described}
use Rattle.h263_writer.specs.Write.{picture_of, picture_bits}
use Rattle.h263_readback.specs.ReadBack.{ReadBack}
use Rattle.h263_readback.proofs.ReadBack.{reads_back}
use Rattle.h263_readback.proofs.Verdicts.{accepted_valid}
use Rattle.h263_render.proofs.Rendered.{rendered-length}
use Rattle.h263_render.proofs.Reference.{refresh_same}
use Rattle.coding.specs.H261.{tr_of}
use Rattle.coding.specs.H263.{H263Lawful}

module _ (size : Size) where
  read_found : (d : Flat) (bytes : List ℕ) → T (valid size d) → length (picture_bits size d) ≤ limit size → Holds bytes (picture_bits size d)
      → found (described size bytes (length (picture_bits size d))) ≡ accepted d
  unfolding described
  read_found d bytes t l h =
      let back : ReadBack size d bytes = reads_back size d bytes t l h in
      ap (λ (x : Read Picture). found (map_read (laid_picture size) x)) back.read ∙ ap accepted back.laid_out

  -- what is found is valid
  found-valid : (bytes : List ℕ) (n : ℕ) (d : Flat) → found (described size bytes n) ≡ accepted d → T (valid size d)
  unfolding described
  found-valid bytes n d e = go (reading size bytes n) refl
    where
      read_as : (x : Read Picture) → reading size bytes n ≡ x → found (map_read (laid_picture size) x) ≡ accepted d
      read_as x h = sym (ap (λ (y : Read Picture). found (map_read (laid_picture size) y)) h) ∙ e

      go : (x : Read Picture) → reading size bytes n ≡ x → T (valid size d)
      go (got p left at) h = subst (λ (x : Flat). T (valid size x)) (accepted_once (read_as (got p left at) h)) (accepted_valid size bytes n p left at h)
      go (unread why) h = absurd (told_apart (sym (read_as (unread why) h)))
      go endless h = absurd (told_apart (sym (read_as endless h)))

  -- the PSC alone
  some_bits : (d : Flat) → 1 ≤ length (picture_bits size d)
  unfolding picture_bits picture_of
  some_bits d = suc-le-suc zero-le

  -- "fields are in range"
  tr_small : (d : Flat) → valid size d ≡ true → tr_of d < 256
  unfolding valid
  tr_small d v =
      let fields = (two_of (lengths_of size d) _ v).1 in
      let head = (two_of (valid_head size d.head) _ fields).0 in
      let most : tr_of d ≤ 255 = leb-true (tr_of d) 255 (two_of (leb (tr_of d) 255) _ head).0 in
      omega arith

pub h263_lawful : H263Lawful
h263_lawful size = record {
  reads = λ d bytes v. read_found size d bytes (true-T (valid size d) v);
  reads_valid = λ bytes n d e. T_true (valid size d) (found-valid size bytes n d e);
  has_bits = some_bits size;
  rendered_long = rendered-length size;
  tr_below = tr_small size;
  modulus_some = lit≤ tt;
  modulus_most = lit≤ tt;
  anew = λ d s t v r. refresh_same size d s t (true-T (valid size d) v) (true-T (refresh d) r);
}
