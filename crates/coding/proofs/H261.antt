-- H.261 obeys the laws of a coding. Assumes nothing.
use mathlib.Core.Path.{◌≡◌, refl, sym, ap, subst, ◌∙◌}
use mathlib.Core.List.{List}
use mathlib.Core.Bool.{true}
use Prim.Native.Nat.{ℕ, ◌≤◌, ◌<◌, zero-le, suc-le-suc}
use native.Mathlib.Omega.{arith}
use borrow.Author.Tests.{leb-true}
use lib.Dec.{T, leb, lit≤}
use lib.ListN.{length}
use Rattle.laws.proofs.Choice.{T_true, true-T, two_of}
use Rattle.refusals.specs.Told.{accepted}
use Rattle.refusals.proofs.Told.{accepted_once, told_apart}
use Rattle.bits.specs.Read.{Read, got, endless, refused as unread}
use Rattle.size.specs.Size.{limit}
use Rattle.h261_groups.specs.declared.Format.{Format}
use Rattle.h261_groups.specs.Format.{size_of}
use Rattle.h261_description.specs.Value.{Picture, laid_picture}
use Rattle.layout.specs.Flat.{Flat}
use Rattle.h261_description.specs.Valid.{lengths_of, valid_head, valid}
use Rattle.h261_description.specs.Fields.{refresh}
use Rattle.fields.specs.Answer.{map_read, found}
use Rattle.h261_layers.specs.Grammar.{reading}
use Rattle.h261_reader.specs.Described.{described}
use Rattle.h261_reader.proofs.Verdicts.{accepted_valid}
use Rattle.h261_writer.specs.Write.{picture_of, picture_bits}
use Rattle.bits.specs.Write.{Holds}
use Rattle.h261_readback.specs.ReadBack.{ReadBack}
use Rattle.h261_readback.proofs.ReadBack.{reads_back}
use Rattle.h261_render.proofs.Rendered.{rendered-length}
use Rattle.h261_render.proofs.Reference.{refresh_same}
use Rattle.coding.specs.H261.{tr_of, H261Lawful}

module _ (f : Format) where
  read_found : (d : Flat) (bytes : List ℕ) → T (valid f d) → length (picture_bits f d) ≤ limit (size_of f) → Holds bytes (picture_bits f d)
      → found (described f bytes (length (picture_bits f d))) ≡ accepted d
  unfolding described
  read_found d bytes t l h =
      let back : ReadBack f d bytes = reads_back f d bytes t l h in
      ap (λ (x : Read Picture). found (map_read (laid_picture f) x)) back.read ∙ ap accepted back.laid_out

  -- what is found is valid
  found-valid : (bytes : List ℕ) (n : ℕ) (d : Flat) → found (described f bytes n) ≡ accepted d → T (valid f d)
  unfolding described
  found-valid bytes n d e = go (reading f bytes n) refl
    where
      read_as : (x : Read Picture) → reading f bytes n ≡ x → found (map_read (laid_picture f) x) ≡ accepted d
      read_as x h = sym (ap (λ (y : Read Picture). found (map_read (laid_picture f) y)) h) ∙ e

      go : (x : Read Picture) → reading f bytes n ≡ x → T (valid f d)
      go (got p left at) h = subst (λ (x : Flat). T (valid f x)) (accepted_once (read_as (got p left at) h)) (accepted_valid f bytes n p left at h)
      go (unread why) h = absurd (told_apart (sym (read_as (unread why) h)))
      go endless h = absurd (told_apart (sym (read_as endless h)))

  -- the PSC alone
  some_bits : (d : Flat) → 1 ≤ length (picture_bits f d)
  unfolding picture_bits picture_of
  some_bits d = suc-le-suc zero-le

  -- "fields are in range"
  tr_small : (d : Flat) → valid f d ≡ true → tr_of d < 32
  unfolding valid
  tr_small d v =
      let fields = (two_of (lengths_of f d) _ v).1 in
      let head = (two_of (valid_head f d.head) _ fields).0 in
      let most : tr_of d ≤ 31 = leb-true (tr_of d) 31 (two_of (leb (tr_of d) 31) _ head).0 in
      omega arith

pub h261_lawful : H261Lawful
h261_lawful f = record {
  reads = λ d bytes v. read_found f d bytes (true-T (valid f d) v);
  reads_valid = λ bytes n d e. T_true (valid f d) (found-valid f bytes n d e);
  has_bits = some_bits f;
  rendered_long = rendered-length f;
  tr_below = tr_small f;
  modulus_some = lit≤ tt;
  modulus_most = lit≤ tt;
  anew = λ d s t v r. refresh_same f d s t (true-T (refresh f d) r);
}
