-- What is written for a valid description is read back as that description. Assumes nothing.
use mathlib.Core.Path.{◌≡◌, sym, ap, ◌∙◌}
use mathlib.Core.List.{List, [], ◌++◌, append-nil}
use Prim.Native.Nat.{◌+◌, ◌*◌}
use native.Mathlib.Omega.{arith}
use borrow.Author.Tests.{le-ltb}
use lib.ListN.{length}
use Rattle.bits.specs.Bits.{Bit}
use Rattle.bits.specs.Places.{plain}
use Rattle.bits.specs.Read.{got}
use Rattle.h261_groups.specs.Format.{size_of}
use Rattle.size.specs.Size.{limit}
use Rattle.h261_description.specs.Value.{laid_picture, picture_in}
use Rattle.h261_description.proofs.Pictured.{picture_proper}
use Rattle.h261_description.proofs.Relaid.{laid_back}
use Rattle.h261_layers.specs.Grammar.{picture, reading}
use Rattle.h261_writer.specs.Write.{picture_of, picture_bits}
use Rattle.h261_readback.proofs.Pictures.{back_picture}
use Rattle.h261_readback.specs.ReadBack.{PictureReadBack, ReadsBack, WrittenOnce}

pub read_back_lem : PictureReadBack
unfolding reading
read_back_lem f p s h l held =
    let w = picture_of f p in
    let r : picture {P = plain} f (w ++ []) 0 ≡ got p [] (0 + length w) = (back_picture f p h).reads 0 in
    let z : 0 + length w ≡ length w = omega arith in
    rw (le-ltb (8 * length s) (length w) held.room, le-ltb (limit (size_of f)) (length w) l, held.bits) (rw (append-nil w, z) at r)

pub reads_back : ReadsBack
unfolding picture_bits
reads_back f d s t l held = record { read = read_back_lem f (picture_in d) s (picture_proper f d t) l held; laid_out = laid_back f d t }

pub written_once : WrittenOnce
unfolding picture_bits
written_once f d e t u h =
    let r = (back_picture f (picture_in d) (picture_proper f d t)).reads 0 in
    let q = (back_picture f (picture_in e) (picture_proper f e u)).reads 0 in
    let both : picture {P = plain} f (picture_bits f d ++ []) 0 ≡ picture f (picture_bits f e ++ []) 0 = ap (λ (w : List Bit). picture f (w ++ []) 0) h in
    let same : picture_in d ≡ picture_in e = cc in
    sym (laid_back f d t) ∙ ap (laid_picture f) same ∙ laid_back f e u
