-- What is written for a valid description is read back as that description. Assumes nothing.
use mathlib.Core.Path.{◌≡◌, refl, sym, ap, ◌∙◌}
use mathlib.Core.List.{List, [], ◌∷◌, ◌++◌, append-nil}
use Prim.Native.Nat.{ℕ, ◌+◌, ◌*◌}
use native.Mathlib.Omega.{arith}
use borrow.Author.Tests.{le-ltb}
use lib.ListN.{length}
use Rattle.bits.specs.Bits.{Bit}
use Rattle.bits.specs.Places.{plain}
use Rattle.bits.specs.Read.{got}
use Rattle.size.specs.Size.{limit}
use Rattle.h263_description.specs.Value.{Picture, laid_picture, picture_in}
use Rattle.h263_description.proofs.Pictured.{picture_proper}
use Rattle.h263_description.proofs.Relaid.{laid_back}
use Rattle.h263_layers.specs.Grammar.{ended, picture, reading}
use Rattle.h263_writer.specs.Write.{picture_of, picture_bits}
use Rattle.h263_readback.specs.ReadBack.{PictureReadBack, ReadsBack, WrittenOnce}
use Rattle.h263_readback.proofs.Pictures.{picture_back}

pub read_back_lem : PictureReadBack
unfolding reading
read_back_lem size p s h l held =
    let w = picture_of size p in
    let r : picture {P = plain} size (w ++ []) 0 ≡ got p [] (0 + length w) = picture_back size p [] 0 h in
    let z : 0 + length w ≡ length w = omega arith in
    rw (le-ltb (8 * length s) (length w) held.room, le-ltb (limit size) (length w) l, held.bits) (rw (append-nil w, z) at r)

pub reads_back : ReadsBack
unfolding picture_bits
reads_back size d s t l held = record { read = read_back_lem size (picture_in size d) s (picture_proper size d t) l held; laid_out = laid_back size d t }

-- of two that end alike
ended_once : (p o : Picture) (more : List Bit) (at end : ℕ) → ended {P = plain} p more at ≡ got o [] end → (p ≡ o) × (more ≡ [])
ended_once p o [] at end e = let same : p ≡ o = cc in (same, refl)
ended_once p o (b ∷ more) at end e = let z : ◌≡◌ {A = ℕ} 0 1 = cc in absurd (omega arith)

pub written_once : WrittenOnce
unfolding picture_bits
written_once size d e more t u h =
    let w = picture_bits size d in
    let v = picture_bits size e in
    let r = picture_back size (picture_in size d) more 0 (picture_proper size d t) in
    let q : picture {P = plain} size (v ++ []) 0 ≡ got (picture_in size e) [] (0 + length v) = picture_back size (picture_in size e) [] 0 (picture_proper size e u) in
    let both : picture {P = plain} size (w ++ more) 0 ≡ picture size (v ++ []) 0 = ap (λ (x : List Bit). picture size x 0) (h ∙ sym (append-nil v)) in
    let once = ended_once (picture_in size d) (picture_in size e) more (0 + length w) (0 + length v) (sym r ∙ both ∙ q) in
    (sym (laid_back size d t) ∙ ap (laid_picture size) once.0 ∙ laid_back size e u, once.1)
