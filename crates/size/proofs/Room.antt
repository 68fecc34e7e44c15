-- Parts of arrays that have room for every size. Assumes nothing.
use mathlib.Core.Path.{◌≡◌, refl, sym}
use mathlib.Core.List.{List}
use Prim.Native.Nat.{ℕ, ◌*◌, ◌≤◌}
use native.Mathlib.Omega.{arith}
use lib.ListN.{length, take}
use lib.Seq.{length-take-le}
use Rattle.size.specs.declared.Size.{Size}
use Rattle.size.specs.declared.Size.TheVariants.{SubQcif, Qcif, Cif}
use Rattle.size.specs.Size.{limit, store_length, collection_length, output_length, blocks_length}

pub part_long : {n : ℕ} (array : List ℕ) → n ≤ length array → n ≡ length (take n array)
part_long {n} array l = sym (length-take-le n array l)

pub store_most : (f : Size) → store_length f ≤ 152064
store_most SubQcif = omega arith
store_most Qcif = omega arith
store_most Cif = omega arith

pub collection_most : (f : Size) → collection_length f ≤ 33000
collection_most SubQcif = omega arith
collection_most Qcif = omega arith
collection_most Cif = omega arith

pub output_most : (f : Size) → output_length f ≤ 32768
output_most SubQcif = omega arith
output_most Qcif = omega arith
output_most Cif = omega arith

-- the limit is the output's eight bits a byte
pub limit_room : (f : Size) → limit f ≡ 8 * output_length f
limit_room SubQcif = refl
limit_room Qcif = refl
limit_room Cif = refl

pub blocks_most : (f : Size) → blocks_length f ≤ 33792
blocks_most SubQcif = omega arith
blocks_most Qcif = omega arith
blocks_most Cif = omega arith
