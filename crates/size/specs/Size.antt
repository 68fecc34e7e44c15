-- Sub-QCIF, QCIF and CIF: what a picture's size decides, for both standards. Assumes nothing.
use Rattle.std.specs.Prelude.{ℕ}
use Rattle.size.specs.declared.Size.{Size}
use Rattle.size.specs.declared.Size.TheVariants.{SubQcif, Qcif, Cif}

-- "QCIF (176 by 144) and CIF (352 by 288)"
abbrev pub width : Size → ℕ
width SubQcif = 128
width Qcif = 176
width Cif = 352

abbrev pub height : Size → ℕ
height SubQcif = 96
height Qcif = 144
height Cif = 288

-- "N is at most 65,536 for QCIF and 262,144 for CIF."
abbrev pub limit : Size → ℕ
limit SubQcif = 65536
limit Qcif = 65536
limit Cif = 262144

-- ---- the named lengths of lent buffers
-- "38,016 bytes for QCIF, 152,064 for CIF"
abbrev pub store_length : Size → ℕ
store_length SubQcif = 18432
store_length Qcif = 38016
store_length Cif = 152064

-- the writer's: "Its output is 8,192 or 32,768 bytes."
abbrev pub output_length : Size → ℕ
output_length SubQcif = 8192
output_length Qcif = 8192
output_length Cif = 32768

-- "the collection buffer (8,500 or 33,000 bytes)"
abbrev pub collection_length : Size → ℕ
collection_length SubQcif = 8500
collection_length Qcif = 8500
collection_length Cif = 33000

-- the sender "writes a picture's blocks into 8,704 or 33,792 bytes"
abbrev pub blocks_length : Size → ℕ
blocks_length SubQcif = 8704
blocks_length Qcif = 8704
blocks_length Cif = 33792
