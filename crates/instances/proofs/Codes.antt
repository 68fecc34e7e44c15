-- Codes to be grey with. Assumes nothing.
use Prim.Native.Nat.{ℕ}

pub data Code : Type 0 where
  one : Code
  two : Code

abbrev pub code_of : Code → ℕ
code_of one = 1
code_of two = 2
