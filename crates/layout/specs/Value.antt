-- A picture as a value, in both standards: what its bits say, however they say it. Assumes nothing.
use Rattle.std.specs.Prelude.{ℕ, List, ℤ, pos}

-- a coefficient: how many zeros stand before it, and its level in the eight bits that an escape codes it with
pub record Coefficient : Type 0 where
  pub run : ℕ
  pub code : ℕ

abbrev pub coefficient : ℕ → ℕ → Coefficient
coefficient run code = record { run = run; code = code }

-- The coefficients of a block in transmission order; none where it isn't sent. An INTRA block's first is its DC code, with run 0: the codes that it may not have are those that a level may not have.
abbrev pub Block : Type 0
Block = List Coefficient

-- a vector, in the standard's steps
pub record Vector : Type 0 where
  pub horizontal : ℤ
  pub vertical : ℤ

abbrev pub zero_vector : Vector
zero_vector = record { horizontal = pos 0; vertical = pos 0 }

-- a macroblock that is sent: its address in the group, from 1; its type, which isn't 0; MQUANT (in H.263 DQUANT) and the vector, 0 where the type has none; six blocks
pub record Macroblock : Type 0 where
  pub address : ℕ
  pub type : ℕ
  pub quant : ℕ
  pub vector : Vector
  pub blocks : List Block

-- GQUANT, and the macroblocks that are sent
pub record Group : Type 0 where
  pub gquant : ℕ
  pub macroblocks : List Macroblock

-- the fixed fields of a standard's head, and the groups in order
pub record Picture : Type 0 where
  pub fields : List ℕ
  pub groups : List Group
