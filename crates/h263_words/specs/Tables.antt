-- H.263's tables of codewords, as printed: a codeword and its meaning, a number. Each has the name that a refusal carries ("for H.263 6 MCBPC in INTRA pictures, 7 in INTER ones, 8 CBPY, 9 MVD, 10 TCOEF"). Assumes nothing.
use Rattle.std.specs.Prelude.{ℕ, ◌+◌, ◌*◌, Bool, [], ◌∷◌}
use Rattle.laws.specs.Choice.{pick}
use Rattle.bits.specs.Bits.{bits_of}
use Rattle.refusals.specs.declared.Table.TheVariants.{McbpcIntra, McbpcInter, Cbpy, Mvd263, Tcoef263}
use Rattle.bits.specs.Code.{entry, CodeTable}

-- ---- MCBPC: a macroblock's type (1 INTRA, 2 INTRA+Q, 3 INTER, 4 INTER+Q, 5 INTER4V) and CBPC, block 5 and block 6; or stuffing
abbrev pub kind : ℕ → ℕ → ℕ
kind type chroma = type * 4 + chroma

abbrev pub stuffing : ℕ
stuffing = 24

-- Table 4, MCBPC in INTRA pictures
unfoldable pub mcbpc_intra : CodeTable
mcbpc_intra = record {
  name = McbpcIntra;
  entries =
      entry (bits_of 1 0b1) (kind 1 0)
      ∷ entry (bits_of 3 0b001) (kind 1 1)
      ∷ entry (bits_of 3 0b010) (kind 1 2)
      ∷ entry (bits_of 3 0b011) (kind 1 3)
      ∷ entry (bits_of 4 0b0001) (kind 2 0)
      ∷ entry (bits_of 6 0b000001) (kind 2 1)
      ∷ entry (bits_of 6 0b000010) (kind 2 2)
      ∷ entry (bits_of 6 0b000011) (kind 2 3)
      ∷ entry (bits_of 9 0b000000001) stuffing
      ∷ [];
}

-- Table 5, MCBPC in INTER pictures, after a COD of 0
unfoldable pub mcbpc_inter : CodeTable
mcbpc_inter = record {
  name = McbpcInter;
  entries =
      entry (bits_of 1 0b1) (kind 3 0)
      ∷ entry (bits_of 4 0b0011) (kind 3 1)
      ∷ entry (bits_of 4 0b0010) (kind 3 2)
      ∷ entry (bits_of 6 0b000101) (kind 3 3)
      ∷ entry (bits_of 3 0b011) (kind 4 0)
      ∷ entry (bits_of 7 0b0000111) (kind 4 1)
      ∷ entry (bits_of 7 0b0000110) (kind 4 2)
      ∷ entry (bits_of 9 0b000000101) (kind 4 3)
      ∷ entry (bits_of 3 0b010) (kind 5 0)
      ∷ entry (bits_of 7 0b0000101) (kind 5 1)
      ∷ entry (bits_of 7 0b0000100) (kind 5 2)
      ∷ entry (bits_of 8 0b00000101) (kind 5 3)
      ∷ entry (bits_of 5 0b00011) (kind 1 0)
      ∷ entry (bits_of 8 0b00000100) (kind 1 1)
      ∷ entry (bits_of 8 0b00000011) (kind 1 2)
      ∷ entry (bits_of 7 0b0000011) (kind 1 3)
      ∷ entry (bits_of 6 0b000100) (kind 2 0)
      ∷ entry (bits_of 9 0b000000100) (kind 2 1)
      ∷ entry (bits_of 9 0b000000011) (kind 2 2)
      ∷ entry (bits_of 9 0b000000010) (kind 2 3)
      ∷ entry (bits_of 9 0b000000001) stuffing
      ∷ [];
}

-- the table of a picture's type
abbrev pub mcbpc_of : Bool → CodeTable
mcbpc_of intra = pick intra mcbpc_intra mcbpc_inter

-- Table 10, CBPY: the pattern of blocks 1 to 4 in an INTRA macroblock
unfoldable pub cbpy : CodeTable
cbpy = record {
  name = Cbpy;
  entries =
      entry (bits_of 4 0b0011) 0
      ∷ entry (bits_of 5 0b00101) 1
      ∷ entry (bits_of 5 0b00100) 2
      ∷ entry (bits_of 4 0b1001) 3
      ∷ entry (bits_of 5 0b00011) 4
      ∷ entry (bits_of 4 0b0111) 5
      ∷ entry (bits_of 6 0b000010) 6
      ∷ entry (bits_of 4 0b1011) 7
      ∷ entry (bits_of 5 0b00010) 8
      ∷ entry (bits_of 6 0b000011) 9
      ∷ entry (bits_of 4 0b0101) 10
      ∷ entry (bits_of 4 0b1010) 11
      ∷ entry (bits_of 4 0b0100) 12
      ∷ entry (bits_of 4 0b1000) 13
      ∷ entry (bits_of 4 0b0110) 14
      ∷ entry (bits_of 2 0b11) 15
      ∷ [];
}

-- Table 11, vector differences in half samples: 0 to 63, each 32 more than the difference that is printed first
unfoldable pub mvd : CodeTable
mvd = record {
  name = Mvd263;
  entries =
      entry (bits_of 13 0b0000000000101) 0
      ∷ entry (bits_of 13 0b0000000000111) 1
      ∷ entry (bits_of 12 0b000000000101) 2
      ∷ entry (bits_of 12 0b000000000111) 3
      ∷ entry (bits_of 12 0b000000001001) 4
      ∷ entry (bits_of 12 0b000000001011) 5
      ∷ entry (bits_of 12 0b000000001101) 6
      ∷ entry (bits_of 12 0b000000001111) 7
      ∷ entry (bits_of 11 0b00000001001) 8
      ∷ entry (bits_of 11 0b00000001011) 9
      ∷ entry (bits_of 11 0b00000001101) 10
      ∷ entry (bits_of 11 0b00000001111) 11
      ∷ entry (bits_of 11 0b00000010001) 12
      ∷ entry (bits_of 11 0b00000010011) 13
      ∷ entry (bits_of 11 0b00000010101) 14
      ∷ entry (bits_of 11 0b00000010111) 15
      ∷ entry (bits_of 11 0b00000011001) 16
      ∷ entry (bits_of 11 0b00000011011) 17
      ∷ entry (bits_of 11 0b00000011101) 18
      ∷ entry (bits_of 11 0b00000011111) 19
      ∷ entry (bits_of 11 0b00000100001) 20
      ∷ entry (bits_of 11 0b00000100011) 21
      ∷ entry (bits_of 10 0b0000010011) 22
      ∷ entry (bits_of 10 0b0000010101) 23
      ∷ entry (bits_of 10 0b0000010111) 24
      ∷ entry (bits_of 8 0b00000111) 25
      ∷ entry (bits_of 8 0b00001001) 26
      ∷ entry (bits_of 8 0b00001011) 27
      ∷ entry (bits_of 7 0b0000111) 28
      ∷ entry (bits_of 5 0b00011) 29
      ∷ entry (bits_of 4 0b0011) 30
      ∷ entry (bits_of 3 0b011) 31
      ∷ entry (bits_of 1 0b1) 32
      ∷ entry (bits_of 3 0b010) 33
      ∷ entry (bits_of 4 0b0010) 34
      ∷ entry (bits_of 5 0b00010) 35
      ∷ entry (bits_of 7 0b0000110) 36
      ∷ entry (bits_of 8 0b00001010) 37
      ∷ entry (bits_of 8 0b00001000) 38
      ∷ entry (bits_of 8 0b00000110) 39
      ∷ entry (bits_of 10 0b0000010110) 40
      ∷ entry (bits_of 10 0b0000010100) 41
      ∷ entry (bits_of 10 0b0000010010) 42
      ∷ entry (bits_of 11 0b00000100010) 43
      ∷ entry (bits_of 11 0b00000100000) 44
      ∷ entry (bits_of 11 0b00000011110) 45
      ∷ entry (bits_of 11 0b00000011100) 46
      ∷ entry (bits_of 11 0b00000011010) 47
      ∷ entry (bits_of 11 0b00000011000) 48
      ∷ entry (bits_of 11 0b00000010110) 49
      ∷ entry (bits_of 11 0b00000010100) 50
      ∷ entry (bits_of 11 0b00000010010) 51
      ∷ entry (bits_of 11 0b00000010000) 52
      ∷ entry (bits_of 11 0b00000001110) 53
      ∷ entry (bits_of 11 0b00000001100) 54
      ∷ entry (bits_of 11 0b00000001010) 55
      ∷ entry (bits_of 11 0b00000001000) 56
      ∷ entry (bits_of 12 0b000000001110) 57
      ∷ entry (bits_of 12 0b000000001100) 58
      ∷ entry (bits_of 12 0b000000001010) 59
      ∷ entry (bits_of 12 0b000000001000) 60
      ∷ entry (bits_of 12 0b000000000110) 61
      ∷ entry (bits_of 12 0b000000000100) 62
      ∷ entry (bits_of 13 0b0000000000110) 63
      ∷ [];
}

-- Table 13, transform coefficients, without the sign bit that ends an event's codeword and without the 15 bits that end an escape: LAST, RUN and LEVEL
abbrev pub event : ℕ → ℕ → ℕ → ℕ
event last run level = (last * 64 + run) * 16 + level

-- no event has level 0
abbrev pub escape : ℕ
escape = 0

-- Table 13
unfoldable pub tcoef : CodeTable
tcoef = record {
  name = Tcoef263;
  entries =
      entry (bits_of 2 0b10) (event 0 0 1)
      ∷ entry (bits_of 4 0b1111) (event 0 0 2)
      ∷ entry (bits_of 6 0b010101) (event 0 0 3)
      ∷ entry (bits_of 7 0b0010111) (event 0 0 4)
      ∷ entry (bits_of 8 0b00011111) (event 0 0 5)
      ∷ entry (bits_of 9 0b000100101) (event 0 0 6)
      ∷ entry (bits_of 9 0b000100100) (event 0 0 7)
      ∷ entry (bits_of 10 0b0000100001) (event 0 0 8)
      ∷ entry (bits_of 10 0b0000100000) (event 0 0 9)
      ∷ entry (bits_of 11 0b00000000111) (event 0 0 10)
      ∷ entry (bits_of 11 0b00000000110) (event 0 0 11)
      ∷ entry (bits_of 11 0b00000100000) (event 0 0 12)
      ∷ entry (bits_of 3 0b110) (event 0 1 1)
      ∷ entry (bits_of 6 0b010100) (event 0 1 2)
      ∷ entry (bits_of 8 0b00011110) (event 0 1 3)
      ∷ entry (bits_of 10 0b0000001111) (event 0 1 4)
      ∷ entry (bits_of 11 0b00000100001) (event 0 1 5)
      ∷ entry (bits_of 12 0b000001010000) (event 0 1 6)
      ∷ entry (bits_of 4 0b1110) (event 0 2 1)
      ∷ entry (bits_of 8 0b00011101) (event 0 2 2)
      ∷ entry (bits_of 10 0b0000001110) (event 0 2 3)
      ∷ entry (bits_of 12 0b000001010001) (event 0 2 4)
      ∷ entry (bits_of 5 0b01101) (event 0 3 1)
      ∷ entry (bits_of 9 0b000100011) (event 0 3 2)
      ∷ entry (bits_of 10 0b0000001101) (event 0 3 3)
      ∷ entry (bits_of 5 0b01100) (event 0 4 1)
      ∷ entry (bits_of 9 0b000100010) (event 0 4 2)
      ∷ entry (bits_of 12 0b000001010010) (event 0 4 3)
      ∷ entry (bits_of 5 0b01011) (event 0 5 1)
      ∷ entry (bits_of 10 0b0000001100) (event 0 5 2)
      ∷ entry (bits_of 12 0b000001010011) (event 0 5 3)
      ∷ entry (bits_of 6 0b010011) (event 0 6 1)
      ∷ entry (bits_of 10 0b0000001011) (event 0 6 2)
      ∷ entry (bits_of 12 0b000001010100) (event 0 6 3)
      ∷ entry (bits_of 6 0b010010) (event 0 7 1)
      ∷ entry (bits_of 10 0b0000001010) (event 0 7 2)
      ∷ entry (bits_of 6 0b010001) (event 0 8 1)
      ∷ entry (bits_of 10 0b0000001001) (event 0 8 2)
      ∷ entry (bits_of 6 0b010000) (event 0 9 1)
      ∷ entry (bits_of 10 0b0000001000) (event 0 9 2)
      ∷ entry (bits_of 7 0b0010110) (event 0 10 1)
      ∷ entry (bits_of 12 0b000001010101) (event 0 10 2)
      ∷ entry (bits_of 7 0b0010101) (event 0 11 1)
      ∷ entry (bits_of 7 0b0010100) (event 0 12 1)
      ∷ entry (bits_of 8 0b00011100) (event 0 13 1)
      ∷ entry (bits_of 8 0b00011011) (event 0 14 1)
      ∷ entry (bits_of 9 0b000100001) (event 0 15 1)
      ∷ entry (bits_of 9 0b000100000) (event 0 16 1)
      ∷ entry (bits_of 9 0b000011111) (event 0 17 1)
      ∷ entry (bits_of 9 0b000011110) (event 0 18 1)
      ∷ entry (bits_of 9 0b000011101) (event 0 19 1)
      ∷ entry (bits_of 9 0b000011100) (event 0 20 1)
      ∷ entry (bits_of 9 0b000011011) (event 0 21 1)
      ∷ entry (bits_of 9 0b000011010) (event 0 22 1)
      ∷ entry (bits_of 11 0b00000100010) (event 0 23 1)
      ∷ entry (bits_of 11 0b00000100011) (event 0 24 1)
      ∷ entry (bits_of 12 0b000001010110) (event 0 25 1)
      ∷ entry (bits_of 12 0b000001010111) (event 0 26 1)
      ∷ entry (bits_of 4 0b0111) (event 1 0 1)
      ∷ entry (bits_of 9 0b000011001) (event 1 0 2)
      ∷ entry (bits_of 11 0b00000000101) (event 1 0 3)
      ∷ entry (bits_of 6 0b001111) (event 1 1 1)
      ∷ entry (bits_of 11 0b00000000100) (event 1 1 2)
      ∷ entry (bits_of 6 0b001110) (event 1 2 1)
      ∷ entry (bits_of 6 0b001101) (event 1 3 1)
      ∷ entry (bits_of 6 0b001100) (event 1 4 1)
      ∷ entry (bits_of 7 0b0010011) (event 1 5 1)
      ∷ entry (bits_of 7 0b0010010) (event 1 6 1)
      ∷ entry (bits_of 7 0b0010001) (event 1 7 1)
      ∷ entry (bits_of 7 0b0010000) (event 1 8 1)
      ∷ entry (bits_of 8 0b00011010) (event 1 9 1)
      ∷ entry (bits_of 8 0b00011001) (event 1 10 1)
      ∷ entry (bits_of 8 0b00011000) (event 1 11 1)
      ∷ entry (bits_of 8 0b00010111) (event 1 12 1)
      ∷ entry (bits_of 8 0b00010110) (event 1 13 1)
      ∷ entry (bits_of 8 0b00010101) (event 1 14 1)
      ∷ entry (bits_of 8 0b00010100) (event 1 15 1)
      ∷ entry (bits_of 8 0b00010011) (event 1 16 1)
      ∷ entry (bits_of 9 0b000011000) (event 1 17 1)
      ∷ entry (bits_of 9 0b000010111) (event 1 18 1)
      ∷ entry (bits_of 9 0b000010110) (event 1 19 1)
      ∷ entry (bits_of 9 0b000010101) (event 1 20 1)
      ∷ entry (bits_of 9 0b000010100) (event 1 21 1)
      ∷ entry (bits_of 9 0b000010011) (event 1 22 1)
      ∷ entry (bits_of 9 0b000010010) (event 1 23 1)
      ∷ entry (bits_of 9 0b000010001) (event 1 24 1)
      ∷ entry (bits_of 10 0b0000000111) (event 1 25 1)
      ∷ entry (bits_of 10 0b0000000110) (event 1 26 1)
      ∷ entry (bits_of 10 0b0000000101) (event 1 27 1)
      ∷ entry (bits_of 10 0b0000000100) (event 1 28 1)
      ∷ entry (bits_of 11 0b00000100100) (event 1 29 1)
      ∷ entry (bits_of 11 0b00000100101) (event 1 30 1)
      ∷ entry (bits_of 11 0b00000100110) (event 1 31 1)
      ∷ entry (bits_of 11 0b00000100111) (event 1 32 1)
      ∷ entry (bits_of 12 0b000001011000) (event 1 33 1)
      ∷ entry (bits_of 12 0b000001011001) (event 1 34 1)
      ∷ entry (bits_of 12 0b000001011010) (event 1 35 1)
      ∷ entry (bits_of 12 0b000001011011) (event 1 36 1)
      ∷ entry (bits_of 12 0b000001011100) (event 1 37 1)
      ∷ entry (bits_of 12 0b000001011101) (event 1 38 1)
      ∷ entry (bits_of 12 0b000001011110) (event 1 39 1)
      ∷ entry (bits_of 12 0b000001011111) (event 1 40 1)
      ∷ entry (bits_of 7 0b0000011) escape
      ∷ [];
}
