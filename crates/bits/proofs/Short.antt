-- How long bits can be: of two choices, of what may be left out, of a codeword. Assumes nothing.
use mathlib.Core.Bool.{Bool, true, false}
use mathlib.Core.List.{List, [], ◌∷◌}
use Prim.Native.Nat.{ℕ, ◌≤◌}
use native.Mathlib.Omega.{arith}
use lib.Dec.{T, leb, leb→le, eqb, lit≤}
use lib.ListN.{length}
use Rattle.laws.specs.Choice.{pick, both}
use Rattle.laws.proofs.Choice.{both_left, both_right}
use Rattle.bits.specs.Bits.{Bit}
use Rattle.bits.specs.Code.{Entry, entry, CodeTable, word_in, word_of}
use Rattle.bits.specs.Write.{bits_if}

-- ---- one or the other, or none
pub pick_short : (b : Bool) (w v : List Bit) (n : ℕ) → length w ≤ n → length v ≤ n → length (pick b w v) ≤ n
pick_short true w v n l m = l
pick_short false w v n l m = m

pub if_short : (b : Bool) (w : List Bit) → length (bits_if b w) ≤ length w
if_short true w = omega arith
if_short false w = omega arith

-- ---- a codeword has up to 16 bits
unfoldable pub short_words : List Entry → Bool
short_words [] = true
short_words (entry w m ∷ table) = both (leb (length w) 16) (short_words table)

listed_short : (table : List Entry) (m : ℕ) → T (short_words table) → length (word_in table m) ≤ 16
unfolding word_in short_words
listed_short [] m t = lit≤ tt
listed_short (entry w m' ∷ table) m t =
    pick_short (eqb m' m) w (word_in table m) 16 (leb→le (length w) 16 (both_left (leb (length w) 16) (short_words table) t)) (listed_short table m (both_right (leb (length w) 16) (short_words table) t))

pub word-short : (table : CodeTable) (m : ℕ) → T (short_words table.entries) → length (word_of table m) ≤ 16
word-short table m t = listed_short table.entries m t
