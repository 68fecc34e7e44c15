-- Each codeword that is written has a bit at least, since a read of it takes one. Assumes nothing.
use mathlib.Core.Path.{◌≡◌}
use mathlib.Core.Bool.{Bool}
use mathlib.Core.List.{List, [], ◌++◌}
use Prim.Native.Nat.{ℕ, suc, ◌+◌, ◌≤◌}
use native.Mathlib.Nat.{le_refl}
use native.Mathlib.Omega.{arith}
use lib.Dec.{T}
use lib.ListN.{length}
use Rattle.bits.specs.Bits.{Bit}
use Rattle.bits.specs.Places.{plain}
use Rattle.bits.specs.Read.{got, AnyReader}
use Rattle.bits.specs.Code.{word_of, has}
use Rattle.bits.proofs.Logic.{Gives, Reads, gives}
use Rattle.layout.specs.Value.{Coefficient}
use Rattle.layout.specs.Sendable.{Sendable}
use Rattle.h263_words.specs.Tables.{mcbpc_of, cbpy, mvd}
use Rattle.h263_words.specs.Words.{tcoef_of}
use Rattle.h263_words.proofs.Back.{mcbpc_back, cbpy_back, mvd_back, event_back}
use Rattle.h263_words.proofs.WordReads.{mcbpc_reads, cbpy_reads, mvd_reads, event_reads}

some_bit : {A : Type 0} {Good : A → List Bit → Type 0} {r : AnyReader A} → ((bound : ℕ) → Reads bound 1 Good r) → (w : List Bit) (a : A) → r plain (w ++ []) 0 ≡ got a [] (0 + length w) → 1 ≤ length w
some_bit {Good = Good} h w a e =
    let g : Gives 1 Good (w ++ []) 0 (got a [] (0 + length w)) = rw e at (gives (h (suc (length (w ++ [])))) (w ++ []) 0 (le_refl (suc (length (w ++ []))))) in omega (arith, g.0.onward)

pub mcbpc_some : (intra : Bool) (m : ℕ) → T (has (mcbpc_of intra) m) → 1 ≤ length (word_of (mcbpc_of intra) m)
mcbpc_some intra m h = some_bit (λ bound. mcbpc_reads intra) (word_of (mcbpc_of intra) m) m (mcbpc_back intra m [] 0 h)

pub cbpy-some : (m : ℕ) → m ≤ 15 → 1 ≤ length (word_of cbpy m)
cbpy-some m h = some_bit (λ bound. cbpy_reads) (word_of cbpy m) m (cbpy_back m [] 0 h)

pub mvd-some : (m : ℕ) → m ≤ 63 → 1 ≤ length (word_of mvd m)
mvd-some m h = some_bit (λ bound. mvd_reads) (word_of mvd m) m (mvd_back m [] 0 h)

pub event_some : (last : ℕ) → last ≤ 1 → (c : Coefficient) → Sendable c → 1 ≤ length (tcoef_of last c)
event_some last one c g = some_bit (λ bound. event_reads) (tcoef_of last c) _ (event_back last one c g [] 0)
