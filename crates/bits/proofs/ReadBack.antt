-- Bits that were written are read back, whatever follows them and wherever they stand: one law for each way to read. A codeword's own law is `word_back` (Codes.antt). Assumes nothing.
use mathlib.Core.Path.{◌≡◌, sym, ap, ◌∙◌}
use mathlib.Core.Bool.{true}
use mathlib.Core.List.{List, [], ◌++◌, append_assoc}
use Prim.Native.Nat.{ℕ, suc, ◌+◌, ◌^◌, ◌≤◌, ◌<◌}
use native.Mathlib.Nat.{add-zero, add_assoc}
use native.Mathlib.Omega.{arith}
use lib.Dec.{T}
use lib.ListN.{length, length-append}
use Rattle.bits.specs.Bits.{Bit, bits_of}
use Rattle.bits.specs.Read.{got, Reader, ◌>>=◌, done, field, Judged, fine, judged_read, loop}
use Rattle.bits.specs.Code.{CodeTable, word_of, has}
use Rattle.bits.proofs.Fields.{length-bits_of, field_back}
use Rattle.bits.proofs.Codes.{free, each, word_got, word_back}

-- from the bits w, with these after them, r reads a and leaves those
pub record Back {A : Type 0} (r : Reader A) (w rest : List Bit) (a : A) : Type 0 where
  pub reads : (at : ℕ) → r (w ++ rest) at ≡ got a rest (at + length w)

module _ {A : Type 0} where
  pub back_done : (a : A) (rest : List Bit) → Back (done a) [] rest a
  back_done a rest = record { reads = λ at. ap (λ (p : ℕ). got a rest p) (sym (add-zero at)) }

  pub back_judged : {B : Type 0} {r : Reader A} {w rest : List Bit} {a : A} (rule : A → Judged B) (b : B) → Back r w rest a → rule a ≡ fine b
      → Back (judged_read r rule) w rest b
  back_judged rule b h e = record { reads = λ at. rw (h.reads at, e) }

  pub back_next : {B : Type 0} {r : Reader A} {w v rest : List Bit} {a : A} {b : B} (k : A → Reader B) → Back r w (v ++ rest) a → Back (k a) v rest b
      → Back (r >>= k) (w ++ v) rest b
  back_next {B} {r} {w} {v} {rest} {a} {b} k h g = record {
    reads =
        λ at.
        rw (append_assoc w v rest, h.reads at)
        (g.reads (at + length w) ∙ ap (λ (p : ℕ). got b rest p) (add_assoc at (length w) (length v) ∙ ap (λ (n : ℕ). at + n) (sym (length-append w v))));
  }

  pub back_end : {B : Type 0} {r : Reader A} {w rest : List Bit} {a : A} {b : B} (k : A → Reader B) → Back r w rest a → k a ≡ done b → Back (r >>= k) w rest b
  back_end k h e = record { reads = λ at. rw (h.reads at, e) }

  pub back_as : {r : Reader A} {w v rest : List Bit} {a : A} → w ≡ v → Back r w rest a → Back r v rest a
  back_as e h = rw e at h

  -- the fuel of a loop is more than the bits are
  pub back_loop : {w rest : List Bit} {a : A} (turn : ℕ → Reader A) → ((n : ℕ) → length w ≤ n → Back (turn (suc n)) w rest a) → Back (loop turn) w rest a
  back_loop {w} {rest} turn h = record { reads = λ at. (h (length (w ++ rest)) (omega (arith, length-append w rest))).reads at }

-- ---- fields and codewords
pub back_field : (k x : ℕ) (rest : List Bit) → x < 2 ^ k → Back (field k) (bits_of k x) rest x
back_field k x rest l = record { reads = λ at. field_back k x rest at l ∙ ap (λ (n : ℕ). got x rest (at + n)) (sym (length-bits_of k x)) }

-- a codeword has a bit at least
pub length_word : (table : CodeTable) (m : ℕ) → T (each (λ m. true) table.entries) → T (free table.entries) → T (has table m) → 1 ≤ length (word_of table m)
length_word table m t a h =
    let w = word_of table m in
    let d = word_got (λ m. true) table (w ++ []) 0 m [] (0 + length w) t (word_back table m [] 0 a h) in
    omega (arith, d.after)
