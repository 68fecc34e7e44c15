-- What a table that stands in the array is read to, by the entry for its first bits. Assumes nothing.
use mathlib.Core.Path.{◌≡◌, ap, ◌∙◌}
use mathlib.Core.List.{List}
use Prim.Native.Nat.{ℕ, ◌+◌, ◌%◌, ◌^◌, ◌≤◌}
use Rattle.refusals.specs.declared.Table.{Table}
use Rattle.bits.specs.Bits.{bits_left}
use Rattle.bits.specs.Places.{plain}
use Rattle.bits.specs.Code.{CodeTable, word}
use Rattle.bits.specs.Answer.{Within}
use Rattle.bits.specs.Entries.{entry_read, without_entry}
use Rattle.bits.proofs.Entries.{EntryReads, entry_reads}
use Rattle.h261_words.specs.Lookup.{Tables, Stands}

module _ {table : CodeTable} {tree from width : ℕ} (h : Stands table tree from width) {i k : ℕ} (i_is : i ≡ from) (k_is : k ≡ width) where
  pub stands_room : i + 2 ^ k ≤ 7153
  stands_room = rw (i_is, k_is) h.room

  pub stands_short : k ≤ 24
  stands_short = rw k_is h.short

  module _ {t s : List ℕ} {n at e : ℕ} (ok : Tables t) (w : Within s n at) (e_is : e ≡ entry_read t i k s n at) where
    pub reads : EntryReads t tree table s n at e
    reads =
        entry_reads t tree from width table (h.walked t ok) (h.entered t ok) h.short s n at e w.inside
        (e_is ∙ ap (λ (x : ℕ). entry_read t x k s n at) i_is ∙ ap (λ (x : ℕ). entry_read t from x s n at) k_is)

    pub reads_without : {x : Table} {q : ℕ} → x ≡ table.name → q ≡ tree → e % 32 ≡ 0
        → without_entry x t q e (bits_left s n at) at ≡ word {P = plain} table (bits_left s n at) at
    reads_without {x} {q} x_is q_is z =
        ap (λ (x : Table). without_entry x t q e (bits_left s n at) at) x_is
        ∙ ap (λ (q : ℕ). without_entry table.name t q e (bits_left s n at) at) q_is ∙ reads.without z
