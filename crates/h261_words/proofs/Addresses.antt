-- The entries of macroblock addresses agree with Table 1: each is what its eleven bits decide, and antt computes once for all of them that this agrees.
-- Assumes nothing.
use mathlib.Core.Path.{◌≡◌, refl, sym, ap, subst, ◌∙◌}
use mathlib.Core.Bool.{Bool}
use mathlib.Core.List.{List}
use Prim.Native.Nat.{ℕ, ◌+◌, ◌<◌}
use lib.Dec.{T, lit<}
use lib.ListN.{get_or}
use Rattle.laws.specs.Lists.{alike}
use Rattle.laws.specs.Table.{all_b}
use Rattle.laws.proofs.Table.{all_at}
use Rattle.bits.specs.Bits.{bits_of}
use Rattle.bits.specs.Code.{word_in}
use Rattle.bits.specs.Windows.{decide}
use Rattle.bits.specs.Entries.{entry_of, entries_from, entries_of, entries_at}
use Rattle.bits.proofs.Entries.{entries_are, entry_of_lem}
use Rattle.h261_words.specs.Tables.{table1}
use Rattle.h261_words.specs.Lookup.{Tables, mba_entries_at}
use Rattle.h261_words.specs.Addresses.{Said, only_start_code, said_by, fitting, agrees_with_table1, is_codeword, is_no_codeword, is_only_start_code, saying, AddressEntriesAgree}

-- what eleven bits decide, as an entry
abbrev decided_entry : ℕ → ℕ
decided_entry i = entry_of (decide table1.entries (bits_of 11 i) 0)

abbrev agreeing : ℕ → Bool
agreeing i = agrees_with_table1 (bits_of 11 i) (said_by (decided_entry i))

all_agree : T (all_b 2048 agreeing)
unfolding table1 word_in alike said_by fitting agrees_with_table1
all_agree = tt

zeros_say : said_by (decided_entry 0) ≡ only_start_code
unfolding table1 said_by
zeros_say = refl

counted_codewords : saying is_codeword (entries_of 11 table1.entries) ≡ 2025
unfolding table1 entries_from said_by saying
counted_codewords = refl

counted_nones : saying is_no_codeword (entries_of 11 table1.entries) ≡ 22
unfolding table1 entries_from said_by saying
counted_nones = refl

counted_start_codes : saying is_only_start_code (entries_of 11 table1.entries) ≡ 1
unfolding table1 entries_from said_by saying
counted_start_codes = refl

module _ (t : List ℕ) (ok : Tables t) where
  entry_is : (i : ℕ) → i < 2048 → get_or t (mba_entries_at + i) 0 ≡ decided_entry i
  entry_is i l = entry_of_lem t mba_entries_at 11 table1.entries ok.mba_entries i l

  entries_say : (p : Said → Bool) (n : ℕ) → saying p (entries_of 11 table1.entries) ≡ n → saying p (entries_at t mba_entries_at 11) ≡ n
  entries_say p n e = ap (saying p) (entries_are t mba_entries_at 11 table1.entries ok.mba_entries) ∙ e

pub address_entries_agree : AddressEntriesAgree
address_entries_agree t ok =
    record {
      each = λ i l. subst (λ (e : ℕ). T (agrees_with_table1 (bits_of 11 i) (said_by e))) (sym (entry_is t ok i l)) (all_at 2048 agreeing all_agree i l);
      zeros = ap said_by (entry_is t ok 0 (lit< tt)) ∙ zeros_say;
      codewords = entries_say t ok is_codeword 2025 counted_codewords;
      nones = entries_say t ok is_no_codeword 22 counted_nones;
      start_codes = entries_say t ok is_only_start_code 1 counted_start_codes;
    }
