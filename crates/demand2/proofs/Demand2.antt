-- Our decoder and our writer meet demand 2. Assumes nothing.
use Prim.Native.Nat.{ℕ}
use mathlib.Core.Path.{◌≡◌, refl, sym, ap, ◌∙◌}
use mathlib.Core.List.{List}
use native.Mathlib.Omega.{arith}
use borrow.Author.Tests.{lt-ltb}
use lib.ListN.{length}
use Rattle.refusals.specs.Told.{Numbers, Told, refused}
use Rattle.refusals.proofs.Told.{accepted_once, same_numbers, told_apart}
use Rattle.bits.specs.Read.{Read, got, endless, refused as unread}
use Rattle.fields.specs.Answer.{found}
use Rattle.size.specs.Size.{limit, store_length}
use Rattle.layout.specs.Flat.{Flat}
use Rattle.coding.specs.declared.Kind.{Kind}
use Rattle.coding.specs.Kind.{kind_size, coding_of, described_by}
use Rattle.coding.specs.Described.{write_of}
use Rattle.decoder.specs.Decoded.{drawn_by}
use Rattle.demand2.specs.Demand2.{decode, Follows, Accepts, DecodeExactly, DecodeSamples, WriteBack, WriteRefused, LengthAsInvalidWrong}
use Rattle.demand2.proofs.WrittenBack.{decoded_is, writes, written_back}

-- ---- our decoder
module _ (k : Kind) (bytes : List ℕ) (n : ℕ) (reference : List ℕ) (e : length reference ≡ store_length (kind_size k)) where
  -- what it answers where this is read
  by : {x : Read Flat} → described_by k bytes n ≡ x → decode k bytes n reference ≡ drawn_by (coding_of k) reference (found x)
  by r = decoded_is k bytes n reference e ∙ ap (λ (x : Read Flat). drawn_by (coding_of k) reference (found x)) r

  follows_if : (x : Read Flat) → described_by k bytes n ≡ x → Accepts (decode k bytes n reference) → Follows k bytes n
  follows_if (got d left at) r a = record { description = d; left = left; at = at; reads = r }
  follows_if (unread why) r a = absurd (told_apart (sym a.is ∙ by r))
  follows_if endless r a = absurd (told_apart (sym a.is ∙ by r))

pub decode_exactly : DecodeExactly
decode_exactly = record {
  then = λ k bytes n reference e h. record { store = (coding_of k).render h.description reference; is = by k bytes n reference e h.reads };
  only = λ k bytes n reference e a. follows_if k bytes n reference e (described_by k bytes n) refl a;
}

pub decode_samples : DecodeSamples
decode_samples = record {
  samples = λ k bytes n reference store h e a. accepted_once (sym a ∙ by k bytes n reference e h.reads);
}

-- ---- our writer
pub write_back : WriteBack
write_back = record { back = λ k d out n v l e. (written_back k d out n e).read }

pub write_refused : WriteRefused
unfolding write_of
write_refused = record {
  unnamed = λ k d out l. rw l refl;
  invalid = λ k d out l v. rw (l, v) refl;
  above = λ k d out l v m. rw (l, v, lt-ltb (limit (kind_size k)) (length ((coding_of k).written d)) m) refl;
  else = λ k d out numbers v l e q. told_apart (sym (writes k d out v l e) ∙ q);
}

-- ---- wrong
pub length_as_invalid_wrong : LengthAsInvalidWrong
length_as_invalid_wrong w k d out l e h = other_number (sym (h.unnamed k d out l) ∙ e)
  where
    other_number : ◌≡◌ {A = Told ℕ} (refused 1 0) (refused 31 0) → ⊥
    other_number q = let z : ◌≡◌ {A = ℕ} 1 31 = ap (λ (numbers : Numbers). numbers.number) (same_numbers q) in omega arith
