-- What keeps the promises of `decode` and `write` is, call by call, our decoder and our writer, and so meets demand 2. Assumes nothing.
use Prim.Native.Nat.{ℕ}
use mathlib.Core.Path.{◌≡◌, refl, sym, ap, ◌∙◌}
use mathlib.Core.List.{List}
use lib.ListN.{length}
use Rattle.refusals.specs.Told.{Told, accepted, refused_by, verdict_on, found_or}
use Rattle.size.specs.Size.{store_length}
use Rattle.coding.specs.declared.Kind.{Kind}
use Rattle.coding.specs.Kind.{kind_size, described_by}
use Rattle.decoder.specs.Decoded.{decoded}
use Rattle.demand2.specs.Demand2.{decode, Accepts}
use Rattle.demand2.specs.Promised.{DecodeProgram, KeepsDecode, decoded_as, decoder_of, DecodePromised, WritePromised}
use Rattle.demand2.proofs.Demand2.{decode_exactly, decode_samples, write_back, write_refused}

-- nothing is lost by a verdict and a store
found_again : (before : List ℕ) (x : Told (List ℕ)) → decoded_as (verdict_on x) (found_or before x) ≡ x
found_again before (accepted store) = refl
found_again before (refused_by numbers) = refl

module _ (p : DecodeProgram) (keeps : KeepsDecode p) (before : Kind → List ℕ) (long : (k : Kind) → length (before k) ≡ store_length (kind_size k)) where
  -- it is ours
  same : (k : Kind) (bytes : List ℕ) (n : ℕ) (reference : List ℕ) → decoder_of p before k bytes n reference ≡ decode k bytes n reference
  same k bytes n reference =
      (λ i. decoded_as (keeps.says k bytes n reference (before k) i) (keeps.leaves k bytes n reference (before k) i))
      ∙ found_again (before k) (decoded k bytes n reference (length (before k)))
      ∙ ap (decoded k bytes n reference) (long k)

pub decode_promised : DecodePromised
decode_promised p keeps before long = record {
  exactly = record {
    then = λ k bytes n reference e h.
        let a : Accepts (decode k bytes n reference) = decode_exactly.then k bytes n reference e h in
        record { store = a.store; is = same p keeps before long k bytes n reference ∙ a.is };
    only = λ k bytes n reference e a. decode_exactly.only k bytes n reference e (record { store = a.store; is = sym (same p keeps before long k bytes n reference) ∙ a.is });
  };
  samples = record {
    samples = λ k bytes n reference store h e a. decode_samples.samples k bytes n reference store h e (sym (same p keeps before long k bytes n reference) ∙ a);
  };
}

pub write_promised : WritePromised
write_promised p keeps = record {
  back = record {
    back = λ k d out n v l e. ap (λ (s : List ℕ). described_by k s n) (keeps.leaves k d out) ∙ write_back.back k d out n v l (sym (keeps.says k d out) ∙ e);
  };
  refused = record {
    unnamed = λ k d out l. keeps.says k d out ∙ write_refused.unnamed k d out l;
    invalid = λ k d out l v. keeps.says k d out ∙ write_refused.invalid k d out l v;
    above = λ k d out l v m. keeps.says k d out ∙ write_refused.above k d out l v m;
    else = λ k d out numbers v l e q. write_refused.else k d out numbers v l e (sym (keeps.says k d out) ∙ q);
  };
}
