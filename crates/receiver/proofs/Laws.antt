-- What is known of a block that passed the checks, and of what it comes to. Assumes nothing.
use Prim.Native.Nat.{ℕ, ◌+◌, ◌*◌, ◌≤◌}
use mathlib.Core.Path.{◌≡◌, refl, ap, ◌∙◌}
use mathlib.Core.Bool.{Bool, true, false}
use mathlib.Core.List.{List}
use native.Mathlib.Omega.{arith}
use borrow.Author.Tests.{eqb-true}
use lib.Dec.{eqb}
use lib.ListN.{length}
use Rattle.laws.specs.Choice.{pick, alike}
use Rattle.laws.proofs.Choice.{two_of}
use Rattle.refusals.specs.Told.{untabled, Told, accepted, refused_by}
use Rattle.size.specs.declared.Size.{Size}
use Rattle.size.specs.declared.Size.TheVariants.{SubQcif, Qcif, Cif}
use Rattle.size.specs.Size.{store_length, collection_length}
use Rattle.coding.specs.declared.Kind.{Kind}
use Rattle.coding.specs.Coding.{Coding}
use Rattle.coding.specs.Kind.{kind_size}
use Rattle.vault.specs.declared.Standard.{Standard}
use Rattle.vault.specs.declared.Header.{Header}
use Rattle.vault.specs.Block.{greatest_part, judge_of}
use Rattle.vault.proofs.Judged.{Sound, judged_good, good_sound}
use Rattle.vault.specs.Parts.{placed_payload}
use Rattle.standing.specs.declared.Receiver.{Receiver}
use Rattle.standing.specs.Receive.{mark_of, failed, finished, named_lengths, ended_picture, collection_after}
use Rattle.receiver.specs.Receiving.{Ready}

greatest : (size : Size) (part : ℕ) → part ≤ greatest_part size → (part ≤ 65) × (500 * part + 500 ≤ collection_length size)
greatest SubQcif part l = (omega arith, omega arith)
greatest Qcif part l = (omega arith, omega arith)
greatest Cif part l = (omega arith, omega arith)

pub ready : {size : Size} (kind : Kind) (standard : Standard) (clip : ℕ) (header : Header) (block collection first second : List ℕ) → size ≡ kind_size kind
    → named_lengths size (length collection) (length first) (length second) ≡ true → judge_of size standard clip block ≡ accepted header → Ready kind header block collection first second
ready {size} kind standard clip header block collection first second is l g =
    let sound : Sound size block header = good_sound size block header (judged_good size standard clip block header g).0 in
    let longs = two_of (eqb (length collection) (collection_length size)) _ l in
    let both_long = two_of (eqb (length first) (store_length size)) (eqb (length second) (store_length size)) longs.1 in
    let c : length collection ≡ collection_length size = eqb-true _ _ longs.0 in
    let stored : store_length size ≡ store_length (kind_size kind) = ap store_length is in
    let most = greatest size header.part sound.part_is in
    record {
      block_long = sound.long;
      room = omega (arith, most.1, c);
      fitting = record {
        picture_is = sound.picture_is;
        part_is = most.0;
        used_is = sound.used_most;
        first_long = eqb-true _ _ both_long.0 ∙ stored;
        second_long = eqb-true _ _ both_long.1 ∙ stored;
      };
    }

module _ {D : Type 0} (coding : Kind → Coding D) where
  -- a last part is collected, whatever is found
  pub ended_collects : (r : Receiver) (header : Header) (block collection : List ℕ) (found : Told D)
      → collection_after block collection (ended_picture coding r header found) ≡ placed_payload block header.part collection
  unfolding ended_picture
  ended_collects r header block collection (refused_by numbers) = refl
  ended_collects r header block collection (accepted d) = either_way (alike ((coding r.kind).refresh d) (mark_of r.progress header))
    where
      either_way : (b : Bool) → collection_after block collection (pick b (finished header d) (failed header (untabled 24 0))) ≡ placed_payload block header.part collection
      either_way true = refl
      either_way false = refl
