-- The two stores once a picture is finished: it is the last one, the next one's reference, and what is shown. Assumes nothing.
use mathlib.Core.Path.{◌≡◌, refl}
use mathlib.Core.Bool.{Bool, true, false}
use mathlib.Core.List.{List, []}
use Prim.Native.Nat.{ℕ}
use borrow.Author.Tests.{eq-eqb}
use lib.Dec.{eqb}
use lib.ListN.{length}
use Rattle.laws.specs.Choice.{pick}
use Rattle.laws.proofs.Choice.{two_of}
use Rattle.size.specs.declared.Size.{Size}
use Rattle.size.specs.Size.{store_length}
use Rattle.standing.specs.declared.Holder.{Holder}
use Rattle.standing.specs.declared.Holder.TheVariants.{Neither, First, Second}
use Rattle.standing.specs.Stores.{Stores, stores_sized, goes_into, reference, stores_with, last_picture, shown_store}

abbrev pub both_sized : Size → Stores → Bool
both_sized size s = stores_sized size (length s.first) (length s.second)

pub kept_reference : (holder : Holder) (picture : List ℕ) (s : Stores) → reference (goes_into holder) (stores_with holder picture s) ≡ picture
kept_reference Neither picture s = refl
kept_reference First picture s = refl
kept_reference Second picture s = refl

kept_last : (holder : Holder) (picture : List ℕ) (s : Stores) → last_picture (goes_into holder) (stores_with holder picture s) ≡ picture
kept_last Neither picture s = refl
kept_last First picture s = refl
kept_last Second picture s = refl

pub kept_sized : (size : Size) (holder : Holder) (picture : List ℕ) (s : Stores) → length picture ≡ store_length size → both_sized size s ≡ true → both_sized size (stores_with holder picture s) ≡ true
kept_sized size holder picture s l e = go holder
  where
    long : eqb (length picture) (store_length size) ≡ true
    long = eq-eqb (length picture) (store_length size) l

    parts : (eqb (length s.first) (store_length size) ≡ true) × (eqb (length s.second) (store_length size) ≡ true)
    parts = two_of (eqb (length s.first) (store_length size)) (eqb (length s.second) (store_length size)) e

    go : (h : Holder) → both_sized size (stores_with h picture s) ≡ true
    go Neither = rw (long, parts.1)
    go First = rw (long, parts.0)
    go Second = rw (long, parts.1)

pub kept_shown : (size : Size) (holder : Holder) (picture : List ℕ) (s : Stores) → length picture ≡ store_length size → both_sized size s ≡ true → shown_store size (goes_into holder) (stores_with holder picture s) ≡ picture
kept_shown size holder picture s l e = rw (kept_sized size holder picture s l e) (kept_last holder picture s)

-- before a first picture, or where it isn't to be shown
pub none_shown : (size : Size) (s : Stores) → shown_store size Neither s ≡ []
none_shown size s = go (both_sized size s)
  where
    go : (b : Bool) → pick {A = List ℕ} b [] [] ≡ []
    go true = refl
    go false = refl
