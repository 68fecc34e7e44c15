-- The two lent stores of a receiver or a sender. Document 01: "A finished picture goes into the store that doesn't hold the last finished one, at first into the first
-- store; the other is the reference." Assumes nothing.
use Rattle.std.specs.Prelude.{ℕ, ◌≡◌, Bool, true, false, List, [], eqb, length}
use Rattle.std.specs.Borrow.{Bor}
use Rattle.laws.specs.Choice.{pick, both}
use Rattle.size.specs.declared.Size.{Size}
use Rattle.size.specs.Size.{store_length}
use Rattle.standing.specs.declared.Holder.{Holder}
use Rattle.standing.specs.declared.Holder.TheVariants.{Neither, First, Second}

pub record Stores : Type 0 where
  pub first : List ℕ
  pub second : List ℕ

abbrev pub stores : List ℕ → List ℕ → Stores
stores first second = record { first = first; second = second }

-- both have their named length
abbrev pub stores_sized : Size → ℕ → ℕ → Bool
stores_sized size first second = both (eqb first (store_length size)) (eqb second (store_length size))

-- "goes into the store that doesn't hold the last finished one, at first into the first store"
abbrev pub goes_into : Holder → Holder
goes_into Neither = First
goes_into First = Second
goes_into Second = First

-- whether one was finished
abbrev pub any_finished : Holder → Bool
any_finished Neither = false
any_finished First = true
any_finished Second = true

-- "the other is the reference"
abbrev pub reference : Holder → Stores → List ℕ
reference Neither s = s.second
reference First s = s.first
reference Second s = s.second

-- the stores once this picture is finished
abbrev pub stores_with : Holder → List ℕ → Stores → Stores
stores_with Neither picture s = stores picture s.second
stores_with First picture s = stores s.first picture
stores_with Second picture s = stores picture s.second

-- the last finished picture
abbrev pub last_picture : Holder → Stores → List ℕ
last_picture Neither s = []
last_picture First s = s.first
last_picture Second s = s.second

-- where it begins
abbrev pub start_of : {P : Type 0} → Holder → P → P → P
start_of Neither first second = first
start_of First first second = first
start_of Second first second = second

-- what is handed back of it: nothing where a store hasn't its named length
abbrev pub shown_store : Size → Holder → Stores → List ℕ
shown_store size holder s = pick (stores_sized size (length s.first) (length s.second)) (last_picture holder s) []

-- ---- "the picture to show is a part of one of the two lent stores, handed back and not copied; otherwise .. an empty part of the first"
-- which part of them is handed back: where in memory it begins, and its bytes
pub record HandsBack (size : Size) (holder : Holder) (first second part : Bor (List ℕ)) : Type 0 where
  pub begins : part.ref_ptr ≡ pick (stores_sized size (length first.now) (length second.now)) (start_of holder first.ref_ptr second.ref_ptr) first.ref_ptr
  pub bytes : part.now ≡ shown_store size holder (stores first.now second.now)
