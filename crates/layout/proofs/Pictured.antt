-- Good macroblocks, one by one, are good in their picture: what a test of every macroblock says of the groups that are read back. Assumes nothing.
use Prim.Native.Nat.{ℕ, zero, suc, ◌+◌, ◌*◌, ◌≤◌, ◌<◌}
use mathlib.Core.Path.{◌≡◌, refl, ap, subst}
use mathlib.Core.Bool.{Bool}
use mathlib.Core.List.{List, [], ◌∷◌}
use native.Mathlib.Omega.{arith}
use lib.Dec.{T}
use lib.ListN.{length, take, drop, length-take, length-drop}
use Rattle.laws.proofs.Choice.{both_left, both_right}
use Rattle.layout.specs.Value.{Block, Macroblock, Group}
use Rattle.layout.specs.Flat.{byte_vector, macroblock_in, macroblocks_in, groups_in}
use Rattle.layout.specs.Numbers.{all}
use Rattle.layout.specs.Valid.{every_macroblock, every_group}
use Rattle.layout.specs.Proper.{Each, Numbered, Storable, RisingTo, GoodGroup, StorableGroup}
use Rattle.layout.proofs.Levels.{gathers-take}

-- ---- what each has, whatever its number
pub numbered_length : {A : Type 0} (P : ℕ → A → Type 0) (numbers : List ℕ) (xs : List A) → Numbered P numbers xs → length xs ≡ length numbers
numbered_length P [] [] h = refl
numbered_length P [] (x ∷ xs) h = absurd h
numbered_length P (number ∷ numbers) [] h = absurd h
numbered_length P (number ∷ numbers) (x ∷ xs) h = ap suc (numbered_length P numbers xs h.1)

pub numbered_each : {A : Type 0} (P : ℕ → A → Type 0) (Q : A → Type 0) → ((number : ℕ) (x : A) → P number x → Q x) → (numbers : List ℕ) (xs : List A) → Numbered P numbers xs → Each Q xs
numbered_each P Q law [] [] h = tt
numbered_each P Q law [] (x ∷ xs) h = absurd h
numbered_each P Q law (number ∷ numbers) [] h = absurd h
numbered_each P Q law (number ∷ numbers) (x ∷ xs) h = (law number x h.0, numbered_each P Q law numbers xs h.1)

pub numbered_map : {A : Type 0} (P Q : ℕ → A → Type 0) → ((number : ℕ) (x : A) → P number x → Q number x) → (numbers : List ℕ) (xs : List A) → Numbered P numbers xs → Numbered Q numbers xs
numbered_map P Q law [] [] h = tt
numbered_map P Q law [] (x ∷ xs) h = absurd h
numbered_map P Q law (number ∷ numbers) [] h = absurd h
numbered_map P Q law (number ∷ numbers) (x ∷ xs) h = (law number x h.0, numbered_map P Q law numbers xs h.1)

pub numbered_all : (good : ℕ → Bool) (numbers qs : List ℕ) → length qs ≡ length numbers → T (all good qs) → Numbered (λ number q. T (good q)) numbers qs
numbered_all good [] [] e t = tt
numbered_all good [] (q ∷ qs) e t = absurd (omega arith)
numbered_all good (number ∷ numbers) [] e t = absurd (omega arith)
numbered_all good (number ∷ numbers) (q ∷ qs) e t = (both_left (good q) (all good qs) t, numbered_all good numbers qs (omega arith) (both_right (good q) (all good qs) t))

pub numbered_any : {A : Type 0} (numbers : List ℕ) (xs : List A) → length xs ≡ length numbers → Numbered (λ number x. Unit {0}) numbers xs
numbered_any [] [] e = tt
numbered_any [] (x ∷ xs) e = absurd (omega arith)
numbered_any (number ∷ numbers) [] e = absurd (omega arith)
numbered_any (number ∷ numbers) (x ∷ xs) e = (tt, numbered_any numbers xs (omega arith))

pub rising_all : (each : ℕ) (Good Better : Macroblock → Type 0) → ((m : Macroblock) → Good m → Better m) → (last : ℕ) (ms : List Macroblock) → RisingTo Good each last ms → RisingTo Better each last ms
rising_all each Good Better law last [] h = tt
rising_all each Good Better law last (m ∷ ms) h = (h.0, h.1, law m h.2, rising_all each Good Better law m.address ms h.3)

-- groups of macroblocks that can be laid out can be laid out
pub groups_storable : (each : ℕ) (Quant : ℕ → ℕ → Type 0) (Good : ℕ → Macroblock → Type 0) → ((number : ℕ) (m : Macroblock) → Good number m → Storable m)
    → (numbers : List ℕ) (xs : List Group) → Numbered (GoodGroup each Quant Good) numbers xs → Each (StorableGroup each) xs
groups_storable each Quant Good law =
    numbered_each (GoodGroup each Quant Good) (StorableGroup each) (λ number x h. rising_all each (Good number) Storable (law number) 0 x.macroblocks h.1)

-- ---- the macroblocks of a group
module _ (each : ℕ) (good : ℕ → List ℕ → List ℕ → Bool) (Good : Macroblock → Type 0)
    (law : (address t b c d : ℕ) (ls : List ℕ) → length ls ≤ 384 → T (good address (suc t ∷ b ∷ c ∷ d ∷ []) ls) → Good (macroblock_in address (suc t ∷ b ∷ c ∷ d ∷ []) ls)) where
  pub macroblocks_rising : (k last address : ℕ) (fields levels : List ℕ) → last < address → address + k ≤ suc each → k * 4 ≤ length fields
      → T (every_macroblock good k address fields levels) → RisingTo Good each last (macroblocks_in k address fields levels)
  unfolding macroblocks_in every_macroblock
  macroblocks_rising zero last address fields levels l h n t = tt
  macroblocks_rising (suc k) last address [] levels l h n t = absurd (omega arith)
  macroblocks_rising (suc k) last address (a ∷ []) levels l h n t = absurd (omega arith)
  macroblocks_rising (suc k) last address (a ∷ b ∷ []) levels l h n t = absurd (omega arith)
  macroblocks_rising (suc k) last address (a ∷ b ∷ c ∷ []) levels l h n t = absurd (omega arith)
  macroblocks_rising (suc k) last address (zero ∷ b ∷ c ∷ d ∷ fields) levels l h n t =
      let later = both_right (good address (0 ∷ b ∷ c ∷ d ∷ []) (take 384 levels)) (every_macroblock good k (address + 1) fields (drop 384 levels)) t in
      macroblocks_rising k last (address + 1) fields (drop 384 levels) (omega arith) (omega arith) (omega arith) later
  macroblocks_rising (suc k) last address (suc a ∷ b ∷ c ∷ d ∷ fields) levels l h n t =
      let this = good address (suc a ∷ b ∷ c ∷ d ∷ []) (take 384 levels) in
      let rest = every_macroblock good k (address + 1) fields (drop 384 levels) in
      let m = law address a b c d (take 384 levels) (omega (arith, length-take 384 levels)) (both_left this rest t) in (
        l,
        omega arith,
        subst (λ (blocks : List Block). Good (record { address = address; type = suc a; quant = b; vector = byte_vector c d; blocks = blocks })) (gathers-take 6 levels) m,
        macroblocks_rising k address (address + 1) fields (drop 384 levels) (omega arith) (omega arith) (omega arith) (both_right this rest t),
      )

-- ---- the groups
module _ (each : ℕ) (good : ℕ → ℕ → List ℕ → List ℕ → Bool) (Quant : ℕ → ℕ → Type 0) (Good : ℕ → Macroblock → Type 0)
    (law : (number address t b c d : ℕ) (ls : List ℕ) → length ls ≤ 384 → T (good number address (suc t ∷ b ∷ c ∷ d ∷ []) ls) → Good number (macroblock_in address (suc t ∷ b ∷ c ∷ d ∷ []) ls)) where
  pub groups_good : (numbers qs fields levels : List ℕ) → length numbers * (each * 4) ≤ length fields → Numbered Quant numbers qs
      → T (every_group each good numbers fields levels) → Numbered (GoodGroup each Quant Good) numbers (groups_in each qs fields levels)
  unfolding groups_in every_group
  groups_good [] [] fields levels l q t = tt
  groups_good [] (x ∷ qs) fields levels l q t = absurd q
  groups_good (number ∷ numbers) [] fields levels l q t = absurd q
  groups_good (number ∷ numbers) (x ∷ qs) fields levels l q t =
      let this = every_macroblock (good number) each 1 fields levels in
      let rest = every_group each good numbers (drop (each * 4) fields) (drop (each * 384) levels) in
      let size : ℕ = each * 4 in
      let more : size + length numbers * size ≤ length fields = first (length numbers) size l in (
        (q.0, macroblocks_rising each (good number) (Good number) (law number) each 0 1 fields levels (omega arith) (omega arith) (omega arith) (both_left this rest t)),
        groups_good numbers qs (drop size fields) (drop (each * 384) levels) (omega (arith, length-drop size fields)) q.1 (both_right this rest t),
      )
    where
      first : (n size : ℕ) {k : ℕ} → suc n * size ≤ k → size + n * size ≤ k
      first n size h = omega arith
