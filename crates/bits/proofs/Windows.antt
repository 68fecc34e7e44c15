-- What the next bits of a window are, and how a window is taken apart. Assumes nothing.
use mathlib.Core.Path.{◌≡◌, refl, sym, ap, ◌∙◌}
use mathlib.Core.List.{List, [], ◌∷◌}
use mathlib.Core.Bool.{Bool, true, false}
use Prim.Native.Nat.{ℕ, zero, suc, ◌+◌, ◌≤◌}
use native.Mathlib.Omega.{arith}
use borrow.Author.Tests.{eq-eqb, le-leb, lt-leb, leb-true, leb-false}
use lib.Dec.{T, leb, eqb}
use Rattle.laws.specs.Choice.{pick}
use Rattle.laws.proofs.Choice.{true-T}
use Rattle.refusals.specs.declared.Reason.TheVariants.{BitsEnd, NoCodeword}
use Rattle.refusals.specs.declared.Table.{Table}
use Rattle.bits.specs.Bits.{Bit, bit_at, bits_from, bits_left}
use Rattle.bits.specs.Read.{Read, got, bad, endless}
use Rattle.bits.specs.Code.{Entry, entry, CodeTable, word}
use Rattle.bits.proofs.Value.{left_none, left_more}
use Rattle.bits.specs.Tree.{step, no_empty, some}
use Rattle.bits.proofs.Tree.{coded, coded-step, coded_end, coded_none, coded_leaf}
use Rattle.bits.specs.Windows.{ended, decide, undecided, dead, judge, settled, Decided}

-- what is read of a table of this name where n bits are the picture's
abbrev pub said : Table → List ℕ → ℕ → ℕ → Decided → Read ℕ
said name s n at undecided = endless
said name s n at (dead k) = pick (leb (at + k) n) (bad (NoCodeword name) at) (bad BitsEnd at)
said name s n at (ended k m) = pick (leb (at + k) n) (got m (bits_left s n (at + k)) (at + k)) (bad BitsEnd at)

eq_self : (m : ℕ) → T (eqb m m)
eq_self m = true-T (eqb m m) (eq-eqb m m refl)

module _ (name : Table) where
  -- nothing is decided before a bit more
  late : (tab : List Entry) (bs : List Bit) (s : List ℕ) (n at c : ℕ) → n ≤ at + c → T (settled (decide tab bs c)) → said name s n at (decide tab bs c) ≡ bad BitsEnd at
  late tab [] s n at c h t = absurd t
  late tab (b ∷ bs) s n at c h t = go (step b tab) (decide (step b tab) bs (suc c)) (λ u. late (step b tab) bs s n at (suc c) (omega arith) u) t
    where
      none_yet : leb (at + suc c) n ≡ false
      none_yet = lt-leb (at + suc c) n (omega arith)

      go : (d : List Entry) (next : Decided) → (T (settled next) → said name s n at next ≡ bad BitsEnd at) → T (settled (judge d (suc c) next)) → said name s n at (judge d (suc c) next) ≡ bad BitsEnd at
      go [] next k t = rw none_yet
      go (entry [] m ∷ []) next k t = rw none_yet
      go (entry [] m ∷ e ∷ tab) next k t = absurd t
      go (entry (x ∷ w) m ∷ tab) next k t = pass (no_empty tab) t
        where
          pass : (y : Bool) → T (settled (pick y next undecided)) → said name s n at (pick y next undecided) ≡ bad BitsEnd at
          pass true u = k u
          pass false u = absurd u

  -- after one bit more, at place p, of what the table d leaves
  judge-coded : (d : List Entry) (next : Decided) (s : List ℕ) (n at c : ℕ) → at + c ≤ n
      → (T (no_empty d) → T (some d) → T (settled next) → coded name d (bits_left s n (at + c)) at (at + c) ≡ said name s n at next)
      → T (settled (judge d c next)) → coded name d (bits_left s n (at + c)) at (at + c) ≡ said name s n at (judge d c next)
  judge-coded [] next s n at c l k t = sym (coded_none name [] (bits_left s n (at + c)) at (at + c) tt) ∙ rw (le-leb (at + c) n l)
  judge-coded (entry [] m ∷ []) next s n at c l k t =
      sym (coded_leaf name (entry [] m ∷ []) m (bits_left s n (at + c)) at (at + c) (eq_self m)) ∙ rw (le-leb (at + c) n l)
  judge-coded (entry [] m ∷ e ∷ tab) next s n at c l k t = absurd t
  judge-coded (entry (x ∷ w) m ∷ tab) next s n at c l k t = go (no_empty tab) (λ u v. k u tt v) t
    where
      go : (y : Bool) → (T y → T (settled next) → coded name (entry (x ∷ w) m ∷ tab) (bits_left s n (at + c)) at (at + c) ≡ said name s n at next)
          → T (settled (pick y next undecided)) → coded name (entry (x ∷ w) m ∷ tab) (bits_left s n (at + c)) at (at + c) ≡ said name s n at (pick y next undecided)
      go true f u = f tt u
      go false f u = absurd u

  decided_coded : (tab : List Entry) (j : ℕ) (s : List ℕ) (n at c : ℕ) → T (no_empty tab) → T (some tab) → T (settled (decide tab (bits_from s (at + c) j) c))
      → coded name tab (bits_left s n (at + c)) at (at + c) ≡ said name s n at (decide tab (bits_from s (at + c) j) c)
  unfolding bits_from
  decided_coded tab zero s n at c h k t = absurd t
  decided_coded tab (suc j) s n at c h k t =
      split (leb n (at + c)) refl (λ h' k' t'. decided_coded (step b tab) j s n at (suc c) h' k' t')
    where
      b : Bit
      b = bit_at s (at + c)

      on : at + c + 1 ≡ at + suc c
      on = omega arith

      d : Decided
      d = decide (step b tab) (bits_from s (at + suc c) j) (suc c)

      split : (x : Bool) → leb n (at + c) ≡ x
          → (T (no_empty (step b tab)) → T (some (step b tab)) → T (settled d) → coded name (step b tab) (bits_left s n (at + suc c)) at (at + suc c) ≡ said name s n at d)
          → coded name tab (bits_left s n (at + c)) at (at + c) ≡ said name s n at (decide tab (b ∷ bits_from s (at + c + 1) j) c)
      split true e f =
          let l = leb-true n (at + c) e in
          rw (left_none s n (at + c) l) (sym (coded_end name tab at (at + c) h k)) ∙ sym (late tab (b ∷ bits_from s (at + c + 1) j) s n at c l t)
      split false e f =
          let l = leb-false n (at + c) e in
          let r : coded name (step b tab) (bits_left s n (at + c + 1)) at (at + c + 1) ≡ said name s n at (decide tab (b ∷ bits_from s (at + c + 1) j) c) =
          rw on (judge-coded (step b tab) d s n at (suc c) (omega arith) f (rw on at t)) in
          ap (λ (bs : List Bit). coded name tab bs at (at + c)) (left_more s n (at + c) l) ∙ coded-step name b tab (bits_left s n (at + c + 1)) at (at + c) h ∙ r

-- the j bits from `at`, the picture's or not, decide what the codeword there is
pub decided_word : (table : CodeTable) (j : ℕ) (s : List ℕ) (n at : ℕ) → T (no_empty table.entries) → T (some table.entries) → T (settled (decide table.entries (bits_from s at j) 0))
    → word table (bits_left s n at) at ≡ said table.name s n at (decide table.entries (bits_from s at j) 0)
unfolding word
decided_word table j s n at h k t =
    let z : at + 0 ≡ at = omega arith in
    rw z at (decided_coded table.name table.entries j s n at 0 h k (rw z t))
