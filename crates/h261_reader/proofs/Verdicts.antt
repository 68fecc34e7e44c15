-- Reading always ends, by a refusal of the table or with all bits taken, and what is accepted is valid. Assumes nothing.
use Prim.Native.Nat.{ℕ, suc, ◌+◌, ◌*◌, ◌≤◌}
use mathlib.Core.Path.{◌≡◌, refl, ap, subst}
use mathlib.Core.Bool.{Bool, true, false}
use mathlib.Core.List.{List, []}
use native.Mathlib.Omega.{arith}
use native.Mathlib.Nat.{le_refl}
use lib.Dec.{leb, ltb, leb→le, le→leb}
use lib.ListN.{length}
use borrow.Author.Tests.{le-ltb, ltb-false}
use Rattle.laws.specs.Choice.{pick, either}
use Rattle.laws.proofs.Choice.{both_left, both_right, both_make}
use Rattle.refusals.specs.declared.Reason.TheVariants.{Count}
use Rattle.refusals.specs.declared.Refusal.{Refusal}
use Rattle.refusals.specs.Number.{number}
use Rattle.bits.specs.Bits.{Bit, source}
use Rattle.bits.specs.Read.{Read, got, refused, endless, bad}
use Rattle.bits.proofs.Source.{length-source}
use Rattle.bits.proofs.Logic.{Holds, holds_weaker, Fair, Took, gives}
use Rattle.bits.proofs.ListOfReads.{read_reason}
use Rattle.h261_groups.specs.Format.{size_of}
use Rattle.size.specs.Size.{limit}
use Rattle.h261_groups.specs.declared.Format.{Format}
use Rattle.h261_description.specs.Value.{Picture}
use Rattle.h261_description.specs.Proper.{Proper}
use Rattle.h261_description.proofs.Described.{proper_described}
use Rattle.h261_description.proofs.LaidOut.{proper_valid}
use Rattle.h261_layers.specs.Grammar.{picture, reading}
use Rattle.h261_layers.proofs.Layers.{picture_reads}
use Rattle.h261_reader.specs.Verdict.{Refuses, NeverEndless, RefusedByTable, AllRead, OnlyBits, AcceptedValid, AcceptedDescribed}

-- an accepted picture of N bits
pub record Accepts (f : Format) (n : ℕ) (p : Picture) (left : List Bit) (at : ℕ) : Type 0 where
  pub proper : Proper f p
  pub all_read : left ≡ []
  pub exactly : at ≡ n

fair_refuses : (n end : ℕ) (r : Refusal) → end ≡ n → Fair end r → Refuses n r
fair_refuses n end r e h =
    let low : 3 ≤ number r.reason = leb→le 3 (number r.reason) (both_left (leb 3 (number r.reason)) (leb (number r.reason) 13) h.listed) in
    record {
      listed = both_make (leb 2 (number r.reason)) (leb (number r.reason) 13) (le→leb 2 (number r.reason) (omega arith))
          (both_right (leb 3 (number r.reason)) (leb (number r.reason) 13) h.listed);
      within = omega arith;
      counted = λ c. absurd (read_reason r.reason c low);
    }

picture-gives : (f : Format) (s : List ℕ) (n : ℕ) → n ≤ 8 * length s → Holds (Accepts f n) (Refuses n) (picture f (source s n) 0)
picture-gives f s n h =
    let all : length (source s n) ≡ n = length-source s n h in
    holds_weaker (picture f (source s n) 0) (λ p left at g. accepts p left at g all) (λ r q. fair_refuses n (0 + length (source s n)) r (omega arith) q)
    (gives (picture_reads f) (source s n) 0 (le_refl (suc (length (source s n)))))
  where
    accepts : (p : Picture) (left : List Bit) (at : ℕ) → Took 20 (source s n) 0 left at × (Proper f p × (left ≡ [])) → length (source s n) ≡ n → Accepts f n p left at
    accepts p left at g all =
        let none : length left ≡ 0 = ap length g.1.1 in
        record { proper = g.1.0; all_read = g.1.1; exactly = omega (arith, g.0) }

pub reading-gives : (f : Format) (s : List ℕ) (n : ℕ) → Holds (Accepts f n) (Refuses n) (reading f s n)
unfolding reading number
reading-gives f s n = from (ltb (8 * length s) n) (ltb (limit (size_of f)) n) (ltb-false (8 * length s) n)
  where
    from : (above over : Bool) → (above ≡ false → n ≤ 8 * length s) → Holds (Accepts f n) (Refuses n) (pick (either above over) (bad Count 0) (picture f (source s n) 0))
    from true over h = record { listed = tt; within = omega arith; counted = λ c. refl }
    from false true h = record { listed = tt; within = omega arith; counted = λ c. refl }
    from false false h = picture-gives f s n (h refl)

-- the same of what a reading is known to be
known : (f : Format) (s : List ℕ) (n : ℕ) (x : Read Picture) → reading f s n ≡ x → Holds (Accepts f n) (Refuses n) x
known f s n x e = subst (λ (y : Read Picture). Holds (Accepts f n) (Refuses n) y) e (reading-gives f s n)

pub never_endless : NeverEndless
never_endless f s n e = known f s n endless e

pub refused_by_table : RefusedByTable
refused_by_table f s n r e = known f s n (refused r) e

-- What is accepted is proper, and took all N bits
pub accepted : (f : Format) (s : List ℕ) (n : ℕ) (p : Picture) (left : List Bit) (at : ℕ) → reading f s n ≡ got p left at → Accepts f n p left at
accepted f s n p left at e = known f s n (got p left at) e

pub all_read : AllRead
all_read f s n p left at e = ((accepted f s n p left at e).all_read, (accepted f s n p left at e).exactly)

pub accepted_valid : AcceptedValid
accepted_valid f s n p left at e = proper_valid f p (accepted f s n p left at e).proper

pub accepted_described : AcceptedDescribed
accepted_described f s n p left at e = proper_described f p (accepted f s n p left at e).proper

pub only_bits : OnlyBits
unfolding reading
only_bits f s t n hs ht h = rw (le-ltb (8 * length s) n hs, le-ltb (8 * length t) n ht, h)
