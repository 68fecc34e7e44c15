-- Reading always ends, by a refusal of the table or with all bits taken, and what is accepted is proper. Assumes nothing.
use Prim.Native.Nat.{ℕ, ◌*◌, ◌≤◌, ◌<◌}
use mathlib.Core.Path.{◌≡◌, refl, sym, ap, subst, ◌∙◌}
use mathlib.Core.Bool.{Bool, true, false}
use mathlib.Core.List.{List, [], ◌∷◌, ◌++◌}
use native.Mathlib.Omega.{arith}
use borrow.Author.Tests.{le-ltb, ltb-false, eqb-true}
use lib.Dec.{T, leb, ltb, eqb, leb→le, le→leb}
use lib.ListN.{length, drop, length-append, length-drop, take-append-drop}
use lib.Seq.{take-take}
use Rattle.laws.specs.Choice.{pick, either, opposite}
use Rattle.laws.proofs.Choice.{both_left, both_right, both_make, true-false}
use Rattle.refusals.specs.declared.Reason.{Reason}
use Rattle.refusals.specs.declared.Reason.TheVariants.{Count, AfterLast}
use Rattle.refusals.specs.declared.Refusal.{Refusal}
use Rattle.refusals.specs.Number.{number}
use Rattle.bits.specs.Bits.{Bit, bits_in, source}
use Rattle.bits.specs.Places.{plain}
use Rattle.bits.specs.Read.{Read, got, refused, endless, bad, next}
use Rattle.bits.proofs.Source.{length-source}
use Rattle.bits.proofs.ListOfReads.{read_reason}
use Rattle.bits.proofs.Logic.{Holds, Took}
use Rattle.size.specs.declared.Size.{Size}
use Rattle.size.specs.Size.{limit}
use Rattle.layout.specs.Numbers.{within}
use Rattle.layout.specs.Proper.{If}
use Rattle.h263_description.specs.Value.{Picture}
use Rattle.h263_description.specs.Proper.{Proper}
use Rattle.h263_description.proofs.Described.{proper_described}
use Rattle.h263_description.proofs.LaidOut.{proper_valid}
use Rattle.h263_layers.specs.Grammar.{ended, picture, reading}
use Rattle.h263_layers.proofs.PictureReads.{before_end, before_end_lem, before_end_gives}
use Rattle.h263_readback.specs.Verdict.{from_to, bits_end, Refuses, NeverEndless, RefusedByTable, AllRead, AcceptedProper, AcceptedValid, AcceptedDescribed, OnlyBits, EveryBeginning, EveryLonger, RefusalStays}
use Rattle.h263_readback.proofs.Logic.{of_bits, Refusing, Grown}
use Rattle.h263_readback.proofs.Layers.{before_end_stays}

-- an accepted picture of N bits
pub record Accepts (size : Size) (n : ℕ) (p : Picture) (left : List Bit) (at : ℕ) : Type 0 where
  pub proper : Proper size p
  pub all_read : left ≡ []
  pub exactly : at ≡ n

-- ---- one more reason
listed_more : (reason : Reason) → T (of_bits reason) → T (from_to 2 14 reason) × (3 ≤ number reason)
listed_more reason t =
    let k = number reason in
    let table = both_left (from_to 3 14 reason) (opposite (eqb k 13)) t in
    let range = both_left (within 3 14 k) (opposite (eqb k 9)) table in
    let low : 3 ≤ k = leb→le 3 k (both_left (leb 3 k) (leb k 14) range) in
    (both_make (within 2 14 k) (opposite (eqb k 9)) (both_make (leb 2 k) (leb k 14) (le→leb 2 k (omega arith)) (both_right (leb 3 k) (leb k 14) range)) (both_right (within 3 14 k) (opposite (eqb k 9)) table), low)

-- ---- what reading gives
module _ (size : Size) (n : ℕ) where
  -- the bits end, or are too many: 13
  after_end : (bs : List Bit) → length bs ≡ n → (x : Read Picture) → Holds (λ p left at. Proper size p × Took 22 bs 0 left at) (λ r. r.place ≤ length bs) x → Refusing x
      → Holds (Accepts size n) (Refuses n) (next x ended)
  unfolding number
  after_end bs all (got p [] at) g t = record { proper = g.0; all_read = refl; exactly = omega (arith, g.1.end) }
  after_end bs all (got p (b ∷ left) at) g t = record { listed = tt; within = omega (arith, g.1.end); counted = λ c. absurd (let z : ◌≡◌ {A = ℕ} 0 1 = cc in omega arith) }
  after_end bs all (refused r) g t =
      let more = listed_more r.reason t in
      record { listed = more.0; within = omega (arith, g); counted = λ c. absurd (read_reason r.reason c more.1) }
  after_end bs all endless g t = g

  picture-gives : (bs : List Bit) → length bs ≡ n → Holds (Accepts size n) (Refuses n) (picture {P = plain} size bs 0)
  picture-gives bs all =
      subst (λ (x : Read Picture). Holds (Accepts size n) (Refuses n) x) (sym (before_end_lem {P = plain} size bs 0))
      (after_end bs all (before_end {P = plain} size bs 0) (before_end_gives size bs) ((before_end_stays size).refuses bs 0))

pub reading-gives : (size : Size) (s : List ℕ) (n : ℕ) → Holds (Accepts size n) (Refuses n) (reading size s n)
unfolding reading number
reading-gives size s n = from (ltb (8 * length s) n) (ltb (limit size) n) (ltb-false (8 * length s) n)
  where
    from : (above over : Bool) → (above ≡ false → n ≤ 8 * length s) → Holds (Accepts size n) (Refuses n) (pick (either above over) (bad Count 0) (picture {P = plain} size (source s n) 0))
    from true over h = record { listed = tt; within = omega arith; counted = λ c. refl }
    from false true h = record { listed = tt; within = omega arith; counted = λ c. refl }
    from false false h = picture-gives size n (source s n) (length-source s n (h refl))

-- the same of what a reading is known to be
known : (size : Size) (s : List ℕ) (n : ℕ) (x : Read Picture) → reading size s n ≡ x → Holds (Accepts size n) (Refuses n) x
known size s n x e = subst (λ (y : Read Picture). Holds (Accepts size n) (Refuses n) y) e (reading-gives size s n)

pub never_endless : NeverEndless
never_endless size s n e = known size s n endless e

pub refused_by_table : RefusedByTable
refused_by_table size s n r e = known size s n (refused r) e

-- What is accepted is proper, and took all N bits
pub accepted : (size : Size) (s : List ℕ) (n : ℕ) (p : Picture) (left : List Bit) (at : ℕ) → reading size s n ≡ got p left at → Accepts size n p left at
accepted size s n p left at e = known size s n (got p left at) e

pub all_read : AllRead
all_read size s n p left at e = let a = accepted size s n p left at e in (a.all_read, a.exactly)

pub accepted_proper : AcceptedProper
accepted_proper size s n p left at e = (accepted size s n p left at e).proper

pub accepted_valid : AcceptedValid
accepted_valid size s n p left at e = proper_valid size p (accepted_proper size s n p left at e)

pub accepted_described : AcceptedDescribed
accepted_described size s n p left at e = proper_described size p (accepted_proper size s n p left at e)

pub only_bits : OnlyBits
unfolding reading
only_bits size s t n hs ht h = rw (le-ltb (8 * length s) n hs, le-ltb (8 * length t) n ht, h)

-- ---- a picture's bits say where it ends
-- what was accepted was read up to there, and no bit was left
was_read : (x : Read Picture) (p : Picture) (end : ℕ) → next x ended ≡ got p [] end → x ≡ got p [] end
was_read (got o [] q) p end e = e
was_read (got o (b ∷ left) q) p end e = let z : ◌≡◌ {A = ℕ} 0 1 = cc in absurd (omega arith)
was_read (refused why) p end e = let z : ◌≡◌ {A = ℕ} 0 1 = cc in absurd (omega arith)
was_read endless p end e = let z : ◌≡◌ {A = ℕ} 0 1 = cc in absurd (omega arith)

-- beside the same bits with more after them
beside : (size : Size) (bs more : List Bit) (at : ℕ) → Grown more (before_end {P = plain} size bs at) (before_end {P = plain} size (bs ++ more) at)
beside size bs more at = (before_end_stays size).grows bs more at

module _ (size : Size) (bs more : List Bit) where
  longer : (p : Picture) (end : ℕ) → 1 ≤ length more → picture {P = plain} size bs 0 ≡ got p [] end → picture {P = plain} size (bs ++ more) 0 ≡ bad AfterLast end
  longer p end some e =
      let r : before_end {P = plain} size bs 0 ≡ got p [] end = was_read (before_end {P = plain} size bs 0) p end (sym (before_end_lem {P = plain} size bs 0) ∙ e) in
      let on : before_end {P = plain} size (bs ++ more) 0 ≡ got p more end = subst (λ (x : Read Picture). Grown more x (before_end {P = plain} size (bs ++ more) 0)) r (beside size bs more 0) in
      before_end_lem {P = plain} size (bs ++ more) 0 ∙ ap (λ (x : Read Picture). next x ended) on ∙ past more some
    where
      past : (more : List Bit) → 1 ≤ length more → ended p more end ≡ bad AfterLast end
      past [] l = absurd (omega arith)
      past (b ∷ more) l = refl

  beginning : (p : Picture) (end : ℕ) → 1 ≤ length more → picture {P = plain} size (bs ++ more) 0 ≡ got p [] end → (why : Refusal) × (picture {P = plain} size bs 0 ≡ refused why) × (number why.reason ≡ 3)
  beginning p end some e =
      let all : before_end {P = plain} size (bs ++ more) 0 ≡ got p [] end = was_read (before_end {P = plain} size (bs ++ more) 0) p end (sym (before_end_lem {P = plain} size (bs ++ more) 0) ∙ e) in
      let cut = go (before_end {P = plain} size bs 0) (beside size bs more 0) (before_end_gives size bs) all in
      (cut.0, before_end_lem {P = plain} size bs 0 ∙ ap (λ (x : Read Picture). next x ended) cut.1, cut.2)
    where
      other : (why : Refusal) (b : Bool) → bits_end why.reason ≡ b → If b (Unit {0}) (before_end {P = plain} size (bs ++ more) 0 ≡ refused why) → before_end {P = plain} size (bs ++ more) 0 ≡ got p [] end
          → (r : Refusal) × ◌≡◌ {A = Read Picture} (refused why) (refused r) × (number r.reason ≡ 3)
      other why true t h all = (why, refl, eqb-true (number why.reason) 3 t)
      other why false t h all = let z : ◌≡◌ {A = ℕ} 0 1 = cc in absurd (omega arith)

      go : (x : Read Picture) → Grown more x (before_end {P = plain} size (bs ++ more) 0) → Holds (λ p left at. Proper size p × Took 22 bs 0 left at) (λ r. r.place ≤ length bs) x → before_end {P = plain} size (bs ++ more) 0 ≡ got p [] end
          → (why : Refusal) × (x ≡ refused why) × (number why.reason ≡ 3)
      go (got o left q) h g all =
          let none : left ++ more ≡ [] = cc in
          absurd (omega (arith, some, length-append left more, ap length none))
      go (refused why) h g all = other why (bits_end why.reason) refl h all
      go endless h g all = absurd g

pub refusal_stays : RefusalStays
refusal_stays size bs more at why n e =
    before_end_lem {P = plain} size (bs ++ more) at ∙ go (before_end {P = plain} size bs at) (beside size bs more at) (sym (before_end_lem {P = plain} size bs at) ∙ e)
  where
    same : (b : Bool) → b ≡ false → If b (Unit {0}) (before_end {P = plain} size (bs ++ more) at ≡ refused why) → before_end {P = plain} size (bs ++ more) at ≡ refused why
    same true z h = absurd (true-false z)
    same false z h = h

    go : (x : Read Picture) → Grown more x (before_end {P = plain} size (bs ++ more) at) → next x ended ≡ refused why → next (before_end {P = plain} size (bs ++ more) at) ended ≡ refused why
    go (got o [] q) h e = let z : ◌≡◌ {A = ℕ} 0 1 = cc in absurd (omega arith)
    go (got o (b ∷ left) q) h e = ap (λ (x : Read Picture). next x ended) h ∙ e
    go (refused r) h e =
        let is : r ≡ why = cc in
        ap (λ (x : Read Picture). next x ended) (same (bits_end why.reason) n (subst (λ (r : Refusal). If (bits_end r.reason) (Unit {0}) (before_end {P = plain} size (bs ++ more) at ≡ refused r)) is h))
    go endless h e = let z : ◌≡◌ {A = ℕ} 0 1 = cc in absurd (omega arith)

-- ---- the same of bytes
-- what was accepted was in bounds
record InBounds (size : Size) (s : List ℕ) (n : ℕ) (p : Picture) : Type 0 where
  lent : n ≤ 8 * length s
  low : n ≤ limit size
  read : picture {P = plain} size (source s n) 0 ≡ got p [] n

in_bounds : (size : Size) (s : List ℕ) (n : ℕ) (p : Picture) → reading size s n ≡ got p [] n → InBounds size s n p
unfolding reading
in_bounds size s n p e = go (ltb (8 * length s) n) (ltb (limit size) n) (ltb-false (8 * length s) n) (ltb-false (limit size) n) e
  where
    go : (above over : Bool) → (above ≡ false → n ≤ 8 * length s) → (over ≡ false → n ≤ limit size) → pick (either above over) (bad Count 0) (picture {P = plain} size (source s n) 0) ≡ got p [] n → InBounds size s n p
    go true over h k e = let z : ◌≡◌ {A = ℕ} 0 1 = cc in absurd (omega arith)
    go false true h k e = let z : ◌≡◌ {A = ℕ} 0 1 = cc in absurd (omega arith)
    go false false h k e = record { lent = h refl; low = k refl; read = e }

reading_in : (size : Size) (s : List ℕ) (n : ℕ) → n ≤ 8 * length s → n ≤ limit size → reading size s n ≡ picture {P = plain} size (source s n) 0
unfolding reading
reading_in size s n l h = rw (le-ltb (8 * length s) n l, le-ltb (limit size) n h)

-- the first k of n bits, and the others
split_source : (s : List ℕ) (k n : ℕ) → k ≤ n → source s k ++ drop k (source s n) ≡ source s n
split_source s k n l = ap (λ (bs : List Bit). bs ++ drop k (source s n)) (sym (take-take k n (bits_in s) l)) ∙ take-append-drop k (source s n)

others_some : (s : List ℕ) (k n : ℕ) → k < n → n ≤ 8 * length s → 1 ≤ length (drop k (source s n))
others_some s k n l h = omega (arith, length-drop k (source s n), length-source s n h)

pub every_beginning : EveryBeginning
every_beginning size s n p e k l =
    let b = in_bounds size s n p e in
    let whole : picture {P = plain} size (source s k ++ drop k (source s n)) 0 ≡ got p [] n = ap (λ (bs : List Bit). picture {P = plain} size bs 0) (split_source s k n (omega arith)) ∙ b.read in
    let cut = beginning size (source s k) (drop k (source s n)) p n (others_some s k n l b.lent) whole in
    (cut.0, reading_in size s k (omega (arith, b.lent)) (omega (arith, b.low)) ∙ cut.1, cut.2)

pub every_longer : EveryLonger
every_longer size s n p e t m l lent low same =
    let b = in_bounds size s n p e in
    let first : picture {P = plain} size (source t n) 0 ≡ got p [] n = ap (λ (bs : List Bit). picture {P = plain} size bs 0) same ∙ b.read in
    reading_in size t m lent low ∙ ap (λ (bs : List Bit). picture {P = plain} size bs 0) (sym (split_source t n m (omega arith)))
    ∙ longer size (source t n) (drop n (source t m)) p n (others_some t n m l lent) first
