-- The list of reads from where nothing has been read: how many they are, what they add up to, and where a refusal stands among them. Over any reading. Assumes nothing.
use Prim.Native.Nat.{ℕ, ◌+◌, ◌≤◌}
use mathlib.Core.Path.{◌≡◌, refl, sym, ap, subst, ◌∙◌}
use mathlib.Core.Logic.{◌⊎◌, inl, inr}
use mathlib.Core.List.{List, [], ◌++◌, append_assoc}
use native.Mathlib.Omega.{arith}
use lib.Dec.{leb, leb→le, lit≤}
use lib.ListN.{length, length-append}
use Rattle.laws.proofs.Choice.{both_left}
use Rattle.refusals.specs.declared.Reason.{Reason}
use Rattle.refusals.specs.declared.Reason.TheVariants.{Count}
use Rattle.refusals.specs.declared.Refusal.{Refusal}
use Rattle.refusals.specs.Number.{number}
use Rattle.bits.specs.Bits.{Bit}
use Rattle.bits.specs.Places.{plain, listed, ListedPlace, ListedRefusal, unread_place, total_width}
use Rattle.bits.specs.Read.{ReadIn, got, refused, endless, seen_read, widths_in}
use Rattle.bits.specs.Among.{StandsAmong}
use Rattle.bits.proofs.Seen.{total_append}
use Rattle.bits.proofs.Logic.{Fair, Between, UpTo}

-- ---- places
-- the reads before a place have all its bits, and are no more than bits
pub record Added (at : ListedPlace) : Type 0 where
  pub all : total_width at.widths ≡ at.bit
  pub few : length at.widths ≤ at.bit

pub added_none : Added unread_place
unfolding total_width
added_none = record { all = refl; few = lit≤ tt }

pub added_on : {at place : ListedPlace} → Added at → Between at place → Added place
added_on {at} {place} a w =
    let wide : total_width place.widths ≡ total_width at.widths + total_width w.reads = ap total_width w.widths ∙ total_append at.widths w.reads in
    let long : length place.widths ≡ length at.widths + length w.reads = ap length w.widths ∙ length-append at.widths w.reads in
    record { all = omega (arith, wide, a.all, w.all); few = omega (arith, long, a.few, w.few, w.all) }

-- ---- refusals
-- of bits that end there
pub record Among (end : ℕ) (r : ListedRefusal) : Type 0 where
  pub stands : StandsAmong r.refusal r.widths
  pub few : length r.widths ≤ end + 1
  pub within : r.refusal.place ≤ end
  pub read : 3 ≤ number r.refusal.reason

pub among_on : {at : ListedPlace} {end : ℕ} {r : ListedRefusal} → Added at → Fair end r.refusal → UpTo at end r → Among end r
among_on {at} {end} {r} a fair u =
    let wide : total_width (at.widths ++ u.before) ≡ total_width at.widths + total_width u.before = total_append at.widths u.before in
    let joined : r.widths ≡ (at.widths ++ u.before) ++ u.after = u.widths ∙ sym (append_assoc at.widths u.before u.after) in
    let long : length r.widths ≡ length (at.widths ++ u.before) + length u.after = ap length joined ∙ length-append (at.widths ++ u.before) u.after in
    record {
      stands = record { before = at.widths ++ u.before; after = u.after; all = joined; placed = omega (arith, wide, a.all, u.placed); last = u.last };
      few = omega (arith, long, length-append at.widths u.before, a.few, u.few, u.placed, u.all, u.some);
      within = fair.within;
      read = leb→le 3 (number r.refusal.reason) (both_left (leb 3 (number r.refusal.reason)) (leb (number r.refusal.reason) 13) fair.listed);
    }

-- reading the bits themselves never counts them
pub read_reason : (reason : Reason) → reason ≡ Count → 3 ≤ number reason → ⊥
unfolding number
read_reason reason c l = let e : number reason ≡ 2 = ap number c in omega arith

-- ---- a reading of n bits, where a refusal stands as Where says
-- refused by 2, before any read
pub record Uncounted (r : ListedRefusal) : Type 0 where
  pub reason : r.refusal.reason ≡ Count
  pub none : r.widths ≡ []

-- refused in its bits
pub record RefusedRead (Where : Refusal → List ℕ → Type 0) (n : ℕ) (r : ListedRefusal) : Type 0 where
  pub read : 3 ≤ number r.refusal.reason
  pub stands : Where r.refusal r.widths
  pub few : length r.widths ≤ n + 1

abbrev pub Gave : {A : Type 0} → (Refusal → List ℕ → Type 0) → ℕ → ReadIn listed A → Type 0
Gave Where n (got a left at) = (total_width at.widths ≡ n) × (length at.widths ≤ n)
Gave Where n (refused r) = Uncounted r ⊎ RefusedRead Where n r
Gave Where n endless = ⊥

module _ {A : Type 0} (Where : Refusal → List ℕ → Type 0) (n : ℕ) where
  pub gave_few : (x : ReadIn listed A) → Gave Where n x → length (widths_in x) ≤ n + 1
  gave_few (got a left at) h = omega (arith, h.1)
  gave_few (refused r) (inl h) = omega (arith, ap length h.none)
  gave_few (refused r) (inr h) = h.few
  gave_few endless h = absurd h

  -- what is seen of it was got, or refused
  pub gave_got : (x : ReadIn listed A) (a : A) (left : List Bit) (at : ℕ) → seen_read plain x ≡ got a left at → Gave Where n x → total_width (widths_in x) ≡ n
  gave_got (got b rest place) a left at e h = h.0
  gave_got (refused r) a left at e h = let z : ◌≡◌ {A = ℕ} 0 1 = cc in absurd (omega arith)
  gave_got endless a left at e h = absurd h

  pub gave_refused : (x : ReadIn listed A) (r : Refusal) → seen_read plain x ≡ refused r → (r.reason ≡ Count → ⊥) → Gave Where n x → Where r (widths_in x)
  gave_refused (got b rest place) r e c h = let z : ◌≡◌ {A = ℕ} 0 1 = cc in absurd (omega arith)
  gave_refused (refused x) r e c (inl h) = let is : x.refusal ≡ r = cc in absurd (c (sym (ap (λ (y : Refusal). y.reason) is) ∙ h.reason))
  gave_refused (refused x) r e c (inr h) = let is : x.refusal ≡ r = cc in subst (λ (y : Refusal). Where y x.widths) is h.stands
  gave_refused endless r e c h = absurd h

  pub gave_unread : (x : ReadIn listed A) (r : Refusal) → seen_read plain x ≡ refused r → r.reason ≡ Count → Gave Where n x → widths_in x ≡ []
  gave_unread (got b rest place) r e c h = let z : ◌≡◌ {A = ℕ} 0 1 = cc in absurd (omega arith)
  gave_unread (refused x) r e c (inl h) = h.none
  gave_unread (refused x) r e c (inr h) =
      let is : x.refusal ≡ r = cc in
      absurd (read_reason x.refusal.reason (ap (λ (y : Refusal). y.reason) is ∙ c) h.read)
  gave_unread endless r e c h = absurd h
