-- The list of reads of a picture: at most N + 1, for an accepted picture of N bits in all, and where a refusal stands among them. Assumes nothing.
use Prim.Native.Nat.{ℕ, suc, ◌*◌, ◌≤◌}
use mathlib.Core.Path.{◌≡◌, refl, sym, ap, ◌∙◌}
use mathlib.Core.Logic.{inl, inr}
use mathlib.Core.Bool.{Bool, true, false}
use mathlib.Core.List.{List, []}
use native.Mathlib.Omega.{arith}
use native.Mathlib.Nat.{le_refl}
use lib.Dec.{ltb}
use lib.ListN.{length}
use borrow.Author.Tests.{ltb-false}
use Rattle.laws.specs.Choice.{pick, either}
use Rattle.refusals.specs.declared.Reason.TheVariants.{Count}
use Rattle.refusals.specs.Number.{refusal}
use Rattle.bits.specs.Bits.{source}
use Rattle.bits.specs.Places.{listed, stop_in, unread_place}
use Rattle.bits.specs.Read.{ReadIn, got, refused, endless}
use Rattle.bits.specs.Among.{StandsAmong}
use Rattle.bits.proofs.Source.{length-source}
use Rattle.bits.proofs.Logic.{Lists}
use Rattle.bits.proofs.ListOfReads.{added_none, added_on, among_on, Gave, gave_few, gave_got, gave_refused, gave_unread}
use Rattle.size.specs.Size.{limit}
use Rattle.h261_groups.specs.Format.{size_of}
use Rattle.h261_groups.specs.declared.Format.{Format}
use Rattle.h261_description.specs.Value.{Picture}
use Rattle.h261_description.specs.Proper.{Proper}
use Rattle.h261_layers.specs.Grammar.{picture, reading_listed}
use Rattle.h261_layers.proofs.Layers.{picture_reads}
use Rattle.h261_reader.specs.ListOfReads.{ListedAlike, ReadsFew, WidthsAddUp, RefusedAmong, CountUnread}
use Rattle.h261_reader.proofs.Counted.{reading-plain}

pub listed_alike : ListedAlike
listed_alike = reading-plain

-- ---- what a listed reading of n bits gives
gave : (f : Format) (s : List ℕ) (n : ℕ) (x : ReadIn listed Picture) → length (source s n) ≡ n → Lists 20 (λ p left. Proper f p × (left ≡ [])) (source s n) unread_place x → Gave StandsAmong n x
gave f s n (got p left at) e h =
    let none : length left ≡ 0 = ap length h.2.1 in
    let all : at.bit ≡ n = omega (arith, h.0.end) in
    let added = added_on added_none h.1 in
    (added.all ∙ all, omega (arith, added.few))
gave f s n (refused r) e h =
    let among = among_on added_none h.0 h.1 in
    inr (record { read = among.read; stands = among.stands; few = omega (arith, among.few) })
gave f s n endless e h = h

reading_gave : (f : Format) (s : List ℕ) (n : ℕ) → Gave StandsAmong n (reading_listed f s n)
unfolding reading_listed
reading_gave f s n = from (ltb (8 * length s) n) (ltb (limit (size_of f)) n) (ltb-false (8 * length s) n)
  where
    from : (above over : Bool) → (above ≡ false → n ≤ 8 * length s)
        → Gave StandsAmong n (pick (either above over) (refused (stop_in listed (refusal Count 0) unread_place)) (picture f (source s n) unread_place))
    from true over h = inl (record { reason = refl; none = refl })
    from false true h = inl (record { reason = refl; none = refl })
    from false false h = gave f s n (picture f (source s n) unread_place) (length-source s n (h refl)) ((picture_reads f).lists (source s n) unread_place (le_refl (suc (length (source s n)))))

-- ---- the theorems
pub reads_few : ReadsFew
reads_few f s n = gave_few StandsAmong n (reading_listed f s n) (reading_gave f s n)

pub widths_add_up : WidthsAddUp
widths_add_up f s n p left at e = gave_got StandsAmong n (reading_listed f s n) p left at (sym (reading-plain f s n) ∙ e) (reading_gave f s n)

pub refused_among : RefusedAmong
refused_among f s n r e c = gave_refused StandsAmong n (reading_listed f s n) r (sym (reading-plain f s n) ∙ e) c (reading_gave f s n)

pub count_unread : CountUnread
count_unread f s n r e c = gave_unread StandsAmong n (reading_listed f s n) r (sym (reading-plain f s n) ∙ e) c (reading_gave f s n)
