-- The list of reads of a picture: at most N + 1, for an accepted picture of N bits in all, and where a refusal stands among them. Assumes nothing.
use Prim.Native.Nat.{ℕ, ◌*◌, ◌≤◌}
use mathlib.Core.Path.{◌≡◌, refl, sym, ap, subst, ◌∙◌}
use mathlib.Core.Logic.{◌⊎◌, inl, inr}
use mathlib.Core.Bool.{Bool, true, false}
use mathlib.Core.List.{List, [], ◌∷◌}
use native.Mathlib.Omega.{arith}
use lib.Dec.{T, ltb, eqb, lit≤}
use lib.ListN.{length}
use borrow.Author.Tests.{ltb-false}
use Rattle.laws.specs.Choice.{pick, either, opposite}
use Rattle.laws.proofs.Choice.{both_right}
use Rattle.refusals.specs.declared.Reason.TheVariants.{Count}
use Rattle.refusals.specs.declared.Refusal.{Refusal}
use Rattle.refusals.specs.Number.{refusal, number}
use Rattle.bits.specs.Bits.{Bit, source}
use Rattle.bits.specs.Places.{plain, listed, stop_in, unread_place}
use Rattle.bits.specs.Read.{ReadIn, Read, got, refused, endless, next, seen_read}
use Rattle.bits.specs.Among.{StandsAmong}
use Rattle.bits.proofs.Source.{length-source}
use Rattle.bits.proofs.ListOfReads.{Gave, gave_few, gave_got, gave_refused, gave_unread}
use Rattle.size.specs.declared.Size.{Size}
use Rattle.size.specs.Size.{limit}
use Rattle.layout.specs.Proper.{If}
use Rattle.h263_description.specs.Value.{Picture}
use Rattle.h263_layers.specs.Among.{InPtype, PastReads}
use Rattle.h263_layers.specs.Grammar.{ended, picture, reading_listed}
use Rattle.h263_layers.proofs.PictureReads.{before_end, before_end_lem, PictureLists, before_end_lists, before_end_plain, reading-plain}
use Rattle.h263_readback.specs.Verdict.{from_to}
use Rattle.h263_readback.specs.ListOfReads.{ListedAlike, ReadsFew, WidthsAddUp, AmongReads, RefusedAmong, CountUnread}
use Rattle.h263_readback.proofs.Logic.{of_bits, Refusing}
use Rattle.h263_readback.proofs.Layers.{before_end_stays}

pub listed_alike : ListedAlike
listed_alike = reading-plain

-- ---- what a listed reading of n bits gives
-- before the end no refusal is 13
early : (r : Refusal) (widths : List ℕ) → T (of_bits r.reason) → StandsAmong r widths ⊎ InPtype r widths → AmongReads r widths
early r widths t h = go (eqb (number r.reason) 13) (both_right (from_to 3 14 r.reason) (opposite (eqb (number r.reason) 13)) t)
  where
    go : (b : Bool) → T (opposite b) → If b (PastReads r widths) (StandsAmong r widths ⊎ InPtype r widths)
    go true n = absurd n
    go false n = h

gave : (size : Size) (bs : List Bit) (n : ℕ) → length bs ≡ n → (x : ReadIn listed Picture) → PictureLists size bs x → Refusing (seen_read plain x) → Gave AmongReads n (next x ended)
unfolding number
gave size bs n e (got p [] at) h t =
    let all : at.bit ≡ n = omega (arith, h.took.end) in
    (h.added.all ∙ all, omega (arith, h.added.few))
gave size bs n e (got p (b ∷ left) at) h t =
    inr (record { read = lit≤ tt; stands = record { reason = refl; placed = h.added.all }; few = omega (arith, h.added.few, h.took.end) })
gave size bs n e (refused r) (inl h) t = inr (record { read = h.read; stands = early r.refusal r.widths t (inl h.stands); few = omega (arith, h.few) })
gave size bs n e (refused r) (inr h) t =
    let mode : number r.refusal.reason ≡ 14 = ap number h.inside.reason in
    let three : length r.widths ≡ 3 = ap length h.inside.all in
    inr (record { read = omega arith; stands = early r.refusal r.widths t (inr h.inside); few = omega (arith, h.read) })
gave size bs n e endless h t = h

picture-gave : (size : Size) (bs : List Bit) (n : ℕ) → length bs ≡ n → Gave AmongReads n (picture size bs unread_place)
picture-gave size bs n e =
    subst (λ (x : ReadIn listed Picture). Gave AmongReads n x) (sym (before_end_lem size bs unread_place))
    (gave size bs n e (before_end size bs unread_place) (before_end_lists size bs)
    (subst (λ (x : Read Picture). Refusing x) (before_end_plain size bs) ((before_end_stays size).refuses bs 0)))

reading_gave : (size : Size) (s : List ℕ) (n : ℕ) → Gave AmongReads n (reading_listed size s n)
unfolding reading_listed
reading_gave size s n = from (ltb (8 * length s) n) (ltb (limit size) n) (ltb-false (8 * length s) n)
  where
    from : (above over : Bool) → (above ≡ false → n ≤ 8 * length s) → Gave AmongReads n (pick (either above over) (refused (stop_in listed (refusal Count 0) unread_place)) (picture size (source s n) unread_place))
    from true over h = inl (record { reason = refl; none = refl })
    from false true h = inl (record { reason = refl; none = refl })
    from false false h = picture-gave size (source s n) n (length-source s n (h refl))

-- ---- the theorems
pub reads_few : ReadsFew
reads_few size s n = gave_few AmongReads n (reading_listed size s n) (reading_gave size s n)

pub widths_add_up : WidthsAddUp
widths_add_up size s n p left at e = gave_got AmongReads n (reading_listed size s n) p left at (sym (reading-plain size s n) ∙ e) (reading_gave size s n)

pub refused_among : RefusedAmong
refused_among size s n r e c = gave_refused AmongReads n (reading_listed size s n) r (sym (reading-plain size s n) ∙ e) c (reading_gave size s n)

pub count_unread : CountUnread
count_unread size s n r e c = gave_unread AmongReads n (reading_listed size s n) r (sym (reading-plain size s n) ∙ e) c (reading_gave size s n)
