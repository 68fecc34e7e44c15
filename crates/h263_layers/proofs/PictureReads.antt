-- What a picture reads: its header and its groups, and then no bit is left, or 13. Assumes nothing.
use Prim.Native.Nat.{ℕ, suc, ◌+◌, ◌*◌, ◌≤◌}
use mathlib.Core.Path.{◌≡◌, refl, sym, ap, subst, ◌∙◌}
use mathlib.Core.Logic.{inl, inr}
use mathlib.Core.Bool.{Bool, true, false}
use mathlib.Core.List.{List, [], ◌∷◌}
use native.Mathlib.Omega.{arith}
use native.Mathlib.Nat.{le_refl}
use lib.Dec.{ltb}
use lib.ListN.{length}
use Rattle.laws.specs.Choice.{pick, either}
use Rattle.refusals.specs.declared.Reason.TheVariants.{Count, AfterLast}
use Rattle.refusals.specs.Number.{refusal}
use Rattle.bits.specs.Bits.{Bit, source}
use Rattle.bits.specs.Places.{Places, plain, listed, ListedPlace, PlaceIn, stop_in, seen_place, unread_place}
use Rattle.bits.specs.Read.{ReadIn, Read, got, refused, endless, ReaderIn, next, ◌>>=◌, done, seen_read}
use Rattle.bits.proofs.Seen.{seen_bit}
use Rattle.bits.proofs.ListOfReads.{Added, added_on, among_on}
use Rattle.bits.proofs.Logic.{Took, Lists, Holds}
use Rattle.size.specs.declared.Size.{Size}
use Rattle.size.specs.Size.{limit}
use Rattle.layout.specs.Value.{Group}
use Rattle.h263_description.specs.Value.{Picture, group_numbers}
use Rattle.h263_description.specs.Fields.{is_intra_type}
use Rattle.h263_description.specs.Proper.{ProperGroups, Proper}
use Rattle.h263_layers.specs.Grammar.{groups_read, Header, header, ended, picture, reading_from, reading, reading_listed}
use Rattle.h263_layers.proofs.Layers.{groups_reads}
use Rattle.h263_layers.proofs.HeaderReads.{Alike, alike_reads, alike_then, alike_done, seen_refused, header_alike, HeaderRefused, HeaderRead, HeaderLists, header_lists}

-- ---- all of it but the end: no bits are asked for after the last macroblock
abbrev whole : Header → List Group → Picture
whole head groups = record { tr = head.tr; ptype = head.ptype; type = head.type; pquant = head.pquant; groups = groups }

abbrev groups_after : {P : Places} → Size → Header → ReaderIn P (List Group)
groups_after size head = groups_read size (is_intra_type head.type) (group_numbers size) []

abbrev pub before_end : {P : Places} → Size → ReaderIn P Picture
before_end size = do
  head ← header size
  groups ← groups_after size head
  done (whole head groups)

pub before_end_lem : {P : Places} (size : Size) (bs : List Bit) (at : PlaceIn P) → picture {P = P} size bs at ≡ next (before_end size bs at) ended
unfolding picture
before_end_lem {P} size bs at = first (header size bs at)
  where
    second : (head : Header) (y : ReadIn P (List Group)) → next y (λ groups. ended (whole head groups)) ≡ next (next y (λ groups. done (whole head groups))) ended
    second head (got groups left p) = refl
    second head (refused why) = refl
    second head endless = refl

    first : (x : ReadIn P Header) → next x (λ head. groups_after size head >>= λ groups. ended (whole head groups))
        ≡ next (next x (λ head. groups_after size head >>= λ groups. done (whole head groups))) ended
    first (got head left p) = second head (groups_after size head left p)
    first (refused why) = refl
    first endless = refl

before_end_alike : (size : Size) → Alike (λ P. before_end size)
before_end_alike size =
    alike_then (header_alike size)
    (λ head. alike_then (alike_reads (λ bound. groups_reads {bound = bound} size (is_intra_type head.type) (group_numbers size) [])) (λ groups. alike_done (whole head groups)))

-- a proper picture, whose reads have all its bits
pub record BeforeEnd (size : Size) (bs : List Bit) (p : Picture) (left : List Bit) (at : ListedPlace) : Type 0 where
  pub proper : Proper size p
  pub took : Took 22 bs 0 left at.bit
  pub added : Added at

abbrev pub PictureLists : Size → List Bit → ReadIn listed Picture → Type 0
PictureLists size bs (got p left at) = BeforeEnd size bs p left at
PictureLists size bs (refused r) = HeaderRefused (length bs) r
PictureLists size bs endless = ⊥

pub before_end_lists : (size : Size) (bs : List Bit) → PictureLists size bs (before_end size bs unread_place)
before_end_lists size bs = from (header size bs unread_place) (header_lists size bs)
  where
    after : (head : Header) (left : List Bit) (at : ListedPlace) → HeaderRead bs head left at
        → (y : ReadIn listed (List Group)) → Lists 0 (λ gs left. ProperGroups size (is_intra_type head.type) (group_numbers size) gs) left at y
        → PictureLists size bs (next y (λ groups. done (whole head groups)))
    after head left at g (got groups rest p) h = record {
      proper = record { reference = g.good.reference; flagged = g.good.flagged; typed = g.good.typed; quantised = g.good.quantised; grouped = h.2 };
      took = record { end = omega (arith, h.0.end, g.took.end); onward = omega (arith, h.0.onward, g.took.onward) };
      added = added_on g.added h.1;
    }
    after head left at g (refused r) h =
        let end : at.bit + length left ≡ length bs = omega (arith, g.took.end) in
        subst (λ (n : ℕ). HeaderRefused n r) end (inl (among_on g.added h.0 h.1))
    after head left at g endless h = h

    from : (x : ReadIn listed Header) → HeaderLists bs x → PictureLists size bs (next x (λ head. groups_after size head >>= λ groups. done (whole head groups)))
    from (got head left at) g =
        after head left at g (groups_after size head left at)
        ((groups_reads size (is_intra_type head.type) (group_numbers size) []).lists left at (le_refl (suc (length left))))
    from (refused r) g = g
    from endless g = g

-- in plain places
pub before_end_plain : (size : Size) (bs : List Bit) → before_end {P = plain} size bs 0 ≡ seen_read plain (before_end size bs unread_place)
before_end_plain size bs = (before_end_alike size).sees plain bs unread_place

pub before_end_gives : (size : Size) (bs : List Bit) → Holds (λ p left at. Proper size p × Took 22 bs 0 left at) (λ r. r.place ≤ length bs) (before_end {P = plain} size bs 0)
before_end_gives size bs =
    subst (λ (x : Read Picture). Holds (λ p left at. Proper size p × Took 22 bs 0 left at) (λ r. r.place ≤ length bs) x) (sym (before_end_plain size bs)) (on (before_end size bs unread_place) (before_end_lists size bs))
  where
    on : (x : ReadIn listed Picture) → PictureLists size bs x → Holds (λ p left at. Proper size p × Took 22 bs 0 left at) (λ r. r.place ≤ length bs) (seen_read plain x)
    on (got p left at) h = (h.proper, h.took)
    on (refused r) (inl h) = h.within
    on (refused r) (inr h) = omega (arith, h.inside.last, h.read)
    on endless h = h

-- ---- and the end
ended_alike : {A : Type 0} (a : A) → Alike (λ P. ended a)
ended_alike {A} a = record { sees = by }
  where
    by : (P : Places) (bs : List Bit) (at : ListedPlace) → ended a bs (seen_place P at) ≡ seen_read P (ended a bs at)
    by P [] at = refl
    by P (b ∷ bs) at = ap (λ (q : ℕ). refused (stop_in P (refusal AfterLast q) (seen_place P at))) (seen_bit P at) ∙ seen_refused P AfterLast at.bit at

pub picture_alike : (size : Size) → Alike (λ P. picture size)
unfolding picture
picture_alike size =
    alike_then (header_alike size)
    (λ head. alike_then (alike_reads (λ bound. groups_reads {bound = bound} size (is_intra_type head.type) (group_numbers size) [])) (λ groups. ended_alike (whole head groups)))

-- places of any kind see the list of reads
pub reading_sees : (P : Places) (size : Size) (s : List ℕ) (n : ℕ) → reading_from (seen_place P unread_place) size s n ≡ seen_read P (reading_listed size s n)
unfolding reading_listed
reading_sees P size s n = by (either (ltb (8 * length s) n) (ltb (limit size) n))
  where
    by : (above : Bool) → pick above (refused (stop_in P (refusal Count 0) (seen_place P unread_place))) (picture size (source s n) (seen_place P unread_place))
        ≡ seen_read P (pick above (refused (stop_in listed (refusal Count 0) unread_place)) (picture size (source s n) unread_place))
    by true = seen_refused P Count 0 unread_place
    by false = (picture_alike size).sees P (source s n) unread_place

pub reading-plain : (size : Size) (s : List ℕ) (n : ℕ) → reading size s n ≡ seen_read plain (reading_listed size s n)
unfolding reading
reading-plain size s n = reading_sees plain size s n
