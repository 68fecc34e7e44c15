-- Readers that make one read: in counted places they read what they read in plain ones, with one read more. Assumes nothing.
use Prim.Native.Nat.{ℕ, zero, suc, ◌+◌, ◌*◌}
use mathlib.Core.Path.{◌≡◌, refl, ap, ◌∙◌}
use mathlib.Core.Bool.{Bool, true, false}
use mathlib.Core.List.{List, [], ◌∷◌}
use lib.ListN.{length, drop}
use Rattle.bits.specs.Bits.{Bit, num}
use Rattle.bits.specs.Places.{plain, counted, past_in, stop_in}
use Rattle.bits.specs.declared.Place.{Place}
use Rattle.bits.specs.Read.{ReadIn, Read, got, refused, endless, AnyReader, Reader, next, field_from, field, Judged, fine, against, settle, judged_read, moved_read, whole}
use Rattle.bits.specs.Code.{Entry, entry, CodeTable, starts, lookup, word}

-- a plain read as one counted read from there
abbrev pub counting : {A : Type 0} → Place → Read A → ReadIn counted A
counting at (got a bs p) = got a bs (past_in counted at p)
counting at (refused r) = refused (stop_in counted r (past_in counted at at.bit))
counting at endless = endless

pub record Once {A : Type 0} (r : AnyReader A) : Type 0 where
  pub one : (bs : List Bit) (at : Place) → r counted bs at ≡ counting at (r plain bs at.bit)

pub once_field : (k : ℕ) → Once (λ P. field k)
unfolding field_from
once_field k = record { one = λ bs at. from k at 0 bs at.bit }
  where
    from : (k : ℕ) (at : Place) (v : ℕ) (bs : List Bit) (p : ℕ) → field_from k at v bs p ≡ counting at (field_from k at.bit v bs p)
    from zero at v bs p = refl
    from (suc k) at v [] p = refl
    from (suc k) at v (b ∷ bs) p = from k at (v * 2 + num b) bs (p + 1)

pub once_word : (table : CodeTable) → Once (λ P. word table)
unfolding word lookup
once_word table = record { one = λ bs at. from table.entries bs at _ _ refl }
  where
    from : (tab : List Entry) (bs : List Bit) (at : Place) (x : ReadIn counted ℕ) (y : Read ℕ) → x ≡ counting at y → lookup tab bs at x ≡ counting at (lookup tab bs at.bit y)
    from [] bs at x y e = e
    from (entry w m ∷ tab) bs at x y e = by (starts w bs) (from tab bs at x y e)
      where
        by : (s : Bool) → lookup tab bs at x ≡ counting at (lookup tab bs at.bit y)
            → ◌≡◌ {A = ReadIn counted ℕ} (elim s [ true ↦ got m (drop (length w) bs) (past_in counted at (at.bit + length w)) | false ↦ lookup tab bs at x ])
            (counting {A = ℕ} at (elim s [ true ↦ got m (drop (length w) bs) (at.bit + length w) | false ↦ lookup tab bs at.bit y ]))
        by true h = refl
        by false h = h

pub once_whole : {A : Type 0} (r : Reader A) → Once (λ P. whole r)
once_whole {A} r = record { one = λ bs at. from at (r bs at.bit) }
  where
    from : (at : Place) (x : Read A) → moved_read at x ≡ counting at (moved_read at.bit x)
    from at (got a left p) = refl
    from at (refused r) = refl
    from at endless = refl

-- what a rule refuses was read
pub once_judged : {A B : Type 0} {r : AnyReader A} (rule : A → Judged B) → Once r → Once (λ P. judged_read (r P) rule)
once_judged {A} {B} {r} rule h = record { one = λ bs at. ap (λ x. next x (λ a. settle at (rule a))) (h.one bs at) ∙ from at (r plain bs at.bit) }
  where
    by : (at : Place) (j : Judged B) (left : List Bit) (p : ℕ) → settle at j left (past_in counted at p) ≡ counting at (settle at.bit j left p)
    by at (fine b) left p = refl
    by at (against reason) left p = refl

    from : (at : Place) (x : Read A) → next (counting at x) (λ a. settle at (rule a)) ≡ counting at (next x (λ a. settle at.bit (rule a)))
    from at (got a left p) = by at (rule a) left p
    from at (refused r) = refl
    from at endless = refl
