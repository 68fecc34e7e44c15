-- What the reads of a header come to, read by read; that it is what a row of the same reads gives, by equations; and where a bit reader that goes on after each of them stands. Assumes nothing.
use mathlib.Core.Path.{◌≡◌, refl, sym, ap, subst, ◌∙◌}
use mathlib.Core.List.{List}
use Prim.Native.Nat.{ℕ, ◌+◌, ◌≤◌, ◌<◌, ◌^◌}
use native.Mathlib.Nat.{le_refl}
use native.Mathlib.Omega.{arith}
use Rattle.refusals.specs.declared.Refusal.{Refusal}
use Rattle.refusals.specs.declared.Reason.{Reason}
use Rattle.refusals.specs.Number.{refusal}
use Rattle.bits.specs.Bits.{bits_left}
use Rattle.bits.specs.Places.{counted, stop_in}
use Rattle.bits.specs.Read.{ReadIn, got, refused, endless, ReaderIn, next, ◌>>=◌, field, Judged, fine, against, settle, judged_read}
use Rattle.bits.specs.Answer.{Within, as_field}
use Rattle.bits.specs.declared.Place.{Place}
use Rattle.bits.specs.declared.Stopped.{Stopped}
use Rattle.bits.specs.declared.FieldRead.{FieldRead}
use Rattle.bits.specs.declared.FieldRead.TheVariants.{Got as GotField, Refused as NoField}
use Rattle.bits.proofs.Fields.{FieldGot, field-got}
use Rattle.bits.proofs.Once.{once_field}
use Rattle.bit_reader.specs.Reader.{place_after}
use Rattle.fields.specs.Answer.{place_of, leaving, plain_spares, field_stopped, stopped_of}
use Rattle.fields.specs.Rules.{spares}
use Rattle.fields.specs.Header.{Below, and_then, ruled, after_spare}
use Rattle.fields.specs.declared.CountedRead.{CountedRead}
use Rattle.fields.specs.declared.CountedRead.TheVariants.{Got, Refused}
use Rattle.fields.proofs.Told.{number_once}

-- ---- one read
module _ {A : Type 0} (stopped : Stopped → A) where
  pub refused_then : {why : Refusal} (reads : ℕ) (x : FieldRead ℕ) (rest : ℕ → Place → A) (y : Stopped) → x ≡ NoField why → y ≡ field_stopped (reads + 1) x → stopped y ≡ and_then stopped reads x rest
  refused_then reads (GotField v p) rest y t e = cc
  refused_then reads (NoField r) rest y t e = ap stopped e

  pub got_then : (reads : ℕ) {x : FieldRead ℕ} {v p : ℕ} (rest : ℕ → Place → A) → x ≡ GotField v p → and_then stopped reads x rest ≡ rest v (place_of p (reads + 1))
  got_then reads rest e = ap (λ (z : FieldRead ℕ). and_then stopped reads z rest) e

  pub rule_kept : {j : Judged ℕ} {v : ℕ} (at : ℕ) (next : Place) (rest : ℕ → A) → j ≡ fine v → ruled stopped j at next rest ≡ rest v
  rule_kept at next rest e = ap (λ (z : Judged ℕ). ruled stopped z at next rest) e

  pub rule_broken : {j : Judged ℕ} {reason : Reason} (at : ℕ) (next : Place) (rest : ℕ → A) → j ≡ against reason → stopped (stop_in counted (refusal reason at) next) ≡ ruled stopped j at next rest
  rule_broken at next rest e = sym (ap (λ (z : Judged ℕ). ruled stopped z at next rest) e)

  pub refused_spare : {why : Stopped} (x : CountedRead (Unit {0})) (rest : Place → A) (r : Stopped) → x ≡ Refused why → r ≡ stopped_of x → stopped r ≡ after_spare stopped x rest
  refused_spare (Got u p) rest r t e = cc
  refused_spare (Refused s) rest r t e = ap stopped e

-- a field that was got, under a bound
pub below_got : {m v p : ℕ} (x : FieldRead ℕ) → Below m x → x ≡ GotField v p → v < m
below_got {m} x b e = subst (λ (z : FieldRead ℕ). Below m z) e b

-- ---- the reads of a reader that goes on after each
-- the place after a read is within the bits, and not before it
pub record After (s : List ℕ) (n p q : ℕ) : Type 0 where
  pub within : Within s n q
  pub onward : p ≤ q

pub after_field : (s : List ℕ) (n p k : ℕ) (x : FieldRead ℕ) → Within s n p → as_field s n x ≡ field k (bits_left s n p) p → After s n p (place_after n x)
after_field s n p k (GotField v q) w e =
    let g : FieldGot s n p k v q = field-got s n p k v q (bits_left s n q) w.inside (sym e) in
    record { within = record { lent = w.lent; inside = g.in_source }; onward = omega (arith, g.next) }
after_field s n p k (NoField y) w e = record { within = record { lent = w.lent; inside = le_refl n }; onward = w.inside }

-- a field of k bits is below 2^k
pub field_below : (s : List ℕ) (n p k : ℕ) (x : FieldRead ℕ) → Within s n p → as_field s n x ≡ field k (bits_left s n p) p → Below (2 ^ k) x
field_below s n p k (GotField v q) w e = (field-got s n p k v q (bits_left s n q) w.inside (sym e)).small
field_below s n p k (NoField y) w e = tt

-- ---- what comes of one read from p, where what follows it in the row, and in the answer, is the whole
module _ {A H : Type 0} (stopped : Stopped → A) (read : A → ReadIn counted H) (is_stopped : (y : Stopped) → read (stopped y) ≡ refused y) {whole : ReadIn counted H} (s : List ℕ) (n : ℕ) where
  pub field_row : (k : ℕ) (p : Place) (rest : ℕ → ReaderIn counted H) → whole ≡ (field k >>= rest) (bits_left s n p.bit) p
      → (x : FieldRead ℕ) → as_field s n x ≡ field k (bits_left s n p.bit) p.bit → (then : ℕ → Place → A)
      → ((v q : ℕ) → place_after n x ≡ q → whole ≡ rest v (bits_left s n q) (place_of q (p.reads + 1)) → read (then v (place_of q (p.reads + 1))) ≡ whole)
      → read (and_then stopped p.reads x then) ≡ whole
  field_row k p rest h (GotField v q) e then go =
      go v q refl (h ∙ ap (λ (z : ReadIn counted ℕ). next z rest) (sym (number_once (once_field k) s n p (GotField v q) refl e)))
  field_row k p rest h (NoField y) e then go =
      is_stopped (record { refusal = y; reads = p.reads + 1 })
      ∙ sym (h ∙ ap (λ (z : ReadIn counted ℕ). next z rest) (sym (number_once (once_field k) s n p (NoField y) refl e)))

  -- the same of a read under a rule
  pub ruled_row : (k : ℕ) (p : Place) (rule : ℕ → Judged ℕ) (rest : ℕ → ReaderIn counted H) → whole ≡ (judged_read (field k) rule >>= rest) (bits_left s n p.bit) p
      → (x : FieldRead ℕ) → as_field s n x ≡ field k (bits_left s n p.bit) p.bit → (then : ℕ → Place → A)
      → ((v q : ℕ) → place_after n x ≡ q → whole ≡ rest v (bits_left s n q) (place_of q (p.reads + 1)) → read (then v (place_of q (p.reads + 1))) ≡ whole)
      → read (and_then stopped p.reads x (λ y q. ruled stopped (rule y) p.bit q (λ v. then v q))) ≡ whole
  ruled_row k p rule rest h x e then go =
      field_row k p (λ y bs q. next (settle p (rule y) bs q) rest) (h ∙ assoc (field k (bits_left s n p.bit) p)) x e (λ y q. ruled stopped (rule y) p.bit q (λ v. then v q))
      (λ y q at w. by_rule q at (rule y) w)
    where
      assoc : (z : ReadIn counted ℕ) → next (next z (λ a. settle p (rule a))) rest ≡ next z (λ y bs q. next (settle p (rule y) bs q) rest)
      assoc (got a bs q) = refl
      assoc (refused r) = refl
      assoc endless = refl

      by_rule : (q : ℕ) → place_after n x ≡ q → (j : Judged ℕ) → whole ≡ next (settle p j (bits_left s n q) (place_of q (p.reads + 1))) rest
          → read (ruled stopped j p.bit (place_of q (p.reads + 1)) (λ v. then v (place_of q (p.reads + 1)))) ≡ whole
      by_rule q at (fine v) w = go v q at w
      by_rule q at (against reason) w = is_stopped (stop_in counted (refusal reason p.bit) (place_of q (p.reads + 1))) ∙ sym w

  -- and of the spares
  pub spare_row : (p : Place) (rest : ℕ → ReaderIn counted H) → whole ≡ (spares >>= rest) (bits_left s n p.bit) p → (x : CountedRead (Unit {0})) → leaving s n x 0 ≡ spares (bits_left s n p.bit) p
      → (then : Place → A) → ((q : Place) → place_after n (plain_spares x) ≡ q.bit → whole ≡ rest 0 (bits_left s n q.bit) q → read (then q) ≡ whole) → read (after_spare stopped x then) ≡ whole
  spare_row p rest h (Got u q) e then go = go q refl (h ∙ ap (λ (z : ReadIn counted ℕ). next z rest) (sym e))
  spare_row p rest h (Refused r) e then go = is_stopped r ∙ sym (h ∙ ap (λ (z : ReadIn counted ℕ). next z rest) (sym e))
