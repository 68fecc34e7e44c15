-- Any two outcomes that a promise allows are equal: one theorem for each relation that promises cite. Assumes nothing.
use Prim.Native.Nat.{ℕ, ◌+◌, ◌*◌, ◌-◌, ◌/◌, ◌%◌, ◌^◌, ◌≤◌, ◌<◌}
use mathlib.Core.Path.{◌≡◌, refl, sym, ap, subst, ◌∙◌}
use mathlib.Core.Logic.{◌≢◌, ◌⊎◌, inl, inr}
use mathlib.Core.List.{List, [], ◌++◌}
use native.Mathlib.Decide.{ℕ_discrete}
use native.Mathlib.Nat.{div-add-mod', mod-lt}
use native.Mathlib.Omega.{arith}
use lib.ListN.{length, get_or}
use lib.Seq.{ext_get_or}
use lib.IntN.{ℤ, pos, nat_abs, ◌+ℤ◌, -ℤ-+ℤ_cancel}
use Rattle.laws.proofs.Rows.{rows_same, lt-or-ge}
use Rattle.refusals.specs.declared.Reason.TheVariants.{Length}
use Rattle.refusals.specs.Number.{refusal}
use Rattle.refusals.proofs.Told.{verdict_told_once}
use Rattle.refusals.proofs.Writing.{written_told_once}
use Rattle.standing.proofs.Told.{received_told_once}
use Rattle.sender.proofs.Told.{sent_told_once}
use Rattle.bits.specs.Bits.{Bit, bits_of}
use Rattle.bits.specs.Places.{counted}
use Rattle.bits.specs.Read.{ReadIn, Read, got, endless, refused, field}
use Rattle.bits.proofs.Fields.{field_back, length-bits_of}
use Rattle.bits.specs.Answer.{as_field}
use Rattle.bits.specs.declared.FieldRead.{FieldRead}
use Rattle.bits.specs.declared.Place.{Place}
use Rattle.bits.specs.declared.Stopped.{Stopped}
use Rattle.h261_words.specs.Words.{Event, sent, over}
use Rattle.h261_words.specs.Answer.{as_coefficient}
use Rattle.h261_words.specs.declared.CoefficientRead.{CoefficientRead}
use Rattle.h263_words.specs.Words.{Event as Event263}
use Rattle.h263_words.specs.Answer.{as_event}
use Rattle.h263_words.specs.declared.EventRead.{EventRead}
use Rattle.size.specs.declared.Size.{Size}
use Rattle.size.specs.Size.{store_length}
use Rattle.size.specs.Place.{own, index, cell_of, On}
use Rattle.size.proofs.Grid.{Spot, spot}
use Rattle.size.proofs.Blocks.{on_at, block_six}
use Rattle.h261_layers.specs.Grammar.{Mba, step, stuffed, ended, Header}
use Rattle.layout.specs.Value.{Vector}
use Rattle.h261_description.specs.Vector.{Before}
use Rattle.h261_layers.specs.Answer.{as_mba, as_header, as_vector, as_macroblock, component_of, before_of, Sent}
use Rattle.fields.specs.Answer.{leaving, as_number}
use Rattle.fields.specs.declared.CountedRead.{CountedRead}
use Rattle.h261_layers.specs.declared.Mba as code
use Rattle.h261_layers.specs.declared.Behind.{Behind}
use Rattle.bits.specs.declared.FieldRead.TheVariants as F
use Rattle.h261_words.specs.declared.CoefficientRead.TheVariants as C
use Rattle.h263_words.specs.declared.EventRead.TheVariants as E
use Rattle.h261_layers.specs.declared.Mba.TheVariants as M
use Rattle.fields.specs.declared.CountedRead.TheVariants as K
use Rattle.determined.specs.Determined.{EquationOnce, ReadSaysOnce, ReadLeavesOnce, DecodeSaysOnce, DecodeLeavesOnce, WriteSaysOnce, WriteLeavesOnce, ReceiveOnce, SendOnce, HandsBackOnce, FieldOnce, NumberReadOnce, CoefficientOnce, HeaderOnce, MbaOnce, VectorOnce, MacroblockReadOnce, MacroblockLeftOnce, PlaceOnce, LeftOnce, BlockOnce, CodewordOnce, BitsWroteOnce, BlockWroteOnce, MacroblockOnce, RowsOnce, TextOnce, EventOnce}
use Rattle.standing.specs.Receive as R
use Rattle.sender.specs.Send as S

-- ---- an equation with the answer, with a buffer, or with both
pub same_as : {A : Type 0} {a x y : A} → x ≡ a → y ≡ a → x ≡ y
same_as e f = e ∙ sym f

pub once : EquationOnce
once A a x y = same_as

-- ---- the entry points: what each promises of its answer, of the buffers that it leaves, or of both at once
pub read_says_once : ReadSaysOnce
read_says_once told count x y e d =
    let said = verdict_told_once x.verdict y.verdict (same_as e.0 d.0) in
    let counted = same_as e.1 d.1 in
    λ i. record { verdict = said i; reads = counted i }

pub read_leaves_once : ReadLeavesOnce
read_leaves_once before told x y = same_as

pub decode_says_once : DecodeSaysOnce
decode_says_once k bytes n reference store x y e d = verdict_told_once x y (same_as e d)

pub decode_leaves_once : DecodeLeavesOnce
decode_leaves_once k bytes n reference store x y = same_as

pub write_says_once : WriteSaysOnce
write_says_once told x y a b = written_told_once x y (same_as a b)

pub write_leaves_once : WriteLeavesOnce
write_leaves_once out bits told x y = same_as

pub receive_once : ReceiveOnce
receive_once r block b x y left after e d =
    let same = same_as e d in
    (received_told_once x y (ap (λ (o : R.Outcome). o.gave) same), ap (λ (o : R.Outcome). o.left) same)

pub send_once : SendOnce
send_once s d b x y left after e f =
    let same = same_as e f in
    (sent_told_once x y (ap (λ (o : S.Outcome). o.gave) same), ap (λ (o : S.Outcome). o.left) same)

pub hands_back_once : HandsBackOnce
hands_back_once size holder first second x y h k = (same_as h.begins k.begins, same_as h.bytes k.bytes)

-- ---- an equation with what the answer says: nothing of the answer is lost by that
pub through : {A B : Type 0} (says : A → B) (of : B → A) → ((x : A) → of (says x) ≡ x) → {b : B} {x y : A} → says x ≡ b → says y ≡ b → x ≡ y
through says of back {b} {x} {y} e f = sym (back x) ∙ ap of (e ∙ sym f) ∙ back y

module _ (s : List ℕ) (n : ℕ) where
  -- no read is endless
  none : Stopped
  none = record { refusal = refusal Length 0; reads = 0 }

  field_of : Read ℕ → FieldRead ℕ
  field_of (got v left p) = F.Got v p
  field_of (refused why) = F.Refused why
  field_of endless = F.Refused (refusal Length 0)

  field_of_lem : (x : FieldRead ℕ) → field_of (as_field s n x) ≡ x
  unfolding field_of
  field_of_lem (F.Got v p) = refl
  field_of_lem (F.Refused why) = refl

  number_of : ReadIn counted ℕ → CountedRead ℕ
  number_of (got v left p) = K.Got v p
  number_of (refused why) = K.Refused why
  number_of endless = K.Refused none

  number_of_lem : (x : CountedRead ℕ) → number_of (as_number s n x) ≡ x
  unfolding number_of
  number_of_lem (K.Got v p) = refl
  number_of_lem (K.Refused why) = refl

  coefficient_of : Read Event → CoefficientRead
  coefficient_of (got (sent c) left p) = C.Coefficient c.run c.code p
  coefficient_of (got over left p) = C.EndOfBlock p
  coefficient_of (refused why) = C.Refused why
  coefficient_of endless = C.Refused (refusal Length 0)

  coefficient_of_lem : (x : CoefficientRead) → coefficient_of (as_coefficient s n x) ≡ x
  unfolding coefficient_of
  coefficient_of_lem (C.Coefficient run code p) = refl
  coefficient_of_lem (C.EndOfBlock p) = refl
  coefficient_of_lem (C.Refused why) = refl

  event_read : Read Event263 → EventRead
  event_read (got e left p) = E.Event e.last e.sent.run e.sent.code p
  event_read (refused why) = E.Refused why
  event_read endless = E.Refused (refusal Length 0)

  event_of : (x : EventRead) → event_read (as_event s n x) ≡ x
  unfolding event_read
  event_of (E.Event last run code p) = refl
  event_of (E.Refused why) = refl

  header_of : ReadIn counted Header → CountedRead (ℕ × ℕ)
  header_of (got h left p) = K.Got (h.tr, h.ptype) p
  header_of (refused why) = K.Refused why
  header_of endless = K.Refused none

  header_of_lem : (x : CountedRead (ℕ × ℕ)) → header_of (as_header s n x) ≡ x
  unfolding header_of
  header_of_lem (K.Got (tr, ptype) p) = refl
  header_of_lem (K.Refused why) = refl

  mba_of : ReadIn counted Mba → CountedRead code.Mba
  mba_of (got (step k) left p) = K.Got (M.Step k) p
  mba_of (got stuffed left p) = K.Got M.Stuffing p
  mba_of (got ended left p) = K.Got M.Ended p
  mba_of (refused why) = K.Refused why
  mba_of endless = K.Refused none

  mba_of_lem : (x : CountedRead code.Mba) → mba_of (as_mba s n x) ≡ x
  unfolding mba_of
  mba_of_lem (K.Got (M.Step k) p) = refl
  mba_of_lem (K.Got M.Stuffing p) = refl
  mba_of_lem (K.Got M.Ended p) = refl
  mba_of_lem (K.Refused why) = refl

  -- the code keeps a component as 16 more than it is
  kept : ℤ → ℕ
  kept z = nat_abs (z +ℤ pos 16)

  kept_back : (x : ℕ) → kept (component_of x) ≡ x
  unfolding kept
  kept_back x = ap nat_abs (-ℤ-+ℤ_cancel (pos x) (pos 16))

  vector_read : ReadIn counted Vector → CountedRead (ℕ × ℕ)
  vector_read (got v left p) = K.Got (kept v.horizontal, kept v.vertical) p
  vector_read (refused why) = K.Refused why
  vector_read endless = K.Refused none

  vector_of : (x : CountedRead (ℕ × ℕ)) → vector_read (as_vector s n x) ≡ x
  unfolding vector_read
  vector_of (K.Got (h, v) p) = λ i. K.Got (kept_back h i, kept_back v i) p
  vector_of (K.Refused why) = refl

  behind_of : Before → Behind
  behind_of b = record { address = b.address; horizontal = kept b.vector.horizontal; vertical = kept b.vector.vertical }

  behind_back : (b : Behind) → behind_of (before_of b) ≡ b
  unfolding behind_of
  behind_back b = λ i. record { address = b.address; horizontal = kept_back b.horizontal i; vertical = kept_back b.vertical i }

  macroblock_read : ReadIn counted Sent → CountedRead Behind
  macroblock_read (got x left p) = K.Got (behind_of x.before) p
  macroblock_read (refused why) = K.Refused why
  macroblock_read endless = K.Refused none

  macroblock_of : (x : CountedRead Behind) (macroblocks levels : List ℕ) → macroblock_read (as_macroblock s n x macroblocks levels) ≡ x
  unfolding macroblock_read
  macroblock_of (K.Got b p) macroblocks levels = λ i. K.Got (behind_back b i) p
  macroblock_of (K.Refused why) macroblocks levels = refl

  -- a layer's answer, and where it is a place, what it left in the buffers
  module _ {A : Type 0} where
    place_of : ReadIn counted A → CountedRead (Unit {0})
    place_of (got a left p) = K.Got tt p
    place_of (refused why) = K.Refused why
    place_of endless = K.Refused none

    place_of_lem : (x : CountedRead (Unit {0})) (a : A) → place_of (leaving s n x a) ≡ x
    unfolding place_of
    place_of_lem (K.Got u p) a = refl
    place_of_lem (K.Refused why) a = refl

pub field-once : FieldOnce
field-once s n b x y = through (as_field s n) (field_of s n) (field_of_lem s n)

pub number_read_once : NumberReadOnce
number_read_once s n b x y = through (as_number s n) (number_of s n) (number_of_lem s n)

pub coefficient_once : CoefficientOnce
coefficient_once s n b x y = through (as_coefficient s n) (coefficient_of s n) (coefficient_of_lem s n)

pub event_once : EventOnce
event_once s n b x y = through (as_event s n) (event_read s n) (event_of s n)

pub header_once : HeaderOnce
header_once s n b x y = through (as_header s n) (header_of s n) (header_of_lem s n)

pub mba_once : MbaOnce
mba_once s n b x y = through (as_mba s n) (mba_of s n) (mba_of_lem s n)

pub vector_once : VectorOnce
vector_once s n b x y = through (as_vector s n) (vector_read s n) (vector_of s n)

pub macroblock_read_once : MacroblockReadOnce
macroblock_read_once s n b x y m l k j e f = sym (macroblock_of s n x m l) ∙ ap (macroblock_read s n) (e ∙ sym f) ∙ macroblock_of s n y k j

pub macroblock_left_once : MacroblockLeftOnce
macroblock_left_once s n b c d p q m l k j e f = same (e ∙ sym f)
  where
    same : {x y : Sent} {l m : List Bit} {p q : Place} → ◌≡◌ {A = ReadIn counted Sent} (got x l p) (got y m q) → (x.macroblocks ≡ y.macroblocks) × (x.levels ≡ y.levels)
    same g = (cc, cc)

pub place_once : PlaceOnce
place_once A s n b x y t u e f = sym (place_of_lem s n x t) ∙ ap (place_of s n) (e ∙ sym f) ∙ place_of_lem s n y u

pub left_once : LeftOnce
left_once A s n b p q t u e f = same (e ∙ sym f)
  where
    same : {l m : List Bit} {p q : Place} {t u : A} → ◌≡◌ {A = ReadIn counted A} (got t l p) (got u m q) → t ≡ u
    same g = cc

-- ---- a block whose 64 numbers are said
pub block_once : BlockOnce
block_once A d g t u h k = ext_get_or [] t u (h.shape.rows ∙ sym k.shape.rows) (λ i l. row i (short i l))
  where
    short : (i : ℕ) → i < length t → i < 8
    short i l = omega (arith, h.shape.rows)

    row : (i : ℕ) → i < 8 → get_or t i [] ≡ get_or u i []
    row i l = ext_get_or d (get_or t i []) (get_or u i []) (h.shape.cols i l ∙ sym (k.shape.cols i l)) (λ j m. let n : j < 8 = omega (arith, h.shape.cols i l) in h.cells i j l n ∙ sym (k.cells i j l n))

-- ---- a codeword: its bits, and how many
bits_once : (k a b : ℕ) → a < 2 ^ k → b < 2 ^ k → bits_of k a ≡ bits_of k b → a ≡ b
bits_once k a b l m e = inside (sym (field_back k a [] 0 l) ∙ ap (λ (w : List Bit). field k (w ++ []) 0) e ∙ field_back k b [] 0 m)
  where
    inside : {p q : ℕ} → ◌≡◌ {A = Read ℕ} (got a [] p) (got b [] q) → a ≡ b
    inside g = cc

pub codeword_once : CodewordOnce
codeword_once w x y h k =
    let wide : x.width ≡ y.width = sym (length-bits_of x.width x.bits) ∙ ap length (h.is ∙ sym k.is) ∙ length-bits_of y.width y.bits in
    let more : x.bits < 2 ^ y.width = subst (λ (n : ℕ). x.bits < 2 ^ n) wide h.fits.small in
    let bits : x.bits ≡ y.bits = bits_once y.width x.bits y.bits more k.fits.small (ap (λ (n : ℕ). bits_of n x.bits) (sym wide) ∙ h.is ∙ sym k.is) in
    λ i. record { width = wide i; bits = bits i }

-- ---- bits after bits
pub bits_wrote_once : BitsWroteOnce
bits_wrote_once at p q w before t u h k = (same_as h.is k.is, same_as h.next k.next)

-- ---- stores: every sample is said, or is as it was
module _ (f : Size) {t u : List ℕ} (long : length t ≡ store_length f) (size : length t ≡ length u) where
  store_once : ((p y x i j : ℕ) → On f p y x → i < 8 → j < 8 → cell_of f t p y x i j ≡ cell_of f u p y x i j) → t ≡ u
  store_once same = ext_get_or 0 t u size (λ k l. at k (spot f k (subst (λ (n : ℕ). k < n) long l)))
    where
      at : (k : ℕ) → Spot f k → get_or t k 0 ≡ get_or u k 0
      at k o =
          let here : k ≡ index f o.p (o.y / 8 * 8 + o.y % 8) (o.x / 8 * 8 + o.x % 8) =
          o.is ∙ (λ i. index f o.p (sym (div-add-mod' o.y 8) i) (sym (div-add-mod' o.x 8) i)) in
          ap (λ (n : ℕ). get_or t n 0) here
          ∙ same o.p (o.y / 8) (o.x / 8) (o.y % 8) (o.x % 8) (on_at f o.p o.y o.x o.plane o.row o.col) (omega arith) (omega arith)
          ∙ ap (λ (n : ℕ). get_or u n 0) (sym here)

pub block_wrote_once : BlockWroteOnce
block_wrote_once f p y x g s long t u h k =
    store_once f (h.size ∙ long) (h.size ∙ sym k.size) (λ q z v i j o l m. go q z v i j o l m (ℕ_discrete q p) (ℕ_discrete z y) (ℕ_discrete v x))
  where
    apart : (q z v i j : ℕ) → On f q z v → i < 8 → j < 8 → (q ≡ p → z ≡ y → v ≡ x → ⊥) → cell_of f t q z v i j ≡ cell_of f u q z v i j
    apart q z v i j o l m n = h.outside q z v o n i j l m ∙ sym (k.outside q z v o n i j l m)

    go : (q z v i j : ℕ) → On f q z v → i < 8 → j < 8 → Dec (q ≡ p) → Dec (z ≡ y) → Dec (v ≡ x) → cell_of f t q z v i j ≡ cell_of f u q z v i j
    go q z v i j o l m (yes a) (yes b) (yes c) =
        (λ e. cell_of f t (a e) (b e) (c e) i j) ∙ h.inside i j l m ∙ sym (k.inside i j l m) ∙ (λ e. cell_of f u (sym a e) (sym b e) (sym c e) i j)
    go q z v i j o l m (no n) b c = apart q z v i j o l m (λ a b c. n a)
    go q z v i j o l m (yes a) (no n) c = apart q z v i j o l m (λ a b c. n b)
    go q z v i j o l m (yes a) (yes b) (no n) = apart q z v i j o l m (λ a b c. n c)

pub macroblock_once : MacroblockOnce
macroblock_once f r c g s long t u h k =
    store_once f (h.size ∙ long) (h.size ∙ sym k.size) (λ q z v i j o l m. go q z v i j o l m (ℕ_discrete (own q z) r) (ℕ_discrete (own q v) c))
  where
    go : (q z v i j : ℕ) → On f q z v → i < 8 → j < 8 → Dec (own q z ≡ r) → Dec (own q v ≡ c) → cell_of f t q z v i j ≡ cell_of f u q z v i j
    go q z v i j o l m (yes a) (yes b) =
        h.inside q z v o a b (block_six q z v o.plane) i j l m ∙ sym (k.inside q z v o a b (block_six q z v o.plane) i j l m)
    go q z v i j o l m (no n) b = h.outside q z v o (λ a b. n a) i j l m ∙ sym (k.outside q z v o (λ a b. n a) i j l m)
    go q z v i j o l m (yes a) (no n) = h.outside q z v o (λ a b. n b) i j l m ∙ sym (k.outside q z v o (λ a b. n b) i j l m)

-- ---- rows a stride apart
pub rows_once : RowsOnce
rows_once h w start stride g s some fits t u a b = ext_get_or 0 t u (a.size ∙ sym b.size) (λ k l. at k (lt-or-ge k start))
  where
    apart : (k : ℕ) → ((i j : ℕ) → i < h → j < w → k ≢ start + i * stride + j) → get_or t k 0 ≡ get_or u k 0
    apart k n = a.outside k n ∙ sym (b.outside k n)

    -- the row and the column that a place past the start would have
    found : (k : ℕ) → start ≤ k → (y x : ℕ) → x < stride → k - start ≡ y * stride + x → (y < h) ⊎ (h ≤ y) → (x < w) ⊎ (w ≤ x) → get_or t k 0 ≡ get_or u k 0
    found k l y x p e (inl m) (inl n) =
        let here : k ≡ start + y * stride + x = omega arith in
        ap (λ (z : ℕ). get_or t z 0) here ∙ a.inside y x m n ∙ sym (b.inside y x m n) ∙ ap (λ (z : ℕ). get_or u z 0) (sym here)
    found k l y x p e (inr m) n = apart k (λ i j q r c. past i j q r c)
      where
        past : (i j : ℕ) → i < h → j < w → k ≡ start + i * stride + j → ⊥
        past i j q r c =
            let same : i * stride + j ≡ y * stride + x = omega arith in
            let fit : j < stride = omega arith in
            let row : i ≡ y = (rows_same stride i j y x fit p same).0 in
            omega arith
    found k l y x p e (inl m) (inr n) = apart k (λ i j q r c. beside i j q r c)
      where
        beside : (i j : ℕ) → i < h → j < w → k ≡ start + i * stride + j → ⊥
        beside i j q r c =
            let same : i * stride + j ≡ y * stride + x = omega arith in
            let fit : j < stride = omega arith in
            let column : j ≡ x = (rows_same stride i j y x fit p same).1 in
            omega arith

    at : (k : ℕ) → (k < start) ⊎ (start ≤ k) → get_or t k 0 ≡ get_or u k 0
    at k (inl l) = apart k (λ i j q r c. before i j c l)
      where
        before : (i j : ℕ) → k ≡ start + i * stride + j → k < start → ⊥
        before i j c l = omega arith
    at k (inr l) =
        found k l ((k - start) / stride) ((k - start) % stride) (mod-lt (k - start) some) (sym (div-add-mod' (k - start) stride))
        (lt-or-ge ((k - start) / stride) h) (lt-or-ge ((k - start) % stride) w)

-- ---- text put into a buffer
pub text_once : TextOnce
text_once text at p q out t u h k = (same_as h.left_is k.left_is, same_as h.end_is k.end_is)
