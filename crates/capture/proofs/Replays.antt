-- Frame after frame: the data bits and the places so far, and those of the frames that are left, are those of all. Assumes nothing.
use mathlib.Core.Path.{◌≡◌, refl, sym, ap, subst, ◌∙◌}
use mathlib.Core.Bool.{Bool}
use mathlib.Core.List.{List, [], ◌∷◌, ◌++◌, map, append-nil, append_assoc}
use Prim.Native.Nat.{ℕ, suc, ◌+◌, ◌-◌, ◌*◌, ◌/◌, ◌≤◌, ◌<◌}
use native.Mathlib.Nat.{add-zero}
use native.Mathlib.Omega.{arith}
use borrow.Author.Tests.{eq-eqb, ne_eqb}
use lib.ListN.{length, set, take, drop, length-append, length-take, length-set}
use lib.Seq.{take_all, drop_at, drop-cons, set_at}
use Rattle.laws.specs.Choice.{pick}
use Rattle.bits.specs.Bits.{Bit, bit0, bit1, bits_from, bits_left}
use Rattle.bits.specs.Write.{bytes_with, bytes_of}
use Rattle.bits.proofs.Value.{length_bits, bits_split, left_drop}
use Rattle.bits.proofs.Source.{take_from}
use Rattle.bits.proofs.Write.{length_written, written_more}
use Rattle.bch.specs.Code.{Outcome, mended, unmended, corrected, Mends}
use Rattle.bch.proofs.Search.{corrected_mends}
use Rattle.capture.specs.Capture.{LineFrame, frames_from, frames_in, frame_outcome, data_in, is_reported, joined, chosen, data_bits, report_places}
use Rattle.capture.specs.Step.{outcome_at, came_of, out_after, tally_after, places_after}
use Rattle.refusals.specs.Told.{accepted}
use Rattle.capture.specs.Replay.{Lockable, LockedDoes}
use Rattle.capture.specs.declared.Came.{Came}
use Rattle.capture.specs.declared.Came.TheVariants.{Data, Unmended}
use Rattle.std.specs.Prelude.{Ok}
use Rattle.capture.specs.declared.Tally.{Tally}

-- ---- the frames that are left
abbrev frames_at : List ℕ → ℕ → ℕ → List LineFrame
frames_at s n a = frames_in (bits_left s n a) a

abbrev line_frame : ℕ → List Bit → LineFrame
line_frame place bits = record { place = place; bits = bits }

module _ (s : List ℕ) (n a : ℕ) where
  frames_next : a + 512 ≤ n → frames_at s n a ≡ line_frame a (bits_from s a 512) ∷ frames_at s n (a + 512)
  unfolding frames_from
  frames_next l =
      let e : n - a ≡ 512 + (n - (a + 512)) = omega arith in
      let count : (length (bits_left s n a) + 511) / 512 ≡ suc ((length (bits_left s n (a + 512)) + 511) / 512) =
      omega (arith, length_bits s a (n - a), length_bits s (a + 512) (n - (a + 512))) in
      let first : take 512 (bits_left s n a) ≡ bits_from s a 512 = ap (λ (k : ℕ). take 512 (bits_from s a k)) e ∙ take_from s a 512 (n - (a + 512)) in
      ap (λ (k : ℕ). frames_from k (bits_left s n a) a) count
      ∙ (λ i. line_frame a (first i) ∷ frames_from ((length (bits_left s n (a + 512)) + 511) / 512) (left_drop s n a 512 i) (a + 512))

  frames_cut : a < n → n < a + 512 → frames_at s n a ≡ line_frame a (bits_left s n a) ∷ []
  unfolding frames_from
  frames_cut l m =
      let count : (length (bits_left s n a) + 511) / 512 ≡ 1 = omega (arith, length_bits s a (n - a)) in
      ap (λ (k : ℕ). frames_from k (bits_left s n a) a) count
      ∙ ap (λ (bs : List Bit). line_frame a bs ∷ []) (take_all 512 (bits_left s n a) (omega (arith, length_bits s a (n - a))))

  frames_none : n ≤ a → frames_at s n a ≡ []
  unfolding frames_from
  frames_none l =
      let count : (length (bits_left s n a) + 511) / 512 ≡ 0 = omega (arith, length_bits s a (n - a)) in
      ap (λ (k : ℕ). frames_from k (bits_left s n a) a) count

  whole_outcome : frame_outcome (line_frame a (bits_from s a 512)) ≡ outcome_at s a
  unfolding frame_outcome
  whole_outcome =
      ap (λ (b : Bool). pick b (corrected (drop 1 (bits_from s a 512))) unmended) (eq-eqb (length (bits_from s a 512)) 512 (length_bits s a 512))
      ∙ ap corrected (ap (drop 1) (bits_split s a 1 511) ∙ drop_at (bits_from s a 1) (bits_from s (a + 1) 511) 1 (length_bits s a 1))

  cut_outcome : n < a + 512 → frame_outcome (line_frame a (bits_left s n a)) ≡ unmended
  unfolding frame_outcome
  cut_outcome m =
      ap (λ (b : Bool). pick b (corrected (drop 1 (bits_left s n a))) unmended)
      (ne_eqb (length (bits_left s n a)) 512 (λ e. omega (arith, length_bits s a (n - a))))

-- ---- what a frame adds
data_cons : (f : LineFrame) (fs : List LineFrame) (o : Outcome) → frame_outcome f ≡ o → data_bits (f ∷ fs) ≡ data_in o ++ data_bits fs
unfolding joined
data_cons f fs o e = ap (λ (o : Outcome). data_in o ++ data_bits fs) e

abbrev reported : ℕ → Outcome → List ℕ
reported place (mended c) = []
reported place unmended = place ∷ []

places_cons : (f : LineFrame) (fs : List LineFrame) (o : Outcome) → frame_outcome f ≡ o → report_places (f ∷ fs) ≡ reported f.place o ++ report_places fs
unfolding chosen
places_cons f fs o e = ap (λ (o : Outcome). map (λ f. f.place) (pick (is_reported o) (f ∷ rest) rest)) e ∙ go o
  where
    rest : List LineFrame
    rest = chosen (λ f. is_reported (frame_outcome f)) fs

    go : (o : Outcome) → map (λ (f : LineFrame). f.place) (pick (is_reported o) (f ∷ rest) rest) ≡ reported f.place o ++ report_places fs
    go (mended c) = refl
    go unmended = refl

none_bits : {fs : List LineFrame} → fs ≡ [] → data_bits fs ≡ []
unfolding joined
none_bits e = ap data_bits e

none_told : {fs : List LineFrame} → fs ≡ [] → report_places fs ≡ []
unfolding chosen
none_told e = ap report_places e

-- ---- the invariant
-- the data bits and the places so far
pub record Going (s : List ℕ) (n lock : ℕ) (out₀ places₀ : List ℕ) (at : ℕ) (tally : Tally) (out places : List ℕ) : Type 0 where
  pub bits : List Bit
  pub told : List ℕ
  pub inside : at ≤ n
  pub after : lock ≤ at
  pub few_bits : length bits + lock ≤ at
  pub few_told : 512 * length told + lock ≤ at
  pub tally_is : tally ≡ record { bits = length bits; places = length told }
  pub out_is : out ≡ bytes_with out₀ 0 bits
  pub out_size : length out ≡ length out₀
  pub places_are : places ≡ told ++ drop (length told) places₀
  pub places_size : length places ≡ length places₀
  pub all_bits : bits ++ data_bits (frames_at s n at) ≡ data_bits (frames_at s n lock)
  pub all_told : told ++ report_places (frames_at s n at) ≡ report_places (frames_at s n lock)

-- the same, of a place that is said otherwise
pub going_at : {s : List ℕ} {n lock : ℕ} {out₀ places₀ : List ℕ} {at at' : ℕ} {tally : Tally} {out places : List ℕ} → at ≡ at' → Going s n lock out₀ places₀ at tally out places
    → Going s n lock out₀ places₀ at' tally out places
going_at {s} {n} {lock} {out₀} {places₀} {at} {at'} {tally} {out} {places} e g = subst (λ (p : ℕ). Going s n lock out₀ places₀ p tally out places) e g

pub going_first : (s : List ℕ) (n lock : ℕ) (out places : List ℕ) → lock ≤ n → Going s n lock out places lock (record { bits = 0; places = 0 }) out places
unfolding bytes_with bytes_of
going_first s n lock out places l =
    record {
      bits = [];
      told = [];
      inside = l;
      after = omega arith;
      few_bits = omega arith;
      few_told = omega arith;
      tally_is = refl;
      out_is = refl;
      out_size = refl;
      places_are = refl;
      places_size = refl;
      all_bits = refl;
      all_told = refl;
    }

-- a place more at the end of those told
set_told : (told places₀ : List ℕ) (v : ℕ) → length told < length places₀
    → set (told ++ drop (length told) places₀) (length told) v ≡ (told ++ (v ∷ [])) ++ drop (length (told ++ (v ∷ []))) places₀
set_told told places₀ v l =
    let e : length (told ++ (v ∷ [])) ≡ suc (length told) = length-append told (v ∷ []) ∙ plus_one (length told) in
    ap (λ (r : List ℕ). set (told ++ r) (length told) v) (drop-cons places₀ (length told) 0 l)
    ∙ set_at told _ (drop (suc (length told)) places₀) v (length told) refl
    ∙ sym (append_assoc told (v ∷ []) (drop (length (told ++ (v ∷ []))) places₀) ∙ ap (λ (k : ℕ). told ++ (v ∷ drop k places₀)) e)
  where
    plus_one : (k : ℕ) → k + 1 ≡ suc k
    plus_one k = omega arith

corrected_size : (f c : List Bit) → length f ≡ 511 → corrected f ≡ mended c → length c ≡ 511
corrected_size f c size e = (subst (Mends f) e (corrected_mends f size)).codeword.size

pub unmended_apart : Unmended ≡ Data → ⊥
unmended_apart e = let z : ◌≡◌ {A = ℕ} 0 1 = cc in omega arith

pub bits_few : {s : List ℕ} {n lock : ℕ} {out₀ places₀ : List ℕ} {at : ℕ} {tally : Tally} {out places : List ℕ}
    → Going s n lock out₀ places₀ at tally out places → tally.bits ≤ at
bits_few g = omega (arith, ap (λ (t : Tally). t.bits) g.tally_is, g.few_bits)

module _ {s : List ℕ} {n lock : ℕ} {out₀ places₀ : List ℕ} {at : ℕ} {tally : Tally} {out places : List ℕ} (h : Lockable s n lock out₀ places₀)
    (g : Going s n lock out₀ places₀ at tally out places) where
  pub bits_room : at + 512 ≤ n → tally.bits + 492 ≤ 8 * length out
  bits_room l = omega (arith, ap (λ (t : Tally). t.bits) g.tally_is, g.few_bits, g.out_size, h.room, h.lent)

  pub told_room : at < n → tally.places < length places
  told_room l = omega (arith, ap (λ (t : Tally). t.places) g.tally_is, g.few_told, g.places_size, h.entries, h.lent)

  -- data bits and places more, of the frame up to `next`
  record More (w : List Bit) (ts : List ℕ) (next : ℕ) (tally' : Tally) (out' places' : List ℕ) : Type 0 where
    inside : next ≤ n
    after : at ≤ next
    few_bits : length w + at ≤ next
    few_told : 512 * length ts + at ≤ next
    tally_is : tally' ≡ record { bits = tally.bits + length w; places = tally.places + length ts }
    out_is : out' ≡ bytes_with out₀ 0 (g.bits ++ w)
    out_size : length out' ≡ length out
    places_are : places' ≡ (g.told ++ ts) ++ drop (length (g.told ++ ts)) places₀
    places_size : length places' ≡ length places
    bits_are : data_bits (frames_at s n at) ≡ w ++ data_bits (frames_at s n next)
    told_are : report_places (frames_at s n at) ≡ ts ++ report_places (frames_at s n next)

  tally_more : (w : List Bit) (ts : List ℕ)
      → ◌≡◌ {A = Tally} (record { bits = tally.bits + length w; places = tally.places + length ts })
      (record { bits = length (g.bits ++ w); places = length (g.told ++ ts) })
  tally_more w ts =
      let b : tally.bits + length w ≡ length (g.bits ++ w) = ap (λ (t : Tally). t.bits + length w) g.tally_is ∙ sym (length-append g.bits w) in
      let p : tally.places + length ts ≡ length (g.told ++ ts) = ap (λ (t : Tally). t.places + length ts) g.tally_is ∙ sym (length-append g.told ts) in
      λ i. record { bits = b i; places = p i }

  going_on : (w : List Bit) (ts : List ℕ) (next : ℕ) (tally' : Tally) (out' places' : List ℕ) → More w ts next tally' out' places'
      → Going s n lock out₀ places₀ next tally' out' places'
  going_on w ts next tally' out' places' m =
      record {
        bits = g.bits ++ w;
        told = g.told ++ ts;
        inside = m.inside;
        after = omega (arith, g.after, m.after);
        few_bits = omega (arith, g.few_bits, m.few_bits, length-append g.bits w);
        few_told = omega (arith, g.few_told, m.few_told, length-append g.told ts);
        tally_is = m.tally_is ∙ tally_more w ts;
        out_is = m.out_is;
        out_size = m.out_size ∙ g.out_size;
        places_are = m.places_are;
        places_size = m.places_size ∙ g.places_size;
        all_bits = append_assoc g.bits w (data_bits (frames_at s n next)) ∙ ap (λ (v : List Bit). g.bits ++ v) (sym m.bits_are) ∙ g.all_bits;
        all_told = append_assoc g.told ts (report_places (frames_at s n next)) ∙ ap (λ (v : List ℕ). g.told ++ v) (sym m.told_are) ∙ g.all_told;
      }

  no_bits : out ≡ bytes_with out₀ 0 (g.bits ++ [])
  no_bits = g.out_is ∙ ap (bytes_with out₀ 0) (sym (append-nil g.bits))

  no_places : places ≡ (g.told ++ []) ++ drop (length (g.told ++ [])) places₀
  no_places = g.places_are ∙ ap (λ (l : List ℕ). l ++ drop (length l) places₀) (sym (append-nil g.told))

  same_tally : tally ≡ record { bits = tally.bits + 0; places = tally.places + 0 }
  same_tally = λ i. record { bits = sym (add-zero tally.bits) i; places = sym (add-zero tally.places) i }

  bits_so_far : tally.bits ≡ 0 + length g.bits
  bits_so_far = let e : length g.bits ≡ 0 + length g.bits = omega arith in ap (λ (t : Tally). t.bits) g.tally_is ∙ e

  -- the place is told
  told_set : at < n → set places tally.places at ≡ (g.told ++ (at ∷ [])) ++ drop (length (g.told ++ (at ∷ []))) places₀
  told_set l =
      (λ i. set (g.places_are i) (g.tally_is i).places at)
      ∙ set_told g.told places₀ at (omega (arith, told_room l, ap (λ (t : Tally). t.places) g.tally_is, g.places_size))

  module _ (l : at + 512 ≤ n) where
    data_of : (o : Outcome) → outcome_at s at ≡ o → data_bits (frames_at s n at) ≡ data_in o ++ data_bits (frames_at s n (at + 512))
    data_of o e = ap data_bits (frames_next s n at l) ∙ data_cons (line_frame at (bits_from s at 512)) (frames_at s n (at + 512)) o (whole_outcome s n at ∙ e)

    told_of : (o : Outcome) → outcome_at s at ≡ o → report_places (frames_at s n at) ≡ reported at o ++ report_places (frames_at s n (at + 512))
    told_of o e =
        ap report_places (frames_next s n at l) ∙ places_cons (line_frame at (bits_from s at 512)) (frames_at s n (at + 512)) o (whole_outcome s n at ∙ e)

    going_fill : (out' places' : List ℕ) → out' ≡ out → places' ≡ places → data_bits (frames_at s n at) ≡ data_bits (frames_at s n (at + 512))
        → report_places (frames_at s n at) ≡ report_places (frames_at s n (at + 512)) → Going s n lock out₀ places₀ (at + 512) tally out' places'
    going_fill out' places' p q b t =
        going_on [] [] (at + 512) tally out' places'
        (record {
          inside = l;
          after = omega arith;
          few_bits = omega arith;
          few_told = omega arith;
          tally_is = same_tally;
          out_is = p ∙ no_bits;
          out_size = ap length p;
          places_are = q ∙ no_places;
          places_size = ap length q;
          bits_are = b;
          told_are = t;
        })

    going_by : (o : Outcome) → outcome_at s at ≡ o → (out' places' : List ℕ) → out' ≡ out_after out tally.bits o
        → places' ≡ places_after (came_of o) at tally places
        → Going s n lock out₀ places₀ (at + 512) (tally_after (came_of o) tally) out' places'
    going_by (mended []) e out' places' p q = going_fill out' places' p q (data_of (mended []) e) (told_of (mended []) e)
    going_by (mended (bit0 ∷ w)) e out' places' p q = going_fill out' places' p q (data_of (mended (bit0 ∷ w)) e) (told_of (mended (bit0 ∷ w)) e)
    going_by (mended (bit1 ∷ w)) e out' places' p q =
        going_on (take 492 w) [] (at + 512) (tally_after (came_of (mended (bit1 ∷ w))) tally) out' places'
        (record {
          inside = l;
          after = omega arith;
          few_bits = omega (arith, size);
          few_told = omega arith;
          tally_is = λ i. record { bits = tally.bits + sym size i; places = sym (add-zero tally.places) i };
          out_is =
              p ∙ (λ i. bytes_with (g.out_is i) (bits_so_far i) (take 492 w))
              ∙ written_more out₀ 0 g.bits (omega (arith, g.few_bits, g.inside, h.room, h.lent)) (take 492 w);
          out_size = ap length p ∙ length_written out tally.bits (take 492 w) (omega (arith, size, bits_room l));
          places_are = q ∙ no_places;
          places_size = ap length q;
          bits_are = data_of (mended (bit1 ∷ w)) e;
          told_are = told_of (mended (bit1 ∷ w)) e;
        })
      where
        size : length (take 492 w) ≡ 492
        size = omega (arith, length-take 492 w, corrected_size (bits_from s (at + 1) 511) (bit1 ∷ w) (length_bits s (at + 1) 511) e)
    going_by unmended e out' places' p q =
        going_on [] (at ∷ []) (at + 512) (tally_after Unmended tally) out' places'
        (record {
          inside = l;
          after = omega arith;
          few_bits = omega arith;
          few_told = omega arith;
          tally_is = λ i. record { bits = sym (add-zero tally.bits) i; places = tally.places + 1 };
          out_is = p ∙ no_bits;
          out_size = ap length p;
          places_are = q ∙ told_set (omega arith);
          places_size = ap length q ∙ length-set places tally.places at;
          bits_are = data_of unmended e;
          told_are = told_of unmended e;
        })

  -- ---- a turn of the loop
  pub going_next : at + 512 ≤ n → (came : Came) (tally' : Tally) (out' places' : List ℕ) → came ≡ came_of (outcome_at s at)
      → out' ≡ out_after out tally.bits (outcome_at s at)
      → tally' ≡ tally_after came tally → places' ≡ places_after came at tally places → Going s n lock out₀ places₀ (at + 512) tally' out' places'
  going_next l came tally' out' places' c o t p =
      subst (λ (t : Tally). Going s n lock out₀ places₀ (at + 512) t out' places') (sym (t ∙ ap (λ (k : Came). tally_after k tally) c))
      (going_by l (outcome_at s at) refl out' places' o (p ∙ ap (λ (k : Came). places_after k at tally places) c))

  -- ---- the ends
  ended : (bits : List Bit) (told : List ℕ) (tally' : Tally) (out' places' : List ℕ) → tally' ≡ record { bits = length bits; places = length told }
      → out' ≡ bytes_with out₀ 0 bits
      → places' ≡ told ++ drop (length told) places₀ → bits ≡ data_bits (frames_at s n lock) → told ≡ report_places (frames_at s n lock)
      → LockedDoes s n lock out₀ places₀ (Ok (record { lock = lock; bits = tally'.bits; places = tally'.places })) out' places'
  ended bits told tally' out' places' t o p b r =
      (λ i. record { answer = accepted (record { lock = lock; bits = (t i).bits; places = (t i).places }); out = o i; places = p i })
      ∙ (λ i.
      record {
        answer = accepted (record { lock = lock; bits = length (b i); places = length (r i) });
        out = bytes_with out₀ 0 (b i);
        places = r i ++ drop (length (r i)) places₀;
      })

  pub going_done : n ≤ at → LockedDoes s n lock out₀ places₀ (Ok (record { lock = lock; bits = tally.bits; places = tally.places })) out places
  going_done l =
      ended g.bits g.told tally out places g.tally_is g.out_is g.places_are
      (sym (append-nil g.bits) ∙ ap (λ (v : List Bit). g.bits ++ v) (sym (none_bits (frames_none s n at l))) ∙ g.all_bits)
      (sym (append-nil g.told) ∙ ap (λ (v : List ℕ). g.told ++ v) (sym (none_told (frames_none s n at l))) ∙ g.all_told)

  pub going_cut : at < n → n < at + 512 → (tally' : Tally) (places' : List ℕ) → tally' ≡ tally_after Unmended tally
      → places' ≡ places_after Unmended at tally places
      → LockedDoes s n lock out₀ places₀ (Ok (record { lock = lock; bits = tally'.bits; places = tally'.places })) out places'
  going_cut l m tally' places' t p =
      ended g.bits (g.told ++ (at ∷ [])) tally' out places'
      (t ∙ (λ i. record { bits = (g.tally_is i).bits; places = (ap (λ (t : Tally). t.places + 1) g.tally_is ∙ sym (length-append g.told (at ∷ []))) i }))
      g.out_is (p ∙ told_set l)
      (sym (append-nil g.bits) ∙ ap (λ (v : List Bit). g.bits ++ v) (sym cut_bits) ∙ g.all_bits)
      (ap (λ (v : List ℕ). g.told ++ v) (sym cut_told) ∙ g.all_told)
    where
      cut_bits : data_bits (frames_at s n at) ≡ []
      cut_bits = ap data_bits (frames_cut s n at l m) ∙ data_cons (line_frame at (bits_left s n at)) [] unmended (cut_outcome s n at m) ∙ none_bits refl

      cut_told : report_places (frames_at s n at) ≡ at ∷ []
      cut_told =
          ap report_places (frames_cut s n at l m) ∙ places_cons (line_frame at (bits_left s n at)) [] unmended (cut_outcome s n at m)
          ∙ ap (λ (v : List ℕ). at ∷ v) (none_told refl)
