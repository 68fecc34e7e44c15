-- What a word names, by what is left of it after some of its characters. Assumes nothing.
use Prim.Native.Nat.{ℕ, ◌+◌, ◌-◌, ◌≤◌, ◌<◌}
use native.Mathlib.Omega.{arith}
use borrow.Author.Tests.{le-leb, lt-leb, leb-true}
use mathlib.Core.Path.{◌≡◌, refl, sym, ap, ◌∙◌}
use mathlib.Core.Bool.{Bool, true, false, false≢true}
use mathlib.Core.List.{List, [], ◌∷◌}
use lib.Dec.{leb}
use lib.ListN.{length, take, drop, get_or, length-take, length-drop, drop_of_length-le}
use lib.Seq.{take_all}
use Rattle.std.specs.Prelude.{Option, Some, None}
use Rattle.laws.specs.Choice.{pick, both}
use Rattle.laws.specs.Lists.{alike}
use Rattle.laws.proofs.Lists.{drop_on, alike_lengths}
use Rattle.size.specs.declared.Size.{Size}
use Rattle.size.specs.declared.Size.TheVariants.{SubQcif, Qcif, Cif}
use Rattle.vault.specs.declared.Standard.{Standard}
use Rattle.vault.specs.declared.Standard.TheVariants.{H261, H263}
use Rattle.coding.specs.declared.Kind.{Kind}
use Rattle.arguments.specs.Words.{sub_qcif_word, qcif_word, cif_word, h263_word, size_named, kind_sized, kind_named, digit, longer, clip_after, clip_named}

-- ---- a size
abbrev by_tests : Bool → Bool → Bool → Option Size
by_tests a b c = pick a (Some SubQcif) (pick b (Some Qcif) (pick c (Some Cif) None))

module _ (word : List ℕ) {a : Bool} (e : a ≡ alike word sub_qcif_word) where
  pub names_sub_qcif : a ≡ true → Some SubQcif ≡ size_named word
  unfolding size_named
  names_sub_qcif f = sym (ap (λ (t : Bool). by_tests t (alike word qcif_word) (alike word cif_word)) (sym e ∙ f))

  pub names_qcif : {b : Bool} → a ≡ false → b ≡ alike word qcif_word → b ≡ true → Some Qcif ≡ size_named word
  unfolding size_named
  names_qcif f g h = λ i. by_tests ((sym f ∙ e) i) ((sym h ∙ g) i) (alike word cif_word)

  pub names_last : {b c : Bool} → a ≡ false → b ≡ alike word qcif_word → b ≡ false → c ≡ alike word cif_word → by_tests false false c ≡ size_named word
  unfolding size_named
  names_last f g h k = λ i. by_tests ((sym f ∙ e) i) ((sym h ∙ g) i) (k i)

  pub names_cif : {b c : Bool} → a ≡ false → b ≡ alike word qcif_word → b ≡ false → c ≡ alike word cif_word → c ≡ true → Some Cif ≡ size_named word
  names_cif f g h k l = ap (λ (t : Bool). by_tests false false t) (sym l) ∙ names_last f g h k

  pub names_none : {b c : Bool} → a ≡ false → b ≡ alike word qcif_word → b ≡ false → c ≡ alike word cif_word → c ≡ false → None ≡ size_named word
  names_none f g h k l = ap (λ (t : Bool). by_tests false false t) (sym l) ∙ names_last f g h k

-- ---- a kind
module _ (word : List ℕ) where
  abbrev by_start : Bool → Option Kind
  by_start t = pick t (kind_sized H263 (size_named (drop 5 word))) (kind_sized H261 (size_named word))

  pub starts_h263 : {b : Bool} → b ≡ alike (take 5 word) h263_word → b ≡ true → kind_sized H263 (size_named (drop 5 word)) ≡ kind_named word
  unfolding kind_named
  starts_h263 e f = ap by_start (sym f ∙ e)

  pub starts_h261 : {b : Bool} → b ≡ alike (take 5 word) h263_word → b ≡ false → kind_sized H261 (size_named word) ≡ kind_named word
  unfolding kind_named
  starts_h261 e f = ap by_start (sym f ∙ e)

  -- what follows it, cut to its length
  pub rest_named : kind_sized H263 (size_named (take (length word - 5) (drop 5 word))) ≡ kind_sized H263 (size_named (drop 5 word))
  rest_named = ap (λ (l : List ℕ). kind_sized H263 (size_named l)) (take_all (length word - 5) (drop 5 word) (omega (arith, length-drop 5 word)))

  -- a word that is too short for it doesn't start with it
  pub starts_short : length word < 5 → kind_sized H261 (size_named word) ≡ kind_named word
  starts_short s = starts_h261 refl (alike_lengths (take 5 word) h263_word (λ (e : length (take 5 word) ≡ 5). omega (arith, e, length-take 5 word)))

-- ---- a number
pub clip_none : (l : List ℕ) → length l ≡ 0 → clip_named l ≡ None
unfolding clip_named
clip_none [] e = refl
clip_none (c ∷ cs) e = absurd (omega (arith, e))

pub clip_start : (l : List ℕ) → (length l ≡ 0 → ⊥) → clip_named l ≡ clip_after 0 (drop 0 l)
unfolding clip_named
clip_start [] ne = absurd (ne refl)
clip_start (c ∷ cs) ne = refl

module _ (l : List ℕ) (n i : ℕ) where
  after : i < length l → clip_after n (drop i l) ≡ pick (both (digit (get_or l i 0)) (leb (longer n (get_or l i 0)) 65535)) (clip_after (longer n (get_or l i 0)) (drop (i + 1) l)) None
  unfolding clip_after
  after h = ap (λ (x : List ℕ). clip_after n x) (drop_on l i h)

  pub clip_other : {b : Bool} → i < length l → b ≡ digit (get_or l i 0) → b ≡ false → clip_after n (drop i l) ≡ None
  clip_other {b} h e f = after h ∙ ap (λ (t : Bool). pick (both t (leb (longer n (get_or l i 0)) 65535)) (clip_after (longer n (get_or l i 0)) (drop (i + 1) l)) None) (sym e ∙ f)

  digits_then : {b : Bool} → b ≡ digit (get_or l i 0) → b ≡ true → (t : Bool) → both (digit (get_or l i 0)) t ≡ t
  digits_then e f t = ap (λ (s : Bool). both s t) (sym e ∙ f)

  pub clip_above : {b : Bool} {m : ℕ} → i < length l → b ≡ digit (get_or l i 0) → b ≡ true → m ≡ longer n (get_or l i 0) → 65535 < m → clip_after n (drop i l) ≡ None
  clip_above h e f g above =
      let past : 65535 < longer n (get_or l i 0) = omega (arith, g, above) in
      let large : leb (longer n (get_or l i 0)) 65535 ≡ false = lt-leb (longer n (get_or l i 0)) 65535 past in
      after h ∙ ap (λ (t : Bool). pick t (clip_after (longer n (get_or l i 0)) (drop (i + 1) l)) None) (digits_then e f (leb (longer n (get_or l i 0)) 65535) ∙ large)

  pub clip_more : {b : Bool} {m : ℕ} → i < length l → b ≡ digit (get_or l i 0) → b ≡ true → m ≡ longer n (get_or l i 0) → m ≤ 65535 → clip_after n (drop i l) ≡ clip_after m (drop (i + 1) l)
  clip_more h e f g small =
      let below : longer n (get_or l i 0) ≤ 65535 = omega (arith, g, small) in
      let fits : leb (longer n (get_or l i 0)) 65535 ≡ true = le-leb (longer n (get_or l i 0)) 65535 below in
      after h ∙ ap (λ (t : Bool). pick t (clip_after (longer n (get_or l i 0)) (drop (i + 1) l)) None) (digits_then e f (leb (longer n (get_or l i 0)) 65535) ∙ fits)
      ∙ ap (λ (k : ℕ). clip_after k (drop (i + 1) l)) (sym g)

  pub clip_end : length l ≤ i → clip_after n (drop i l) ≡ Some n
  unfolding clip_after
  clip_end h = ap (λ (x : List ℕ). clip_after n x) (drop_of_length-le l h)

-- a digit's character
pub digit_from : {b : Bool} (c : ℕ) → b ≡ digit c → b ≡ true → 48 ≤ c
digit_from c e f = low (leb 48 c) refl
  where
    low : (t : Bool) → leb 48 c ≡ t → 48 ≤ c
    low true g = leb-true 48 c g
    low false g = absurd (false≢true (sym (ap (λ (t : Bool). both t (leb c 57)) g) ∙ (sym e ∙ f)))
