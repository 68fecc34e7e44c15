-- After any bits: the last picture begins where the last start code does. Assumes nothing.
use mathlib.Core.Path.{◌≡◌, refl, sym, ap, ◌∙◌}
use mathlib.Core.Bool.{Bool, true, false}
use mathlib.Core.List.{List, [], ◌∷◌, ◌++◌, append-nil, append_assoc, nil≢cons, tail-eq_of_cons-eq}
use Prim.Native.Nat.{ℕ, zero, suc, ◌+◌, ◌-◌, ◌≤◌}
use native.Mathlib.Omega.{arith}
use lib.Dec.{lit≤}
use lib.ListN.{length, take, drop, replicate, length-append}
use lib.Seq.{append_snoc, take-append_seam, take-append-le, take-append-add, take_at, drop-append_seam}
use Rattle.laws.specs.Choice.{pick, both, alike}
use Rattle.laws.proofs.Choice.{true-false}
use Rattle.stream.specs.Last.{Last, last_one, Says, found, longer, Nowhere, or_here, before_last, none, begins, last_picture, or_first, start_code, LastSays}

-- ---- lastPicture is that
nothing_begins : begins start_code [] ≡ false
unfolding start_code
nothing_begins = refl

says_here : (b : Bool) (bits : List Bool) (t : Bool) → begins start_code (b ∷ bits) ≡ t → Nowhere bits → Says (b ∷ bits) (pick t (found [] (b ∷ bits)) none)
says_here b bits true e n = record {
  all = refl;
  starts = e;
  later = λ c rest same earlier last split. n earlier last (tail-eq_of_cons-eq same ∙ split);
}
says_here b bits false e n = go
  where
    go : Nowhere (b ∷ bits)
    go [] rest split = ap (begins start_code) (sym split) ∙ e
    go (x ∷ earlier) rest split = n earlier rest (tail-eq_of_cons-eq split)

says_more : (b : Bool) (bits : List Bool) (l : Last) → Says bits l → Says (b ∷ bits) (or_here b bits l)
says_more b bits none n = says_here b bits (begins start_code (b ∷ bits)) refl n
says_more b bits (found earlier picture) e = record {
  all = ap (λ (l : List Bool). b ∷ l) e.all;
  starts = e.starts;
  later = e.later;
}

pub last_says : LastSays
unfolding last_picture
last_says [] = go
  where
    go : Nowhere []
    go [] rest split = ap (begins start_code) (sym split) ∙ nothing_begins
    go (x ∷ earlier) rest split = absurd (nil≢cons split)
last_says (b ∷ bits) = says_more b bits (last_picture bits) (last_says bits)

-- ---- with one more bit
pub length_snoc : (bits : List Bool) (b : Bool) → length (bits ++ (b ∷ [])) ≡ suc (length bits)
length_snoc bits b = omega (arith, length-append bits (b ∷ []))

code_alone : last_picture start_code ≡ found [] start_code
unfolding last_picture start_code
code_alone = refl

pub ends_here : (earlier : List Bool) → last_picture (earlier ++ start_code) ≡ found earlier start_code
unfolding last_picture
ends_here [] = code_alone
ends_here (b ∷ earlier) = ap (or_here b (earlier ++ start_code)) (ends_here earlier)

too_short : (code : List Bool) (c b : Bool) → (b ∷ [] ≡ c ∷ code → ⊥) → both (alike c b) (begins code []) ≡ false
too_short [] true true h = absurd (h refl)
too_short [] false false h = absurd (h refl)
too_short [] true false h = refl
too_short [] false true h = refl
too_short (d ∷ code) true true h = refl
too_short (d ∷ code) false false h = refl
too_short (d ∷ code) true false h = refl
too_short (d ∷ code) false true h = refl

-- one bit more makes a difference only to the one that ends the code
begins_more : (code bits : List Bool) (b : Bool) → (bits ++ (b ∷ []) ≡ code → ⊥) → begins code (bits ++ (b ∷ [])) ≡ begins code bits
begins_more [] bits b h = refl
begins_more (c ∷ code) [] b h = too_short code c b h
begins_more (true ∷ code) (true ∷ bits) b h = begins_more code bits b (λ e. h (ap (λ (l : List Bool). true ∷ l) e))
begins_more (false ∷ code) (false ∷ bits) b h = begins_more code bits b (λ e. h (ap (λ (l : List Bool). false ∷ l) e))
begins_more (true ∷ code) (false ∷ bits) b h = refl
begins_more (false ∷ code) (true ∷ bits) b h = refl

here_more : (x : Bool) (bits : List Bool) (b : Bool) (l : Last) → begins start_code (x ∷ (bits ++ (b ∷ []))) ≡ begins start_code (x ∷ bits)
    → or_here x (bits ++ (b ∷ [])) (longer b l) ≡ longer b (or_here x bits l)
here_more x bits b (found earlier picture) e = refl
here_more x bits b none e = ap (λ (t : Bool). pick t (found [] (x ∷ (bits ++ (b ∷ [])))) none) e ∙ go (begins start_code (x ∷ bits))
  where
    go : (t : Bool) → pick t (found [] (x ∷ (bits ++ (b ∷ [])))) none ≡ longer b (pick t (found [] (x ∷ bits)) none)
    go true = refl
    go false = refl

pub goes_on : (seen : List Bool) (b : Bool) → ((earlier : List Bool) → seen ++ (b ∷ []) ≡ earlier ++ start_code → ⊥)
    → last_picture (seen ++ (b ∷ [])) ≡ longer b (last_picture seen)
unfolding last_picture
goes_on [] b h = ap (λ (t : Bool). pick t (found [] (b ∷ [])) none) (begins_more start_code [] b (h []) ∙ nothing_begins)
goes_on (x ∷ seen) b h =
    ap (or_here x (seen ++ (b ∷ []))) (goes_on seen b (λ earlier e. h (x ∷ earlier) (ap (λ (l : List Bool). x ∷ l) e)))
    ∙ here_more x seen b (last_picture seen) (begins_more start_code (x ∷ seen) b (h []))

-- ---- ones, with one more bit
pub last_one_lem : (bits : List Bool) → last_one (bits ++ (true ∷ [])) ≡ suc (length bits)
last_one_lem [] = refl
last_one_lem (b ∷ bits) = ap (or_first b) (last_one_lem bits)

pub last_zero : (bits : List Bool) → last_one (bits ++ (false ∷ [])) ≡ last_one bits
last_zero [] = refl
last_zero (b ∷ bits) = ap (or_first b) (last_zero bits)

first_le : (b : Bool) (n m : ℕ) → n ≤ m → or_first b n ≤ suc m
first_le true zero m l = omega arith
first_le false zero m l = omega arith
first_le b (suc n) m l = omega (arith, l)

last_le : (bits : List Bool) → last_one bits ≤ length bits
last_le [] = lit≤ tt
last_le (b ∷ bits) = first_le b (last_one bits) (length bits) (last_le bits)

pub before_one : (bits : List Bool) → before_last (bits ++ (true ∷ [])) ≡ last_one bits
before_one bits =
    let e : last_one (bits ++ (true ∷ [])) - 1 ≡ length bits = omega (arith, last_one_lem bits) in
    ap (λ (n : ℕ). last_one (take n (bits ++ (true ∷ [])))) e ∙ ap last_one (take-append_seam bits (true ∷ []))

pub before_zero : (bits : List Bool) → before_last (bits ++ (false ∷ [])) ≡ before_last bits
before_zero bits =
    let l : last_one bits - 1 ≤ length bits = omega (arith, last_le bits) in
    ap (λ (n : ℕ). last_one (take (n - 1) (bits ++ (false ∷ [])))) (last_zero bits) ∙ ap last_one (take-append-le (last_one bits - 1) bits (false ∷ []) l)

-- ---- the start code
pub code_length : length start_code ≡ 20
unfolding start_code
code_length = refl

pub code_last : last_one start_code ≡ 16
unfolding start_code
code_last = refl

pub code_before : before_last start_code ≡ 0
unfolding start_code
code_before = refl

-- ---- where the next start code comes in
pub begins-length : (code bits : List Bool) → begins code bits ≡ true → length code ≤ length bits
begins-length [] bits e = omega arith
begins-length (c ∷ code) [] e = absurd (true-false (sym e))
begins-length (true ∷ code) (true ∷ bits) e = omega (arith, begins-length code bits e)
begins-length (false ∷ code) (false ∷ bits) e = omega (arith, begins-length code bits e)
begins-length (true ∷ code) (false ∷ bits) e = absurd (true-false (sym e))
begins-length (false ∷ code) (true ∷ bits) e = absurd (true-false (sym e))

last_zeros : (k : ℕ) (bits : List Bool) → last_one (bits ++ replicate k false) ≡ last_one bits
last_zeros zero bits = ap last_one (append-nil bits)
last_zeros (suc k) bits = ap last_one (sym (append_snoc bits false (replicate k false))) ∙ last_zeros k (bits ++ (false ∷ [])) ∙ last_zero bits

before_zeros : (k : ℕ) (bits : List Bool) → before_last (bits ++ replicate k false) ≡ before_last bits
before_zeros zero bits = ap before_last (append-nil bits)
before_zeros (suc k) bits = ap before_last (sym (append_snoc bits false (replicate k false))) ∙ before_zeros k (bits ++ (false ∷ [])) ∙ before_zero bits

-- a start code's one is the last of all, and the picture's the one before it
pub before_code : (bits : List Bool) (j k : ℕ) → before_last (bits ++ (replicate j false ++ (true ∷ replicate k false))) ≡ last_one bits
before_code bits j k =
    ap before_last (sym (append_assoc bits (replicate j false) (true ∷ replicate k false)) ∙ sym (append_snoc (bits ++ replicate j false) true (replicate k false)))
    ∙ before_zeros k ((bits ++ replicate j false) ++ (true ∷ []))
    ∙ before_one (bits ++ replicate j false)
    ∙ last_zeros j bits

-- without its last bit
abbrev pub almost : List Bool
almost = replicate 15 false ++ (true ∷ replicate 3 false)

code_but_one : start_code ≡ almost ++ (false ∷ [])
unfolding start_code
code_but_one = refl

module _ (earlier picture next : List Bool) (b : Bool) (e : earlier ++ picture ++ (b ∷ []) ≡ next ++ start_code) (long : 20 ≤ length picture) where
  pub next_is : next ≡ earlier ++ take (length picture - 19) picture
  next_is =
      let n : length next ≡ length earlier + (length picture - 19) = omega (arith, long, ap length e, length-append (earlier ++ picture) (b ∷ []), length-append earlier picture, length-append next start_code, code_length) in
      let l : length next ≤ length (earlier ++ picture) = omega (arith, n, length-append earlier picture) in
      sym (take_at next start_code (length next) refl)
      ∙ ap (take (length next)) (sym e)
      ∙ take-append-le (length next) (earlier ++ picture) (b ∷ []) l
      ∙ ap (λ (k : ℕ). take k (earlier ++ picture)) n
      ∙ take-append-add earlier picture (length picture - 19)

  pub picture_is : picture ≡ take (length picture - 19) picture ++ almost
  picture_is =
      let whole = take (length picture - 19) picture in
      let same : earlier ++ (picture ++ (b ∷ [])) ≡ earlier ++ (whole ++ start_code) =
      sym (append_assoc earlier picture (b ∷ [])) ∙ e ∙ ap (λ (l : List Bool). l ++ start_code) next_is ∙ append_assoc earlier whole start_code in
      let tails : picture ++ (b ∷ []) ≡ (whole ++ almost) ++ (false ∷ []) =
      sym (drop-append_seam earlier (picture ++ (b ∷ []))) ∙ ap (drop (length earlier)) same ∙ drop-append_seam earlier (whole ++ start_code)
      ∙ ap (λ (l : List Bool). whole ++ l) code_but_one ∙ sym (append_assoc whole almost (false ∷ [])) in
      let n : length (whole ++ almost) ≡ length picture = omega (arith, ap length tails, length_snoc picture b, length_snoc (whole ++ almost) false) in
      sym (take_at picture (b ∷ []) (length picture) refl) ∙ ap (take (length picture)) tails ∙ take_at (whole ++ almost) (false ∷ []) (length picture) n
