-- The pictures that are met byte by byte are those of the stream, as far as the buffer reaches. What has gone by lags behind its bytes by the two that may begin a code: the claim is
-- made of the bytes from those two on. Assumes nothing.
use mathlib.Core.Path.{◌≡◌, refl, sym, ap, subst, ◌∙◌}
use mathlib.Core.Bool.{Bool, true, false}
use mathlib.Core.Logic.{◌⊎◌, inl, inr}
use mathlib.Core.List.{List, [], ◌∷◌, ◌++◌, map, append_assoc, append-nil}
use Prim.Native.Nat.{ℕ, suc, ◌+◌, ◌-◌, ◌/◌, ◌<◌, ◌≤◌}
use native.Mathlib.Omega.{arith}
use borrow.Author.Tests.{eqb-true}
use lib.Dec.{eqb}
use lib.ListN.{length, take, set, length-append, length-set}
use lib.Seq.{take_all, take-nil, take-append-le, take-append_seam, take-suc-set, take-take, set_out, length-take-le, append_snoc}
use Rattle.laws.specs.Choice.{pick, both, either}
use Rattle.laws.proofs.Choice.{two_of}
use Rattle.laws.proofs.Rows.{lt-or-ge}
use Rattle.h263_stream.specs.declared.Stream.{Stream}
use Rattle.h263_stream.specs.Stream.{one_more, is_code, starts_at, ends_at, begun_by, ended_by, longer_by, stream_after, beginning, kept_after, fresh_stream}
use Rattle.h263_stream.specs.Pictures.{until_code, pictures_from, Met, met_at, met_from, as_met, PicturesMet}
use Rattle.h263_stream.proofs.StreamLaws.{more_below}

-- a code's first two bytes are zeros
code_zeros : (six a b c : ℕ) → is_code six a b c ≡ true → (a ≡ 0) × (b ≡ 0)
unfolding is_code
code_zeros six a b c e =
    let two = two_of (eqb a 0) (eqb b 0) (two_of (both (eqb a 0) (eqb b 0)) (eqb (c / 4) six) e).0 in
    (eqb-true a 0 two.0, eqb-true b 0 two.1)

module _ (room : ℕ) where
  -- ---- what the buffer holds of a picture
  record Held (buffer own : List ℕ) : Type 0 where
    long : length buffer ≡ room
    holds : take (length own) buffer ≡ take room own

  held_none : (buffer : List ℕ) → length buffer ≡ room → Held buffer []
  held_none buffer l = record { long = l; holds = sym (take-nil room) }

  held_more : (buffer own : List ℕ) (b : ℕ) → Held buffer own → Held (set buffer (length own) b) (own ++ (b ∷ []))
  held_more buffer own b h = record {
    long = length-set buffer (length own) b ∙ h.long;
    holds = ap (λ (n : ℕ). take n (set buffer (length own) b)) one ∙ go (lt-or-ge (length own) room);
  }
    where
      one : length (own ++ (b ∷ [])) ≡ suc (length own)
      one = omega (arith, length-append own (b ∷ []))

      go : (length own < room) ⊎ (room ≤ length own) → take (suc (length own)) (set buffer (length own) b) ≡ take room (own ++ (b ∷ []))
      go (inl l) =
          take-suc-set buffer (length own) b (omega (arith, l, h.long))
          ∙ ap (λ (xs : List ℕ). xs ++ (b ∷ [])) (h.holds ∙ take_all room own (omega (arith, l)))
          ∙ sym (take_all room (own ++ (b ∷ [])) (omega (arith, l, one)))
      go (inr l) =
          ap (λ (xs : List ℕ). take (suc (length own)) xs) (set_out buffer (length own) b (omega (arith, l, h.long)))
          ∙ take_all (suc (length own)) buffer (omega (arith, l, h.long))
          ∙ sym (take_all (length own) buffer (omega (arith, l, h.long)))
          ∙ h.holds ∙ sym (take-append-le room own (b ∷ []) l)

  held_first : (buffer own more : List ℕ) → Held buffer (own ++ more) → take (length own) buffer ≡ take room own
  held_first buffer own more h = sym (take-take (length own) (length (own ++ more)) buffer short) ∙ ap (λ (xs : List ℕ). take (length own) xs) h.holds ∙ go (lt-or-ge (length own) room)
    where
      short : length own ≤ length (own ++ more)
      short = omega (arith, length-append own more)

      go : (length own < room) ⊎ (room ≤ length own) → take (length own) (take room (own ++ more)) ≡ take room own
      go (inl l) =
          take-take (length own) room (own ++ more) (omega (arith, l)) ∙ take-append_seam own more ∙ sym (take_all room own (omega (arith, l)))
      go (inr l) =
          ap (λ (xs : List ℕ). take (length own) xs) (take-append-le room own more l)
          ∙ take_all (length own) (take room own) (omega (arith, length-take-le room own l, l))

  held_begun : (buffer : List ℕ) (a b c : ℕ) → length buffer ≡ room → a ≡ 0 → b ≡ 0 → Held (beginning c buffer) (a ∷ b ∷ c ∷ [])
  held_begun buffer a b c l e f =
      subst (λ (x : ℕ). Held (beginning c buffer) (x ∷ b ∷ c ∷ [])) (sym e)
      (subst (λ (x : ℕ). Held (beginning c buffer) (0 ∷ x ∷ c ∷ [])) (sym f)
      (held_more (set (set buffer 0 0) 1 0) (0 ∷ 0 ∷ []) c (held_more (set buffer 0 0) (0 ∷ []) 0 (held_more buffer [] 0 (held_none buffer l)))))

  -- ---- what has gone by, two bytes ahead of `at`, with so many bytes to come
  record Placed (s : Stream) (at coming : ℕ) : Type 0 where
    placed : s.place ≡ at + 2
    few : at + 2 + coming < 18446744073709551616

  record Opened (s : Stream) (buffer own : List ℕ) (at coming : ℕ) : Type 0 where
    place : Placed s at coming
    going : s.ongoing ≡ true
    counted : s.count ≡ length own + 2
    low : length own ≤ at
    held : Held buffer (own ++ (s.older ∷ s.last ∷ []))

  record Closed (s : Stream) (buffer : List ℕ) (at coming : ℕ) : Type 0 where
    place : Placed s at coming
    going : s.ongoing ≡ false
    long : length buffer ≡ room

  abbrev stretch : ℕ → List ℕ → Met
  stretch offset own = as_met room (record { offset = offset; bytes = own })

  abbrev met_of : ℕ → List ℕ → List Met
  met_of at bytes = map (as_met room) (pictures_from at bytes)

  record Both (bytes : List ℕ) : Type 0 where
    opened : (s : Stream) (buffer own : List ℕ) (at : ℕ) → Opened s buffer own at (length bytes)
        → met_from s buffer bytes ≡ stretch s.offset (own ++ until_code (s.older ∷ s.last ∷ bytes)) ∷ met_of at (s.older ∷ s.last ∷ bytes)
    closed : (s : Stream) (buffer : List ℕ) (at : ℕ) → Closed s buffer at (length bytes) → met_from s buffer bytes ≡ met_of at (s.older ∷ s.last ∷ bytes)

  -- a picture that ends
  met_whole : (s : Stream) (buffer own : List ℕ) {count : ℕ} → count ≡ length own → take (length own) buffer ≡ take room own → met_at s count buffer ≡ stretch s.offset own
  met_whole s buffer own c h = λ i. record { offset = s.offset; count = c i; held = (ap (λ (n : ℕ). take n buffer) c ∙ h) i }

  -- ---- the stream's end
  at_end : Both []
  at_end = record { opened = λ s buffer own at o. open_end s buffer own at o; closed = λ s buffer at o. ap (λ (g : Bool). pick g (met_at s s.count buffer ∷ []) []) o.going }
    where
      open_end : (s : Stream) (buffer own : List ℕ) (at : ℕ) → Opened s buffer own at 0
          → met_from s buffer [] ≡ stretch s.offset (own ++ (s.older ∷ s.last ∷ [])) ∷ []
      open_end s buffer own at o =
          let all = own ++ (s.older ∷ s.last ∷ []) in
          let long : s.count ≡ length all = omega (arith, o.counted, length-append own (s.older ∷ s.last ∷ [])) in
          ap (λ (g : Bool). pick g (met_at s s.count buffer ∷ []) []) o.going
          ∙ ap (λ (m : Met). m ∷ []) (met_whole s buffer all long o.held.holds)

  -- ---- a byte more
  module _ (b : ℕ) (bytes : List ℕ) (on : Both bytes) (s : Stream) (buffer : List ℕ) (at : ℕ) (p : Placed s at (suc (length bytes))) where
    next_place : one_more s.place ≡ at + 1 + 2
    next_place = sym (more_below s.place (omega (arith, p.placed, p.few))) ∙ omega (arith, p.placed)

    next_few : at + 1 + 2 + length bytes < 18446744073709551616
    next_few = omega (arith, p.few)

    abbrev after : List ℕ
    after = s.last ∷ b ∷ bytes

    -- it completes a start code
    on_start : length buffer ≡ room → starts_at s b ≡ true
        → met_from (begun_by s b) (beginning b buffer) bytes ≡ stretch at (s.older ∷ until_code after) ∷ met_of (at + 1) after
    on_start l e =
        let zeros = code_zeros 32 s.older s.last b e in
        let offset : s.place - 2 ≡ at = omega (arith, p.placed) in
        on.opened (begun_by s b) (beginning b buffer) (s.older ∷ []) (at + 1) (record {
          place = record { placed = next_place; few = next_few };
          going = refl;
          counted = refl;
          low = omega arith;
          held = held_begun buffer s.older s.last b l zeros.0 zeros.1;
        })
        ∙ ap (λ (o : ℕ). stretch o (s.older ∷ until_code after) ∷ met_of (at + 1) after) offset

    -- it leaves no picture open
    on_closed : (t : Stream) (left : List ℕ) → t.place ≡ one_more s.place → t.older ≡ s.last → t.last ≡ b → t.ongoing ≡ false → length left ≡ room
        → met_from t left bytes ≡ met_of (at + 1) after
    on_closed t left q e f g l =
        on.closed t left (at + 1) (record { place = record { placed = q ∙ next_place; few = next_few }; going = g; long = l })
        ∙ (λ i. met_of (at + 1) (e i ∷ f i ∷ bytes))

    abbrev state_by : Bool → Bool → Stream
    state_by x y = pick x (begun_by s b) (pick y (ended_by s b) (longer_by s b))

    abbrev kept_by : Bool → Bool → List ℕ
    kept_by x y = pick x (beginning b buffer) (pick y buffer (set buffer s.count b))

    abbrev met_by : Bool → Bool → Bool → List Met
    met_by g x y =
        pick (both g (either x y)) (met_at s (s.count - 2) buffer ∷ met_from (state_by x y) (kept_by x y) bytes) (met_from (state_by x y) (kept_by x y) bytes)

    abbrev later_by : Bool → List Met
    later_by x = map (as_met room) (pick x (record { offset = at; bytes = s.older ∷ until_code after } ∷ pictures_from (at + 1) after) (pictures_from (at + 1) after))

    met_by_lem : (g x y : Bool) → s.ongoing ≡ g → starts_at s b ≡ x → ends_at s b ≡ y → met_from s buffer (b ∷ bytes) ≡ met_by g x y
    unfolding stream_after kept_after
    met_by_lem g x y h e f = λ i. met_by (h i) (e i) (f i)

    closed_on : s.ongoing ≡ false → length buffer ≡ room → (x y : Bool) → starts_at s b ≡ x → ends_at s b ≡ y → met_by false x y ≡ later_by x
    closed_on g l true y e f = on_start l e
    closed_on g l false true e f = on_closed (ended_by s b) buffer refl refl refl refl l
    closed_on g l false false e f = on_closed (longer_by s b) (set buffer s.count b) refl refl refl g (length-set buffer s.count b ∙ l)

    module _ (own : List ℕ) (o : Opened s buffer own at (suc (length bytes))) where
      -- the picture ends before this code
      whole : met_at s (s.count - 2) buffer ≡ stretch s.offset (own ++ [])
      whole =
          let less : s.count - 2 ≡ length own = omega (arith, o.counted) in
          met_whole s buffer own less (held_first buffer own (s.older ∷ s.last ∷ []) o.held) ∙ ap (λ (xs : List ℕ). stretch s.offset xs) (sym (append-nil own))

      -- it goes on
      goes : met_from (longer_by s b) (set buffer s.count b) bytes ≡ stretch s.offset (own ++ (s.older ∷ until_code after)) ∷ met_of (at + 1) after
      goes =
          on.opened (longer_by s b) (set buffer s.count b) (own ++ (s.older ∷ [])) (at + 1) (record {
            place = record { placed = next_place; few = next_few };
            going = o.going;
            counted = sym (more_below s.count (omega (arith, o.counted, o.low, p.few))) ∙ omega (arith, o.counted, longer);
            low = omega (arith, o.low, longer);
            held = held_longer;
          })
          ∙ ap (λ (xs : List ℕ). stretch s.offset xs ∷ met_of (at + 1) after) (append_snoc own s.older (until_code after))
        where
          longer : length (own ++ (s.older ∷ [])) ≡ length own + 1
          longer = length-append own (s.older ∷ [])

          count_is : length (own ++ (s.older ∷ s.last ∷ [])) ≡ s.count
          count_is = omega (arith, length-append own (s.older ∷ s.last ∷ []), o.counted)

          same : own ++ (s.older ∷ s.last ∷ []) ++ (b ∷ []) ≡ own ++ (s.older ∷ []) ++ (s.last ∷ b ∷ [])
          same = append_assoc own (s.older ∷ s.last ∷ []) (b ∷ []) ∙ sym (append_snoc own s.older (s.last ∷ b ∷ []))

          held_longer : Held (set buffer s.count b) (own ++ (s.older ∷ []) ++ (s.last ∷ b ∷ []))
          held_longer =
              subst (λ (xs : List ℕ). Held (set buffer s.count b) xs) same
              (subst (λ (n : ℕ). Held (set buffer n b) (own ++ (s.older ∷ s.last ∷ []) ++ (b ∷ []))) count_is (held_more buffer (own ++ (s.older ∷ s.last ∷ [])) b o.held))

      open_on : (x y : Bool) → starts_at s b ≡ x → ends_at s b ≡ y → met_by true x y ≡ stretch s.offset (own ++ pick (either x y) [] (s.older ∷ until_code after)) ∷ later_by x
      open_on true y e f = λ i. whole i ∷ on_start o.held.long e i
      open_on false true e f = λ i. whole i ∷ on_closed (ended_by s b) buffer refl refl refl refl o.held.long i
      open_on false false e f = goes

  turn : (b : ℕ) (bytes : List ℕ) → Both bytes → Both (b ∷ bytes)
  turn b bytes on = record {
    opened = λ s buffer own at o.
        met_by_lem b bytes on s buffer at o.place true (starts_at s b) (ends_at s b) o.going refl refl
        ∙ open_on b bytes on s buffer at o.place own o (starts_at s b) (ends_at s b) refl refl;
    closed = λ s buffer at o.
        met_by_lem b bytes on s buffer at o.place false (starts_at s b) (ends_at s b) o.going refl refl
        ∙ closed_on b bytes on s buffer at o.place o.going o.long (starts_at s b) (ends_at s b) refl refl;
  }

  all_met : (bytes : List ℕ) → Both bytes
  all_met [] = at_end
  all_met (b ∷ bytes) = turn b bytes (all_met bytes)

-- ---- a whole stream: before its first two bytes no zero has been seen
pub pictures_met : PicturesMet
unfolding is_code stream_after kept_after
pictures_met [] picture few = refl
pictures_met (x ∷ []) picture few = refl
pictures_met (x ∷ y ∷ bytes) picture few =
    (all_met (length picture) bytes).closed (longer_by (longer_by fresh_stream x) y) (set (set picture 0 x) 1 y) 0 (record {
      place = record { placed = refl; few = omega (arith, few) };
      going = refl;
      long = length-set (set picture 0 x) 1 y ∙ length-set picture 0 x;
    })
