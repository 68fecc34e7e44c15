-- A logic of reads beside the same reads with more bits after them, by a rule for each word that a grammar is written with. Assumes nothing.
-- `Steady back ending bound bound' least r r'`: r from bits, and r' from the same bits with more after them, end (with fewer than `bound` and `bound'` bits), read `least` bits or
-- more where they give a meaning, and refuse at no place before their first bit; and what r' gives is what r gave, or comes of the bits that r lacked.
use Prim.Native.Nat.{ℕ, zero, suc, ◌+◌, ◌*◌, ◌≤◌, ◌<◌, zero-le}
use mathlib.Core.Path.{◌≡◌, refl, sym, ap, subst, ◌∙◌}
use mathlib.Core.Bool.{Bool, true, false}
use mathlib.Core.List.{List, [], ◌∷◌, ◌++◌}
use mathlib.Core.Logic.{◌⊎◌, inl, inr}
use native.Mathlib.Omega.{arith}
use native.Mathlib.Nat.{le_refl, not-suc-le-zero}
use lib.Dec.{T}
use lib.ListN.{length, length-append}
use Rattle.refusals.specs.declared.Reason.{Reason}
use Rattle.refusals.specs.declared.Refusal.{Refusal}
use Rattle.refusals.specs.Number.{number}
use Rattle.bits.specs.Bits.{Bit, num}
use Rattle.bits.specs.Places.{plain}
use Rattle.bits.specs.Read.{Read, got, refused, endless, bad, Reader, next, ◌>>=◌, done, field_from, field, Judged, fine, against, settle, judged_read, moved_read, whole, or_end, loop}
use Rattle.bits.proofs.Logic.{Took}
use Rattle.layout.specs.Proper.{If}
use Rattle.order.specs.Order.{bits_end}

-- ---- one read
-- 3 may be placed at the end, another refusal before it
abbrev pub Low : Bool → ℕ → ℕ → Type 0
Low true place end = place ≤ end
Low false place end = place < end

low_both : (b : Bool) (place end : ℕ) → place < end → Low b place end
low_both true place end l = omega arith
low_both false place end l = l

low_less : (b : Bool) (place other end : ℕ) → other ≤ place → Low b place end → Low b other end
low_less true place other end l h = omega arith
low_less false place other end l h = omega arith

low_as : (b : Bool) (place end other : ℕ) → end ≡ other → Low b place end → Low b place other
low_as b place end other e h = subst (λ (n : ℕ). Low b place n) e h

-- from these bits at this place: `least` bits or more are taken, or the refusal is at one of the places from there on
abbrev pub Moved : {A : Type 0} → ℕ → List Bit → ℕ → Read A → Type 0
Moved least bs at (got a left p) = Took least bs at left p
Moved least bs at (refused why) = (at ≤ why.place) × Low (bits_end why.reason) why.place (at + length bs)
Moved least bs at endless = ⊥

-- nothing is given from before q
abbrev pub From : {A : Type 0} → (Reason → ℕ) → ℕ → Read A → Type 0
From back q (got a left p) = q ≤ p
From back q (refused why) = q ≤ why.place + back why.reason
From back q endless = Unit {0}

-- what is given from bits, beside what is given once more bits follow; where it is `ending`, the end of the bits may have been the end of what was read
abbrev pub Grown : {A : Type 0} → (Reason → ℕ) → Bool → List Bit → Read A → Read A → Type 0
Grown back ending more (got a left p) y = (y ≡ got a (left ++ more) p) ⊎ (T ending × ((left ≡ []) × From back p y))
Grown back ending more (refused why) y = If (bits_end why.reason) (From back why.place y) (y ≡ refused why)
Grown back ending more endless y = Unit {0}

pub record Moves {A : Type 0} (bound least : ℕ) (r : Reader A) : Type 0 where
  pub moves : (bs : List Bit) (at : ℕ) → length bs < bound → Moved least bs at (r bs at)

pub record Steady {A : Type 0} (back : Reason → ℕ) (ending : Bool) (bound bound' least : ℕ) (r r' : Reader A) : Type 0 where
  pub here : Moves bound least r
  pub there : Moves bound' least r'
  pub grows : (bs more : List Bit) (at : ℕ) → length bs < bound → length (bs ++ more) < bound' → Grown back ending more (r bs at) (r' (bs ++ more) at)

-- ---- less may be said
moved_weaker : {A : Type 0} (least less : ℕ) (bs : List Bit) (at : ℕ) (x : Read A) → less ≤ least → Moved least bs at x → Moved less bs at x
moved_weaker least less bs at (got a left p) l h = record { end = h.end; onward = omega (arith, h.onward) }
moved_weaker least less bs at (refused why) l h = h
moved_weaker least less bs at endless l h = h

pub moves_weaker : {A : Type 0} {bound least less : ℕ} {r : Reader A} → less ≤ least → Moves bound least r → Moves bound less r
moves_weaker {least = least} {less} {r} l h = record { moves = λ bs at b. moved_weaker least less bs at (r bs at) l (h.moves bs at b) }

moved_from : {A : Type 0} (back : Reason → ℕ) (q least : ℕ) (bs : List Bit) (at : ℕ) (x : Read A) → q ≤ at → Moved least bs at x → From back q x
moved_from back q least bs at (got a left p) l h = omega (arith, h.onward)
moved_from back q least bs at (refused why) l h = omega (arith, h.0)
moved_from back q least bs at endless l h = tt

from_weaker : {A : Type 0} (back : Reason → ℕ) (q p : ℕ) (y : Read A) → q ≤ p → From back p y → From back q y
from_weaker back q p (got a left end) l h = omega arith
from_weaker back q p (refused why) l h = omega arith
from_weaker back q p endless l h = tt

module _ {A : Type 0} {back : Reason → ℕ} {ending : Bool} {bound bound' least : ℕ} {r r' : Reader A} where
  pub steady_any : Steady back ending bound bound' least r r' → Steady back ending bound bound' 0 r r'
  steady_any h = record { here = moves_weaker zero-le h.here; there = moves_weaker zero-le h.there; grows = h.grows }

opened : {A : Type 0} (back : Reason → ℕ) (ending : Bool) (more : List Bit) (x y : Read A) → Grown back false more x y → Grown back ending more x y
opened back ending more (got a left p) y (inl e) = inl e
opened back ending more (got a left p) y (inr h) = absurd h.0
opened back ending more (refused why) y h = h
opened back ending more endless y h = tt

pub steady_open : {A : Type 0} {back : Reason → ℕ} {ending : Bool} {bound bound' least : ℕ} {r r' : Reader A}
    → Steady back false bound bound' least r r' → Steady back ending bound bound' least r r'
steady_open {back = back} {ending} {r = r} {r'} h =
    record { here = h.here; there = h.there; grows = λ bs more at l l'. opened back ending more (r bs at) (r' (bs ++ more) at) (h.grows bs more at l l') }

-- ---- nothing is read
took_none : (bs : List Bit) (at : ℕ) → Took 0 bs at bs at
took_none bs at = record { end = refl; onward = omega arith }

pub moves_done : {A : Type 0} {bound : ℕ} {a : A} → Moves bound 0 (done a)
moves_done = record { moves = λ bs at b. took_none bs at }

pub steady_done : {A : Type 0} {back : Reason → ℕ} {ending : Bool} {bound bound' : ℕ} {a : A} → Steady back ending bound bound' 0 (done a) (done a)
steady_done = record { here = moves_done; there = moves_done; grows = λ bs more at l l'. inl refl }

pub moves_never : {A : Type 0} {least : ℕ} {r : Reader A} → Moves 0 least r
moves_never = record { moves = λ bs at b. absurd (not-suc-le-zero b) }

-- ---- the one read, and from where it ended the other
onwards : {A : Type 0} (least more : ℕ) (bs left : List Bit) (at p : ℕ) (x : Read A) → Took least bs at left p → Moved more left p x → Moved least bs at x
onwards least more bs left at p (got a rest q) t h = record { end = h.end ∙ t.end; onward = omega (arith, t.onward, h.onward) }
onwards least more bs left at p (refused why) t h =
    (omega (arith, t.onward, h.0), low_as (bits_end why.reason) why.place (p + length left) (at + length bs) t.end h.1)
onwards least more bs left at p endless t h = h

moved_next : {A B : Type 0} (k : A → Reader B) (least more : ℕ) (bs : List Bit) (at : ℕ) (x : Read A) → Moved least bs at x
    → ((a : A) (left : List Bit) (p : ℕ) → Took least bs at left p → Moved more left p (k a left p)) → Moved least bs at (next x k)
moved_next k least more bs at (got a left p) t f = onwards least more bs left at p (k a left p) t (f a left p t)
moved_next k least more bs at (refused why) t f = t
moved_next k least more bs at endless t f = t

from_next : {A B : Type 0} (k : A → Reader B) (back : Reason → ℕ) (q least more : ℕ) (bs : List Bit) (at : ℕ) (y : Read A) → Moved least bs at y
    → ((a : A) (left : List Bit) (p : ℕ) → Took least bs at left p → Moved more left p (k a left p)) → From back q y → From back q (next y k)
from_next k back q least more bs at (got a left p) t f h = moved_from back q more left p (k a left p) h (f a left p t)
from_next k back q least more bs at (refused why) t f h = h
from_next k back q least more bs at endless t f h = absurd t

fewer : (least bound : ℕ) (bs left : List Bit) (at p : ℕ) → Took least bs at left p → length bs < bound → length left + least < bound
fewer least bound bs left at p t b = omega (arith, t.end, t.onward)

fewer_more : (least bound : ℕ) (bs left more : List Bit) (at p : ℕ) → Took least bs at left p → length (bs ++ more) < bound → length (left ++ more) + least < bound
fewer_more least bound bs left more at p t b = omega (arith, t.end, t.onward, length-append bs more, length-append left more)

pub moves_bind : {A B : Type 0} {bound rest least more : ℕ} {r : Reader A} {k : A → Reader B} → ((n : ℕ) → n + least < bound → n < rest)
    → Moves bound least r → ((a : A) → Moves rest more (k a)) → Moves bound least (r >>= k)
moves_bind {bound = bound} {least = least} {more} {r} {k} shorter h f = record {
  moves =
      λ bs at b.
      moved_next k least more bs at (r bs at) (h.moves bs at b) (λ a left p t. (f a).moves left p (shorter (length left) (fewer least bound bs left at p t b)));
}

-- with no bits left, what comes is placed there
no_bits : (l : List Bit) → length l ≡ 0 → l ≡ []
no_bits [] e = refl
no_bits (b ∷ l) e = absurd (omega arith)

at_end : {A : Type 0} (back : Reason → ℕ) (ending : Bool) (more : List Bit) (least : ℕ) (left : List Bit) (p : ℕ) (z y : Read A)
    → T ending → length left ≡ 0 → Moved least left p z → From back p y → Grown back ending more z y
at_end back ending more least left p (got b rest q) y o none t h =
    inr (o, (no_bits rest (omega (arith, t.end, t.onward)), from_weaker back q p y (omega (arith, t.end)) h))
at_end {A} back ending more least left p (refused why) y o none t h = only (bits_end why.reason) t.1
  where
    only : (b : Bool) → Low b why.place (p + length left) → If b (From back why.place y) (y ≡ refused why)
    only true l = from_weaker back why.place p y (omega arith) h
    only false l = absurd (omega (arith, t.0))
at_end back ending more least left p endless y o none t h = tt

module _ {A B : Type 0} {back : Reason → ℕ} {ending : Bool} {bound bound' rest rest' least least' : ℕ} {r r' : Reader A} {k k' : A → Reader B}
    (shorter : (n : ℕ) → n + least < bound → n < rest) (shorter' : (n : ℕ) → n + least < bound' → n < rest')
    (h : Steady back ending bound bound' least r r') (f : (a : A) → Steady back ending rest rest' least' (k a) (k' a)) where
  module _ (bs more : List Bit) (at : ℕ) (l : length bs < bound) (l' : length (bs ++ more) < bound') where
    going : (y : Read A) → Moved least (bs ++ more) at y → (q : ℕ) → From back q y → From back q (next y k')
    going y u q g =
        from_next k' back q least least' (bs ++ more) at y u (λ a left p t. (f a).there.moves left p (shorter' (length left) (fewer least bound' (bs ++ more) left at p t l'))) g

    refusing : (why : Refusal) (y : Read A) → Moved least (bs ++ more) at y → (b : Bool) → If b (From back why.place y) (y ≡ refused why)
        → If b (From back why.place (next y k')) (next y k' ≡ refused why)
    refusing why y u true g = going y u why.place g
    refusing why y u false g = ap (λ (z : Read A). next z k') g

    grown_next : (x y : Read A) → Moved least bs at x → Moved least (bs ++ more) at y → Grown back ending more x y → Grown back ending more (next x k) (next y k')
    grown_next (got a left p) y t u (inl e) =
        subst (λ (z : Read A). Grown back ending more (k a left p) (next z k')) (sym e)
        ((f a).grows left more p (shorter (length left) (fewer least bound bs left at p t l)) (shorter' (length (left ++ more)) (fewer_more least bound' bs left more at p t l')))
    grown_next (got a left p) y t u (inr g) =
        at_end back ending more least' left p (k a left p) (next y k') g.0 (ap length g.1.0) ((f a).here.moves left p (shorter (length left) (fewer least bound bs left at p t l)))
        (going y u p g.1.1)
    grown_next (refused why) y t u g = refusing why y u (bits_end why.reason) g
    grown_next endless y t u g = absurd t

  pub steady_bind : Steady back ending bound bound' least (r >>= k) (r' >>= k')
  steady_bind = record {
    here = moves_bind shorter h.here (λ a. (f a).here);
    there = moves_bind shorter' h.there (λ a. (f a).there);
    grows = λ bs more at l l'. grown_next bs more at l l' (r bs at) (r' (bs ++ more) at) (h.here.moves bs at l) (h.there.moves (bs ++ more) at l') (h.grows bs more at l l');
  }

pub steady_then : {A B : Type 0} {back : Reason → ℕ} {ending : Bool} {bound bound' least least' : ℕ} {r r' : Reader A} {k k' : A → Reader B}
    → Steady back ending bound bound' least r r' → ((a : A) → Steady back ending bound bound' least' (k a) (k' a)) → Steady back ending bound bound' least (r >>= k) (r' >>= k')
steady_then {bound = bound} {bound'} {least} h f = steady_bind (λ n l. omega arith) (λ n l. omega arith) h f

-- what is made of what was read
pub steady_map : {A B : Type 0} {back : Reason → ℕ} {ending : Bool} {bound bound' least : ℕ} {r r' : Reader A} (f : A → B)
    → Steady back ending bound bound' least r r' → Steady back ending bound bound' least (r >>= λ a. done (f a)) (r' >>= λ a. done (f a))
steady_map f h = steady_then h (λ a. steady_done)

-- a turn of a loop: a bit at least is read, so that the next has one bit fewer and one turn fewer
pub moves_turn : {A B : Type 0} {bound least' : ℕ} {r : Reader A} {k : A → Reader B} → Moves (suc bound) 1 r → ((a : A) → Moves bound least' (k a)) → Moves (suc bound) 1 (r >>= k)
moves_turn {bound = bound} h f = moves_bind (λ n l. omega arith) h f

pub steady_turn : {A B : Type 0} {back : Reason → ℕ} {ending : Bool} {bound bound' least' : ℕ} {r : Reader A} {k k' : A → Reader B}
    → Steady back ending (suc bound) (suc bound') 1 r r → ((a : A) → Steady back ending bound bound' least' (k a) (k' a)) → Steady back ending (suc bound) (suc bound') 1 (r >>= k) (r >>= k')
steady_turn {bound = bound} {bound'} h f = steady_bind (λ n l. omega arith) (λ n l. omega arith) h f

pub steady_loop : {A : Type 0} {back : Reason → ℕ} {ending : Bool} {bound bound' least : ℕ} {turn : ℕ → Reader A}
    → ((turns turns' : ℕ) → Steady back ending turns turns' least (turn turns) (turn turns')) → Steady back ending bound bound' least (loop turn) (loop turn)
steady_loop h = record {
  here = record { moves = λ bs at b. (h (suc (length bs)) (suc (length bs))).here.moves bs at (le_refl (suc (length bs))) };
  there = record { moves = λ bs at b. (h (suc (length bs)) (suc (length bs))).here.moves bs at (le_refl (suc (length bs))) };
  grows = λ bs more at l l'. (h (suc (length bs)) (suc (length (bs ++ more)))).grows bs more at (le_refl (suc (length bs))) (le_refl (suc (length (bs ++ more))));
}

-- fewer bits than none
pub steady_never : {A : Type 0} {back : Reason → ℕ} {ending : Bool} {bound' least : ℕ} {r r' : Reader A} → Moves bound' least r' → Steady back ending 0 bound' least r r'
steady_never m = record { here = moves_never; there = m; grows = λ bs more at l l'. absurd (not-suc-le-zero l) }

pub steady_none : {A : Type 0} {back : Reason → ℕ} {ending : Bool} {bound least : ℕ} {r r' : Reader A} → Moves bound least r → Steady back ending bound 0 least r r'
steady_none m = record { here = m; there = moves_never; grows = λ bs more at l l'. absurd (not-suc-le-zero l') }

-- ---- a rule's judgement
-- every refusal is placed within `reach` bits of the first
pub record Near {A : Type 0} (reach : ℕ) (r : Reader A) : Type 0 where
  pub near : (bs : List Bit) (at : ℕ) (why : Refusal) → r bs at ≡ refused why → why.place ≤ at + reach

settled : {B : Type 0} (least : ℕ) (bs left : List Bit) (at p : ℕ) (j : Judged B) → 1 ≤ least → Took least bs at left p → Moved least bs at (settle at j left p)
settled least bs left at p (fine b) some t = t
settled least bs left at p (against reason) some t = (omega arith, low_both (bits_end reason) at (at + length bs) (omega (arith, t.end, t.onward)))

again : (A : Type 0) (back : Reason → ℕ) (why : Refusal) (b : Bool) → If b (From {A = A} back why.place (refused why)) (◌≡◌ {A = Read A} (refused why) (refused why))
again A back why true = omega arith
again A back why false = refl

module _ {A B : Type 0} {back : Reason → ℕ} {bound bound' least reach : ℕ} {r : Reader A} (rule : A → Judged B) (some : 1 ≤ least) (h : Steady back false bound bound' least r r)
    (n : Near reach r) (far : (a : A) (reason : Reason) → rule a ≡ against reason → reach ≤ back reason) where
  judged_moved : (bs : List Bit) (at : ℕ) (x : Read A) → Moved least bs at x → Moved least bs at (next x (λ a. settle at (rule a)))
  judged_moved bs at (got a left p) t = settled least bs left at p (rule a) some t
  judged_moved bs at (refused why) t = t
  judged_moved bs at endless t = t

  -- the same rule of the same meaning
  same_rule : (more left : List Bit) (at p : ℕ) (j : Judged B) → Grown back false more (settle at j left p) (settle at j (left ++ more) p)
  same_rule more left at p (fine b) = inl refl
  same_rule more left at p (against reason) = again B back (record { reason = reason; place = at }) (bits_end reason)

  -- after an end of the bits
  ruled : (at q p : ℕ) (left : List Bit) (j : Judged B) → ((reason : Reason) → j ≡ against reason → reach ≤ back reason) → q ≤ p → q ≤ at + reach → From back q (settle at j left p)
  ruled at q p left (fine b) f l m = l
  ruled at q p left (against reason) f l m = omega (arith, f reason refl)

  judged_from : (at q : ℕ) (y : Read A) → q ≤ at + reach → From back q y → From back q (next y (λ a. settle at (rule a)))
  judged_from at q (got a left p) m g = ruled at q p left (rule a) (far a) g m
  judged_from at q (refused why) m g = g
  judged_from at q endless m g = tt

  judged_refusing : (at : ℕ) (why : Refusal) (y : Read A) → why.place ≤ at + reach → (b : Bool) → If b (From back why.place y) (y ≡ refused why)
      → If b (From back why.place (next y (λ a. settle at (rule a)))) (next y (λ a. settle at (rule a)) ≡ refused why)
  judged_refusing at why y m true g = judged_from at why.place y m g
  judged_refusing at why y m false g = ap (λ (z : Read A). next z (λ a. settle at (rule a))) g

  judged_grown : (bs more : List Bit) (at : ℕ) (x y : Read A) → r bs at ≡ x → Grown back false more x y → Grown back false more (next x (λ a. settle at (rule a))) (next y (λ a. settle at (rule a)))
  judged_grown bs more at (got a left p) y e (inl g) =
      subst (λ (z : Read A). Grown back false more (settle at (rule a) left p) (next z (λ a. settle at (rule a)))) (sym g) (same_rule more left at p (rule a))
  judged_grown bs more at (got a left p) y e (inr g) = absurd g.0
  judged_grown bs more at (refused why) y e g = judged_refusing at why y (n.near bs at why e) (bits_end why.reason) g
  judged_grown bs more at endless y e g = tt

  pub steady_judged : Steady back false bound bound' least (judged_read r rule) (judged_read r rule)
  steady_judged = record {
    here = record { moves = λ bs at b. judged_moved bs at (r bs at) (h.here.moves bs at b) };
    there = record { moves = λ bs at b. judged_moved bs at (r bs at) (h.there.moves bs at b) };
    grows = λ bs more at l l'. judged_grown bs more at (r bs at) (r (bs ++ more) at) refl (h.grows bs more at l l');
  }

near_settled : {B : Type 0} (reach at p : ℕ) (left : List Bit) (j : Judged B) (why : Refusal) → settle {P = plain} at j left p ≡ refused why → why.place ≤ at + reach
near_settled reach at p left (fine b) why e = absurd (let z : ◌≡◌ {A = ℕ} 0 1 = cc in omega arith)
near_settled reach at p left (against reason) why e = let q : at ≡ why.place = cc in omega arith

near_judged : {A B : Type 0} (reach at : ℕ) (x : Read A) (rule : A → Judged B) (why : Refusal) → ((w : Refusal) → x ≡ refused w → w.place ≤ at + reach)
    → next x (λ a. settle at (rule a)) ≡ refused why → why.place ≤ at + reach
near_judged reach at (got a left p) rule why f e = near_settled reach at p left (rule a) why e
near_judged reach at (refused w) rule why f e = let q : w ≡ why = cc in f why (ap refused q)
near_judged reach at endless rule why f e = absurd (let z : ◌≡◌ {A = ℕ} 0 1 = cc in omega arith)

pub judged_near : {A B : Type 0} {reach : ℕ} {r : Reader A} (rule : A → Judged B) → Near reach r → Near reach (judged_read r rule)
judged_near {reach = reach} {r} rule n = record { near = λ bs at why e. near_judged reach at (r bs at) rule why (n.near bs at) e }

-- ---- several fields that are one codeword
module _ {A : Type 0} {back : Reason → ℕ} {bound bound' least : ℕ} {r : Reader A} (h : Steady back false bound bound' least r r) where
  whole_moved : (bs : List Bit) (at : ℕ) (x : Read A) → Moved least bs at x → Moved least bs at (moved_read at x)
  whole_moved bs at (got a left p) t = t
  whole_moved bs at (refused why) t = (omega arith, low_less (bits_end why.reason) why.place at (at + length bs) t.0 t.1)
  whole_moved bs at endless t = t

  whole_from : (bs : List Bit) (at : ℕ) (y : Read A) → Moved least bs at y → From back at (moved_read at y)
  whole_from bs at (got a left p) t = omega (arith, t.onward)
  whole_from bs at (refused why) t = omega arith
  whole_from bs at endless t = tt

  whole-refusing : (bs : List Bit) (at : ℕ) (why : Refusal) (y : Read A) → Moved least bs at y → (b : Bool) → If b (From back why.place y) (y ≡ refused why)
      → If b (From back at (moved_read at y)) (moved_read at y ≡ bad why.reason at)
  whole-refusing bs at why y u true g = whole_from bs at y u
  whole-refusing bs at why y u false g = ap (moved_read at) g

  whole_grown : (bs more : List Bit) (at : ℕ) (x y : Read A) → Moved least bs at y → Grown back false more x y → Grown back false more (moved_read at x) (moved_read at y)
  whole_grown bs more at (got a left p) y u (inl e) = inl (ap (moved_read at) e)
  whole_grown bs more at (got a left p) y u (inr g) = absurd g.0
  whole_grown bs more at (refused why) y u g = whole-refusing bs at why y u (bits_end why.reason) g
  whole_grown bs more at endless y u g = tt

  pub steady_whole : Steady back false bound bound' least (whole r) (whole r)
  steady_whole = record {
    here = record { moves = λ bs at b. whole_moved bs at (r bs at) (h.here.moves bs at b) };
    there = record { moves = λ bs at b. whole_moved bs at (r bs at) (h.there.moves bs at b) };
    grows = λ bs more at l l'. whole_grown (bs ++ more) more at (r bs at) (r (bs ++ more) at) (h.there.moves (bs ++ more) at l') (h.grows bs more at l l');
  }

near_whole : {A : Type 0} (at : ℕ) (x : Read A) (why : Refusal) → moved_read {P = plain} at x ≡ refused why → why.place ≤ at + 0
near_whole at (got a left p) why e = absurd (let z : ◌≡◌ {A = ℕ} 0 1 = cc in omega arith)
near_whole at (refused w) why e = let q : at ≡ why.place = cc in omega arith
near_whole at endless why e = absurd (let z : ◌≡◌ {A = ℕ} 0 1 = cc in omega arith)

pub whole_near : {A : Type 0} (r : Reader A) → Near 0 (whole r)
whole_near r = record { near = λ bs at why e. near_whole at (r bs at) why e }

-- ---- a field
field_moved : (k j rest : ℕ) → j + rest ≡ k → (bs : List Bit) (at v : ℕ) (left : List Bit) (p : ℕ) → Took j bs at left p → Moved k bs at (field_from rest at v left p)
unfolding field_from bits_end number
field_moved k j zero e bs at v left p t = record { end = t.end; onward = omega (arith, t.onward) }
field_moved k j (suc rest) e bs at v [] p t = (omega arith, omega arith)
field_moved k j (suc rest) e bs at v (b ∷ left) p t =
    let more : Took (suc j) bs at left (p + 1) = record { end = omega (arith, t.end); onward = omega (arith, t.onward) } in
    field_moved k (suc j) rest (omega arith) bs at (v * 2 + num b) left (p + 1) more

field_from_lem : (back : Reason → ℕ) (rest at v : ℕ) (left : List Bit) (p : ℕ) → at ≤ p → From back at (field_from rest at v left p)
unfolding field_from
field_from_lem back zero at v left p l = l
field_from_lem back (suc rest) at v [] p l = omega arith
field_from_lem back (suc rest) at v (b ∷ left) p l = field_from_lem back rest at (v * 2 + num b) left (p + 1) (omega arith)

field_grown : (back : Reason → ℕ) (rest at v : ℕ) (left more : List Bit) (p : ℕ) → at ≤ p → Grown back false more (field_from rest at v left p) (field_from rest at v (left ++ more) p)
unfolding field_from bits_end number
field_grown back zero at v left more p l = inl refl
field_grown back (suc rest) at v [] more p l = field_from_lem back (suc rest) at v more p l
field_grown back (suc rest) at v (b ∷ left) more p l = field_grown back rest at (v * 2 + num b) left more (p + 1) (omega arith)

pub steady_field : {back : Reason → ℕ} {bound bound' : ℕ} (k : ℕ) → Steady back false bound bound' k (field k) (field k)
steady_field {back} k = record {
  here = record { moves = λ bs at b. field_moved k 0 k (omega arith) bs at 0 bs at (took_none bs at) };
  there = record { moves = λ bs at b. field_moved k 0 k (omega arith) bs at 0 bs at (took_none bs at) };
  grows = λ bs more at l l'. field_grown back k at 0 bs more at (omega arith);
}

near_field : (rest at v : ℕ) (left : List Bit) (p : ℕ) (why : Refusal) → field_from {P = plain} rest at v left p ≡ refused why → why.place ≤ at + 0
unfolding field_from
near_field zero at v left p why e = absurd (let z : ◌≡◌ {A = ℕ} 0 1 = cc in omega arith)
near_field (suc rest) at v [] p why e = let q : at ≡ why.place = cc in omega arith
near_field (suc rest) at v (b ∷ left) p why e = near_field rest at (v * 2 + num b) left (p + 1) why e

pub field_near : (k : ℕ) → Near 0 (field k)
field_near k = record { near = λ bs at why e. near_field k at 0 bs at why e }

-- ---- no bits left
pub moves_or_end : {A B : Type 0} {bound least : ℕ} (a : A) (r : Reader A) (k : A → Reader B) → Moves bound least (k a) → Moves bound least (r >>= k) → Moves bound least (or_end a r >>= k)
moves_or_end {bound = bound} {least} a r k e h = record { moves = from }
  where
    from : (bs : List Bit) (at : ℕ) → length bs < bound → Moved least bs at ((or_end a r >>= k) bs at)
    from [] at b = e.moves [] at b
    from (x ∷ bs) at b = h.moves (x ∷ bs) at b

pub steady_or_end : {A B : Type 0} {back : Reason → ℕ} {bound bound' least : ℕ} (a : A) (r : Reader A) (k k' : A → Reader B)
    → Steady back true bound bound' least (k a) (k' a) → Steady back true bound bound' least (r >>= k) (r >>= k') → Steady back true bound bound' least (or_end a r >>= k) (or_end a r >>= k')
steady_or_end {A} {B} {back} {bound} {bound'} {least} a r k k' e h =
    record { here = moves_or_end a r k e.here h.here; there = moves_or_end a r k' e.there h.there; grows = grown }
  where
    grown : (bs more : List Bit) (at : ℕ) → length bs < bound → length (bs ++ more) < bound' → Grown back true more ((or_end a r >>= k) bs at) ((or_end a r >>= k') (bs ++ more) at)
    grown [] [] at l l' = e.grows [] [] at l l'
    grown [] (x ∷ more) at l l' =
        at_end back true (x ∷ more) least [] at (k a [] at) ((r >>= k') (x ∷ more) at) tt refl (e.here.moves [] at l)
        (moved_from back at least (x ∷ more) at ((r >>= k') (x ∷ more) at) (le_refl at) (h.there.moves (x ∷ more) at l'))
    grown (x ∷ bs) more at l l' = h.grows (x ∷ bs) more at l l'
