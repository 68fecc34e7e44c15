-- The tick's rule, in both of document 02's words. Assumes nothing.
use mathlib.Core.Path.{◌≡◌, refl, sym, ap, ◌∙◌}
use mathlib.Core.Bool.{Bool, true, false}
use Prim.Native.Nat.{ℕ, ◌+◌, ◌-◌, ◌*◌, ◌/◌, ◌%◌, ◌≤◌, ◌<◌}
use native.Mathlib.Nat.{mod-lt, mod-eq_of_lt, mod-add-mod, add-mod-mod, add-mod_right, add-mul-mod_self_right, div-add-mod'}
use native.Mathlib.Omega.{arith}
use lib.Dec.{eqb, ltb}
use borrow.Author.Tests.{eqb-true, eqb-false, ltb-true, ltb-false}
use Rattle.laws.specs.Choice.{pick, both}
use Rattle.ticks.specs.declared.Tick.{Tick}
use Rattle.ticks.specs.Tick.{tick_number, is_exact, tick_as, counted_difference, tr_difference, tick_above, greatest_tick, cut_tick, later_tick, TickIsLeast, TickAddsDifference}

module _ (m : ℕ) (some : 1 ≤ m) where
  -- what is left of `last` to the next multiple of m takes `last` away
  taken_away : (last x : ℕ) → (last + x + (m - last % m)) % m ≡ x % m
  taken_away last x =
      let less : last % m < m = mod-lt last some in
      let parts : last / m * m + last % m ≡ last = div-add-mod' last m in
      let e : last + x + (m - last % m) ≡ x + (last / m + 1) * m = omega arith in
      ap (λ (n : ℕ). n % m) e ∙ add-mul-mod_self_right x (last / m + 1) m

  -- the difference, before 0 counts as m
  abbrev between : ℕ → ℕ → ℕ
  between last tr = (tr + (m - last % m)) % m

  between_less : (last tr : ℕ) → between last tr < m
  between_less last tr = mod-lt (tr + (m - last % m)) some

  -- it leads to a number with this TR
  between_leads : (last tr : ℕ) → (last + between last tr) % m ≡ tr % m
  between_leads last tr =
      let e : last + (tr + (m - last % m)) ≡ last + tr + (m - last % m) = omega arith in
      add-mod-mod last (tr + (m - last % m)) m ∙ ap (λ (n : ℕ). n % m) e ∙ taken_away last tr

  -- and is what leads to any such number, modulo m
  between_is : (last tr more : ℕ) → (last + more) % m ≡ tr % m → between last tr ≡ more % m
  between_is last tr more e =
      sym (mod-add-mod tr m (m - last % m)) ∙ ap (λ (n : ℕ). (n + (m - last % m)) % m) (sym e) ∙ mod-add-mod (last + more) m (m - last % m) ∙ taken_away last more

  counted_some : (d : ℕ) → d < m → (1 ≤ counted_difference m d) × (counted_difference m d ≤ m)
  counted_some d l = go (eqb d 0) refl
    where
      go : (b : Bool) → eqb d 0 ≡ b → (1 ≤ pick b m d) × (pick b m d ≤ m)
      go true e = (some, omega arith)
      go false e = let n : d ≡ 0 → ⊥ = eqb-false d 0 e in (omega (arith, n), omega arith)

  counted_leads : (last d : ℕ) → (last + counted_difference m d) % m ≡ (last + d) % m
  counted_leads last d = go (eqb d 0) refl
    where
      go : (b : Bool) → eqb d 0 ≡ b → (last + pick b m d) % m ≡ (last + d) % m
      go true e =
          let z : d ≡ 0 = eqb-true d 0 e in
          let same : last ≡ last + d = omega arith in
          add-mod_right last m ∙ ap (λ (n : ℕ). n % m) same
      go false e = refl

  -- no less than what leads to such a number
  counted_least : (d more : ℕ) → 1 ≤ more → d ≡ more % m → counted_difference m d ≤ more
  counted_least d more l e = go (ltb more m) (eqb d 0) refl refl
    where
      go : (small zeroes : Bool) → ltb more m ≡ small → eqb d 0 ≡ zeroes → pick zeroes m d ≤ more
      go true true s z = let is : d ≡ more = e ∙ mod-eq_of_lt (ltb-true more m s) in let none : d ≡ 0 = eqb-true d 0 z in absurd (omega arith)
      go true false s z = let is : d ≡ more = e ∙ mod-eq_of_lt (ltb-true more m s) in omega arith
      go false true s z = ltb-false more m s
      go false false s z = let less : more % m < m = mod-lt more some in let most : m ≤ more = ltb-false more m s in omega arith

pub tick_is_least : TickIsLeast
unfolding tick_above tr_difference
tick_is_least m last tr some =
    let d : ℕ = (tr + (m - last % m)) % m in
    let counted = counted_some m some d (between_less m some last tr) in
    record {
      above = omega (arith, counted.0);
      has_tr = counted_leads m some last d ∙ between_leads m some last tr;
      least = λ other l e.
          let split : last + (other - last) ≡ other = omega arith in
          let is : d ≡ (other - last) % m = between_is m some last tr (other - last) (ap (λ (n : ℕ). n % m) split ∙ e) in
          let most : counted_difference m d ≤ other - last = counted_least m some d (other - last) (omega arith) is in
          omega arith;
    }

pub tick_adds_difference : TickAddsDifference
unfolding tick_above tr_difference
tick_adds_difference m last before tr e = ap (λ (n : ℕ). last + counted_difference m ((tr + (m - n)) % m)) e

-- ---- what a tick's number is, and whether it is exact
pub as_number : (exact : Bool) (n : ℕ) → tick_number (tick_as exact n) ≡ n
as_number true n = refl
as_number false n = refl

pub as_exact : (exact : Bool) (n : ℕ) → is_exact (tick_as exact n) ≡ exact
as_exact true n = refl
as_exact false n = refl

pub later_number : (m before : ℕ) (last : Tick) (picture tr : ℕ) → tick_number (later_tick m before last picture tr) ≡ cut_tick (tick_above m (tick_number last) tr)
unfolding later_tick
later_number m before last picture tr = as_number (both (is_exact last) (eqb picture (before + 1))) (cut_tick (tick_above m (tick_number last) tr))

pub later_exact : (m before : ℕ) (last : Tick) (picture tr : ℕ) → is_exact (later_tick m before last picture tr) ≡ both (is_exact last) (eqb picture (before + 1))
unfolding later_tick
later_exact m before last picture tr = as_exact (both (is_exact last) (eqb picture (before + 1))) (cut_tick (tick_above m (tick_number last) tr))

-- ---- how far it goes
pub cut_same : (n : ℕ) → n ≤ greatest_tick → cut_tick n ≡ n
cut_same n l = go (ltb n greatest_tick) refl
  where
    go : (b : Bool) → ltb n greatest_tick ≡ b → pick b n greatest_tick ≡ n
    go true e = refl
    go false e = let most : greatest_tick ≤ n = ltb-false n greatest_tick e in omega arith

pub above_most : (m last tr : ℕ) → 1 ≤ m → tick_above m last tr ≤ last + m
unfolding tick_above tr_difference
above_most m last tr some = omega (arith, (counted_some m some ((tr + (m - last % m)) % m) (between_less m some last tr)).1)
