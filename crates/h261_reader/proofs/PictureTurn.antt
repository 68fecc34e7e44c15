-- The nested loops over groups and macroblocks: what holds at each turn, and each way out. Assumes nothing.
use mathlib.Core.Path.{◌≡◌, refl, sym, ap, subst, ◌∙◌}
use mathlib.Core.Bool.{Bool, true, false}
use mathlib.Core.List.{List, [], ◌∷◌}
use mathlib.Core.Logic.{◌⊎◌, inl, inr}
use Prim.Native.Nat.{ℕ, suc, ◌+◌, ◌*◌, ◌≤◌, ◌<◌}
use native.Mathlib.Omega.{arith}
use native.Mathlib.Nat.{le_antisymm}
use native.Mathlib.Numerals.{add-one}
use lib.Dec.{T, eqb}
use lib.ListN.{length, get_or, set, drop, length-set}
use Rattle.std.proofs.Common.{Option, Some, None}
use Rattle.laws.specs.Choice.{alike}
use Rattle.laws.proofs.Choice.{alike_same}
use Rattle.laws.proofs.Rows.{lt-or-ge}
use Rattle.laws.specs.Table.{all_b}
use Rattle.laws.proofs.Table.{all_at}
use Rattle.laws.proofs.Lists.{drop_on}
use Rattle.bits.specs.Bits.{Bit, bits_left}
use Rattle.bits.proofs.Value.{left_none}
use Rattle.bits.specs.Places.{counted}
use Rattle.bits.specs.Read.{ReadIn, got, refused, judged_read}
use Rattle.bits.specs.Answer.{Placed}
use Rattle.bits.specs.declared.Place.{Place}
use Rattle.bits.specs.declared.Stopped.{Stopped}
use Rattle.bits.specs.Code.{word}
use Rattle.h261_words.specs.Tables.{table1}
use Rattle.h261_words.specs.Words.{is_mc}
use Rattle.h261_groups.specs.Format.{group_count, group_numbers}
use Rattle.h261_groups.proofs.Room.{groups_listed}
use Rattle.h261_groups.specs.declared.Format.{Format}
use Rattle.h261_groups.specs.declared.Format.TheVariants.{Qcif, Cif}
use Rattle.layout.specs.Value.{Vector, zero_vector, Macroblock}
use Rattle.h261_description.specs.Vector.{Before, at_start}
use Rattle.h261_description.specs.Value.{before_next, shape}
use Rattle.layout.specs.Flat.{Flat, put_macroblocks, put_groups, flat}
use Rattle.layout.specs.Proper.{If}
use Rattle.h261_description.specs.Proper.{ProperVector}
use Rattle.layout.specs.Numbers.{is_quantiser}
use Rattle.h261_layers.specs.Answer.{KeptBehind, before_of, as_mba, as_macroblock, Sent, put_sent}
use Rattle.fields.specs.Answer.{map_read, stopped_of}
use Rattle.h261_layers.specs.declared.Behind.{Behind}
use Rattle.h261_layers.specs.declared.Mba as code
use Rattle.h261_layers.specs.declared.Mba.TheVariants.{Step, Stuffing, Ended}
use Rattle.fields.specs.declared.CountedRead.{CountedRead}
use Rattle.fields.specs.declared.CountedRead.TheVariants.{Got, Refused}
use Rattle.h261_layers.proofs.Layers.{Met, mba_reads, macroblock_reads, group_head_reads}
use Rattle.h261_layers.specs.Grammar.{Mba, step, stuffed, ended, mba_of, mba, macroblock, none, group_head, groups_read}
use Rattle.fields.proofs.Meaning.{was_got, onward}
use Rattle.fields.proofs.Told.{within_next}
use Rattle.h261_layers.proofs.MacroblockWhole.{vector_kept}
use Rattle.h261_layers.proofs.MacroblockSteps.{opened}
use Rattle.h261_reader.proofs.MacroblocksTurn.{MacroblocksSoFar, macroblocks_first, macroblocks_refused, macroblocks_ended, macroblocks_stuffed, macroblocks_inside, macroblocks_more}
use Rattle.h261_reader.proofs.GroupsTurn.{macroblocks_at, quantised, GroupsSoFar, groups_done, groups_head, groups_inside, groups_more}

-- ---- the order of groups, by one test of each format
abbrev last_of : Format → ℕ → Bool
last_of f g = alike (eqb (suc g) (group_count f)) (none (drop (suc g) (group_numbers f)))

all_last : (f : Format) → T (all_b (group_count f) (last_of f))
all_last Qcif = tt
all_last Cif = tt

module _ (f : Format) (g : ℕ) (l : g < group_count f) where
  last_is : eqb (g + 1) (group_count f) ≡ none (drop (g + 1) (group_numbers f))
  last_is =
      let e : g + 1 ≡ suc g = add-one g in
      rw e (alike_same (eqb (suc g) (group_count f)) (none (drop (suc g) (group_numbers f))) (all_at (group_count f) (last_of f) (all_last f) g l))

drop_all : (f : Format) (g : ℕ) → g ≤ group_count f → group_count f ≤ g → drop g (group_numbers f) ≡ []
drop_all f g l m = ap (λ (k : ℕ). drop k (group_numbers f)) (le_antisymm l m) ∙ none_left f
  where
    none_left : (f : Format) → drop (group_count f) (group_numbers f) ≡ []
    none_left Qcif = refl
    none_left Cif = refl

-- ---- where an MBA place leads
pub record Led (last : Bool) (address : ℕ) (s : List ℕ) (n : ℕ) (p : Place) (x : Mba) (q : Place) : Type 0 where
  pub ahead : p.bit < q.bit
  pub placed : Placed s n q
  pub met : Met last address x

module _ (address : ℕ) (s : List ℕ) (n : ℕ) (p : Place) (l : Placed s n p) (x : Mba) (q : Place) where
  word-led : (last : Bool) → judged_read {P = counted} (word table1) (mba_of last address) (bits_left s n p.bit) p ≡ got x (bits_left s n q.bit) q → Led last address s n p x q
  word-led last e =
      let o = onward s n p x q (mba_reads last address) l.within.inside e in
      record { ahead = omega (arith, o.ahead); placed = within_next s n p x q (mba_reads last address) l e; met = o.good }

  -- no bits are left
  none_left : n ≤ p.bit → mba {P = counted} true address (bits_left s n p.bit) p ≡ got x (bits_left s n q.bit) q → ◌≡◌ {A = ReadIn counted Mba} (got ended [] p) (got x (bits_left s n q.bit) q)
  unfolding mba
  none_left m e = sym (ap (λ (bs : List Bit). mba true address bs p) (left_none s n p.bit m)) ∙ e

  pub mba-led : (last : Bool) → mba {P = counted} last address (bits_left s n p.bit) p ≡ got x (bits_left s n q.bit) q → (x ≡ ended → ⊥) → Led last address s n p x q
  unfolding mba
  mba-led false e h = word-led false e
  mba-led true e h = go (lt-or-ge p.bit n)
    where
      go : (p.bit < n) ⊎ (n ≤ p.bit) → Led true address s n p x q
      go (inl m) = word-led true (opened s n address p m ∙ e)
      go (inr m) = let z = none_left m e in absurd (h (let w : ended ≡ x = cc in sym w))

  pub mba_placed : (last : Bool) → mba {P = counted} last address (bits_left s n p.bit) p ≡ got x (bits_left s n q.bit) q → Placed s n q
  unfolding mba
  mba_placed false e = (word-led false e).placed
  mba_placed true e = go (lt-or-ge p.bit n)
    where
      go : (p.bit < n) ⊎ (n ≤ p.bit) → Placed s n q
      go (inl m) = (word-led true (opened s n address p m ∙ e)).placed
      go (inr m) = let z = none_left m e in let w : p ≡ q = cc in subst (λ (y : Place). Placed s n y) w l

-- ---- inside a group
pub record InGroup (s : List ℕ) (n : ℕ) (f : Format) (last : Bool) (number g : ℕ) (head ms₀ ls₀ : List ℕ) (from : Place) (ms ls : List ℕ) (b : Behind) (p : Place) : Type 0 where
  pub placed : Placed s n p
  pub address : b.address ≤ 33
  pub kept : KeptBehind b
  pub ms_long : length ms ≡ length ms₀
  pub ls_long : length ls ≡ length ls₀
  pub so_far : MacroblocksSoFar (map_read (put_macroblocks 33 g (flat head ms₀ ls₀)) (macroblocks_at f last number (bits_left s n from.bit) from)) s n f last number g (flat head ms ls) (before_of b) p

pub group_first : (s : List ℕ) (n : ℕ) (f : Format) (last : Bool) (number g : ℕ) (head ms ls : List ℕ) (p : Place) → Placed s n p
    → InGroup s n f last number g head ms ls p ms ls (record { address = 0; horizontal = 16; vertical = 16 }) p
group_first s n f last number g head ms ls p l = record {
  placed = l;
  address = omega arith;
  kept = record { horizontally = record { low = omega arith; high = omega arith }; vertically = record { low = omega arith; high = omega arith } };
  ms_long = refl;
  ls_long = refl;
  so_far = macroblocks_first s n f last number g (flat head ms ls) at_start p;
}

module _ {s : List ℕ} {n : ℕ} {f : Format} {last : Bool} {number g : ℕ} {head ms₀ ls₀ : List ℕ} {from : Place} {ms ls : List ℕ} {b : Behind} {p : Place} (h : InGroup s n f last number g head ms₀ ls₀ from ms ls b p) where
  is_found : (r x : CountedRead code.Mba) → as_mba s n r ≡ mba last b.address (bits_left s n p.bit) p → r ≡ x → as_mba s n x ≡ mba last b.address (bits_left s n p.bit) p
  is_found r x w e = sym (ap (as_mba s n) e) ∙ w

  pub stuffing_led : (r : CountedRead code.Mba) (q : Place) → as_mba s n r ≡ mba last b.address (bits_left s n p.bit) p → r ≡ Got Stuffing q → (p.bit < q.bit) × Placed s n q
  stuffing_led r q w e = let o = mba-led b.address s n p h.placed stuffed q last (sym (is_found r (Got Stuffing q) w e)) (λ z. let y : ◌≡◌ {A = ℕ} 0 1 = cc in omega arith) in (o.ahead, o.placed)

  pub group_stuffed : (r : CountedRead code.Mba) (q : Place) → as_mba s n r ≡ mba last b.address (bits_left s n p.bit) p → r ≡ Got Stuffing q → InGroup s n f last number g head ms₀ ls₀ from ms ls b q
  group_stuffed r q w e =
      let o = stuffing_led r q w e in
      record { placed = o.1; address = h.address; kept = h.kept; ms_long = h.ms_long; ls_long = h.ls_long; so_far = macroblocks_stuffed h.so_far q (is_found r (Got Stuffing q) w e) o.0 o.1.within.inside }

  pub step-led : (r : CountedRead code.Mba) (k : ℕ) (q : Place) → as_mba s n r ≡ mba last b.address (bits_left s n p.bit) p → r ≡ Got (Step k) q → Led last b.address s n p (step k) q
  step-led r k q w e = mba-led b.address s n p h.placed (step k) q last (sym (is_found r (Got (Step k) q) w e)) (λ z. let y : ◌≡◌ {A = ℕ} 0 1 = cc in omega arith)

  module _ (r : CountedRead code.Mba) (k : ℕ) (q : Place) (w : as_mba s n r ≡ mba last b.address (bits_left s n p.bit) p) (e : r ≡ Got (Step k) q) (t : CountedRead Behind) (ms' ls' : List ℕ)
      (v : as_macroblock s n t ms' ls' ≡ map_read (put_sent g ms ls) (macroblock f number (before_of b) k (bits_left s n q.bit) q)) where
    sent_is : (c : Behind) (z : Place) → t ≡ Got c z → got (record { macroblocks = ms'; levels = ls'; before = before_of c }) (bits_left s n z.bit) z ≡ map_read {P = counted} (put_sent g ms ls) (macroblock f number (before_of b) k (bits_left s n q.bit) q)
    sent_is c z d = sym (ap (λ (y : CountedRead Behind). as_macroblock s n y ms' ls') d) ∙ v

    module _ (c : Behind) (z : Place) (d : t ≡ Got c z) where
      was : (m : Macroblock) × (macroblock {P = counted} f number (before_of b) k (bits_left s n q.bit) q ≡ got m (bits_left s n z.bit) z) × (put_sent g ms ls m ≡ record { macroblocks = ms'; levels = ls'; before = before_of c })
      was = was_got (put_sent g ms ls) (macroblock f number (before_of b) k (bits_left s n q.bit) q) (record { macroblocks = ms'; levels = ls'; before = before_of c }) (bits_left s n z.bit) z (sym (sent_is c z d))

      led : Led last b.address s n p (step k) q
      led = step-led r k q w e

      pub macroblock-led : (p.bit < z.bit) × Placed s n z
      macroblock-led =
          let o = onward s n q was.0 z (macroblock_reads f number (before_of b) k) led.placed.within.inside was.1 in
          (omega (arith, o.ahead, led.ahead), within_next s n q was.0 z (macroblock_reads f number (before_of b) k) led.placed was.1)

      left_behind : before_next was.0 ≡ before_of c
      left_behind = ap (λ (y : Sent). y.before) was.2

      pub group_more : length ms' ≡ length ms → length ls' ≡ length ls → InGroup s n f last number g head ms₀ ls₀ from ms' ls' c z
      group_more lm ll =
          let o = onward s n q was.0 z (macroblock_reads f number (before_of b) k) led.placed.within.inside was.1 in
          let a : c.address ≡ b.address + k = sym (ap (λ (y : Before). y.address) left_behind) ∙ o.good.0 in
          let pv = subst (λ (y : Vector). If (is_mc was.0.type) (ProperVector f number was.0.address y) (y ≡ zero_vector)) (ap (λ (y : Before). y.vector) left_behind) o.good.1.pointed in
          let kv = vector_kept (is_mc was.0.type) f number was.0.address c.horizontal c.vertical pv in
          record {
            placed = macroblock-led.1;
            address = omega (arith, led.met.1, a);
            kept = record { horizontally = kv.0; vertically = kv.1 };
            ms_long = lm ∙ h.ms_long;
            ls_long = ll ∙ h.ls_long;
            so_far = macroblocks_more h.so_far (is_found r (Got (Step k) q) w e) (record { macroblocks = ms'; levels = ls'; before = before_of c }) z (sent_is c z d) macroblock-led.0 macroblock-led.1.within.inside;
          }

    pub group_no_macroblock : {why : Stopped} → t ≡ Refused why → refused (stopped_of t) ≡ map_read {P = counted} (put_macroblocks 33 g (flat head ms₀ ls₀)) (macroblocks_at f last number (bits_left s n from.bit) from)
    group_no_macroblock y = macroblocks_inside h.so_far (is_found r (Got (Step k) q) w e) (stopped_of t) (no t y ∙ v)
      where
        no : {why : Stopped} (t : CountedRead Behind) → t ≡ Refused why → refused (stopped_of t) ≡ as_macroblock s n t ms' ls'
        no (Got c z) y = cc
        no (Refused r) y = refl

  pub group_no_mba : (r : CountedRead code.Mba) {why : Stopped} → as_mba s n r ≡ mba last b.address (bits_left s n p.bit) p → r ≡ Refused why → refused (stopped_of r) ≡ map_read {P = counted} (put_macroblocks 33 g (flat head ms₀ ls₀)) (macroblocks_at f last number (bits_left s n from.bit) from)
  group_no_mba r {why} w e = ap (λ (z : CountedRead code.Mba). refused (stopped_of z)) e ∙ macroblocks_refused h.so_far why (is_found r (Refused why) w e)

  pub group_ended : (r : CountedRead code.Mba) (q : Place) → as_mba s n r ≡ mba last b.address (bits_left s n p.bit) p → r ≡ Got Ended q
      → (got (flat head ms ls) (bits_left s n q.bit) q ≡ map_read {P = counted} (put_macroblocks 33 g (flat head ms₀ ls₀)) (macroblocks_at f last number (bits_left s n from.bit) from)) × Placed s n q
  group_ended r q w e =
      (macroblocks_ended h.so_far q (is_found r (Got Ended q) w e), mba_placed b.address s n p h.placed ended q last (sym (is_found r (Got Ended q) w e)))

-- ---- between groups
-- all groups, laid out over what the buffers hold
abbrev pub groups_laid : Format → List ℕ → ℕ → Place → Flat → ReadIn counted Flat
groups_laid f s n at d = map_read (put_groups (shape f) 0 d) (groups_read f (group_numbers f) (bits_left s n at.bit) at)

pub record PictureSoFar (start : ReadIn counted Flat) (s : List ℕ) (n : ℕ) (f : Format) (head ms ls : List ℕ) (g : ℕ) (p : Place) : Type 0 where
  pub placed : Placed s n p
  pub most : g ≤ group_count f
  pub head_long : length head ≡ 3 + group_count f
  pub ms_long : length ms ≡ group_count f * 132
  pub ls_long : length ls ≡ group_count f * 12672
  pub same : GroupsSoFar start s n f (drop g (group_numbers f)) (flat head ms ls) g p

pub picture_first : (s : List ℕ) (n : ℕ) (f : Format) (head ms ls : List ℕ) (p : Place) → Placed s n p → length head ≡ 3 + group_count f → length ms ≡ group_count f * 132 → length ls ≡ group_count f * 12672
    → PictureSoFar (groups_laid f s n p (flat head ms ls)) s n f head ms ls 0 p
picture_first s n f head ms ls p l a b c = record { placed = l; most = omega arith; head_long = a; ms_long = b; ls_long = c; same = record { same = refl } }

module _ {start : ReadIn counted Flat} {s : List ℕ} {n : ℕ} {f : Format} {head ms ls : List ℕ} {g : ℕ} {p : Place} (h : PictureSoFar start s n f head ms ls g p) where
  pub picture_done : group_count f ≤ g → got (flat head ms ls) (bits_left s n p.bit) p ≡ start
  picture_done l = groups_done (subst (λ (xs : List ℕ). GroupsSoFar start s n f xs (flat head ms ls) g p) (drop_all f g h.most l) h.same)

  module _ (l : g < group_count f) where
    on : GroupsSoFar start s n f (get_or (group_numbers f) g 0 ∷ drop (g + 1) (group_numbers f)) (flat head ms ls) g p
    on = subst (λ (xs : List ℕ). GroupsSoFar start s n f xs (flat head ms ls) g p) (drop_on (group_numbers f) g (omega (arith, l, groups_listed f))) h.same

    pub picture_no_head : (number : ℕ) (r : Stopped) → number ≡ get_or (group_numbers f) g 0 → group_head {P = counted} number (bits_left s n p.bit) p ≡ refused r → refused r ≡ start
    picture_no_head number r e d = groups_head on r (sym d ∙ ap (λ (k : ℕ). group_head k (bits_left s n p.bit) p) e)

    module _ (number gquant : ℕ) (q : Place) (e : number ≡ get_or (group_numbers f) g 0) (d : group_head {P = counted} number (bits_left s n p.bit) p ≡ got gquant (bits_left s n q.bit) q) where
      pub head_led : Placed s n q × T (is_quantiser gquant)
      head_led = (within_next s n p gquant q (group_head_reads number) h.placed d, (onward s n p gquant q (group_head_reads number) h.placed.within.inside d).good)

      head_is : got gquant (bits_left s n q.bit) q ≡ group_head {P = counted} (get_or (group_numbers f) g 0) (bits_left s n p.bit) p
      head_is = sym d ∙ ap (λ (k : ℕ). group_head k (bits_left s n p.bit) p) e

      inner_is : (x : ReadIn counted Flat) → x ≡ map_read (put_macroblocks 33 g (flat (set head (3 + g) gquant) ms ls)) (macroblocks_at f (eqb (g + 1) (group_count f)) number (bits_left s n q.bit) q)
          → x ≡ map_read (put_macroblocks 33 g (quantised g (flat head ms ls) gquant)) (macroblocks_at f (none (drop (g + 1) (group_numbers f))) (get_or (group_numbers f) g 0) (bits_left s n q.bit) q)
      inner_is x w = w ∙ (λ i. map_read (put_macroblocks 33 g (flat (set head (3 + g) gquant) ms ls)) (macroblocks_at f (last_is f g l i) (e i) (bits_left s n q.bit) q))

      pub picture_inside : (r : Stopped) → refused r ≡ map_read {P = counted} (put_macroblocks 33 g (flat (set head (3 + g) gquant) ms ls)) (macroblocks_at f (eqb (g + 1) (group_count f)) number (bits_left s n q.bit) q) → refused r ≡ start
      picture_inside r w = groups_inside on head_is r (inner_is (refused r) w)

      pub picture_more : (ms' ls' : List ℕ) (z : Place) → length ms' ≡ length ms → length ls' ≡ length ls → Placed s n z
          → got (flat (set head (3 + g) gquant) ms' ls') (bits_left s n z.bit) z ≡ map_read {P = counted} (put_macroblocks 33 g (flat (set head (3 + g) gquant) ms ls)) (macroblocks_at f (eqb (g + 1) (group_count f)) number (bits_left s n q.bit) q)
          → PictureSoFar start s n f (set head (3 + g) gquant) ms' ls' (g + 1) z
      picture_more ms' ls' z lm ll i w = record {
        placed = i;
        most = omega arith;
        head_long = length-set head (3 + g) gquant ∙ h.head_long;
        ms_long = lm ∙ h.ms_long;
        ls_long = ll ∙ h.ls_long;
        same = groups_more on head_is (flat (set head (3 + g) gquant) ms' ls') z (inner_is _ w);
      }

-- ---- small steps between the code's numbers and the format's
pub less_count : (g all c : ℕ) → g < all → all ≡ c → g < c
less_count g all c l e = omega arith

pub last_found : (s : List ℕ) (n : ℕ) (r : CountedRead code.Mba) (g all c address : ℕ) (bs : List Bit) (p : Place) → as_mba s n r ≡ mba (eqb (g + 1) all) address bs p → all ≡ c → as_mba s n r ≡ mba (eqb (g + 1) c) address bs p
last_found s n r g all c address bs p w e = w ∙ ap (λ (k : ℕ). mba (eqb (g + 1) k) address bs p) e

-- what stands at an MBA place, by its case
pub meant_is : {r : CountedRead code.Mba} {m x : code.Mba} {q : Place} → r ≡ Got m q → m ≡ x → r ≡ Got x q
meant_is {q = q} a b = a ∙ ap (λ (y : code.Mba). Got y q) b

-- ---- the ways out: a refusal is kept, or none is
pub kept_refusal : {r : Option Stopped} {x y : Stopped} → r ≡ Some x → r ≡ Some y → ◌≡◌ {A = ReadIn counted Flat} (refused x) (refused y)
kept_refusal a b = cc

pub none_kept : {r : Option Stopped} {x : Stopped} → r ≡ None → r ≡ Some x → ⊥
none_kept a b = cc
