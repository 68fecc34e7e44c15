-- The layout of a picture that a description can hold, written out: its levels, fields and GQUANTs in order, with zeros where nothing is sent. The stores of Flat.antt come to this. Assumes nothing.
use Prim.Native.Nat.{ℕ, suc, ◌+◌, ◌-◌, ◌*◌, ◌≤◌, ◌<◌}
use mathlib.Core.Path.{◌≡◌, refl, sym, ap, ◌∙◌}
use mathlib.Core.List.{List, [], ◌∷◌, ◌++◌, append_assoc}
use native.Mathlib.Omega.{arith}
use native.Mathlib.Nat.{suc-mul, zero-mul}
use lib.ListN.{length, length-append}
use lib.Seq.{sets, set_at, append_snoc}
use Rattle.laws.proofs.Zeros.{zeros, zeros-replicate, length-zeros, zeros-add, zeros_split, zeros-set, sets_over}
use Rattle.layout.specs.Value.{Block, Macroblock, Group, Picture}
use Rattle.layout.specs.Flat.{Flat, flat, Shape, put_block, put_blocks, index, fields_of, put_macroblocks, put_groups, laid_out}
use Rattle.layout.specs.Proper.{Each, Fits, Storable, RisingTo, StorableGroup, StorablePicture}

-- ---- blocks
-- a block's levels in `room` places
unfoldable pub spread : ℕ → Block → List ℕ
spread room [] = zeros room
spread room (c ∷ cs) = zeros c.run ++ (c.code ∷ spread (room - suc c.run) cs)

unfoldable pub spreads : List Block → List ℕ
spreads [] = []
spreads (b ∷ bs) = spread 64 b ++ spreads bs

pub length-spread : (room : ℕ) (b : Block) → Fits room b → length (spread room b) ≡ room
unfolding spread
length-spread room [] h = length-zeros room
length-spread room (c ∷ cs) h =
    omega (arith, h.0, length-append (zeros c.run) (c.code ∷ spread (room - suc c.run) cs), length-zeros c.run, length-spread (room - suc c.run) cs h.2)

pub length-spreads : (bs : List Block) → Each (Fits 64) bs → length (spreads bs) ≡ length bs * 64
unfolding spreads
length-spreads [] h = refl
length-spreads (b ∷ bs) h = omega (arith, length-append (spread 64 b) (spreads bs), length-spread 64 b h.0, length-spreads bs h.1)

-- a coefficient more, and what follows
joined : (before : List ℕ) (run code : ℕ) (rest : List ℕ) → before ++ (zeros run ++ (code ∷ rest)) ≡ before ++ (zeros run ++ (code ∷ [])) ++ rest
joined before run code rest = simp append_assoc

put_block_lem : (before rest : List ℕ) (room at : ℕ) (b : Block) → Fits room b → length before ≡ at
    → put_block (before ++ (zeros room ++ rest)) at b ≡ before ++ (spread room b ++ rest)
unfolding put_block spread
put_block_lem before rest room at [] h e = refl
put_block_lem before rest room at (c ∷ cs) h e =
    let left : ℕ = room - suc c.run in
    let head : List ℕ = before ++ (zeros c.run ++ (c.code ∷ [])) in
    let size : length head ≡ at + suc c.run =
    omega (arith, length-append before (zeros c.run ++ (c.code ∷ [])), length-append (zeros c.run) (c.code ∷ []), length-zeros c.run) in
    ap (λ (l : List ℕ). put_block l (at + suc c.run) cs)
    (zeros-set before c.run left rest c.code (at + c.run) room (ap (λ (n : ℕ). n + c.run) e) (omega (arith, h.0))
    ∙ joined before c.run c.code (zeros left ++ rest))
    ∙ put_block_lem head rest left (at + suc c.run) cs h.2 size
    ∙ sym (joined before c.run c.code (spread left cs ++ rest))
    ∙ ap (λ (l : List ℕ). before ++ l) (sym (append_assoc (zeros c.run) (c.code ∷ spread left cs) rest))

put_blocks_lem : (before rest : List ℕ) (at : ℕ) (bs : List Block) → Each (Fits 64) bs → length before ≡ at
    → put_blocks (before ++ (zeros (length bs * 64) ++ rest)) at bs ≡ before ++ (spreads bs ++ rest)
unfolding put_blocks spreads zeros
put_blocks_lem before rest at [] h e = refl
put_blocks_lem before rest at (b ∷ bs) h e =
    let size : length (before ++ spread 64 b) ≡ at + 64 = omega (arith, length-append before (spread 64 b), length-spread 64 b h.0) in
    ap (λ (l : List ℕ). put_blocks (put_block (before ++ l) at b) (at + 64) bs) (zeros_split 64 (length bs * 64) (suc (length bs) * 64) rest (omega arith))
    ∙ ap (λ (l : List ℕ). put_blocks l (at + 64) bs) (put_block_lem before (zeros (length bs * 64) ++ rest) 64 at b h.0 e ∙ sym (append_assoc before (spread 64 b) (zeros (length bs * 64) ++ rest)))
    ∙ put_blocks_lem (before ++ spread 64 b) rest (at + 64) bs h.1 size
    ∙ simp append_assoc

-- ---- the macroblocks of a group: `each` entries of w numbers
-- the entries past `last`
unfoldable pub rows : ℕ → ℕ → (Macroblock → List ℕ) → ℕ → List Macroblock → List ℕ
rows each w row last [] = zeros ((each - last) * w)
rows each w row last (m ∷ ms) = zeros ((m.address - suc last) * w) ++ (row m ++ rows each w row m.address ms)

-- each macroblock stored at its entry
unfoldable pub stores : ℕ → ℕ → (List ℕ → ℕ → Macroblock → List ℕ) → ℕ → List ℕ → List Macroblock → List ℕ
stores each w store g l [] = l
stores each w store g l (m ∷ ms) = stores each w store g (store l (index each g m.address * w) m) ms

-- how an entry past `last` splits the entries past it: those skipped, itself, those past it
times_split : (skipped past w : ℕ) → (skipped + suc past) * w ≡ skipped * w + (w + past * w)
times_split skipped past w = omega arith

entries_split : (each last address w : ℕ) → last < address → address ≤ each → (each - last) * w ≡ (address - suc last) * w + (w + (each - address) * w)
entries_split each last address w l h =
    let e : each - last ≡ address - suc last + suc (each - address) = omega arith in
    ap (λ (n : ℕ). n * w) e ∙ times_split (address - suc last) (each - address) w

-- where it stands, after g groups
entry_start : (each g last address w : ℕ) → last < address → (g * each + last) * w + (address - suc last) * w ≡ index each g address * w
entry_start each g last address w l =
    let e : g * each + (address - 1) ≡ g * each + last + (address - suc last) = omega arith in
    sym (ap (λ (n : ℕ). n * w) e ∙ times_add (g * each + last) (address - suc last) w)
  where
    times_add : (a b w : ℕ) → (a + b) * w ≡ a * w + b * w
    times_add a b w = omega arith

entry_end : (each g address w : ℕ) → 1 ≤ address → index each g address * w + w ≡ (g * each + address) * w
entry_end each g address w l =
    let e : g * each + address ≡ suc (g * each + (address - 1)) = omega arith in
    sym (ap (λ (n : ℕ). n * w) e ∙ suc-mul (g * each + (address - 1)) w)

-- a store that writes a row of w numbers over zeros
pub record Writes (w : ℕ) (store : List ℕ → ℕ → Macroblock → List ℕ) (row : Macroblock → List ℕ) : Type 0 where
  pub sized : (m : Macroblock) → Storable m → length (row m) ≡ w
  pub written : (m : Macroblock) → Storable m → (before rest : List ℕ) (at : ℕ) → length before ≡ at
      → store (before ++ (zeros w ++ rest)) at m ≡ before ++ (row m ++ rest)

module _ (each w : ℕ) (store : List ℕ → ℕ → Macroblock → List ℕ) (row : Macroblock → List ℕ) (law : Writes w store row) where
  pub length-rows : (last : ℕ) (ms : List Macroblock) → RisingTo Storable each last ms → length (rows each w row last ms) ≡ (each - last) * w
  unfolding rows
  length-rows last [] h = length-zeros ((each - last) * w)
  length-rows last (m ∷ ms) h =
      omega (
        arith,
        length-append (zeros ((m.address - suc last) * w)) (row m ++ rows each w row m.address ms),
        length-append (row m) (rows each w row m.address ms),
        length-zeros ((m.address - suc last) * w),
        law.sized m h.2,
        length-rows m.address ms h.3,
        entries_split each last m.address w h.0 h.1,
      )

  stores-rows : (g last : ℕ) (ms : List Macroblock) → RisingTo Storable each last ms → (before rest : List ℕ) → length before ≡ (g * each + last) * w
      → stores each w store g (before ++ (zeros ((each - last) * w) ++ rest)) ms ≡ before ++ (rows each w row last ms ++ rest)
  unfolding stores rows
  stores-rows g last [] h before rest e = refl
  stores-rows g last (m ∷ ms) h before rest e =
      let skipped : ℕ = (m.address - suc last) * w in
      let past : ℕ = (each - m.address) * w in
      let at : length (before ++ zeros skipped) ≡ index each g m.address * w =
      omega (arith, length-append before (zeros skipped), length-zeros skipped, entry_start each g last m.address w h.0) in
      let end : length (before ++ zeros skipped ++ row m) ≡ (g * each + m.address) * w =
      omega (arith, length-append (before ++ zeros skipped) (row m), law.sized m h.2, at, entry_end each g m.address w (omega (arith, h.0))) in
      ap (λ (l : List ℕ). stores each w store g (store l (index each g m.address * w) m) ms)
      (ap (λ (l : List ℕ). before ++ l) (zeros_split skipped (w + past) ((each - last) * w) rest (entries_split each last m.address w h.0 h.1))
      ∙ sym (append_assoc before (zeros skipped) (zeros (w + past) ++ rest))
      ∙ ap (λ (l : List ℕ). before ++ zeros skipped ++ l) (zeros_split w past (w + past) rest refl))
      ∙ ap (λ (l : List ℕ). stores each w store g l ms)
      (law.written m h.2 (before ++ zeros skipped) (zeros past ++ rest) (index each g m.address * w) at
      ∙ sym (append_assoc (before ++ zeros skipped) (row m) (zeros past ++ rest)))
      ∙ stores-rows g m.address ms h.3 (before ++ zeros skipped ++ row m) rest end
      ∙ simp append_assoc

-- ---- the two: fields and levels
abbrev pub store_fields : List ℕ → ℕ → Macroblock → List ℕ
store_fields l at m = sets l at (fields_of m)

abbrev pub store_levels : List ℕ → ℕ → Macroblock → List ℕ
store_levels l at m = put_blocks l at m.blocks

abbrev pub levels_of : Macroblock → List ℕ
levels_of m = spreads m.blocks

pub fields_written : Writes 4 store_fields fields_of
fields_written =
    record { sized = λ m h. refl; written = λ m h before rest at e. sets_over before (zeros 4) (fields_of m) rest at e (length-zeros 4) }

pub length_levels : (m : Macroblock) → Storable m → length (levels_of m) ≡ 384
length_levels m h = omega (arith, length-spreads m.blocks h.fitting, h.six)

pub levels_written : Writes 384 store_levels levels_of
levels_written =
    record {
      sized = length_levels;
      written = λ m h before rest at e.
          ap (λ (n : ℕ). put_blocks (before ++ (zeros n ++ rest)) at m.blocks) (sym (ap (λ (n : ℕ). n * 64) h.six))
          ∙ put_blocks_lem before rest at m.blocks h.fitting e;
    }

put_macroblocks_lem : (each g : ℕ) (d : Flat) (ms : List Macroblock)
    → put_macroblocks each g d ms ≡ flat d.head (stores each 4 store_fields g d.macroblocks ms) (stores each 384 store_levels g d.levels ms)
unfolding put_macroblocks stores
put_macroblocks_lem each g d [] = refl
put_macroblocks_lem each g d (m ∷ ms) = put_macroblocks_lem each g (record { head = d.head; macroblocks = sets d.macroblocks (index each g m.address * 4) (fields_of m); levels = put_blocks d.levels (index each g m.address * 384) m.blocks }) ms

-- ---- the groups
unfoldable pub columns : ℕ → ℕ → (Macroblock → List ℕ) → List Group → List ℕ
columns each w row [] = []
columns each w row (x ∷ xs) = rows each w row 0 x.macroblocks ++ columns each w row xs

abbrev pub gquants : List Group → List ℕ
gquants [] = []
gquants (x ∷ xs) = x.gquant ∷ gquants xs

pub length-gquants : (xs : List Group) → length (gquants xs) ≡ length xs
length-gquants [] = refl
length-gquants (x ∷ xs) = ap suc (length-gquants xs)

flats : {h h' m m' l l' : List ℕ} → h ≡ h' → m ≡ m' → l ≡ l' → flat h m l ≡ flat h' m' l'
flats e₁ e₂ e₃ = λ i. record { head = e₁ i; macroblocks = e₂ i; levels = e₃ i }

-- g groups of entries, then a group more
groups_start : (each g w : ℕ) → g * (each * w) ≡ (g * each + 0) * w
groups_start each g w = omega arith

groups_next : (n size : ℕ) → suc n * size ≡ size + n * size
groups_next n size = omega arith

groups_past : (g size : ℕ) → g * size + size ≡ (g + 1) * size
groups_past g size = omega arith

-- none is behind the start
group_entries : (each w : ℕ) → (each - 0) * w ≡ each * w
group_entries each w = let e : each - 0 ≡ each = omega arith in ap (λ (n : ℕ). n * w) e

module _ (each w : ℕ) (store : List ℕ → ℕ → Macroblock → List ℕ) (row : Macroblock → List ℕ) (law : Writes w store row) where
  -- a group's entries take their room
  pub length_group : (x : Group) → StorableGroup each x → length (rows each w row 0 x.macroblocks) ≡ each * w
  length_group x h = length-rows each w store row law 0 x.macroblocks h ∙ group_entries each w

  pub length-columns : (xs : List Group) → Each (StorableGroup each) xs → length (columns each w row xs) ≡ length xs * (each * w)
  unfolding columns
  length-columns [] h = sym (zero-mul (each * w))
  length-columns (x ∷ xs) h =
      let size : ℕ = each * w in
      length-append (rows each w row 0 x.macroblocks) (columns each w row xs)
      ∙ (λ i. length_group x h.0 i + length-columns xs h.1 i)
      ∙ sym (groups_next (length xs) size)

  -- a group more
  column : (g n : ℕ) (x : Group) → StorableGroup each x → (before : List ℕ) → length before ≡ g * (each * w)
      → stores each w store g (before ++ zeros (suc n * (each * w))) x.macroblocks ≡ before ++ rows each w row 0 x.macroblocks ++ zeros (n * (each * w))
  column g n x h before e =
      ap (λ (l : List ℕ). stores each w store g (before ++ l) x.macroblocks) (ap zeros (groups_next n (each * w)) ∙ zeros-add (each * w) (n * (each * w)) ∙ ap (λ (k : ℕ). zeros k ++ zeros (n * (each * w))) (sym (group_entries each w)))
      ∙ stores-rows each w store row law g 0 x.macroblocks h before (zeros (n * (each * w))) (e ∙ groups_start each g w)
      ∙ sym (append_assoc before (rows each w row 0 x.macroblocks) (zeros (n * (each * w))))

  column-length : (g : ℕ) (x : Group) → StorableGroup each x → (before : List ℕ) → length before ≡ g * (each * w)
      → length (before ++ rows each w row 0 x.macroblocks) ≡ (g + 1) * (each * w)
  column-length g x h before e =
      length-append before (rows each w row 0 x.macroblocks) ∙ (λ i. e i + length_group x h i) ∙ groups_past g (each * w)

put_groups_lem : (s : Shape) (g : ℕ) (xs : List Group) → Each (StorableGroup s.each) xs → (h m l : List ℕ)
    → length h ≡ s.fixed + g → length m ≡ g * (s.each * 4) → length l ≡ g * (s.each * 384)
    → put_groups s g (flat (h ++ zeros (length xs)) (m ++ zeros (length xs * (s.each * 4))) (l ++ zeros (length xs * (s.each * 384)))) xs
    ≡ flat (h ++ gquants xs) (m ++ columns s.each 4 fields_of xs) (l ++ columns s.each 384 levels_of xs)
unfolding put_groups columns zeros
put_groups_lem s g [] p h m l eh em el = λ i. flat (h ++ []) (m ++ zeros (zero-mul (s.each * 4) i)) (l ++ zeros (zero-mul (s.each * 384) i))
put_groups_lem s g (x ∷ xs) p h m l eh em el =
    let each : ℕ = s.each in
    let n : ℕ = length xs in
    let rm : List ℕ = rows each 4 fields_of 0 x.macroblocks in
    let rl : List ℕ = rows each 384 levels_of 0 x.macroblocks in
    let sh : length (h ++ (x.gquant ∷ [])) ≡ s.fixed + (g + 1) = omega (arith, length-append h (x.gquant ∷ [])) in
    ap (λ (d : Flat). put_groups s (g + 1) d xs)
    (put_macroblocks_lem each g _ x.macroblocks
    ∙ flats (set_at h 0 (zeros n) x.gquant (s.fixed + g) eh ∙ sym (append_snoc h x.gquant (zeros n)))
    (column each 4 store_fields fields_of fields_written g n x p.0 m em)
    (column each 384 store_levels levels_of levels_written g n x p.0 l el))
    ∙ put_groups_lem s (g + 1) xs p.1 (h ++ (x.gquant ∷ [])) (m ++ rm) (l ++ rl) sh
    (column-length each 4 store_fields fields_of fields_written g x p.0 m em)
    (column-length each 384 store_levels levels_of levels_written g x p.0 l el)
    ∙ flats (append_snoc h x.gquant (gquants xs)) (append_assoc m rm (columns each 4 fields_of xs)) (append_assoc l rl (columns each 384 levels_of xs))

-- ---- the picture
-- its layout, list by list
abbrev pub spread_out : Shape → Picture → Flat
spread_out s p = flat (p.fields ++ gquants p.groups) (columns s.each 4 fields_of p.groups) (columns s.each 384 levels_of p.groups)

pub laid_spread : (s : Shape) (p : Picture) → StorablePicture s p → laid_out s p ≡ spread_out s p
laid_spread s p h =
    let n : s.groups ≡ length p.groups = sym h.counted in
    ap (λ (d : Flat). put_groups s 0 d p.groups)
    (flats (ap (λ (l : List ℕ). p.fields ++ l) (zeros-replicate s.groups ∙ ap zeros n))
    (zeros-replicate (s.groups * (s.each * 4)) ∙ ap (λ (k : ℕ). zeros (k * (s.each * 4))) n)
    (zeros-replicate (s.groups * (s.each * 384)) ∙ ap (λ (k : ℕ). zeros (k * (s.each * 384))) n))
    ∙ put_groups_lem s 0 p.groups h.grouped p.fields [] [] (omega (arith, h.headed)) (sym (zero-mul (s.each * 4))) (sym (zero-mul (s.each * 384)))
