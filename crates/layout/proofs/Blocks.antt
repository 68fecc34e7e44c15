-- Blocks and their levels, both ways: what the levels of blocks pass, what the blocks of levels are, and that each gives the other back. Assumes nothing.
use Prim.Native.Nat.{ℕ, zero, suc, ◌+◌, ◌-◌, ◌*◌, ◌≤◌}
use mathlib.Core.Path.{◌≡◌, refl, sym, ap, ap₂, ◌∙◌}
use mathlib.Core.Bool.{Bool, true, false}
use mathlib.Core.List.{List, [], ◌∷◌, ◌++◌, append_assoc, append-nil}
use native.Mathlib.Omega.{arith}
use native.Mathlib.Nat.{add-zero}
use lib.Dec.{T, eqb→eq}
use lib.ListN.{length, get_or, take, drop, length-take, length-drop}
use lib.Seq.{get_or-take, take_at, drop_at, take-add, length-take-le}
use Rattle.laws.specs.Choice.{both, opposite}
use Rattle.laws.proofs.Choice.{both_left, both_right, both_make}
use Rattle.laws.proofs.Zeros.{zeros, zeros_split}
use Rattle.layout.specs.Value.{Coefficient, coefficient, Block}
use Rattle.layout.specs.Flat.{gather, gathers}
use Rattle.layout.specs.Numbers.{all, is_zero, is_code, is_level, codes_first}
use Rattle.layout.specs.Proper.{Each, Fits, Begins, all_empty}
use Rattle.layout.proofs.Levels.{all_take, all_drop, all_join, all_none, all_append, all-zeros, all_after, code_some, code_level, level_code}
use Rattle.layout.proofs.Spread.{spread, spreads, length-spread}

-- ---- the levels of blocks
spread_levels : (room : ℕ) (b : Block) → Fits room b → T (all is_level (spread room b))
unfolding spread
spread_levels room [] h = rw (all-zeros is_level room tt) tt
spread_levels room (c ∷ cs) h =
    rw (all_after is_level c.run (c.code ∷ spread (room - suc c.run) cs) tt)
    (both_make (is_level c.code) (all is_level (spread (room - suc c.run) cs)) (code_level c.code h.1) (spread_levels (room - suc c.run) cs h.2))

pub spreads_levels : (bs : List Block) → Each (Fits 64) bs → T (all is_level (spreads bs))
unfolding spreads
spreads_levels [] h = tt
spreads_levels (b ∷ bs) h =
    rw (all_append is_level (spread 64 b) (spreads bs)) (both_make (all is_level (spread 64 b)) (all is_level (spreads bs)) (spread_levels 64 b h.0) (spreads_levels bs h.1))

-- there is no level but 0 exactly where there is no coefficient
pub spreads-zero : (bs : List Block) → Each (Fits 64) bs → all is_zero (spreads bs) ≡ all_empty bs
unfolding spreads spread
spreads-zero [] h = refl
spreads-zero ([] ∷ bs) h = all_after is_zero 64 (spreads bs) tt ∙ spreads-zero bs h.1
spreads-zero ((c ∷ cs) ∷ bs) h =
    let rest : List ℕ = spread (64 - suc c.run) cs ++ spreads bs in
    ap (all is_zero) (append_assoc (zeros c.run) (c.code ∷ spread (64 - suc c.run) cs) (spreads bs))
    ∙ all_after is_zero c.run (c.code ∷ rest) tt ∙ ap (λ (b : Bool). both b (all is_zero rest)) (code_some c.code h.0.1)

-- INTRA blocks begin with their codes
first_code : (c : Coefficient) (cs : Block) (rest : List ℕ) → c.run ≡ 0 → get_or (spread 64 (c ∷ cs) ++ rest) 0 0 ≡ c.code
unfolding spread zeros
first_code c cs rest e = rw e

pub codes_first_lem : (bs : List Block) → Each (Fits 64) bs → Each Begins bs → T (codes_first (length bs) (spreads bs))
unfolding codes_first spreads
codes_first_lem [] h b = tt
codes_first_lem ([] ∷ bs) h b = absurd b.0
codes_first_lem ((c ∷ cs) ∷ bs) h b =
    rw (first_code c cs (spreads bs) b.0, code_some c.code h.0.1, drop_at (spread 64 (c ∷ cs)) (spreads bs) 64 (length-spread 64 (c ∷ cs) h.0))
    (codes_first_lem bs h.1 b.1)

-- ---- the blocks of levels
gather_fits : (run room : ℕ) (ls : List ℕ) → T (all is_level ls) → run + length ls ≤ room → Fits room (gather run ls)
unfolding gather
gather_fits run room [] t l = tt
gather_fits run room (zero ∷ ls) t l = gather_fits (suc run) room ls t (omega arith)
gather_fits run room (suc c ∷ ls) t l =
    (omega arith, level_code c (both_left (is_level (suc c)) (all is_level ls) t), gather_fits 0 (room - suc run) ls (both_right (is_level (suc c)) (all is_level ls) t) (omega arith))

gather_begins : (ls : List ℕ) → T (opposite (is_zero (get_or ls 0 0))) → Begins (gather 0 ls)
unfolding gather
gather_begins [] t = absurd t
gather_begins (zero ∷ ls) t = absurd t
gather_begins (suc c ∷ ls) t = refl

gather_none : (run : ℕ) (ls : List ℕ) → T (all is_zero ls) → gather run ls ≡ []
unfolding gather
gather_none run [] t = refl
gather_none run (zero ∷ ls) t = gather_none (suc run) ls t
gather_none run (suc c ∷ ls) t = let e = eqb→eq (suc c) 0 (both_left (is_zero (suc c)) (all is_zero ls) t) in absurd (omega arith)

none-gather : (run : ℕ) (ls : List ℕ) → gather run ls ≡ [] → T (all is_zero ls)
unfolding gather
none-gather run [] e = tt
none-gather run (zero ∷ ls) e = none-gather (suc run) ls e
none-gather run (suc c ∷ ls) e = let z : ◌≡◌ {A = ℕ} 0 1 = cc in absurd (omega arith)

-- ---- k blocks
pub length-gathers : (k : ℕ) (ls : List ℕ) → length (gathers k ls) ≡ k
unfolding gathers
length-gathers zero ls = refl
length-gathers (suc k) ls = ap suc (length-gathers k (drop 64 ls))

pub gathers_fit : (k : ℕ) (ls : List ℕ) → T (all is_level ls) → Each (Fits 64) (gathers k ls)
unfolding gathers
gathers_fit zero ls t = tt
gathers_fit (suc k) ls t =
    (gather_fits 0 64 (take 64 ls) (all_take is_level 64 ls t) (omega (arith, length-take 64 ls)), gathers_fit k (drop 64 ls) (all_drop is_level 64 ls t))

pub gathers_begin : (k : ℕ) (ls : List ℕ) → T (codes_first k ls) → Each Begins (gathers k ls)
unfolding gathers codes_first
gathers_begin zero ls t = tt
gathers_begin (suc k) ls t =
    let first = both_left (opposite (is_zero (get_or ls 0 0))) (codes_first k (drop 64 ls)) t in
    (gather_begins (take 64 ls) (rw (get_or-take 64 ls 0 0 (omega arith)) first), gathers_begin k (drop 64 ls) (both_right (opposite (is_zero (get_or ls 0 0))) (codes_first k (drop 64 ls)) t))

pub gathers-none : (k : ℕ) (ls : List ℕ) → T (all is_zero ls) → T (all_empty (gathers k ls))
unfolding gathers
gathers-none zero ls t = tt
gathers-none (suc k) ls t = rw (gather_none 0 (take 64 ls) (all_take is_zero 64 ls t)) (gathers-none k (drop 64 ls) (all_drop is_zero 64 ls t))

none-gathers : (k : ℕ) (ls : List ℕ) → length ls ≤ k * 64 → T (all_empty (gathers k ls)) → T (all is_zero ls)
unfolding gathers
none-gathers zero ls l t = all_none is_zero ls (omega arith)
none-gathers (suc k) ls l t =
    go (gather 0 (take 64 ls)) refl t (none-gathers k (drop 64 ls) (omega (arith, length-drop 64 ls)))
  where
    go : (b : Block) → gather 0 (take 64 ls) ≡ b → T (all_empty (b ∷ gathers k (drop 64 ls))) → (T (all_empty (gathers k (drop 64 ls))) → T (all is_zero (drop 64 ls)))
        → T (all is_zero ls)
    go [] e u h = all_join is_zero 64 ls (none-gather 0 (take 64 ls) e) (h u)
    go (c ∷ cs) e u h = absurd u

pub gathers-some : (k : ℕ) (ls : List ℕ) → length ls ≤ k * 64 → T (opposite (all is_zero ls)) → T (opposite (all_empty (gathers k ls)))
gathers-some k ls l t = go (all_empty (gathers k ls)) (all is_zero ls) (none-gathers k ls l) t
  where
    go : (b c : Bool) → (T b → T c) → T (opposite c) → T (opposite b)
    go false c h t = tt
    go true true h t = t
    go true false h t = h tt

-- ---- blocks, from their levels
gather-zeros : (run k : ℕ) (ls : List ℕ) → gather run (zeros k ++ ls) ≡ gather (run + k) ls
unfolding gather zeros
gather-zeros run zero ls = ap (λ (n : ℕ). gather n ls) (sym (add-zero run))
gather-zeros run (suc k) ls =
    let e : suc run + k ≡ run + suc k = omega arith in
    gather-zeros (suc run) k ls ∙ ap (λ (n : ℕ). gather n ls) e

gather_blank : (run k : ℕ) → gather run (zeros k) ≡ []
unfolding gather
gather_blank run k = ap (gather run) (sym (append-nil (zeros k))) ∙ gather-zeros run k []

gather_code : (run code : ℕ) (ls : List ℕ) → T (is_code code) → gather run (code ∷ ls) ≡ coefficient run code ∷ gather 0 ls
unfolding gather
gather_code run zero ls t = absurd t
gather_code run (suc code) ls t = refl

gather-spread : (room : ℕ) (b : Block) → Fits room b → gather 0 (spread room b) ≡ b
unfolding spread
gather-spread room [] h = gather_blank 0 room
gather-spread room (c ∷ cs) h =
    let z : 0 + c.run ≡ c.run = omega arith in
    gather-zeros 0 c.run (c.code ∷ spread (room - suc c.run) cs)
    ∙ ap (λ (n : ℕ). gather n (c.code ∷ spread (room - suc c.run) cs)) z
    ∙ gather_code c.run c.code (spread (room - suc c.run) cs) h.1
    ∙ ap (λ (rest : Block). c ∷ rest) (gather-spread (room - suc c.run) cs h.2)

pub gathers-spreads : (bs : List Block) → Each (Fits 64) bs → (rest : List ℕ) → gathers (length bs) (spreads bs ++ rest) ≡ bs
unfolding gathers spreads
gathers-spreads [] h rest = refl
gathers-spreads (b ∷ bs) h rest =
    let size : length (spread 64 b) ≡ 64 = length-spread 64 b h.0 in
    let whole : spread 64 b ++ spreads bs ++ rest ≡ spread 64 b ++ (spreads bs ++ rest) = append_assoc (spread 64 b) (spreads bs) rest in
    ap₂ (λ (x : Block) (xs : List Block). x ∷ xs)
    (ap (gather 0) (ap (take 64) whole ∙ take_at (spread 64 b) (spreads bs ++ rest) 64 size) ∙ gather-spread 64 b h.0)
    (ap (gathers (length bs)) (ap (drop 64) whole ∙ drop_at (spread 64 b) (spreads bs ++ rest) 64 size) ∙ gathers-spreads bs h.1 rest)

-- ---- levels, from their blocks
zeros_next : (n : ℕ) (ls : List ℕ) → zeros (suc n) ++ ls ≡ zeros n ++ (0 ∷ ls)
unfolding zeros
zeros_next n ls = zeros_split n 1 (suc n) ls (omega arith)

spread-gather : (run room : ℕ) (ls : List ℕ) → room ≡ run + length ls → spread room (gather run ls) ≡ zeros run ++ ls
unfolding spread gather zeros
spread-gather run room [] e = let n : room ≡ run = omega arith in ap zeros n ∙ sym (append-nil (zeros run))
spread-gather run room (zero ∷ ls) e = spread-gather (suc run) room ls (omega arith) ∙ zeros_next run ls
spread-gather run room (suc c ∷ ls) e =
    ap (λ (l : List ℕ). zeros run ++ (suc c ∷ l)) (spread-gather 0 (room - suc run) ls (omega arith))

-- k + 1 parts of w numbers: the first, and the others
pub take_more : (w k : ℕ) (xs : List ℕ) → take (suc k * w) xs ≡ take w xs ++ take (k * w) (drop w xs)
take_more w k xs = let e : suc k * w ≡ w + k * w = omega arith in ap (λ (n : ℕ). take n xs) e ∙ take-add w (k * w) xs

pub spreads-gathers : (k : ℕ) (ls : List ℕ) → k * 64 ≤ length ls → spreads (gathers k ls) ≡ take (k * 64) ls
unfolding spreads gathers zeros
spreads-gathers zero ls l = refl
spreads-gathers (suc k) ls l =
    let n : length (take 64 ls) ≡ 64 = length-take-le 64 ls (omega arith) in
    let first : spread 64 (gather 0 (take 64 ls)) ≡ take 64 ls = spread-gather 0 64 (take 64 ls) (omega arith) in
    let others = spreads-gathers k (drop 64 ls) (omega (arith, length-drop 64 ls)) in
    (λ i. first i ++ others i) ∙ sym (take_more 64 k ls)
