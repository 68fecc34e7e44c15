-- A tree of codewords in a list of numbers: the walk through it, the test that it is right for a table, which antt computes, and the law that turns
-- the test into the equation of the walk and the table. Assumes nothing.
use Rattle.std.specs.Prelude.{List, [], ◌∷◌, Bool, true, false, ℕ, zero, suc, ◌+◌, ◌-◌, ◌*◌, eqb, ltb, get_or}
use Rattle.laws.specs.Choice.{pick, both}
use Rattle.refusals.specs.declared.Reason.TheVariants.{BitsEnd, NoCodeword}
use Rattle.refusals.specs.declared.Table.{Table}
use Rattle.bits.specs.Bits.{Bit, bit0, bit1, num, same}
use Rattle.bits.specs.Read.{Read, got, bad}
use Rattle.bits.specs.Code.{Entry, entry}

-- of the table of this name, from node q, over at most f of the bits bs, the first of which has place p; `at` is where the codeword began. Node q
-- has its children at 2 q and 2 q + 1: 0 for none, a node's number below 256, or 256 more than a meaning
unfoldable pub walk_of : Table → ℕ → List ℕ → ℕ → List Bit → ℕ → ℕ → Read ℕ
walk_of name zero t q bs at p = bad (NoCodeword name) at
walk_of name (suc f) t q [] at p = bad BitsEnd at
walk_of name (suc f) t q (b ∷ bs) at p =
    let v = get_or t (q * 2 + num b) 0 in
    pick (eqb v 0) (bad (NoCodeword name) at) (pick (ltb v 256) (walk_of name f t v bs at (p + 1)) (got (v - 256) bs (p + 1)))

-- ---- what is left of a table's codewords after the bit b
abbrev stepped : Bit → List Bit → ℕ → List Entry → List Entry
stepped b [] m rest = rest
stepped b (x ∷ w) m rest = pick (same x b) (entry w m ∷ rest) rest

abbrev pub step : Bit → List Entry → List Entry
step b [] = []
step b (entry w m ∷ tab) = stepped b w m (step b tab)

-- no codeword is empty
abbrev pub no_empty : List Entry → Bool
no_empty [] = true
no_empty (entry [] m ∷ tab) = false
no_empty (entry (x ∷ w) m ∷ tab) = no_empty tab

abbrev pub none : List Entry → Bool
none [] = true
none (e ∷ tab) = false

abbrev pub some : List Entry → Bool
some [] = false
some (e ∷ tab) = true

-- the one codeword that is left has ended, and means m
abbrev pub is_leaf : List Entry → ℕ → Bool
is_leaf [] m = false
is_leaf (entry (x ∷ w) m' ∷ tab) m = false
is_leaf (entry [] m' ∷ []) m = eqb m' m
is_leaf (entry [] m' ∷ e ∷ tab) m = false

abbrev pub side : (List Entry → ℕ → Bool) → List Entry → ℕ → Bool
side go d v = pick (eqb v 0) (none d) (pick (ltb v 256) (both (no_empty d) (both (some d) (go d v))) (is_leaf d (v - 256)))

-- the tree t at node q has just the codewords of the table, to the depth f
abbrev pub agree : ℕ → List ℕ → List Entry → ℕ → Bool
agree zero t tab q = false
agree (suc f) t tab q =
    both (side (agree f t) (step bit0 tab) (get_or t (q * 2 + 0) 0)) (side (agree f t) (step bit1 tab) (get_or t (q * 2 + 1) 0))

-- the tree with its root at node q is right for the table
abbrev pub right : ℕ → List ℕ → ℕ → List Entry → Bool
right f t q tab = both (no_empty tab) (both (some tab) (agree f t tab q))
