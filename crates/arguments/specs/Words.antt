-- What a program's words name: a size, a kind, a clip, a vault's size with or without a clip. Assumes nothing.
use Rattle.std.specs.Prelude.{ℕ, ◌+◌, ◌-◌, ◌*◌, Bool, List, [], ◌∷◌, eqb, leb, take, drop, Option, Some, None}
use Rattle.laws.specs.Choice.{pick, both}
use Rattle.laws.specs.Lists.{alike}
use Rattle.size.specs.declared.Size.{Size}
use Rattle.size.specs.declared.Size.TheVariants.{SubQcif, Qcif, Cif}
use Rattle.vault.specs.declared.Standard.{Standard}
use Rattle.vault.specs.declared.Standard.TheVariants.{H261, H263}
use Rattle.coding.specs.declared.Kind.{Kind}
use Rattle.coding.specs.Kind.{kind_in}
use Rattle.arguments.specs.declared.VaultWords.{VaultWords}

-- ---- a size
-- "sqcif", "qcif", "cif"
abbrev pub sub_qcif_word : List ℕ
sub_qcif_word = 115 ∷ 113 ∷ 99 ∷ 105 ∷ 102 ∷ []

abbrev pub qcif_word : List ℕ
qcif_word = 113 ∷ 99 ∷ 105 ∷ 102 ∷ []

abbrev pub cif_word : List ℕ
cif_word = 99 ∷ 105 ∷ 102 ∷ []

unfoldable pub size_named : List ℕ → Option Size
size_named word = pick (alike word sub_qcif_word) (Some SubQcif) (pick (alike word qcif_word) (Some Qcif) (pick (alike word cif_word) (Some Cif) None))

-- ---- a kind
-- a standard's of the size that is named, if it has one
abbrev pub kind_sized : Standard → Option Size → Option Kind
kind_sized standard (Some size) = kind_in standard size
kind_sized standard None = None

-- "h263-"
abbrev pub h263_word : List ℕ
h263_word = 104 ∷ 50 ∷ 54 ∷ 51 ∷ 45 ∷ []

-- a size's word after that is H.263 in the size, and alone is H.261 in it
unfoldable pub kind_named : List ℕ → Option Kind
kind_named word = pick (alike (take 5 word) h263_word) (kind_sized H263 (size_named (drop 5 word))) (kind_sized H261 (size_named word))

-- ---- a clip
-- decimal digits, and a number of 16 bits
abbrev pub digit : ℕ → Bool
digit c = both (leb 48 c) (leb c 57)

abbrev pub longer : ℕ → ℕ → ℕ
longer n c = 10 * n + (c - 48)

unfoldable pub clip_after : ℕ → List ℕ → Option ℕ
clip_after n [] = Some n
clip_after n (c ∷ cs) = pick (both (digit c) (leb (longer n c) 65535)) (clip_after (longer n c) cs) None

unfoldable pub clip_named : List ℕ → Option ℕ
clip_named [] = None
clip_named (c ∷ cs) = clip_after 0 (c ∷ cs)

-- ---- a vault's blocks: a size, and which clip of it
abbrev pub size_alone : Option Size → Option VaultWords
size_alone (Some size) = Some (record { size = size; clip = None })
size_alone None = None

-- no clip has number 0
abbrev pub clip_in : Size → Option ℕ → Option VaultWords
clip_in size (Some clip) = pick (eqb clip 0) None (Some (record { size = size; clip = Some clip }))
clip_in size None = None

abbrev pub size_with_clip : Option Size → Option ℕ → Option VaultWords
size_with_clip (Some size) clip = clip_in size clip
size_with_clip None clip = None

-- how many words there are, the program's own name among them, and the two after it
unfoldable pub vault_named : ℕ → List ℕ → List ℕ → Option VaultWords
vault_named count size clip = pick (eqb count 2) (size_alone (size_named size)) (pick (eqb count 3) (size_with_clip (size_named size) (clip_named clip)) None)
