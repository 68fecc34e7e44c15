-- `h261_layers::macroblock::macroblock` meets its contract: a row of five reads, and what is left of it after each; the blocks go into the levels as
-- they are read, and the fields are put last.
use mathlib.Core.Path.{◌≡◌, refl, ap, ◌∙◌}
use native.Mathlib.Omega.{arith}
use Prim.Native.Nat.{ℕ, ◌≤◌}
use Rattle.bits.specs.Bits.{bits_left}
use Rattle.bits.specs.Places.{Places, counted}
use Rattle.bits.specs.Read.{ReaderIn, ◌>>=◌, refused}
use Rattle.bits.specs.declared.Place.{Place}
use Rattle.bits.proofs.Once.{once_word}
use Rattle.bits.specs.Code.{word}
use Rattle.fields.specs.Rules.{optional, quantiser}
use Rattle.fields.specs.Answer.{map_read, as_number}
use Rattle.fields.proofs.Row.{Row, row_number, row_no_number, row_number_good, row_pair, row_no_pair, row_pair_good}
use Rattle.fields.proofs.Told.{number_once, no_place, is_place}
use Rattle.h261_words.specs.Tables.{table2}
use Rattle.h261_words.specs.Words.{is_mc, has_mquant}
use Rattle.layout.specs.Value.{Vector, Macroblock}
use Rattle.h261_description.specs.Vector.{Before}
use Rattle.h261_layers.specs.Answer.{KeptVector, vector_of, before_of, Sent, put_sent}
use Rattle.h261_layers.specs.Grammar.{pattern_read, macroblock}
use Rattle.h261_layers.proofs.Layers.{pattern_reads}
use Rattle.h261_layers.proofs.MacroblockSteps.{Typed, typed_of}
use Rattle.h261_layers.proofs.MacroblockWhole as row
use Rattle.h261_layers.proofs.MacroblockWhole.{type_reads, mquant_reads, moved_reads, macroblock_begun, no_blocks, whole_macroblock, vector_kept, quantiser_small, small_byte}
use Rattle.h261_layers.proofs.macroblock.macroblock.Goals as goal
use Rattle.h261_layers.proofs.macroblock.macroblock.Goals.{After-blocks-arg-1, After-stopped, After-stopped-in_default-coded, After-stopped-in_default-quantised, After-stopped-in_default-pointed, After-stopped-in_default-sent, After-slice_known-4-1, In-Got, In-Got-pointed, In-Got-quantised}

abbrev put : (s : After-stopped) → Macroblock → Sent
put s = put_sent s.args.group s.args.macroblocks.now s.args.levels.now

abbrev before : (s : After-stopped) → Before
before s = before_of s.args.behind

abbrev after_type : (s : After-stopped) → ℕ → ReaderIn counted Macroblock
after_type s = row.after_type s.args.format s.args.number (before s) s.args.step

abbrev To : (s : After-stopped) → ReaderIn counted Macroblock → Place → Type 0
To s rest p = Row (macroblock s.args.format s.args.number (before s) s.args.step (bits_left s.args.bytes.now s.args.count s.args.at.bit) s.args.at) s.args.bytes.now s.args.count rest p

begun : (s : After-stopped) → (To s) (word table2 >>= (after_type s)) s.args.at
begun s = macroblock_begun s.args.format s.args.number (before s) s.args.step s.args.bytes.now s.args.count s.args.at s.requires.0.placed

kind_read : (c : After-stopped) → as_number c.args.bytes.now c.args.count c.once-kind.result ≡ word {P = counted} table2 (bits_left c.args.bytes.now c.args.count c.args.at.bit) c.args.at
kind_read c = number_once (once_word table2) _ _ _ c.mtype.result c.once-kind.ensures c.mtype.ensures

abbrev before-at2 : (s : In-Got) → Before
before-at2 s = before_of s.args.behind

abbrev after_type-at2 : (s : In-Got) → ℕ → ReaderIn counted Macroblock
after_type-at2 s = row.after_type s.args.format s.args.number (before-at2 s) s.args.step

abbrev To-at2 : (s : In-Got) → ReaderIn counted Macroblock → Place → Type 0
To-at2 s rest p = Row (macroblock s.args.format s.args.number (before-at2 s) s.args.step (bits_left s.args.bytes.now s.args.count s.args.at.bit) s.args.at) s.args.bytes.now s.args.count rest p

begun-at2 : (s : In-Got) → (To-at2 s) (word table2 >>= (after_type-at2 s)) s.args.at
begun-at2 s = macroblock_begun s.args.format s.args.number (before-at2 s) s.args.step s.args.bytes.now s.args.count s.args.at s.requires.0.placed

kind_read-at2 : (c : In-Got) → as_number c.args.bytes.now c.args.count c.once-kind.result ≡ word {P = counted} table2 (bits_left c.args.bytes.now c.args.count c.args.at.bit) c.args.at
kind_read-at2 c = number_once (once_word table2) _ _ _ c.mtype.result c.once-kind.ensures c.mtype.ensures

of_table : (c : In-Got) → Typed c.in-Got.found
of_table c = typed_of c.in-Got.found (row_number_good (λ P. word table2) (after_type-at2 c) (begun-at2 c) type_reads (kind_read-at2 c) c.in-Got.is)

typed : (c : In-Got) → To-at2 c (after_type-at2 c c.in-Got.found) c.in-Got.after_type
typed c = row_number (λ P. word table2) (after_type-at2 c) (begun-at2 c) type_reads (kind_read-at2 c) c.in-Got.is

abbrev put-at2 : (s : After-stopped-in_default-quantised) → Macroblock → Sent
put-at2 s = put_sent s.args.group s.args.macroblocks.now s.args.levels.now

abbrev before-at3 : (s : After-stopped-in_default-quantised) → Before
before-at3 s = before_of s.args.behind

abbrev after_quantiser : (s : After-stopped-in_default-quantised) → ℕ → ℕ → ReaderIn counted Macroblock
after_quantiser s = row.after_quantiser s.args.format s.args.number (before-at3 s) s.args.step

abbrev before-at4 : (s : In-Got-quantised) → Before
before-at4 s = before_of s.args.behind

abbrev To-at3 : (s : In-Got-quantised) → ReaderIn counted Macroblock → Place → Type 0
To-at3 s rest p = Row (macroblock s.args.format s.args.number (before-at4 s) s.args.step (bits_left s.args.bytes.now s.args.count s.args.at.bit) s.args.at) s.args.bytes.now s.args.count rest p

abbrev after_quantiser-at2 : (s : In-Got-quantised) → ℕ → ℕ → ReaderIn counted Macroblock
after_quantiser-at2 s = row.after_quantiser s.args.format s.args.number (before-at4 s) s.args.step

abbrev mquant_read : (c : In-Got-quantised) → {P : Places} → ReaderIn P ℕ
mquant_read c = optional (has_mquant c.in-Got.found) 0 quantiser

abbrev after_type-at3 : (s : In-Got-quantised) → ℕ → ReaderIn counted Macroblock
after_type-at3 s = row.after_type s.args.format s.args.number (before-at4 s) s.args.step

begun-at3 : (s : In-Got-quantised) → (To-at3 s) (word table2 >>= (after_type-at3 s)) s.args.at
begun-at3 s = macroblock_begun s.args.format s.args.number (before-at4 s) s.args.step s.args.bytes.now s.args.count s.args.at s.requires.0.placed

kind_read-at3 : (c : In-Got-quantised) → as_number c.args.bytes.now c.args.count c.once-kind.result ≡ word {P = counted} table2 (bits_left c.args.bytes.now c.args.count c.args.at.bit) c.args.at
kind_read-at3 c = number_once (once_word table2) _ _ _ c.mtype.result c.once-kind.ensures c.mtype.ensures

typed-at2 : (c : In-Got-quantised) → To-at3 c (after_type-at3 c c.in-Got.found) c.in-Got.after_type
typed-at2 c = row_number (λ P. word table2) (after_type-at3 c) (begun-at3 c) type_reads (kind_read-at3 c) c.in-Got.is

quantised : (c : In-Got-quantised) → To-at3 c (after_quantiser-at2 c c.in-Got.found c.in-Got-quantised.quantiser) c.in-Got-quantised.after_quantiser
quantised c =
    row_number (λ P. (mquant_read c)) (after_quantiser-at2 c c.in-Got.found) (typed-at2 c) (mquant_reads c.args.format c.args.number (before-at4 c) c.args.step c.in-Got.found)
    c.mquant-quantised.ensures c.in-Got-quantised.is

abbrev put-at3 : (s : After-stopped-in_default-pointed) → Macroblock → Sent
put-at3 s = put_sent s.args.group s.args.macroblocks.now s.args.levels.now

abbrev before-at5 : (s : After-stopped-in_default-pointed) → Before
before-at5 s = before_of s.args.behind

abbrev vector_after : (s : After-stopped-in_default-pointed) → {P : Places} → ℕ → ReaderIn P Vector
vector_after s = row.vector_after s.args.format s.args.number (before-at5 s) s.args.step

abbrev after_vector : (s : After-stopped-in_default-pointed) → ℕ → ℕ → Vector → ReaderIn counted Macroblock
after_vector s = row.after_vector s.args.format s.args.number (before-at5 s) s.args.step

abbrev before-at6 : (s : In-Got-pointed) → Before
before-at6 s = before_of s.args.behind

abbrev To-at4 : (s : In-Got-pointed) → ReaderIn counted Macroblock → Place → Type 0
To-at4 s rest p = Row (macroblock s.args.format s.args.number (before-at6 s) s.args.step (bits_left s.args.bytes.now s.args.count s.args.at.bit) s.args.at) s.args.bytes.now s.args.count rest p

abbrev after_vector-at2 : (s : In-Got-pointed) → ℕ → ℕ → Vector → ReaderIn counted Macroblock
after_vector-at2 s = row.after_vector s.args.format s.args.number (before-at6 s) s.args.step

abbrev vector_after-at2 : (s : In-Got-pointed) → {P : Places} → ℕ → ReaderIn P Vector
vector_after-at2 s = row.vector_after s.args.format s.args.number (before-at6 s) s.args.step

abbrev after_quantiser-at3 : (s : In-Got-pointed) → ℕ → ℕ → ReaderIn counted Macroblock
after_quantiser-at3 s = row.after_quantiser s.args.format s.args.number (before-at6 s) s.args.step

abbrev mquant_read-at2 : (c : In-Got-pointed) → {P : Places} → ReaderIn P ℕ
mquant_read-at2 c = optional (has_mquant c.in-Got.found) 0 quantiser

abbrev after_type-at4 : (s : In-Got-pointed) → ℕ → ReaderIn counted Macroblock
after_type-at4 s = row.after_type s.args.format s.args.number (before-at6 s) s.args.step

begun-at4 : (s : In-Got-pointed) → (To-at4 s) (word table2 >>= (after_type-at4 s)) s.args.at
begun-at4 s = macroblock_begun s.args.format s.args.number (before-at6 s) s.args.step s.args.bytes.now s.args.count s.args.at s.requires.0.placed

kind_read-at4 : (c : In-Got-pointed) → as_number c.args.bytes.now c.args.count c.once-kind.result ≡ word {P = counted} table2 (bits_left c.args.bytes.now c.args.count c.args.at.bit) c.args.at
kind_read-at4 c = number_once (once_word table2) _ _ _ c.mtype.result c.once-kind.ensures c.mtype.ensures

typed-at3 : (c : In-Got-pointed) → To-at4 c (after_type-at4 c c.in-Got.found) c.in-Got.after_type
typed-at3 c = row_number (λ P. word table2) (after_type-at4 c) (begun-at4 c) type_reads (kind_read-at4 c) c.in-Got.is

quantised-at2 : (c : In-Got-pointed) → To-at4 c (after_quantiser-at3 c c.in-Got.found c.in-Got-quantised.quantiser) c.in-Got-quantised.after_quantiser
quantised-at2 c =
    row_number (λ P. (mquant_read-at2 c)) (after_quantiser-at3 c c.in-Got.found) (typed-at3 c) (mquant_reads c.args.format c.args.number (before-at6 c) c.args.step c.in-Got.found)
    c.mquant-quantised.ensures c.in-Got-quantised.is

pointed : (c : In-Got-pointed) → To-at4 c (after_vector-at2 c c.in-Got.found c.in-Got-quantised.quantiser (vector_of c.in-Got-pointed.horizontal c.in-Got-pointed.vertical)) c.in-Got-pointed.after_vector
pointed c =
    row_pair vector_of (λ P. vector_after-at2 c c.in-Got.found) (after_vector-at2 c c.in-Got.found c.in-Got-quantised.quantiser) (quantised-at2 c) (moved_reads c.args.format c.args.number (before-at6 c) c.args.step c.in-Got.found)
    c.moved-pointed.ensures c.in-Got-pointed.is

abbrev put-at4 : (s : After-stopped-in_default-coded) → Macroblock → Sent
put-at4 s = put_sent s.args.group s.args.macroblocks.now s.args.levels.now

abbrev before-at7 : (s : After-stopped-in_default-coded) → Before
before-at7 s = before_of s.args.behind

abbrev after_pattern : (s : After-stopped-in_default-coded) → ℕ → ℕ → Vector → ℕ → ReaderIn counted Macroblock
after_pattern s = row.after_pattern s.args.format s.args.number (before-at7 s) s.args.step

abbrev before-at8 : (s : After-blocks-arg-1) → Before
before-at8 s = before_of s.args.behind

abbrev To-at5 : (s : After-blocks-arg-1) → ReaderIn counted Macroblock → Place → Type 0
To-at5 s rest p = Row (macroblock s.args.format s.args.number (before-at8 s) s.args.step (bits_left s.args.bytes.now s.args.count s.args.at.bit) s.args.at) s.args.bytes.now s.args.count rest p

abbrev after_pattern-at2 : (s : After-blocks-arg-1) → ℕ → ℕ → Vector → ℕ → ReaderIn counted Macroblock
after_pattern-at2 s = row.after_pattern s.args.format s.args.number (before-at8 s) s.args.step

abbrev vector₄ : (c : After-blocks-arg-1) → Vector
vector₄ c = vector_of c.in-Got-pointed.horizontal c.in-Got-pointed.vertical

abbrev after_vector-at3 : (s : After-blocks-arg-1) → ℕ → ℕ → Vector → ReaderIn counted Macroblock
after_vector-at3 s = row.after_vector s.args.format s.args.number (before-at8 s) s.args.step

abbrev vector_after-at3 : (s : After-blocks-arg-1) → {P : Places} → ℕ → ReaderIn P Vector
vector_after-at3 s = row.vector_after s.args.format s.args.number (before-at8 s) s.args.step

abbrev after_quantiser-at4 : (s : After-blocks-arg-1) → ℕ → ℕ → ReaderIn counted Macroblock
after_quantiser-at4 s = row.after_quantiser s.args.format s.args.number (before-at8 s) s.args.step

abbrev mquant_read-at3 : (c : After-blocks-arg-1) → {P : Places} → ReaderIn P ℕ
mquant_read-at3 c = optional (has_mquant c.in-Got.found) 0 quantiser

abbrev after_type-at5 : (s : After-blocks-arg-1) → ℕ → ReaderIn counted Macroblock
after_type-at5 s = row.after_type s.args.format s.args.number (before-at8 s) s.args.step

begun-at5 : (s : After-blocks-arg-1) → (To-at5 s) (word table2 >>= (after_type-at5 s)) s.args.at
begun-at5 s = macroblock_begun s.args.format s.args.number (before-at8 s) s.args.step s.args.bytes.now s.args.count s.args.at s.requires.0.placed

kind_read-at5 : (c : After-blocks-arg-1) → as_number c.args.bytes.now c.args.count c.once-kind.result ≡ word {P = counted} table2 (bits_left c.args.bytes.now c.args.count c.args.at.bit) c.args.at
kind_read-at5 c = number_once (once_word table2) _ _ _ c.mtype.result c.once-kind.ensures c.mtype.ensures

typed-at4 : (c : After-blocks-arg-1) → To-at5 c (after_type-at5 c c.in-Got.found) c.in-Got.after_type
typed-at4 c = row_number (λ P. word table2) (after_type-at5 c) (begun-at5 c) type_reads (kind_read-at5 c) c.in-Got.is

quantised-at3 : (c : After-blocks-arg-1) → To-at5 c (after_quantiser-at4 c c.in-Got.found c.in-Got-quantised.quantiser) c.in-Got-quantised.after_quantiser
quantised-at3 c =
    row_number (λ P. (mquant_read-at3 c)) (after_quantiser-at4 c c.in-Got.found) (typed-at4 c) (mquant_reads c.args.format c.args.number (before-at8 c) c.args.step c.in-Got.found)
    c.mquant-quantised.ensures c.in-Got-quantised.is

pointed-at2 : (c : After-blocks-arg-1) → To-at5 c (after_vector-at3 c c.in-Got.found c.in-Got-quantised.quantiser (vector_of c.in-Got-pointed.horizontal c.in-Got-pointed.vertical)) c.in-Got-pointed.after_vector
pointed-at2 c =
    row_pair vector_of (λ P. vector_after-at3 c c.in-Got.found) (after_vector-at3 c c.in-Got.found c.in-Got-quantised.quantiser) (quantised-at3 c) (moved_reads c.args.format c.args.number (before-at8 c) c.args.step c.in-Got.found)
    c.moved-pointed.ensures c.in-Got-pointed.is

coded : (c : After-blocks-arg-1) → To-at5 c (after_pattern-at2 c c.in-Got.found c.in-Got-quantised.quantiser (vector₄ c) c.in-Got-coded.cbp) c.in-Got-coded.after_pattern
coded c =
    row_number (λ P. pattern_read c.in-Got.found) (after_pattern-at2 c c.in-Got.found c.in-Got-quantised.quantiser (vector₄ c)) (pointed-at2 c) (pattern_reads c.in-Got.found)
    c.pattern-coded.ensures c.in-Got-coded.is

abbrev before-at9 : (s : After-stopped-in_default-sent) → Before
before-at9 s = before_of s.args.behind

abbrev vector₄-at2 : (c : After-stopped-in_default-sent) → Vector
vector₄-at2 c = vector_of c.in-Got-pointed.horizontal c.in-Got-pointed.vertical

abbrev To-at6 : (s : After-stopped-in_default-sent) → ReaderIn counted Macroblock → Place → Type 0
To-at6 s rest p = Row (macroblock s.args.format s.args.number (before-at9 s) s.args.step (bits_left s.args.bytes.now s.args.count s.args.at.bit) s.args.at) s.args.bytes.now s.args.count rest p

abbrev after_pattern-at3 : (s : After-stopped-in_default-sent) → ℕ → ℕ → Vector → ℕ → ReaderIn counted Macroblock
after_pattern-at3 s = row.after_pattern s.args.format s.args.number (before-at9 s) s.args.step

abbrev after_vector-at4 : (s : After-stopped-in_default-sent) → ℕ → ℕ → Vector → ReaderIn counted Macroblock
after_vector-at4 s = row.after_vector s.args.format s.args.number (before-at9 s) s.args.step

abbrev vector_after-at4 : (s : After-stopped-in_default-sent) → {P : Places} → ℕ → ReaderIn P Vector
vector_after-at4 s = row.vector_after s.args.format s.args.number (before-at9 s) s.args.step

abbrev after_quantiser-at5 : (s : After-stopped-in_default-sent) → ℕ → ℕ → ReaderIn counted Macroblock
after_quantiser-at5 s = row.after_quantiser s.args.format s.args.number (before-at9 s) s.args.step

abbrev mquant_read-at4 : (c : After-stopped-in_default-sent) → {P : Places} → ReaderIn P ℕ
mquant_read-at4 c = optional (has_mquant c.in-Got.found) 0 quantiser

abbrev after_type-at6 : (s : After-stopped-in_default-sent) → ℕ → ReaderIn counted Macroblock
after_type-at6 s = row.after_type s.args.format s.args.number (before-at9 s) s.args.step

begun-at6 : (s : After-stopped-in_default-sent) → (To-at6 s) (word table2 >>= (after_type-at6 s)) s.args.at
begun-at6 s = macroblock_begun s.args.format s.args.number (before-at9 s) s.args.step s.args.bytes.now s.args.count s.args.at s.requires.0.placed

kind_read-at6 : (c : After-stopped-in_default-sent) → as_number c.args.bytes.now c.args.count c.once-kind.result ≡ word {P = counted} table2 (bits_left c.args.bytes.now c.args.count c.args.at.bit) c.args.at
kind_read-at6 c = number_once (once_word table2) _ _ _ c.mtype.result c.once-kind.ensures c.mtype.ensures

typed-at5 : (c : After-stopped-in_default-sent) → To-at6 c (after_type-at6 c c.in-Got.found) c.in-Got.after_type
typed-at5 c = row_number (λ P. word table2) (after_type-at6 c) (begun-at6 c) type_reads (kind_read-at6 c) c.in-Got.is

quantised-at4 : (c : After-stopped-in_default-sent) → To-at6 c (after_quantiser-at5 c c.in-Got.found c.in-Got-quantised.quantiser) c.in-Got-quantised.after_quantiser
quantised-at4 c =
    row_number (λ P. (mquant_read-at4 c)) (after_quantiser-at5 c c.in-Got.found) (typed-at5 c) (mquant_reads c.args.format c.args.number (before-at9 c) c.args.step c.in-Got.found)
    c.mquant-quantised.ensures c.in-Got-quantised.is

pointed-at3 : (c : After-stopped-in_default-sent) → To-at6 c (after_vector-at4 c c.in-Got.found c.in-Got-quantised.quantiser (vector_of c.in-Got-pointed.horizontal c.in-Got-pointed.vertical)) c.in-Got-pointed.after_vector
pointed-at3 c =
    row_pair vector_of (λ P. vector_after-at4 c c.in-Got.found) (after_vector-at4 c c.in-Got.found c.in-Got-quantised.quantiser) (quantised-at4 c) (moved_reads c.args.format c.args.number (before-at9 c) c.args.step c.in-Got.found)
    c.moved-pointed.ensures c.in-Got-pointed.is

coded-at2 : (c : After-stopped-in_default-sent) → To-at6 c (after_pattern-at3 c c.in-Got.found c.in-Got-quantised.quantiser (vector₄-at2 c) c.in-Got-coded.cbp) c.in-Got-coded.after_pattern
coded-at2 c =
    row_number (λ P. pattern_read c.in-Got.found) (after_pattern-at3 c c.in-Got.found c.in-Got-quantised.quantiser (vector₄-at2 c)) (pointed-at3 c) (pattern_reads c.in-Got.found)
    c.pattern-coded.ensures c.in-Got-coded.is

mquant_small : (c : In-Got-quantised) → c.in-Got-quantised.quantiser ≤ 31
mquant_small c =
    quantiser_small (has_mquant c.in-Got.found) c.in-Got-quantised.quantiser
    (row_number_good (λ P. (mquant_read c)) (after_quantiser-at2 c c.in-Got.found) (typed-at2 c) (mquant_reads c.args.format c.args.number (before-at4 c) c.args.step c.in-Got.found)
    c.mquant-quantised.ensures c.in-Got-quantised.is)

kept : (c : In-Got-pointed) → KeptVector c.in-Got-pointed.horizontal c.in-Got-pointed.vertical
kept c =
    let k = vector_kept (is_mc c.in-Got.found) c.args.format c.args.number _ c.in-Got-pointed.horizontal c.in-Got-pointed.vertical
    (row_pair_good vector_of (λ P. vector_after-at2 c c.in-Got.found) (after_vector-at2 c c.in-Got.found c.in-Got-quantised.quantiser) (quantised-at2 c) (moved_reads c.args.format c.args.number (before-at6 c) c.args.step c.in-Got.found)
    c.moved-pointed.ensures c.in-Got-pointed.is) in
    record { horizontally = k.0; vertically = k.1 }

abbrev before-at10 : (s : After-slice_known-4-1) → Before
before-at10 s = before_of s.args.behind

abbrev vector₄-at3 : (c : After-slice_known-4-1) → Vector
vector₄-at3 c = vector_of c.in-Got-pointed.horizontal c.in-Got-pointed.vertical

abbrev To-at7 : (s : After-slice_known-4-1) → ReaderIn counted Macroblock → Place → Type 0
To-at7 s rest p = Row (macroblock s.args.format s.args.number (before-at10 s) s.args.step (bits_left s.args.bytes.now s.args.count s.args.at.bit) s.args.at) s.args.bytes.now s.args.count rest p

abbrev after_pattern-at4 : (s : After-slice_known-4-1) → ℕ → ℕ → Vector → ℕ → ReaderIn counted Macroblock
after_pattern-at4 s = row.after_pattern s.args.format s.args.number (before-at10 s) s.args.step

abbrev after_vector-at5 : (s : After-slice_known-4-1) → ℕ → ℕ → Vector → ReaderIn counted Macroblock
after_vector-at5 s = row.after_vector s.args.format s.args.number (before-at10 s) s.args.step

abbrev vector_after-at5 : (s : After-slice_known-4-1) → {P : Places} → ℕ → ReaderIn P Vector
vector_after-at5 s = row.vector_after s.args.format s.args.number (before-at10 s) s.args.step

abbrev after_quantiser-at6 : (s : After-slice_known-4-1) → ℕ → ℕ → ReaderIn counted Macroblock
after_quantiser-at6 s = row.after_quantiser s.args.format s.args.number (before-at10 s) s.args.step

abbrev mquant_read-at5 : (c : After-slice_known-4-1) → {P : Places} → ReaderIn P ℕ
mquant_read-at5 c = optional (has_mquant c.in-Got.found) 0 quantiser

abbrev after_type-at7 : (s : After-slice_known-4-1) → ℕ → ReaderIn counted Macroblock
after_type-at7 s = row.after_type s.args.format s.args.number (before-at10 s) s.args.step

begun-at7 : (s : After-slice_known-4-1) → (To-at7 s) (word table2 >>= (after_type-at7 s)) s.args.at
begun-at7 s = macroblock_begun s.args.format s.args.number (before-at10 s) s.args.step s.args.bytes.now s.args.count s.args.at s.requires.0.placed

kind_read-at7 : (c : After-slice_known-4-1) → as_number c.args.bytes.now c.args.count c.once-kind.result ≡ word {P = counted} table2 (bits_left c.args.bytes.now c.args.count c.args.at.bit) c.args.at
kind_read-at7 c = number_once (once_word table2) _ _ _ c.mtype.result c.once-kind.ensures c.mtype.ensures

typed-at6 : (c : After-slice_known-4-1) → To-at7 c (after_type-at7 c c.in-Got.found) c.in-Got.after_type
typed-at6 c = row_number (λ P. word table2) (after_type-at7 c) (begun-at7 c) type_reads (kind_read-at7 c) c.in-Got.is

quantised-at5 : (c : After-slice_known-4-1) → To-at7 c (after_quantiser-at6 c c.in-Got.found c.in-Got-quantised.quantiser) c.in-Got-quantised.after_quantiser
quantised-at5 c =
    row_number (λ P. (mquant_read-at5 c)) (after_quantiser-at6 c c.in-Got.found) (typed-at6 c) (mquant_reads c.args.format c.args.number (before-at10 c) c.args.step c.in-Got.found)
    c.mquant-quantised.ensures c.in-Got-quantised.is

pointed-at4 : (c : After-slice_known-4-1) → To-at7 c (after_vector-at5 c c.in-Got.found c.in-Got-quantised.quantiser (vector_of c.in-Got-pointed.horizontal c.in-Got-pointed.vertical)) c.in-Got-pointed.after_vector
pointed-at4 c =
    row_pair vector_of (λ P. vector_after-at5 c c.in-Got.found) (after_vector-at5 c c.in-Got.found c.in-Got-quantised.quantiser) (quantised-at5 c) (moved_reads c.args.format c.args.number (before-at10 c) c.args.step c.in-Got.found)
    c.moved-pointed.ensures c.in-Got-pointed.is

coded-at3 : (c : After-slice_known-4-1) → To-at7 c (after_pattern-at4 c c.in-Got.found c.in-Got-quantised.quantiser (vector₄-at3 c) c.in-Got-coded.cbp) c.in-Got-coded.after_pattern
coded-at3 c =
    row_number (λ P. pattern_read c.in-Got.found) (after_pattern-at4 c c.in-Got.found c.in-Got-quantised.quantiser (vector₄-at3 c)) (pointed-at4 c) (pattern_reads c.in-Got.found)
    c.pattern-coded.ensures c.in-Got-coded.is

pub mtype-requires : goal.mtype-requires
mtype-requires c =
    (c.requires.0.tabled, c.requires.0.placed.within)

pub once-kind-requires : goal.once-kind-requires
once-kind-requires c = let l = c.requires.0.placed.countable in omega arith

pub returns-in_default : goal.returns-in_default
returns-in_default c =
    ap (map_read (put c)) (row_no_number (λ P. word table2) (after_type c) (begun c) c.once-kind.result c.in_default.is (kind_read c) c.stopped.ensures)

pub overflow_cast-mtype : goal.overflow_cast-mtype
overflow_cast-mtype c = omega (arith, (of_table c).high)

pub mquant-quantised-requires : goal.mquant-quantised-requires
mquant-quantised-requires c = (typed c).placed

pub returns-in_default-quantised : goal.returns-in_default-quantised
returns-in_default-quantised c =
    ap (map_read (put-at2 c))
    (row_no_number (λ P. optional (has_mquant c.in-Got.found) 0 quantiser) (after_quantiser c c.in-Got.found) (typed (goal.at.returns-in_default-quantised c).In-Got) c.mquant-quantised.result c.in_default-quantised.is
    c.mquant-quantised.ensures c.stopped-in_default-quantised.ensures)

pub moved-pointed-requires : goal.moved-pointed-requires
moved-pointed-requires c = (record { tabled = c.requires.0.tabled; placed = (quantised c).placed }, c.requires.1.stepped)

pub returns-in_default-pointed : goal.returns-in_default-pointed
returns-in_default-pointed c =
    ap (map_read (put-at3 c))
    (row_no_pair vector_of (λ P. vector_after c c.in-Got.found) (after_vector c c.in-Got.found c.in-Got-quantised.quantiser) (quantised (goal.at.returns-in_default-pointed c).In-Got-quantised) c.moved-pointed.result
    c.in_default-pointed.is c.moved-pointed.ensures c.stopped-in_default-pointed.ensures)

pub pattern-coded-requires : goal.pattern-coded-requires
pattern-coded-requires c = record { tabled = c.requires.0.tabled; placed = (pointed c).placed }

pub returns-in_default-coded : goal.returns-in_default-coded
returns-in_default-coded c =
    ap (map_read (put-at4 c))
    (row_no_number (λ P. pattern_read c.in-Got.found) (after_pattern c c.in-Got.found c.in-Got-quantised.quantiser (vector_of c.in-Got-pointed.horizontal c.in-Got-pointed.vertical)) (pointed (goal.at.returns-in_default-coded c).In-Got-pointed) c.pattern-coded.result
    c.in_default-coded.is c.pattern-coded.ensures c.stopped-in_default-coded.ensures)

pub overflow_add-address : goal.overflow_add-address
overflow_add-address c = omega (arith, c.requires.1.stepped.last_address)

pub overflow_mul-index : goal.overflow_mul-index
overflow_mul-index c = omega (arith, c.requires.1.group_high)

pub overflow_sub-index : goal.overflow_sub-index
overflow_sub-index c = omega (arith, c.requires.1.stepped.ahead)

pub overflow_add-index : goal.overflow_add-index
overflow_add-index c = let ready = c.requires.1 in omega (arith, ready.group_high, ready.stepped.last_address)

pub overflow_mul-index-2 : goal.overflow_mul-index-2
overflow_mul-index-2 c = let ready = c.requires.1 in omega (arith, ready.group_high, ready.stepped.last_address)

pub blocks-sent-requires : goal.blocks-sent-requires
blocks-sent-requires c =
    let ready = c.requires.1 in
    (record { tabled = c.requires.0.tabled; placed = (coded c).placed }, omega (arith, ready.stepped.last_address, ready.levels_room))

pub returns-in_default-sent : goal.returns-in_default-sent
returns-in_default-sent c =
    ap refused c.stopped-in_default-sent.ensures
    ∙ no_blocks c.args.format c.args.number (before-at9 c) c.args.step c.in-Got.found c.in-Got-quantised.quantiser (vector₄-at2 c) c.in-Got-coded.cbp (coded-at2 c) c.args.group c.args.macroblocks.now c.args.levels.now
    c.is_intra-intra.result c.is_intra-intra.ensures _ refl _ (no_place _ _ _ c.blocks-sent.result c.in_default-sent.is c.blocks-sent.ensures)

pub overflow_mul-index-3 : goal.overflow_mul-index-3
overflow_mul-index-3 c = let ready = c.requires.1 in omega (arith, ready.group_high, ready.stepped.last_address)

pub overflow_cast-mtype-2 : goal.overflow_cast-mtype-2
overflow_cast-mtype-2 c = omega (arith, (of_table (goal.at.overflow_cast-mtype-2 c).In-Got).high)

pub overflow_cast-quantiser : goal.overflow_cast-quantiser
overflow_cast-quantiser c = record { fits = small_byte _ (mquant_small (goal.at.overflow_cast-quantiser c).In-Got-quantised) }

pub put_fields-requires : goal.put_fields-requires
put_fields-requires c =
    let ready = c.requires.1 in
    (omega (arith, ready.stepped.last_address, ready.macroblocks_room), kept (goal.at.put_fields-requires c).In-Got-pointed)

pub returns : goal.returns
returns c =
    whole_macroblock c.args.format c.args.number (before-at10 c) c.args.step c.in-Got.found c.in-Got-quantised.quantiser (vector₄-at3 c) c.in-Got-coded.cbp (coded-at3 c) c.args.group c.args.macroblocks.now c.args.levels.now
    c.is_intra-intra.result c.is_intra-intra.ensures _ refl _ _ _ _ (is_place _ _ _ _ _ c.blocks-sent.ensures c.in-Got-sent.is) c.put_fields.ensures
