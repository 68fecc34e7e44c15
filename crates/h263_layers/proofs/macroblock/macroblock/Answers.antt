-- `h263_layers::macroblock::macroblock` meets its contract: a row of four reads, and what is left of it after each; the blocks go into the levels as
-- they are read, and the fields are put last.
use mathlib.Core.Path.{◌≡◌, ap, ◌∙◌}
use native.Mathlib.Omega.{arith}
use Prim.Native.Nat.{ℕ, ◌+◌, ◌-◌, ◌*◌, ◌≤◌, ◌<◌}
use Rattle.bits.specs.Bits.{bits_left}
use Rattle.bits.specs.Places.{Places, counted}
use Rattle.bits.specs.Read.{ReaderIn, ◌>>=◌, refused}
use Rattle.bits.specs.declared.Place.{Place}
use Rattle.bits.specs.Code.{word}
use Rattle.bits.proofs.Once.{once_word}
use Rattle.size.specs.Place.{macroblocks_across}
use Rattle.layout.specs.Value.{Vector, Macroblock}
use Rattle.layout.specs.Flat.{index}
use Rattle.fields.specs.Answer.{map_read, as_number}
use Rattle.fields.proofs.Row.{Row, row_number, row_no_number, row_number_good, row_pair, row_no_pair, row_pair_good}
use Rattle.fields.proofs.Told.{number_once, no_place, is_place}
use Rattle.h263_words.specs.Tables.{cbpy}
use Rattle.h263_words.specs.Words.{is_inter, has_dquant, type_in}
use Rattle.h263_words.proofs.WordReads.{cbpy_reads}
use Rattle.h263_layers.specs.Answer.{vector_of, vector_kept, Sent, put_sent}
use Rattle.h263_layers.specs.Grammar.{macroblock}
use Rattle.h263_layers.proofs.MacroblockWhole as row
use Rattle.h263_layers.proofs.MacroblockWhole.{Roomy, quantiser_after_lem, vector_after_lem, macroblock_begun, no_blocks, whole_macroblock, vector_low, quantiser_low, index_roomy}
use Rattle.h263_layers.proofs.macroblock.macroblock.Goals as goal
use Rattle.h263_layers.proofs.macroblock.macroblock.Goals.{After-across, After-stopped, After-stopped-in_default-quantised, After-stopped-in_default-pointed, After-stopped-in_default-sent, After-slice_known-4-1, In-Got, In-Got-pointed, In-Got-quantised}

abbrev put : (s : After-stopped) → Macroblock → Sent
put s = put_sent (macroblocks_across s.args.size) s.args.number s.args.macroblocks.now s.args.levels.now

abbrev predicted : (s : After-stopped) → Vector
predicted s = vector_kept s.args.predicted

abbrev after_pattern : (s : After-stopped) → ℕ → ReaderIn counted Macroblock
after_pattern s = row.after_pattern s.args.size s.args.number s.args.address (predicted s) s.args.mcbpc

abbrev To : (s : After-stopped) → ReaderIn counted Macroblock → Place → Type 0
To s rest p =
    Row (macroblock s.args.size s.args.number s.args.address (predicted s) s.args.mcbpc (bits_left s.args.bytes.now s.args.count s.args.at.bit) s.args.at) s.args.bytes.now s.args.count
    rest p

begun : (s : After-stopped) → (To s) (word cbpy >>= (after_pattern s)) s.args.at
begun s = macroblock_begun s.args.size s.args.number s.args.address (predicted s) s.args.mcbpc s.args.bytes.now s.args.count s.args.at s.requires.0.placed

pattern_read : (c : After-stopped) → as_number c.args.bytes.now c.args.count c.once-coded.result ≡ word {P = counted} cbpy (bits_left c.args.bytes.now c.args.count c.args.at.bit) c.args.at
pattern_read c = number_once (once_word cbpy) _ _ _ c.cbpy.result c.once-coded.ensures c.cbpy.ensures

abbrev predicted-at2 : (s : In-Got) → Vector
predicted-at2 s = vector_kept s.args.predicted

abbrev To-at2 : (s : In-Got) → ReaderIn counted Macroblock → Place → Type 0
To-at2 s rest p =
    Row (macroblock s.args.size s.args.number s.args.address (predicted-at2 s) s.args.mcbpc (bits_left s.args.bytes.now s.args.count s.args.at.bit) s.args.at) s.args.bytes.now s.args.count
    rest p

abbrev after_pattern-at2 : (s : In-Got) → ℕ → ReaderIn counted Macroblock
after_pattern-at2 s = row.after_pattern s.args.size s.args.number s.args.address (predicted-at2 s) s.args.mcbpc

begun-at2 : (s : In-Got) → (To-at2 s) (word cbpy >>= (after_pattern-at2 s)) s.args.at
begun-at2 s = macroblock_begun s.args.size s.args.number s.args.address (predicted-at2 s) s.args.mcbpc s.args.bytes.now s.args.count s.args.at s.requires.0.placed

pattern_read-at2 : (c : In-Got) → as_number c.args.bytes.now c.args.count c.once-coded.result ≡ word {P = counted} cbpy (bits_left c.args.bytes.now c.args.count c.args.at.bit) c.args.at
pattern_read-at2 c = number_once (once_word cbpy) _ _ _ c.cbpy.result c.once-coded.ensures c.cbpy.ensures

coded : (c : In-Got) → To-at2 c (after_pattern-at2 c c.in-Got.luminance) c.in-Got.after_pattern
coded c = row_number (λ P. word cbpy) (after_pattern-at2 c) (begun-at2 c) cbpy_reads (pattern_read-at2 c) c.in-Got.is

abbrev put-at2 : (s : After-stopped-in_default-quantised) → Macroblock → Sent
put-at2 s = put_sent (macroblocks_across s.args.size) s.args.number s.args.macroblocks.now s.args.levels.now

abbrev predicted-at3 : (s : After-stopped-in_default-quantised) → Vector
predicted-at3 s = vector_kept s.args.predicted

abbrev quantiser_after : (s : After-stopped-in_default-quantised) → {P : Places} → ReaderIn P ℕ
quantiser_after s = row.quantiser_after s.args.size s.args.number s.args.address (predicted-at3 s) s.args.mcbpc

abbrev after_quantiser : (s : After-stopped-in_default-quantised) → ℕ → ℕ → ReaderIn counted Macroblock
after_quantiser s = row.after_quantiser s.args.size s.args.number s.args.address (predicted-at3 s) s.args.mcbpc

abbrev predicted-at4 : (s : In-Got-quantised) → Vector
predicted-at4 s = vector_kept s.args.predicted

abbrev To-at3 : (s : In-Got-quantised) → ReaderIn counted Macroblock → Place → Type 0
To-at3 s rest p =
    Row (macroblock s.args.size s.args.number s.args.address (predicted-at4 s) s.args.mcbpc (bits_left s.args.bytes.now s.args.count s.args.at.bit) s.args.at) s.args.bytes.now s.args.count
    rest p

abbrev after_quantiser-at2 : (s : In-Got-quantised) → ℕ → ℕ → ReaderIn counted Macroblock
after_quantiser-at2 s = row.after_quantiser s.args.size s.args.number s.args.address (predicted-at4 s) s.args.mcbpc

abbrev quantiser_after-at2 : (s : In-Got-quantised) → {P : Places} → ReaderIn P ℕ
quantiser_after-at2 s = row.quantiser_after s.args.size s.args.number s.args.address (predicted-at4 s) s.args.mcbpc

abbrev after_pattern-at3 : (s : In-Got-quantised) → ℕ → ReaderIn counted Macroblock
after_pattern-at3 s = row.after_pattern s.args.size s.args.number s.args.address (predicted-at4 s) s.args.mcbpc

begun-at3 : (s : In-Got-quantised) → (To-at3 s) (word cbpy >>= (after_pattern-at3 s)) s.args.at
begun-at3 s = macroblock_begun s.args.size s.args.number s.args.address (predicted-at4 s) s.args.mcbpc s.args.bytes.now s.args.count s.args.at s.requires.0.placed

pattern_read-at3 : (c : In-Got-quantised) → as_number c.args.bytes.now c.args.count c.once-coded.result ≡ word {P = counted} cbpy (bits_left c.args.bytes.now c.args.count c.args.at.bit) c.args.at
pattern_read-at3 c = number_once (once_word cbpy) _ _ _ c.cbpy.result c.once-coded.ensures c.cbpy.ensures

coded-at2 : (c : In-Got-quantised) → To-at3 c (after_pattern-at3 c c.in-Got.luminance) c.in-Got.after_pattern
coded-at2 c = row_number (λ P. word cbpy) (after_pattern-at3 c) (begun-at3 c) cbpy_reads (pattern_read-at3 c) c.in-Got.is

quantised : (c : In-Got-quantised) → To-at3 c (after_quantiser-at2 c c.in-Got.luminance c.in-Got-quantised.changed) c.in-Got-quantised.after_quantiser
quantised c =
    row_number (λ P. quantiser_after-at2 c) (after_quantiser-at2 c c.in-Got.luminance) (coded-at2 c)
    (quantiser_after_lem c.args.size c.args.number c.args.address (predicted-at4 c) c.args.mcbpc)
    c.dquant-quantised.ensures c.in-Got-quantised.is

abbrev put-at3 : (s : After-stopped-in_default-pointed) → Macroblock → Sent
put-at3 s = put_sent (macroblocks_across s.args.size) s.args.number s.args.macroblocks.now s.args.levels.now

abbrev predicted-at5 : (s : After-stopped-in_default-pointed) → Vector
predicted-at5 s = vector_kept s.args.predicted

abbrev vector_after : (s : After-stopped-in_default-pointed) → {P : Places} → ReaderIn P Vector
vector_after s = row.vector_after s.args.size s.args.number s.args.address (predicted-at5 s) s.args.mcbpc

abbrev after_vector : (s : After-stopped-in_default-pointed) → ℕ → ℕ → Vector → ReaderIn counted Macroblock
after_vector s = row.after_vector s.args.size s.args.number s.args.address (predicted-at5 s) s.args.mcbpc

abbrev placed : (c : After-across) → ℕ
placed c = index (macroblocks_across c.args.size) c.args.number c.args.address

index_is : (c : After-across) → c.args.number * c.across.result + (c.args.address - 1) ≡ (placed c)
index_is c = ap (λ (k : ℕ). c.args.number * k + (c.args.address - 1)) c.across.ensures

roomy : (c : After-across) → Roomy c.args.size (placed c)
roomy c = let ready = c.requires.1.vectored in index_roomy c.args.size _ _ ready.last_group ready.first_address ready.last_address

luminance_low : (c : In-Got) → c.in-Got.luminance < 16
luminance_low c = row_number_good (λ P. word cbpy) (after_pattern-at2 c) (begun-at2 c) cbpy_reads (pattern_read-at2 c) c.in-Got.is

abbrev predicted-at6 : (s : In-Got-pointed) → Vector
predicted-at6 s = vector_kept s.args.predicted

abbrev To-at4 : (s : In-Got-pointed) → ReaderIn counted Macroblock → Place → Type 0
To-at4 s rest p =
    Row (macroblock s.args.size s.args.number s.args.address (predicted-at6 s) s.args.mcbpc (bits_left s.args.bytes.now s.args.count s.args.at.bit) s.args.at) s.args.bytes.now s.args.count
    rest p

abbrev after_vector-at2 : (s : In-Got-pointed) → ℕ → ℕ → Vector → ReaderIn counted Macroblock
after_vector-at2 s = row.after_vector s.args.size s.args.number s.args.address (predicted-at6 s) s.args.mcbpc

abbrev vector_after-at2 : (s : In-Got-pointed) → {P : Places} → ReaderIn P Vector
vector_after-at2 s = row.vector_after s.args.size s.args.number s.args.address (predicted-at6 s) s.args.mcbpc

abbrev after_quantiser-at3 : (s : In-Got-pointed) → ℕ → ℕ → ReaderIn counted Macroblock
after_quantiser-at3 s = row.after_quantiser s.args.size s.args.number s.args.address (predicted-at6 s) s.args.mcbpc

abbrev quantiser_after-at3 : (s : In-Got-pointed) → {P : Places} → ReaderIn P ℕ
quantiser_after-at3 s = row.quantiser_after s.args.size s.args.number s.args.address (predicted-at6 s) s.args.mcbpc

abbrev after_pattern-at4 : (s : In-Got-pointed) → ℕ → ReaderIn counted Macroblock
after_pattern-at4 s = row.after_pattern s.args.size s.args.number s.args.address (predicted-at6 s) s.args.mcbpc

begun-at4 : (s : In-Got-pointed) → (To-at4 s) (word cbpy >>= (after_pattern-at4 s)) s.args.at
begun-at4 s = macroblock_begun s.args.size s.args.number s.args.address (predicted-at6 s) s.args.mcbpc s.args.bytes.now s.args.count s.args.at s.requires.0.placed

pattern_read-at4 : (c : In-Got-pointed) → as_number c.args.bytes.now c.args.count c.once-coded.result ≡ word {P = counted} cbpy (bits_left c.args.bytes.now c.args.count c.args.at.bit) c.args.at
pattern_read-at4 c = number_once (once_word cbpy) _ _ _ c.cbpy.result c.once-coded.ensures c.cbpy.ensures

coded-at3 : (c : In-Got-pointed) → To-at4 c (after_pattern-at4 c c.in-Got.luminance) c.in-Got.after_pattern
coded-at3 c = row_number (λ P. word cbpy) (after_pattern-at4 c) (begun-at4 c) cbpy_reads (pattern_read-at4 c) c.in-Got.is

quantised-at2 : (c : In-Got-pointed) → To-at4 c (after_quantiser-at3 c c.in-Got.luminance c.in-Got-quantised.changed) c.in-Got-quantised.after_quantiser
quantised-at2 c =
    row_number (λ P. quantiser_after-at3 c) (after_quantiser-at3 c c.in-Got.luminance) (coded-at3 c)
    (quantiser_after_lem c.args.size c.args.number c.args.address (predicted-at6 c) c.args.mcbpc)
    c.dquant-quantised.ensures c.in-Got-quantised.is

pointed : (c : In-Got-pointed) → To-at4 c (after_vector-at2 c c.in-Got.luminance c.in-Got-quantised.changed (vector_of c.in-Got-pointed.horizontal c.in-Got-pointed.vertical)) c.in-Got-pointed.after_vector
pointed c =
    row_pair vector_of (λ P. vector_after-at2 c) (after_vector-at2 c c.in-Got.luminance c.in-Got-quantised.changed) (quantised-at2 c)
    (vector_after_lem c.args.size c.args.number c.args.address (predicted-at6 c) c.args.mcbpc)
    c.moved-pointed.ensures c.in-Got-pointed.is

abbrev predicted-at7 : (s : After-stopped-in_default-sent) → Vector
predicted-at7 s = vector_kept s.args.predicted

quantiser_byte : (c : In-Got-quantised) → c.in-Got-quantised.changed ≤ 255
quantiser_byte c =
    quantiser_low (has_dquant (type_in c.args.mcbpc)) c.in-Got-quantised.changed
    (row_number_good (λ P. quantiser_after-at2 c) (after_quantiser-at2 c c.in-Got.luminance) (coded-at2 c)
    (quantiser_after_lem c.args.size c.args.number c.args.address (predicted-at4 c) c.args.mcbpc)
    c.dquant-quantised.ensures c.in-Got-quantised.is)

kept : (c : In-Got-pointed) → (c.in-Got-pointed.horizontal ≤ 63) × (c.in-Got-pointed.vertical ≤ 63)
kept c =
    vector_low (is_inter (type_in c.args.mcbpc)) c.args.size c.args.number c.args.address c.in-Got-pointed.horizontal c.in-Got-pointed.vertical
    (row_pair_good vector_of (λ P. vector_after-at2 c) (after_vector-at2 c c.in-Got.luminance c.in-Got-quantised.changed) (quantised-at2 c)
    (vector_after_lem c.args.size c.args.number c.args.address (predicted-at6 c) c.args.mcbpc)
    c.moved-pointed.ensures c.in-Got-pointed.is)

abbrev predicted-at8 : (s : After-slice_known-4-1) → Vector
predicted-at8 s = vector_kept s.args.predicted

pub cbpy-requires : goal.cbpy-requires
cbpy-requires c =
    (c.requires.0.tabled, c.requires.0.placed.within)

pub once-coded-requires : goal.once-coded-requires
once-coded-requires c = let l = c.requires.0.placed.countable in omega arith

pub returns-in_default : goal.returns-in_default
returns-in_default c =
    ap (map_read (put c)) (row_no_number (λ P. word cbpy) (after_pattern c) (begun c) c.once-coded.result c.in_default.is (pattern_read c) c.stopped.ensures)

pub overflow_cast-kind : goal.overflow_cast-kind
overflow_cast-kind c = omega (arith, c.requires.1.typed)

pub dquant-quantised-requires : goal.dquant-quantised-requires
dquant-quantised-requires c = (coded c).placed

pub returns-in_default-quantised : goal.returns-in_default-quantised
returns-in_default-quantised c =
    ap (map_read (put-at2 c))
    (row_no_number (λ P. quantiser_after c) (after_quantiser c c.in-Got.luminance) (coded (goal.at.returns-in_default-quantised c).In-Got) c.dquant-quantised.result c.in_default-quantised.is
    c.dquant-quantised.ensures c.stopped-in_default-quantised.ensures)

pub moved-pointed-requires : goal.moved-pointed-requires
moved-pointed-requires c = (record { tabled = c.requires.0.tabled; placed = (quantised c).placed }, c.requires.1.vectored)

pub returns-in_default-pointed : goal.returns-in_default-pointed
returns-in_default-pointed c =
    ap (map_read (put-at3 c))
    (row_no_pair vector_of (λ P. vector_after c) (after_vector c c.in-Got.luminance c.in-Got-quantised.changed) (quantised (goal.at.returns-in_default-pointed c).In-Got-quantised) c.moved-pointed.result
    c.in_default-pointed.is c.moved-pointed.ensures c.stopped-in_default-pointed.ensures)

pub overflow_mul-index : goal.overflow_mul-index
overflow_mul-index c = omega (arith, index_is c, (roomy c).few)

pub overflow_sub-index : goal.overflow_sub-index
overflow_sub-index c = omega (arith, c.requires.1.vectored.first_address)

pub overflow_add-index : goal.overflow_add-index
overflow_add-index c = omega (arith, index_is c, (roomy c).few)

pub pattern-requires : goal.pattern-requires
pattern-requires c = omega (arith, luminance_low (goal.at.pattern-requires c).In-Got)

pub overflow_mul-index-2 : goal.overflow_mul-index-2
overflow_mul-index-2 c =
    let at-after-across = (goal.at.overflow_mul-index-2 c).After-across in
    omega (arith, index_is at-after-across, (roomy at-after-across).few)

pub blocks-sent-requires : goal.blocks-sent-requires
blocks-sent-requires c =
    let at-after-across = (goal.at.blocks-sent-requires c).After-across in (
      record { tabled = c.requires.0.tabled; placed = (pointed (goal.at.blocks-sent-requires c).In-Got-pointed).placed },
      omega (arith, index_is at-after-across, (roomy at-after-across).levels, c.requires.1.levels_long),
    )

pub returns-in_default-sent : goal.returns-in_default-sent
returns-in_default-sent c =
    ap refused c.stopped-in_default-sent.ensures
    ∙ no_blocks c.args.size c.args.number c.args.address (predicted-at7 c) c.args.mcbpc c.in-Got.luminance c.in-Got-quantised.changed (vector_of c.in-Got-pointed.horizontal c.in-Got-pointed.vertical) (pointed (goal.at.returns-in_default-sent c).In-Got-pointed) c.args.macroblocks.now
    c.args.levels.now c.is_intra-intra.result c.is_intra-intra.ensures c.pattern.result c.pattern.ensures _ (index_is (goal.at.returns-in_default-sent c).After-across) _
    (no_place _ _ _ c.blocks-sent.result c.in_default-sent.is c.blocks-sent.ensures)

pub overflow_mul-index-3 : goal.overflow_mul-index-3
overflow_mul-index-3 c =
    let at-after-across = (goal.at.overflow_mul-index-3 c).After-across in
    omega (arith, index_is at-after-across, (roomy at-after-across).few)

pub overflow_cast-changed : goal.overflow_cast-changed
overflow_cast-changed c = omega (arith, quantiser_byte (goal.at.overflow_cast-changed c).In-Got-quantised)

pub put_fields-requires : goal.put_fields-requires
put_fields-requires c =
    let at-in-got-pointed = (goal.at.put_fields-requires c).In-Got-pointed in
    let at-after-across = (goal.at.put_fields-requires c).After-across in
    record {
      room = omega (arith, index_is at-after-across, (roomy at-after-across).macroblocks, c.requires.1.macroblocks_long);
      horizontally = (kept at-in-got-pointed).0;
      vertically = (kept at-in-got-pointed).1;
    }

pub returns : goal.returns
returns c =
    whole_macroblock c.args.size c.args.number c.args.address (predicted-at8 c) c.args.mcbpc c.in-Got.luminance c.in-Got-quantised.changed (vector_of c.in-Got-pointed.horizontal c.in-Got-pointed.vertical) (pointed (goal.at.returns c).In-Got-pointed) c.args.macroblocks.now
    c.args.levels.now c.is_intra-intra.result c.is_intra-intra.ensures c.pattern.result c.pattern.ensures _ (index_is (goal.at.returns c).After-across) _ _ _ _
    (is_place _ _ _ _ _ c.blocks-sent.ensures c.in-Got-sent.is) c.put_fields.ensures
