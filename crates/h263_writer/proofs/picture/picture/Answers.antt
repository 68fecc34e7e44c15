-- `picture::picture` meets its contract: the header's fields one after another, then the groups.
use mathlib.Core.Path.{◌≡◌, refl}
use mathlib.Core.List.{◌∷◌, []}
use Prim.Native.Nat.{ℕ, ◌+◌, ◌*◌}
use native.Mathlib.Omega.{arith}
use lib.ListN.{get_or}
use Rattle.bits.specs.Bits.{bits_of}
use Rattle.bits.proofs.Appended.{CountableParts, second_part, third_part, fourth_part, seventh_part}
use Rattle.size.specs.Place.{macroblocks_across, macroblocks_down}
use Rattle.layout.specs.Flat.{flat}
use Rattle.h263_description.specs.Value.{format_code}
use Rattle.h263_description.specs.Fields.{is_intra_type}
use Rattle.h263_description.proofs.Parts.{ValidLists}
use Rattle.h263_writer.specs.Sound.{groups_bits}
use Rattle.h263_writer.proofs.GroupTurn.{lists, format_low, tr_fits, ptype_fits, pquant_fits, picture_parts, picture_whole, groups_asked, groups_wrote}
use Rattle.h263_writer.proofs.picture.picture.Goals as goal
use Rattle.h263_writer.proofs.picture.picture.Goals.{After-append-arg-3-1, After-format_code, After-groups-arg-1, After-shared_slice_known-4-1, After-shared_slice_known-4-1-unread, After-shared_slice_known-5-1, After-shared_slice_known-5-1-unread, After-shared_slice_known-6-1, After-shared_slice_known-6-1-unread, After-shared_slice_known-7-1, After-shared_slice_known-7-1-unread, After-shared_slice_known-8-1-unread}

has : (s : After-shared_slice_known-4-1-unread) → ValidLists s.args.size (flat s.args.head.now s.args.macroblocks.now s.args.levels.now)
has s = lists s.args.size s.args.head.now s.args.macroblocks.now s.args.levels.now s.requires.1

parts : (s : After-shared_slice_known-4-1) → (code : ℕ) → code ≡ format_code s.args.size
    → CountableParts 0 (bits_of 22 32 ∷ bits_of 8 (get_or s.args.head.now 0 0) ∷ bits_of 13 (4096 + get_or s.args.head.now 1 0 * 256 + code * 32 + get_or s.args.head.now 3 0 * 16) ∷ bits_of 5 (get_or s.args.head.now 4 0)
    ∷ bits_of 1 0 ∷ bits_of 1 0 ∷ groups_bits (macroblocks_across s.args.size) (macroblocks_down s.args.size) (is_intra_type (get_or s.args.head.now 3 0)) s.args.head.now s.args.macroblocks.now s.args.levels.now ∷ [])
parts s = picture_parts s.args.size s.args.head.now s.args.macroblocks.now s.args.levels.now s.requires.1

has-at2 : (s : After-shared_slice_known-5-1-unread) → ValidLists s.args.size (flat s.args.head.now s.args.macroblocks.now s.args.levels.now)
has-at2 s = lists s.args.size s.args.head.now s.args.macroblocks.now s.args.levels.now s.requires.1

has-at3 : (s : After-shared_slice_known-5-1) → ValidLists s.args.size (flat s.args.head.now s.args.macroblocks.now s.args.levels.now)
has-at3 s = lists s.args.size s.args.head.now s.args.macroblocks.now s.args.levels.now s.requires.1

has-at4 : (s : After-format_code) → ValidLists s.args.size (flat s.args.head.now s.args.macroblocks.now s.args.levels.now)
has-at4 s = lists s.args.size s.args.head.now s.args.macroblocks.now s.args.levels.now s.requires.1

has-at5 : (s : After-shared_slice_known-6-1-unread) → ValidLists s.args.size (flat s.args.head.now s.args.macroblocks.now s.args.levels.now)
has-at5 s = lists s.args.size s.args.head.now s.args.macroblocks.now s.args.levels.now s.requires.1

has-at6 : (s : After-shared_slice_known-6-1) → ValidLists s.args.size (flat s.args.head.now s.args.macroblocks.now s.args.levels.now)
has-at6 s = lists s.args.size s.args.head.now s.args.macroblocks.now s.args.levels.now s.requires.1

parts-at2 : (s : After-append-arg-3-1) → (code : ℕ) → code ≡ format_code s.args.size
    → CountableParts 0 (bits_of 22 32 ∷ bits_of 8 (get_or s.args.head.now 0 0) ∷ bits_of 13 (4096 + get_or s.args.head.now 1 0 * 256 + code * 32 + get_or s.args.head.now 3 0 * 16) ∷ bits_of 5 (get_or s.args.head.now 4 0)
    ∷ bits_of 1 0 ∷ bits_of 1 0 ∷ groups_bits (macroblocks_across s.args.size) (macroblocks_down s.args.size) (is_intra_type (get_or s.args.head.now 3 0)) s.args.head.now s.args.macroblocks.now s.args.levels.now ∷ [])
parts-at2 s = picture_parts s.args.size s.args.head.now s.args.macroblocks.now s.args.levels.now s.requires.1

has-at7 : (s : After-shared_slice_known-7-1-unread) → ValidLists s.args.size (flat s.args.head.now s.args.macroblocks.now s.args.levels.now)
has-at7 s = lists s.args.size s.args.head.now s.args.macroblocks.now s.args.levels.now s.requires.1

parts-at3 : (s : After-shared_slice_known-7-1) → (code : ℕ) → code ≡ format_code s.args.size
    → CountableParts 0 (bits_of 22 32 ∷ bits_of 8 (get_or s.args.head.now 0 0) ∷ bits_of 13 (4096 + get_or s.args.head.now 1 0 * 256 + code * 32 + get_or s.args.head.now 3 0 * 16) ∷ bits_of 5 (get_or s.args.head.now 4 0)
    ∷ bits_of 1 0 ∷ bits_of 1 0 ∷ groups_bits (macroblocks_across s.args.size) (macroblocks_down s.args.size) (is_intra_type (get_or s.args.head.now 3 0)) s.args.head.now s.args.macroblocks.now s.args.levels.now ∷ [])
parts-at3 s = picture_parts s.args.size s.args.head.now s.args.macroblocks.now s.args.levels.now s.requires.1

has-at8 : (s : After-shared_slice_known-8-1-unread) → ValidLists s.args.size (flat s.args.head.now s.args.macroblocks.now s.args.levels.now)
has-at8 s = lists s.args.size s.args.head.now s.args.macroblocks.now s.args.levels.now s.requires.1

parts-at4 : (s : After-groups-arg-1) → (code : ℕ) → code ≡ format_code s.args.size
    → CountableParts 0 (bits_of 22 32 ∷ bits_of 8 (get_or s.args.head.now 0 0) ∷ bits_of 13 (4096 + get_or s.args.head.now 1 0 * 256 + code * 32 + get_or s.args.head.now 3 0 * 16) ∷ bits_of 5 (get_or s.args.head.now 4 0)
    ∷ bits_of 1 0 ∷ bits_of 1 0 ∷ groups_bits (macroblocks_across s.args.size) (macroblocks_down s.args.size) (is_intra_type (get_or s.args.head.now 3 0)) s.args.head.now s.args.macroblocks.now s.args.levels.now ∷ [])
parts-at4 s = picture_parts s.args.size s.args.head.now s.args.macroblocks.now s.args.levels.now s.requires.1

pub bounds-head-0 : goal.bounds-head-0
bounds-head-0 c =
    omega (arith, (has c).head_length)

pub append-numbered-requires : goal.append-numbered-requires
append-numbered-requires c =
    (tr_fits c.args.size c.args.head.now c.args.macroblocks.now c.args.levels.now c.requires.1, second_part (parts c _ refl) c.append-started.ensures)

pub bounds-head-1 : goal.bounds-head-1
bounds-head-1 c =
    omega (arith, (has-at2 c).head_length)

pub overflow_mul-kind : goal.overflow_mul-kind
overflow_mul-kind c =
    omega (arith, (has-at3 c).ptype)

pub overflow_add-kind : goal.overflow_add-kind
overflow_add-kind c =
    omega (arith, (has-at3 c).ptype)

pub overflow_mul-kind-2 : goal.overflow_mul-kind-2
overflow_mul-kind-2 c =
    omega (arith, c.format_code.ensures, format_low c.args.size)

pub overflow_add-kind-2 : goal.overflow_add-kind-2
overflow_add-kind-2 c =
    omega (arith, (has-at4 c).ptype, (has-at4 c).type, c.format_code.ensures, format_low c.args.size)

pub bounds-head-3 : goal.bounds-head-3
bounds-head-3 c =
    omega (arith, (has-at5 c).head_length)

pub overflow_mul-kind-3 : goal.overflow_mul-kind-3
overflow_mul-kind-3 c =
    omega (arith, (has-at6 c).type)

pub overflow_add-kind-3 : goal.overflow_add-kind-3
overflow_add-kind-3 c =
    omega (arith, (has-at6 c).ptype, (has-at6 c).type, c.format_code.ensures, format_low c.args.size)

pub append-typed-requires : goal.append-typed-requires
append-typed-requires c =
    (ptype_fits c.args.size c.args.head.now c.args.macroblocks.now c.args.levels.now c.requires.1 c.format_code.result c.format_code.ensures, third_part (parts-at2 c c.format_code.result c.format_code.ensures) c.append-started.ensures c.append-numbered.ensures)

pub bounds-head-4 : goal.bounds-head-4
bounds-head-4 c =
    omega (arith, (has-at7 c).head_length)

pub append-quantised-requires : goal.append-quantised-requires
append-quantised-requires c =
    (pquant_fits c.args.size c.args.head.now c.args.macroblocks.now c.args.levels.now c.requires.1, fourth_part (parts-at3 c c.format_code.result c.format_code.ensures) c.append-started.ensures c.append-numbered.ensures c.append-typed.ensures)

pub bounds-head-3-2 : goal.bounds-head-3-2
bounds-head-3-2 c =
    omega (arith, (has-at8 c).head_length)

pub groups-requires : goal.groups-requires
groups-requires c =
    groups_asked c.args.size c.args.head.now c.args.macroblocks.now c.args.levels.now c.requires.1 c.across-across.ensures c.down-down.ensures c.requires.0 (seventh_part (parts-at4 c c.format_code.result c.format_code.ensures) c.append-started.ensures c.append-numbered.ensures c.append-typed.ensures c.append-quantised.ensures c.append-single.ensures c.append-ready.ensures)

pub returns : goal.returns
returns c =
    picture_whole c.args.size c.args.head.now c.args.macroblocks.now c.args.levels.now c.requires.1 c.format_code.result c.format_code.ensures c.append-started.ensures c.append-numbered.ensures c.append-typed.ensures c.append-quantised.ensures c.append-single.ensures c.append-ready.ensures (groups_wrote c.args.size c.args.head.now c.args.macroblocks.now c.args.levels.now c.requires.1 c.across-across.ensures c.down-down.ensures c.groups.ensures)
