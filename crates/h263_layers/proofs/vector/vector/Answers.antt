-- `h263_layers::vector::vector` meets its contract: a row of two components, and then by the picture's four edges.
use native.Mathlib.Omega.{arith}
use Prim.Native.Nat.{◌<◌, ◌≤◌}
use Rattle.bits.specs.Bits.{bits_left}
use Rattle.bits.specs.Places.{counted}
use Rattle.bits.specs.Read.{ReaderIn, ◌>>=◌, done}
use Rattle.bits.specs.declared.Place.{Place}
use Rattle.fields.proofs.Row.{Row, row_done, row_meant, row_no_meant}
use Rattle.fields.proofs.Told.{is_meant}
use Rattle.size.proofs.Blocks.{size_small}
use Rattle.size.proofs.Grid.{width_is, height_is}
use Rattle.layout.specs.Value.{Vector}
use Rattle.h263_description.specs.Landing.{component_of}
use Rattle.h263_layers.specs.Answer.{vector_kept}
use Rattle.h263_layers.specs.Vector.{component_read, components_read}
use Rattle.h263_layers.proofs.Layers.{component_reads}
use Rattle.h263_layers.proofs.VectorSteps.{components_begun, after_first, vector_refused, BothRead, vector_left, vector_right, vector_above, vector_below, vector_inside, component_kept}
use Rattle.h263_layers.proofs.vector.vector.Goals as goal
use Rattle.h263_layers.proofs.vector.vector.Goals.{After-stopped, After-stopped-in_default-second, In-Got, In-Got-second}

abbrev predicted : (s : After-stopped) → Vector
predicted s = vector_kept s.args.predicted

abbrev To : (s : After-stopped) → ReaderIn counted Vector → Place → Type 0
To s rest p = Row (components_read (predicted s) (bits_left s.args.bytes.now s.args.count s.args.at.bit) s.args.at) s.args.bytes.now s.args.count rest p

begun : (s : After-stopped) → To s (component_read (component_of s.args.predicted.horizontal) >>= after_first (predicted s)) s.args.at
begun s = components_begun (predicted s) s.args.bytes.now s.args.count s.args.at s.requires.0.placed

abbrev predicted-at2 : (s : In-Got) → Vector
predicted-at2 s = vector_kept s.args.predicted

abbrev To-at2 : (s : In-Got) → ReaderIn counted Vector → Place → Type 0
To-at2 s rest p = Row (components_read (predicted-at2 s) (bits_left s.args.bytes.now s.args.count s.args.at.bit) s.args.at) s.args.bytes.now s.args.count rest p

begun-at2 : (s : In-Got) → To-at2 s (component_read (component_of s.args.predicted.horizontal) >>= after_first (predicted-at2 s)) s.args.at
begun-at2 s = components_begun (predicted-at2 s) s.args.bytes.now s.args.count s.args.at s.requires.0.placed

first : (c : In-Got) → To-at2 c (after_first (predicted-at2 c) (component_of c.in-Got.across)) c.in-Got.after
first c =
    row_meant component_of (λ P. component_read (component_of c.args.predicted.horizontal)) (after_first (predicted-at2 c)) (begun-at2 c) (component_reads _)
    c.component-first.ensures c.in-Got.is

abbrev predicted-at3 : (s : After-stopped-in_default-second) → Vector
predicted-at3 s = vector_kept s.args.predicted

far : (c : In-Got-second) → c.args.address ≤ 22
far c = omega (arith, c.requires.1.last_address, size_small c.args.size)

abbrev predicted-at4 : (s : In-Got-second) → Vector
predicted-at4 s = vector_kept s.args.predicted

abbrev To-at3 : (s : In-Got-second) → ReaderIn counted Vector → Place → Type 0
To-at3 s rest p = Row (components_read (predicted-at4 s) (bits_left s.args.bytes.now s.args.count s.args.at.bit) s.args.at) s.args.bytes.now s.args.count rest p

begun-at3 : (s : In-Got-second) → To-at3 s (component_read (component_of s.args.predicted.horizontal) >>= after_first (predicted-at4 s)) s.args.at
begun-at3 s = components_begun (predicted-at4 s) s.args.bytes.now s.args.count s.args.at s.requires.0.placed

first-at2 : (c : In-Got-second) → To-at3 c (after_first (predicted-at4 c) (component_of c.in-Got.across)) c.in-Got.after
first-at2 c =
    row_meant component_of (λ P. component_read (component_of c.args.predicted.horizontal)) (after_first (predicted-at4 c)) (begun-at3 c) (component_reads _)
    c.component-first.ensures c.in-Got.is

both : (c : In-Got-second) → BothRead (predicted-at4 c) c.args.bytes.now c.args.count c.args.at c.in-Got.across c.in-Got-second.down c.in-Got-second.next
both c = record {
  both = row_done (row_meant component_of (λ P. component_read (component_of c.args.predicted.vertical)) (λ v. done (record { horizontal = component_of c.in-Got.across; vertical = v })) (first-at2 c) (component_reads _)
      c.component-second.ensures c.in-Got-second.is);
  horizontally = component_kept _ _ _ (component_of c.args.predicted.horizontal) c.in-Got.across _ c.requires.0.placed.within.inside (is_meant component_of _ _ _ _ _ c.component-first.ensures c.in-Got.is);
  vertically = component_kept _ _ _ (component_of c.args.predicted.vertical) c.in-Got-second.down _ (first-at2 c).placed.within.inside (is_meant component_of _ _ _ _ _ c.component-second.ensures c.in-Got-second.is);
}

deep : (c : In-Got-second) → c.args.number < 18
deep c = omega (arith, c.requires.1.last_group, size_small c.args.size)

pub component-first-requires : goal.component-first-requires
component-first-requires c = (c.requires.0, c.requires.1.horizontally)

pub returns-in_default : goal.returns-in_default
returns-in_default c =
    vector_refused c.args.size c.args.number c.args.address (predicted c) _ _ _
    (row_no_meant component_of (λ P. component_read (component_of c.args.predicted.horizontal)) (after_first (predicted c)) (begun c) c.component-first.result c.in_default.is
    c.component-first.ensures c.stopped.ensures)

pub component-second-requires : goal.component-second-requires
component-second-requires c = (record { tabled = c.requires.0.tabled; placed = (first c).placed }, c.requires.1.vertically)

pub returns-in_default-second : goal.returns-in_default-second
returns-in_default-second c =
    vector_refused c.args.size c.args.number c.args.address (predicted-at3 c) _ _ _
    (row_no_meant component_of (λ P. component_read (component_of c.args.predicted.vertical)) (λ v. done (record { horizontal = component_of c.in-Got.across; vertical = v })) (first (goal.at.returns-in_default-second c).In-Got)
    c.component-second.result c.in_default-second.is c.component-second.ensures c.stopped-in_default-second.ensures)

pub overflow_sub-x : goal.overflow_sub-x
overflow_sub-x c = c.requires.1.first_address

pub overflow_mul-x : goal.overflow_mul-x
overflow_mul-x c = omega (arith, far c)

pub overflow_add-x : goal.overflow_add-x
overflow_add-x c = omega (arith, far c, (both c).horizontally)

pub overflow_mul-y : goal.overflow_mul-y
overflow_mul-y c = omega (arith, deep c)

pub overflow_add-y : goal.overflow_add-y
overflow_add-y c = omega (arith, deep c, (both c).vertically)

pub returns-then-x-lt32 : goal.returns-then-x-lt32
returns-then-x-lt32 c =
    vector_left c.args.size c.args.number c.args.address (both (goal.at.returns-then-x-lt32 c).In-Got-second) c.if-x-lt32.true

pub overflow_mul-width : goal.overflow_mul-width
overflow_mul-width c = let size = c.args.size in omega (arith, c.width.ensures, width_is size, size_small size)

pub returns-then-width-x : goal.returns-then-width-x
returns-then-width-x c =
    vector_right c.args.size c.args.number c.args.address (both (goal.at.returns-then-width-x c).In-Got-second) c.if-x-lt32.false (omega (arith, c.width.ensures, c.if-width-x.true))

pub returns-then-y-lt32 : goal.returns-then-y-lt32
returns-then-y-lt32 c =
    vector_above c.args.size c.args.number c.args.address (both (goal.at.returns-then-y-lt32 c).In-Got-second) c.if-y-lt32.true

pub overflow_mul-height : goal.overflow_mul-height
overflow_mul-height c = let size = c.args.size in omega (arith, c.height.ensures, height_is size, size_small size)

pub returns-then-height-y : goal.returns-then-height-y
returns-then-height-y c =
    vector_below c.args.size c.args.number c.args.address (both (goal.at.returns-then-height-y c).In-Got-second) c.if-y-lt32.false (omega (arith, c.height.ensures, c.if-height-y.true))

pub overflow_cast-result : goal.overflow_cast-result
overflow_cast-result c = omega (arith, (both (goal.at.overflow_cast-result c).In-Got-second).horizontally)

pub overflow_cast-result-2 : goal.overflow_cast-result-2
overflow_cast-result-2 c = omega (arith, (both (goal.at.overflow_cast-result-2 c).In-Got-second).vertically)

pub returns : goal.returns
returns c =
    vector_inside c.args.size c.args.number c.args.address (both (goal.at.returns c).In-Got-second)
    c.if-x-lt32.false (omega (arith, c.width.ensures, c.if-width-x.false)) c.if-y-lt32.false (omega (arith, c.height.ensures, c.if-height-y.false))
