-- `h261_layers::vector::vector` meets its contract: a row of two components, and then by the picture's four edges.
use native.Mathlib.Omega.{arith}
use Rattle.bits.specs.Bits.{bits_left}
use Rattle.bits.specs.Places.{counted}
use Rattle.bits.specs.Read.{ReaderIn, ◌>>=◌, done}
use Rattle.bits.specs.declared.Place.{Place}
use Rattle.fields.proofs.Row.{Row, row_done, row_meant, row_no_meant}
use Rattle.fields.proofs.Told.{is_meant}
use Rattle.layout.specs.Value.{Vector}
use Rattle.h261_layers.specs.Answer.{component_of, vector_of}
use Rattle.h261_layers.specs.Vector.{component_read, components_read}
use Rattle.h261_layers.proofs.Layers.{component_reads}
use Rattle.h261_layers.proofs.VectorSteps.{components_begun, after_first, vector_refused, BothRead, vector_left, vector_right, vector_above, vector_below, vector_inside, component_kept}
use Rattle.h261_layers.proofs.vector.vector.Goals as goal
use Rattle.h261_layers.proofs.vector.vector.Goals.{After-stopped, After-stopped-in_default-second, In-Got, In-Got-second}

abbrev preceding : (s : After-stopped) → Vector
preceding s = vector_of s.args.horizontal s.args.vertical

abbrev To : (s : After-stopped) → ReaderIn counted Vector → Place → Type 0
To s rest p = Row (components_read (preceding s) (bits_left s.args.bytes.now s.args.count s.args.at.bit) s.args.at) s.args.bytes.now s.args.count rest p

begun : (s : After-stopped) → To s (component_read (component_of s.args.horizontal) >>= after_first (preceding s)) s.args.at
begun s = components_begun (preceding s) s.args.bytes.now s.args.count s.args.at s.requires.0.placed

abbrev preceding-at2 : (s : In-Got) → Vector
preceding-at2 s = vector_of s.args.horizontal s.args.vertical

abbrev To-at2 : (s : In-Got) → ReaderIn counted Vector → Place → Type 0
To-at2 s rest p = Row (components_read (preceding-at2 s) (bits_left s.args.bytes.now s.args.count s.args.at.bit) s.args.at) s.args.bytes.now s.args.count rest p

begun-at2 : (s : In-Got) → To-at2 s (component_read (component_of s.args.horizontal) >>= after_first (preceding-at2 s)) s.args.at
begun-at2 s = components_begun (preceding-at2 s) s.args.bytes.now s.args.count s.args.at s.requires.0.placed

first : (c : In-Got) → To-at2 c (after_first (preceding-at2 c) (component_of c.in-Got.across)) c.in-Got.after
first c =
    row_meant component_of (λ P. component_read (component_of c.args.horizontal)) (after_first (preceding-at2 c)) (begun-at2 c) (component_reads _)
    c.component-first.ensures c.in-Got.is

abbrev preceding-at3 : (s : After-stopped-in_default-second) → Vector
preceding-at3 s = vector_of s.args.horizontal s.args.vertical

abbrev preceding-at4 : (s : In-Got-second) → Vector
preceding-at4 s = vector_of s.args.horizontal s.args.vertical

abbrev To-at3 : (s : In-Got-second) → ReaderIn counted Vector → Place → Type 0
To-at3 s rest p = Row (components_read (preceding-at4 s) (bits_left s.args.bytes.now s.args.count s.args.at.bit) s.args.at) s.args.bytes.now s.args.count rest p

begun-at3 : (s : In-Got-second) → To-at3 s (component_read (component_of s.args.horizontal) >>= after_first (preceding-at4 s)) s.args.at
begun-at3 s = components_begun (preceding-at4 s) s.args.bytes.now s.args.count s.args.at s.requires.0.placed

first-at2 : (c : In-Got-second) → To-at3 c (after_first (preceding-at4 c) (component_of c.in-Got.across)) c.in-Got.after
first-at2 c =
    row_meant component_of (λ P. component_read (component_of c.args.horizontal)) (after_first (preceding-at4 c)) (begun-at3 c) (component_reads _)
    c.component-first.ensures c.in-Got.is

both : (c : In-Got-second) → BothRead (preceding-at4 c) c.args.bytes.now c.args.count c.args.at c.in-Got.across c.in-Got-second.down c.in-Got-second.next
both c = record {
  both = row_done (row_meant component_of (λ P. component_read (component_of c.args.vertical)) (λ v. done (record { horizontal = component_of c.in-Got.across; vertical = v })) (first-at2 c) (component_reads _)
      c.component-second.ensures c.in-Got-second.is);
  kept = record {
    horizontally = component_kept _ _ _ _ _ _ c.requires.0.placed.within.inside (is_meant component_of _ _ _ _ _ c.component-first.ensures c.in-Got.is);
    vertically = component_kept _ _ _ _ _ _ (first-at2 c).placed.within.inside (is_meant component_of _ _ _ _ _ c.component-second.ensures c.in-Got-second.is);
  };
}

pub component-first-requires : goal.component-first-requires
component-first-requires c = (c.requires.0, c.requires.1.horizontally)

pub returns-in_default : goal.returns-in_default
returns-in_default c =
    vector_refused c.args.format c.args.number c.args.address (preceding c) _ _ _
    (row_no_meant component_of (λ P. component_read (component_of c.args.horizontal)) (after_first (preceding c)) (begun c) c.component-first.result c.in_default.is
    c.component-first.ensures c.stopped.ensures)

pub component-second-requires : goal.component-second-requires
component-second-requires c = (record { tabled = c.requires.0.tabled; placed = (first c).placed }, c.requires.1.vertically)

pub returns-in_default-second : goal.returns-in_default-second
returns-in_default-second c =
    vector_refused c.args.format c.args.number c.args.address (preceding-at3 c) _ _ _
    (row_no_meant component_of (λ P. component_read (component_of c.args.vertical)) (λ v. done (record { horizontal = component_of c.in-Got.across; vertical = v })) (first (goal.at.returns-in_default-second c).In-Got)
    c.component-second.result c.in_default-second.is c.component-second.ensures c.stopped-in_default-second.ensures)

pub column-requires : goal.column-requires
column-requires c = c.requires.1.addressed

pub row-requires : goal.row-requires
row-requires c = c.requires.1.addressed

pub returns-then-x-lt16 : goal.returns-then-x-lt16
returns-then-x-lt16 c =
    vector_left c.args.format c.args.number c.args.address (both (goal.at.returns-then-x-lt16 c).In-Got-second) (omega (arith, c.column.ensures, c.if-x-lt16.true))

pub returns-then-width-x : goal.returns-then-width-x
returns-then-width-x c =
    vector_right c.args.format c.args.number c.args.address (both (goal.at.returns-then-width-x c).In-Got-second)
    (omega (arith, c.column.ensures, c.width.ensures, c.if-width-x.true))

pub returns-then-y-lt16 : goal.returns-then-y-lt16
returns-then-y-lt16 c =
    vector_above c.args.format c.args.number c.args.address (both (goal.at.returns-then-y-lt16 c).In-Got-second) (omega (arith, c.row.ensures, c.if-y-lt16.true))

pub returns-then-height-y : goal.returns-then-height-y
returns-then-height-y c =
    vector_below c.args.format c.args.number c.args.address (both (goal.at.returns-then-height-y c).In-Got-second)
    (omega (arith, c.row.ensures, c.height.ensures, c.if-height-y.true))

pub overflow_cast-result : goal.overflow_cast-result
overflow_cast-result c = omega (arith, (both (goal.at.overflow_cast-result c).In-Got-second).kept.horizontally.high)

pub overflow_cast-result-2 : goal.overflow_cast-result-2
overflow_cast-result-2 c = omega (arith, (both (goal.at.overflow_cast-result-2 c).In-Got-second).kept.vertically.high)

pub returns : goal.returns
returns c =
    vector_inside c.args.format c.args.number c.args.address (both (goal.at.returns c).In-Got-second)
    (omega (arith, c.column.ensures, c.if-x-lt16.false)) (omega (arith, c.column.ensures, c.width.ensures, c.if-width-x.false))
    (omega (arith, c.row.ensures, c.if-y-lt16.false)) (omega (arith, c.row.ensures, c.height.ensures, c.if-height-y.false))
