-- `h263_layers::head::group_head` meets its contract: by what stands there; GSTUF is a read, and the header follows.
use mathlib.Core.Path.{◌≡◌, sym, ◌∙◌}
use native.Mathlib.Omega.{arith}
use Prim.Native.Nat.{ℕ, ◌≤◌}
use Rattle.bits.specs.Bits.{bits_left}
use Rattle.bits.specs.Places.{counted}
use Rattle.bits.specs.Read.{ReaderIn, ◌>>=◌, field}
use Rattle.bits.specs.declared.Place.{Place}
use Rattle.bits.proofs.Logic.{reads_field}
use Rattle.bits.proofs.Once.{once_field}
use Rattle.fields.specs.Answer.{as_number}
use Rattle.fields.proofs.Row.{Row, row_number, row_no_number}
use Rattle.fields.proofs.Told.{number_once}
use Rattle.h263_layers.specs.Start.{stands, ahead}
use Rattle.h263_layers.specs.Grammar.{head_fields, group_head}
use Rattle.h263_layers.proofs.HeadSteps.{told_absent, told_cut, told_stands, head_absent, head_cut, head_alone, stuffed_begun, some_bits, stuffing_short}
use Rattle.h263_layers.proofs.head.group_head.Goals as goal
use Rattle.h263_layers.proofs.head.group_head.Goals.{After-head_fields, After-stopped, Else-gstuf-eq0, In-Got}

standing : (c : After-head_fields) → stands c.in-Stands.gstuf ≡ ahead (bits_left c.args.bytes.now c.args.count c.args.at.bit) c.args.at.bit
standing c = told_stands _ _ c.ahead_at.ensures c.in-Stands.is

standing-at2 : (c : Else-gstuf-eq0) → stands c.in-Stands.gstuf ≡ ahead (bits_left c.args.bytes.now c.args.count c.args.at.bit) c.args.at.bit
standing-at2 c = told_stands _ _ c.ahead_at.ensures c.in-Stands.is

short : (c : Else-gstuf-eq0) → c.in-Stands.gstuf ≤ 7
short c = stuffing_short _ _ _ (standing-at2 c)

abbrev To : (s : Else-gstuf-eq0) → ReaderIn counted ℕ → Place → Type 0
To s rest p = Row (group_head s.args.number (bits_left s.args.bytes.now s.args.count s.args.at.bit) s.args.at) s.args.bytes.now s.args.count rest p

begun : (c : Else-gstuf-eq0) → To c (field c.in-Stands.gstuf >>= λ dropped. head_fields c.args.number) c.args.at
begun c = stuffed_begun _ _ _ _ _ c.requires (standing-at2 c) c.if-gstuf-eq0.false

dropped_read : (c : After-stopped) → as_number c.args.bytes.now c.args.count c.once-dropped.result ≡ field {P = counted} c.in-Stands.gstuf (bits_left c.args.bytes.now c.args.count c.args.at.bit) c.args.at
dropped_read c = number_once (once_field c.in-Stands.gstuf) _ _ _ c.field.result c.once-dropped.ensures c.field.ensures

abbrev To-at2 : (s : In-Got) → ReaderIn counted ℕ → Place → Type 0
To-at2 s rest p = Row (group_head s.args.number (bits_left s.args.bytes.now s.args.count s.args.at.bit) s.args.at) s.args.bytes.now s.args.count rest p

standing-at3 : (c : In-Got) → stands c.in-Stands.gstuf ≡ ahead (bits_left c.args.bytes.now c.args.count c.args.at.bit) c.args.at.bit
standing-at3 c = told_stands _ _ c.ahead_at.ensures c.in-Stands.is

begun-at2 : (c : In-Got) → To-at2 c (field c.in-Stands.gstuf >>= λ dropped. head_fields c.args.number) c.args.at
begun-at2 c = stuffed_begun _ _ _ _ _ c.requires (standing-at3 c) c.if-gstuf-eq0.false

dropped_read-at2 : (c : In-Got) → as_number c.args.bytes.now c.args.count c.once-dropped.result ≡ field {P = counted} c.in-Stands.gstuf (bits_left c.args.bytes.now c.args.count c.args.at.bit) c.args.at
dropped_read-at2 c = number_once (once_field c.in-Stands.gstuf) _ _ _ c.field.result c.once-dropped.ensures c.field.ensures

dropped : (c : In-Got) → To-at2 c (head_fields c.args.number) c.in-Got.after
dropped c =
    row_number (λ P. field c.in-Stands.gstuf) (λ dropped. head_fields c.args.number) (begun-at2 c) (reads_field c.in-Stands.gstuf (some_bits _ c.if-gstuf-eq0.false))
    (dropped_read-at2 c) c.in-Got.is

pub ahead_at-requires : goal.ahead_at-requires
ahead_at-requires c = c.requires.within

pub overflow_add-result : goal.overflow_add-result
overflow_add-result c = let l = c.requires.countable in omega arith

pub returns-then-gstuf-eq0 : goal.returns-then-gstuf-eq0
returns-then-gstuf-eq0 c = c.head_fields.ensures ∙ head_alone _ _ _ _ (standing c) c.if-gstuf-eq0.true

pub field-requires : goal.field-requires
field-requires c = (c.requires.within, omega (arith, short c))

pub once-dropped-requires : goal.once-dropped-requires
once-dropped-requires c = let l = c.requires.countable in omega arith

pub returns-in_default : goal.returns-in_default
returns-in_default c =
    row_no_number (λ P. field c.in-Stands.gstuf) (λ dropped. head_fields c.args.number) (begun (goal.at.returns-in_default c).Else-gstuf-eq0) c.once-dropped.result c.in_default.is
    (dropped_read c) c.stopped.ensures

pub head_fields-requires-in-Stands : goal.head_fields-requires-in-Stands
head_fields-requires-in-Stands c = (dropped c).placed

pub returns-in-Absent : goal.returns-in-Absent
returns-in-Absent c = head_absent _ _ _ (told_absent c.ahead_at.result c.in-Absent.in-Absent-own.keys1 c.ahead_at.ensures)

pub returns-in-CutOff : goal.returns-in-CutOff
returns-in-CutOff c =
    head_cut _ _ _ (told_cut c.ahead_at.result c.in-CutOff.in-CutOff-own.keys2 c.ahead_at.ensures)

pub returns-in-Got : goal.returns-in-Got
returns-in-Got c = c.head_fields-in-Stands.ensures ∙ sym (dropped (goal.at.returns-in-Got c).In-Got).same
