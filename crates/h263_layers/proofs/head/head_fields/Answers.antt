-- `h263_layers::head::head_fields` meets its contract: a row of four reads, and what is left of it after each.
use mathlib.Core.Path.{◌≡◌, sym, ◌∙◌}
use native.Mathlib.Omega.{arith}
use borrow.Author.Rules.{rules}
use Prim.Native.Nat.{ℕ}
use Rattle.refusals.specs.declared.Reason.TheVariants.{OtherGroup}
use Rattle.refusals.specs.Number.{number}
use Rattle.bits.specs.Bits.{bits_left}
use Rattle.bits.specs.Places.{counted}
use Rattle.bits.specs.Read.{ReaderIn, ◌>>=◌, field}
use Rattle.bits.specs.declared.Place.{Place}
use Rattle.bits.proofs.Logic.{reads_field}
use Rattle.bits.proofs.Once.{once_field}
use Rattle.fields.specs.Answer.{as_number}
use Rattle.fields.specs.Rules.{expect, quantiser}
use Rattle.fields.proofs.Row.{Row, row_place, row_no_place, row_number, row_no_number}
use Rattle.fields.proofs.RuleReads.{expect_reads}
use Rattle.fields.proofs.Told.{number_once}
use Rattle.h263_layers.specs.Grammar.{head_fields}
use Rattle.h263_layers.proofs.HeadSteps.{fields_begun, after_start, after_number}
use Rattle.h263_layers.proofs.head.head_fields.Goals as goal
use Rattle.h263_layers.proofs.head.head_fields.Goals.{After-stopped, After-stopped-in_default-framed, In-Got-named, In-Got, In-Got-framed}

abbrev To : (s : After-stopped) → ReaderIn counted ℕ → Place → Type 0
To s rest p = Row (head_fields s.args.number (bits_left s.args.bytes.now s.args.count s.args.at.bit) s.args.at) s.args.bytes.now s.args.count rest p

begun : (s : After-stopped) → To s (field 17 >>= λ gbsc. after_start s.args.number) s.args.at
begun s = fields_begun s.args.number s.args.bytes.now s.args.count s.args.at s.requires

start_read : (c : After-stopped) → as_number c.args.bytes.now c.args.count c.once-started.result ≡ field {P = counted} 17 (bits_left c.args.bytes.now c.args.count c.args.at.bit) c.args.at
start_read c = number_once (once_field 17) _ _ _ c.field.result c.once-started.ensures c.field.ensures

abbrev To-at2 : (s : In-Got) → ReaderIn counted ℕ → Place → Type 0
To-at2 s rest p = Row (head_fields s.args.number (bits_left s.args.bytes.now s.args.count s.args.at.bit) s.args.at) s.args.bytes.now s.args.count rest p

begun-at2 : (s : In-Got) → To-at2 s (field 17 >>= λ gbsc. after_start s.args.number) s.args.at
begun-at2 s = fields_begun s.args.number s.args.bytes.now s.args.count s.args.at s.requires

start_read-at2 : (c : In-Got) → as_number c.args.bytes.now c.args.count c.once-started.result ≡ field {P = counted} 17 (bits_left c.args.bytes.now c.args.count c.args.at.bit) c.args.at
start_read-at2 c = number_once (once_field 17) _ _ _ c.field.result c.once-started.ensures c.field.ensures

started : (c : In-Got) → To-at2 c (after_start c.args.number) c.in-Got.after_start
started c =
    row_number (λ P. field 17) (λ gbsc. after_start c.args.number) (begun-at2 c) (reads_field 17 tt) (start_read-at2 c) c.in-Got.is

abbrev To-at3 : (s : In-Got-named) → ReaderIn counted ℕ → Place → Type 0
To-at3 s rest p = Row (head_fields s.args.number (bits_left s.args.bytes.now s.args.count s.args.at.bit) s.args.at) s.args.bytes.now s.args.count rest p

begun-at3 : (s : In-Got-named) → To-at3 s (field 17 >>= λ gbsc. after_start s.args.number) s.args.at
begun-at3 s = fields_begun s.args.number s.args.bytes.now s.args.count s.args.at s.requires

start_read-at3 : (c : In-Got-named) → as_number c.args.bytes.now c.args.count c.once-started.result ≡ field {P = counted} 17 (bits_left c.args.bytes.now c.args.count c.args.at.bit) c.args.at
start_read-at3 c = number_once (once_field 17) _ _ _ c.field.result c.once-started.ensures c.field.ensures

started-at2 : (c : In-Got-named) → To-at3 c (after_start c.args.number) c.in-Got.after_start
started-at2 c =
    row_number (λ P. field 17) (λ gbsc. after_start c.args.number) (begun-at3 c) (reads_field 17 tt) (start_read-at3 c) c.in-Got.is

named : (c : In-Got-named) → To-at3 c after_number c.in-Got-named.after_number
unfolding number
named c =
    row_place (λ P. expect 5 c.args.number OtherGroup) (λ gn. after_number) (started-at2 c) c.args.number (expect_reads 5 c.args.number OtherGroup tt tt)
    c.expect-named.ensures c.in-Got-named.is

frame_read : (c : After-stopped-in_default-framed) → as_number c.args.bytes.now c.args.count c.once-framed.result ≡ field {P = counted} 2 (bits_left c.args.bytes.now c.args.count c.in-Got-named.after_number.bit) c.in-Got-named.after_number
frame_read c = number_once (once_field 2) _ _ _ c.field-2.result c.once-framed.ensures c.field-2.ensures

abbrev To-at4 : (s : In-Got-framed) → ReaderIn counted ℕ → Place → Type 0
To-at4 s rest p = Row (head_fields s.args.number (bits_left s.args.bytes.now s.args.count s.args.at.bit) s.args.at) s.args.bytes.now s.args.count rest p

begun-at4 : (s : In-Got-framed) → To-at4 s (field 17 >>= λ gbsc. after_start s.args.number) s.args.at
begun-at4 s = fields_begun s.args.number s.args.bytes.now s.args.count s.args.at s.requires

start_read-at4 : (c : In-Got-framed) → as_number c.args.bytes.now c.args.count c.once-started.result ≡ field {P = counted} 17 (bits_left c.args.bytes.now c.args.count c.args.at.bit) c.args.at
start_read-at4 c = number_once (once_field 17) _ _ _ c.field.result c.once-started.ensures c.field.ensures

started-at3 : (c : In-Got-framed) → To-at4 c (after_start c.args.number) c.in-Got.after_start
started-at3 c =
    row_number (λ P. field 17) (λ gbsc. after_start c.args.number) (begun-at4 c) (reads_field 17 tt) (start_read-at4 c) c.in-Got.is

named-at2 : (c : In-Got-framed) → To-at4 c after_number c.in-Got-named.after_number
unfolding number
named-at2 c =
    row_place (λ P. expect 5 c.args.number OtherGroup) (λ gn. after_number) (started-at3 c) c.args.number (expect_reads 5 c.args.number OtherGroup tt tt)
    c.expect-named.ensures c.in-Got-named.is

frame_read-at2 : (c : In-Got-framed) → as_number c.args.bytes.now c.args.count c.once-framed.result ≡ field {P = counted} 2 (bits_left c.args.bytes.now c.args.count c.in-Got-named.after_number.bit) c.in-Got-named.after_number
frame_read-at2 c = number_once (once_field 2) _ _ _ c.field-2.result c.once-framed.ensures c.field-2.ensures

framed : (c : In-Got-framed) → To-at4 c quantiser c.in-Got-framed.after_frame
framed c =
    row_number (λ P. field 2) (λ gfid. quantiser) (named-at2 c) (reads_field 2 tt) (frame_read-at2 c) c.in-Got-framed.is

pub field-requires : goal.field-requires
field-requires c = (c.requires.within, search rules)

pub once-started-requires : goal.once-started-requires
once-started-requires c = let l = c.requires.countable in omega arith

pub returns-in_default : goal.returns-in_default
returns-in_default c =
    row_no_number (λ P. field 17) (λ gbsc. after_start c.args.number) (begun c) c.once-started.result c.in_default.is (start_read c) c.stopped.ensures

pub expect-named-requires : goal.expect-named-requires
expect-named-requires c = ((started c).placed, search rules)

pub returns-in_default-named : goal.returns-in_default-named
returns-in_default-named c =
    row_no_place (λ P. expect 5 c.args.number OtherGroup) (λ gn. after_number) (started (goal.at.returns-in_default-named c).In-Got) c.args.number c.expect-named.result c.in_default-named.is
    c.expect-named.ensures c.stopped-in_default-named.ensures

pub field-requires-2 : goal.field-requires-2
field-requires-2 c = ((named c).placed.within, search rules)

pub once-framed-requires : goal.once-framed-requires
once-framed-requires c = let l = (named (goal.at.once-framed-requires c).In-Got-named).placed.countable in omega arith

pub returns-in_default-framed : goal.returns-in_default-framed
returns-in_default-framed c =
    row_no_number (λ P. field 2) (λ gfid. quantiser) (named (goal.at.returns-in_default-framed c).In-Got-named) c.once-framed.result c.in_default-framed.is (frame_read c) c.stopped-in_default-framed.ensures

pub quantiser-requires : goal.quantiser-requires
quantiser-requires c = (framed c).placed

pub returns : goal.returns
returns c = c.quantiser.ensures ∙ sym (framed (goal.at.returns c).In-Got-framed).same
