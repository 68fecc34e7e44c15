-- `h261_layers::head::group_head` meets its contract: a row of three reads, and what is left of it after each.
use Prim.Native.Nat.{ℕ}
use Rattle.refusals.specs.declared.Reason.TheVariants.{OtherGroup}
use Rattle.refusals.specs.Number.{number}
use Rattle.bits.specs.Bits.{bits_left}
use Rattle.bits.specs.Places.{counted}
use Rattle.bits.specs.Read.{ReaderIn, ◌>>=◌, done}
use Rattle.bits.specs.declared.Place.{Place}
use Rattle.fields.specs.Rules.{expect, quantiser, spares}
use Rattle.fields.proofs.Row.{Row, row_done, row_place, row_no_place, row_number, row_no_number}
use Rattle.fields.proofs.RuleReads.{expect_reads, quantiser_reads, spares_reads}
use Rattle.h261_layers.specs.Grammar.{group_head}
use Rattle.h261_layers.proofs.HeaderSteps.{group_begun, after_number, after_quantiser}
use Rattle.h261_layers.proofs.head.group_head.Goals as goal
use Rattle.h261_layers.proofs.head.group_head.Goals.{After-stopped, In-Got, In-Got-quantised}

abbrev To : (s : After-stopped) → ReaderIn counted ℕ → Place → Type 0
To s rest p = Row (group_head s.args.number (bits_left s.args.bytes.now s.args.count s.args.at.bit) s.args.at) s.args.bytes.now s.args.count rest p

begun : (s : After-stopped) → To s (expect 4 s.args.number OtherGroup >>= λ gn. after_number) s.args.at
begun s = group_begun s.args.number s.args.bytes.now s.args.count s.args.at s.requires

abbrev To-at2 : (s : In-Got) → ReaderIn counted ℕ → Place → Type 0
To-at2 s rest p = Row (group_head s.args.number (bits_left s.args.bytes.now s.args.count s.args.at.bit) s.args.at) s.args.bytes.now s.args.count rest p

begun-at2 : (s : In-Got) → To-at2 s (expect 4 s.args.number OtherGroup >>= λ gn. after_number) s.args.at
begun-at2 s = group_begun s.args.number s.args.bytes.now s.args.count s.args.at s.requires

named : (c : In-Got) → To-at2 c after_number c.in-Got.after_number
unfolding number
named c =
    row_place (λ P. expect 4 c.args.number OtherGroup) (λ gn. after_number) (begun-at2 c) c.args.number (expect_reads 4 c.args.number OtherGroup tt tt) c.expect-named.ensures c.in-Got.is

abbrev To-at3 : (s : In-Got-quantised) → ReaderIn counted ℕ → Place → Type 0
To-at3 s rest p = Row (group_head s.args.number (bits_left s.args.bytes.now s.args.count s.args.at.bit) s.args.at) s.args.bytes.now s.args.count rest p

begun-at3 : (s : In-Got-quantised) → To-at3 s (expect 4 s.args.number OtherGroup >>= λ gn. after_number) s.args.at
begun-at3 s = group_begun s.args.number s.args.bytes.now s.args.count s.args.at s.requires

named-at2 : (c : In-Got-quantised) → To-at3 c after_number c.in-Got.after_number
unfolding number
named-at2 c =
    row_place (λ P. expect 4 c.args.number OtherGroup) (λ gn. after_number) (begun-at3 c) c.args.number (expect_reads 4 c.args.number OtherGroup tt tt) c.expect-named.ensures c.in-Got.is

quantised : (c : In-Got-quantised) → To-at3 c (after_quantiser c.in-Got-quantised.gquant) c.in-Got-quantised.after_quantiser
quantised c =
    row_number (λ P. quantiser) after_quantiser (named-at2 c) quantiser_reads c.quantiser-quantised.ensures c.in-Got-quantised.is

pub returns-in_default : goal.returns-in_default
returns-in_default c =
    row_no_place (λ P. expect 4 c.args.number OtherGroup) (λ gn. after_number) (begun c) c.args.number c.expect-named.result c.in_default.is c.expect-named.ensures c.stopped.ensures

pub quantiser-quantised-requires : goal.quantiser-quantised-requires
quantiser-quantised-requires c = (named c).placed

pub returns-in_default-quantised : goal.returns-in_default-quantised
returns-in_default-quantised c =
    row_no_number (λ P. quantiser) after_quantiser (named (goal.at.returns-in_default-quantised c).In-Got) c.quantiser-quantised.result c.in_default-quantised.is c.quantiser-quantised.ensures c.stopped-in_default-quantised.ensures

pub spares-dropped-requires : goal.spares-dropped-requires
spares-dropped-requires c = (quantised c).placed

pub returns-in_default-dropped : goal.returns-in_default-dropped
returns-in_default-dropped c =
    let quantised_so = quantised (goal.at.returns-in_default-dropped c).In-Got-quantised in
    row_no_place (λ P. spares) (λ dropped. done _) quantised_so 0 c.spares-dropped.result c.in_default-dropped.is c.spares-dropped.ensures c.stopped-in_default-dropped.ensures

pub returns : goal.returns
returns c =
    row_done (row_place (λ P. spares) (λ dropped. done _) (quantised (goal.at.returns c).In-Got-quantised) 0 spares_reads c.spares-dropped.ensures c.in-Got-dropped.is)
