-- `macroblock::dquant_field` meets its contract: by the two negative differences, then by what is one less than its field.
use mathlib.Core.Path.{sym}
use borrow.Author.Tests.{eq-eqb, ne_eqb}
use Rattle.h263_writer.proofs.macroblock.dquant_field.Goals as goal

pub returns-then-byte-eq255 : goal.returns-then-byte-eq255
returns-then-byte-eq255 c = sym (rw (eq-eqb _ 255 c.if-byte-eq255.true))

pub returns-then-byte-eq254 : goal.returns-then-byte-eq254
returns-then-byte-eq254 c = sym (rw (ne_eqb _ 255 c.if-byte-eq255.false, eq-eqb _ 254 c.if-byte-eq254.true))

pub returns : goal.returns
returns c = sym (rw (ne_eqb _ 255 c.if-byte-eq255.false, ne_eqb _ 254 c.if-byte-eq254.false))
