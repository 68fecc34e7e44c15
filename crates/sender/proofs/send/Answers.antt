-- `sender::send` meets its contract: by the judgements in their order. Assumes nothing.
use borrow.Author.Rules.{rules}
use mathlib.Core.Path.{sym, ap, ◌∙◌}
use lib.Dec.{eqb}
use Rattle.laws.specs.Choice.{either, opposite}
use Rattle.refusals.specs.Number.{number, read_table}
use Rattle.size.specs.Size.{output_length}
use Rattle.layout.specs.Flat.{flat}
use Rattle.coding.specs.Kind.{coding_of}
use Rattle.sender.specs.Sending.{Passed}
use Rattle.sender.specs.Send.{buffers}
use Rattle.sender.proofs.Laws.{unnamed, all_sent, invalid, not_refresh, came_refused}
use Rattle.sender.proofs.send.Goals as goal
use Rattle.sender.proofs.send.Goals.{Else-not-begins}

passed : (c : Else-not-begins) → Passed coding_of c.args.sender c.is_refresh-refreshed.result
    (flat c.args.head.now c.args.macroblocks.now c.args.levels.now)
    (buffers c.args.out.now c.args.first.now c.args.second.now)
passed c =
    record {
      named_is = (sym c.named.ensures ∙ c.if-not-named.false);
      counted = c.if-sender-ge-PICTURES.false;
      valid_is = (sym c.valid.ensures ∙ c.if-not-valid.false);
      refresh_is = c.is_refresh-refreshed.ensures;
      begins = sym c.begins.ensures ∙ c.if-not-begins.false;
    }

pub returns-then-not-named : goal.returns-then-not-named
unfolding number read_table
returns-then-not-named c =
    let d = flat c.args.head.now c.args.macroblocks.now c.args.levels.now in
    let lent = buffers c.args.out.now c.args.first.now c.args.second.now in
    came_refused coding_of c.args.sender d lent c.refused.ensures
    (unnamed coding_of c.args.sender d lent (sym c.named.ensures ∙ c.if-not-named.true))

pub returns-then-sender-ge-PICTURES : goal.returns-then-sender-ge-PICTURES
unfolding number read_table
returns-then-sender-ge-PICTURES c =
    let d = flat c.args.head.now c.args.macroblocks.now c.args.levels.now in
    let lent = buffers c.args.out.now c.args.first.now c.args.second.now in
    came_refused coding_of c.args.sender d lent c.refused-then-sender-ge-PICTURES.ensures
    (all_sent coding_of c.args.sender d lent (sym c.named.ensures ∙ c.if-not-named.false) c.if-sender-ge-PICTURES.true)

pub returns-then-not-valid : goal.returns-then-not-valid
unfolding number read_table
returns-then-not-valid c =
    let d = flat c.args.head.now c.args.macroblocks.now c.args.levels.now in
    let lent = buffers c.args.out.now c.args.first.now c.args.second.now in
    came_refused coding_of c.args.sender d lent c.refused-then-not-valid.ensures
    (invalid coding_of c.args.sender d lent (sym c.named.ensures ∙ c.if-not-named.false) c.if-sender-ge-PICTURES.false (sym c.valid.ensures ∙ c.if-not-valid.true))

pub is_refresh-refreshed-requires : goal.is_refresh-refreshed-requires
is_refresh-refreshed-requires c =
    (sym c.valid.ensures ∙ c.if-not-valid.false)

pub returns-then-not-begins : goal.returns-then-not-begins
unfolding number read_table
returns-then-not-begins c =
    let d = flat c.args.head.now c.args.macroblocks.now c.args.levels.now in
    let lent = buffers c.args.out.now c.args.first.now c.args.second.now in
    came_refused coding_of c.args.sender d lent c.refused-then-not-begins.ensures
    (not_refresh coding_of c.args.sender d lent (sym c.named.ensures ∙ c.if-not-named.false) c.if-sender-ge-PICTURES.false (sym c.valid.ensures ∙ c.if-not-valid.false)
    (sym (c.begins.ensures ∙ ap (either (opposite (eqb c.args.sender.picture 0))) c.is_refresh-refreshed.ensures) ∙ c.if-not-begins.true))

pub send_with-requires : goal.send_with-requires
send_with-requires c =
    record { passed = passed (goal.at.send_with-requires c).Else-not-begins; long = ap output_length (sym c.size_of-size.ensures ∙ c.in-SubQcif.is); sized = search rules }

pub send_with-requires-in-Qcif : goal.send_with-requires-in-Qcif
send_with-requires-in-Qcif c =
    record { passed = passed (goal.at.send_with-requires-in-Qcif c).Else-not-begins; long = ap output_length (sym c.size_of-size.ensures ∙ c.in-Qcif.is); sized = search rules }

pub send_with-requires-in-Cif : goal.send_with-requires-in-Cif
send_with-requires-in-Cif c =
    record { passed = passed (goal.at.send_with-requires-in-Cif c).Else-not-begins; long = ap output_length (sym c.size_of-size.ensures ∙ c.in-Cif.is); sized = search rules }
