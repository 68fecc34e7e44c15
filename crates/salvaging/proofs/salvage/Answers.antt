-- `salvaging::salvage` meets its contract: by the lengths, then by the size, whose scratch has room for the kind. Assumes nothing.
use Rattle.salvaging.proofs.Outcomes.{other_length, named_so, not_whole, not_out, not_log, room_small, room_large}
use Rattle.salvaging.specs.declared.Salvaged.{Salvaged}
use Rattle.refusals.specs.declared.Refusal.{Refusal}
use Rattle.std.specs.Prelude.{Result}
use Rattle.salvaging.specs.Salvage.{SalvageDoes}
use Rattle.size.specs.Size.{limit}
use Rattle.coding.specs.Kind.{kind_size}
use native.Mathlib.Omega.{arith}
use mathlib.Core.Path.{sym, ap, subst, ◌∙◌}
use Rattle.salvaging.proofs.salvage.Goals as goal

pub returns-then-length-ne0 : goal.returns-then-length-ne0
returns-then-length-ne0 c =
    let a = c.args in
    subst (λ (r : Result Salvaged Refusal). SalvageDoes a.kind a.old a.new a.blocks.now a.out.now a.log.now r a.out.now a.log.now) (sym c.refused.ensures)
    (other_length a.kind a.old a.new a.blocks.now a.out.now a.log.now (not_whole _ _ _ c.if-length-ne0.true))

pub returns-then-out-length : goal.returns-then-out-length
returns-then-out-length c =
    let a = c.args in
    subst (λ (r : Result Salvaged Refusal). SalvageDoes a.kind a.old a.new a.blocks.now a.out.now a.log.now r a.out.now a.log.now) (sym c.refused-then-out-length.ensures)
    (other_length a.kind a.old a.new a.blocks.now a.out.now a.log.now (not_out _ _ _ c.if-out-length.true))

pub returns-then-log-length : goal.returns-then-log-length
returns-then-log-length c =
    let a = c.args in
    subst (λ (r : Result Salvaged Refusal). SalvageDoes a.kind a.old a.new a.blocks.now a.out.now a.log.now r a.out.now a.log.now) (sym c.refused-then-log-length.ensures)
    (other_length a.kind a.old a.new a.blocks.now a.out.now a.log.now (not_log _ _ _ c.if-log-length.true))

pub salvage_within-requires : goal.salvage_within-requires
salvage_within-requires c = record {
  named = named_so _ _ _ c.if-length-ne0.false c.if-out-length.false c.if-log-length.false;
  room = room_small (kind_size c.args.kind) (omega (arith, ap limit (sym c.in-SubQcif.is ∙ c.size_of.ensures)));
  sizes = (omega arith, omega arith);
}

pub salvage_within-requires-in-Qcif : goal.salvage_within-requires-in-Qcif
salvage_within-requires-in-Qcif c = record {
  named = named_so _ _ _ c.if-length-ne0.false c.if-out-length.false c.if-log-length.false;
  room = room_small (kind_size c.args.kind) (omega (arith, ap limit (sym c.in-Qcif.is ∙ c.size_of.ensures)));
  sizes = (omega arith, omega arith);
}

pub salvage_within-requires-in-Cif : goal.salvage_within-requires-in-Cif
salvage_within-requires-in-Cif c = record {
  named = named_so _ _ _ c.if-length-ne0.false c.if-out-length.false c.if-log-length.false;
  room = room_large (kind_size c.args.kind);
  sizes = (omega arith, omega arith);
}
