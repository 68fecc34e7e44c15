-- `capture::step` meets its contract: by what mending made of the frame.
use mathlib.Core.Path.{sym, subst, ◌∙◌}
use Rattle.bch.specs.Frame.{Mend}
use Rattle.bch.specs.declared.Mending.{Mending}
use Rattle.capture.proofs.Steps.{step_unmended, step_fill, step_data}
use Rattle.capture.proofs.step.Goals as goal

pub gathered-line-requires : goal.gathered-line-requires
gathered-line-requires c = (c.requires.whole, c.requires.end_fits)

pub returns-then-is_fill : goal.returns-then-is_fill
returns-then-is_fill c =
    let m = c.mend-mending in
    let s = c.gathered-line in
    let a = c.args in
    let mended = subst (λ (v : Mending). Mend s.result v m.new.frame) c.in-Mended.is m.ensures in
    let h = step_fill a.capture.now a.at s.result m.new.frame a.out.now a.to s.ensures mended (sym c.is_fill.ensures ∙ c.if-is_fill.true) in
    record { value = h.says; out_after = h.leaves }

pub put_data-requires : goal.put_data-requires
put_data-requires c =
    (c.requires.room, c.requires.last_fits)

pub returns-in-Unmended : goal.returns-in-Unmended
returns-in-Unmended c =
    let m = c.mend-mending in
    let s = c.gathered-line in
    let a = c.args in
    let unmended = subst (λ (v : Mending). Mend s.result v m.new.frame) c.in-Unmended.is m.ensures in
    let h = step_unmended a.capture.now a.at s.result m.new.frame a.out.now a.to s.ensures unmended in
    record { value = h.says; out_after = h.leaves }

pub returns-else-is_fill : goal.returns-else-is_fill
returns-else-is_fill c =
    let m = c.mend-mending in
    let s = c.gathered-line in
    let a = c.args in
    let mended = subst (λ (v : Mending). Mend s.result v m.new.frame) c.in-Mended.is m.ensures in
    let h = step_data a.capture.now a.at s.result m.new.frame a.out.now a.to s.ensures mended _
    (sym c.is_fill.ensures ∙ c.if-is_fill.false) c.put_data.ensures in
    record { value = h.says; out_after = h.leaves }
