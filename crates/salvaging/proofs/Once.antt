-- What `salvage` promises leaves one answer and one end of each buffer. Assumes nothing.
use mathlib.Core.Path.{◌≡◌, sym, ap, ◌∙◌}
use Rattle.std.specs.Prelude.{Result, Ok, Err}
use Rattle.refusals.specs.declared.Refusal.{Refusal}
use Rattle.refusals.proofs.Told.{accepted_once, refused_once, told_apart}
use Rattle.salvaging.specs.Salvage.{told_salvaged, SalvageEnd, SalvageOnce}
use Rattle.salvaging.specs.declared.Salvaged.{Salvaged}

salvaged_told_once : (a b : Result Salvaged Refusal) → told_salvaged a ≡ told_salvaged b → a ≡ b
salvaged_told_once (Ok written) (Ok others) e =
    let same = accepted_once e in
    λ i. Ok (record { pictures = (same i).pictures; blocks = (same i).blocks; entries = (same i).entries })
salvaged_told_once (Err a) (Err b) e = ap Err (refused_once a b e)
salvaged_told_once (Ok written) (Err b) e = absurd (told_apart e)
salvaged_told_once (Err a) (Ok written) e = absurd (told_apart (sym e))

pub salvage_once : SalvageOnce
salvage_once kind old new list out log a b o p l m d f =
    let e = d ∙ sym f in
    (salvaged_told_once a b (ap (λ (x : SalvageEnd). x.answer) e), ap (λ (x : SalvageEnd). x.out) e, ap (λ (x : SalvageEnd). x.log) e)
