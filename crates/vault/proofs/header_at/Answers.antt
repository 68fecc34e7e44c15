-- `vault::header_at` meets its contract: field by field. Assumes nothing.
use Prim.Native.Nat.{◌+◌}
use lib.Dec.{eqb}
use Rattle.vault.proofs.header_at.Goals as goal

pub returns : goal.returns
returns c =
    let part_here = c.args.part in
    λ i.
    record {
      standard = c.args.standard;
      clip = c.args.clip;
      picture = c.args.picture;
      part = part_here;
      last = eqb (part_here + 1) (c.part_count-parts.ensures i);
      refresh = c.refresh_at.ensures i;
      used = c.used_at.ensures i;
    }
