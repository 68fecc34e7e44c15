-- What a run over the blocks of a clip has met: whole is a clip whose pictures were all finished, one number after another from 0 on, with no block refused, lost or short
-- and no part left over. A block that came before, or too late, cuts nothing. Assumes nothing.
use Rattle.std.specs.Prelude.{ℕ, ◌+◌, true, false, eqb, ltb}
use Rattle.laws.specs.Choice.{pick, either, opposite}
use Rattle.standing.specs.declared.Answer.{Answer}
use Rattle.standing.specs.declared.Answer.TheVariants as A
use Rattle.account.specs.declared.Ended.{Ended}
use Rattle.account.specs.declared.blocks.Met.{Met}

abbrev pub fresh_met : Met
fresh_met = record { pictures = 0; begun = false; cut = false }

-- counts stop at the greatest number of 64 bits
abbrev pub one_more : ℕ → ℕ
one_more n = pick (ltb n 18446744073709551615) (n + 1) n

-- picture p is the next one where p were finished before
unfoldable pub finished : Met → ℕ → Met
finished m p =
    record {
      pictures = one_more m.pictures;
      begun = false;
      cut = either (opposite (eqb p m.pictures)) m.cut;
    }

abbrev pub cut_short : Met → Met
cut_short m = record { pictures = m.pictures; begun = m.begun; cut = true }

unfoldable pub met_after : Met → Answer → Met
met_after m (A.Old p part) = m
met_after m (A.Taken p part) = record { pictures = m.pictures; begun = true; cut = m.cut }
met_after m A.Lost = cut_short m
met_after m (A.Picture p tick) = finished m p
met_after m (A.Refused why) = cut_short m

-- something was cut, or a part is left over
unfoldable pub end_of : Met → Ended
end_of m = record { cut = either m.cut m.begun; count = m.pictures }
