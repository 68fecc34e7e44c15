-- The description that bits give, and what reading them asks of the buffers. Assumes nothing.
use Rattle.std.specs.Prelude.{ℕ, ◌≡◌, List, [], ltb, length, replicate}
use Rattle.laws.specs.Choice.{pick}
use Rattle.refusals.specs.Number.{refusal}
use Rattle.refusals.specs.declared.Reason.TheVariants.{AfterLast}
use Rattle.bits.specs.Places.{Places, counted, stop_in}
use Rattle.bits.specs.Read.{Read, ReaderIn, ◌>>=◌}
use Rattle.bits.specs.declared.Place.{Place}
use Rattle.fields.specs.Answer.{map_read}
use Rattle.fields.specs.declared.CountedRead.{CountedRead}
use Rattle.fields.specs.declared.CountedRead.TheVariants.{Got, Refused}
use Rattle.size.specs.declared.Size.{Size}
use Rattle.layout.specs.Flat.{Flat}
use Rattle.h263_description.specs.Value.{Picture, head_length, macroblocks_length, levels_length, group_numbers, laid_picture}
use Rattle.h263_description.specs.Fields.{is_intra_type}
use Rattle.h263_layers.specs.Grammar.{Header, groups_read, ended, reading}
use Rattle.h263_layers.specs.Ready.{Reading}

-- what the groups are read with: no macroblock says a vector yet
pub record GroupsReady (tables bytes : List ℕ) (count : ℕ) (at : Place) (size : Size) (head macroblocks levels : List ℕ) : Type 0 where
  pub reading : Reading tables bytes count at
  pub head_long : length head ≡ head_length size
  pub ms_blank : macroblocks ≡ replicate (macroblocks_length size) 0
  pub ls_long : length levels ≡ levels_length size

-- the picture from after its header on
abbrev pub after_header : {P : Places} → Size → Header → ReaderIn P Picture
after_header size head =
    groups_read size (is_intra_type head.type) (group_numbers size) []
    >>= λ groups. ended (record { tr = head.tr; ptype = head.ptype; type = head.type; pquant = head.pquant; groups = groups })

-- refusal 13: "bits left there are 13 at that place": where the groups ended, if the bits end there
abbrev pub ended_at : ℕ → CountedRead (Unit {0}) → CountedRead (Unit {0})
ended_at n (Got u p) = pick (ltb p.bit n) (Refused (stop_in counted (refusal AfterLast p.bit) p)) (Got tt p)
ended_at n (Refused r) = Refused r

-- the description of the picture that N bits of a slice are
unfoldable pub described : Size → List ℕ → ℕ → Read Flat
described size bytes n = map_read (laid_picture size) (reading size bytes n)
