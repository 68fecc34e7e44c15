-- The headers of a group and of a picture as rows of reads: what is left of them after each. Assumes nothing.
use mathlib.Core.Path.{refl}
use mathlib.Core.List.{List}
use Prim.Native.Nat.{ℕ}
use Rattle.refusals.specs.declared.Reason.TheVariants.{NoStartCode, OtherGroup}
use Rattle.bits.specs.Bits.{bits_left}
use Rattle.bits.specs.Places.{counted}
use Rattle.bits.specs.Read.{ReaderIn, ◌>>=◌, done, field, judged_read}
use Rattle.bits.specs.Answer.{Placed}
use Rattle.bits.specs.declared.Place.{Place}
use Rattle.fields.specs.Rules.{expect, quantiser, spares}
use Rattle.fields.proofs.Row.{Row}
use Rattle.h261_groups.specs.declared.Format.{Format}
use Rattle.h261_layers.specs.Grammar.{ptype_of, group_head, Header}

-- ---- a group's
abbrev pub after_quantiser : ℕ → ReaderIn counted ℕ
after_quantiser gquant = spares >>= λ dropped. done gquant

abbrev pub after_number : ReaderIn counted ℕ
after_number = quantiser >>= after_quantiser

pub group_begun : (number : ℕ) (s : List ℕ) (n : ℕ) (p : Place) → Placed s n p
    → Row (group_head number (bits_left s n p.bit) p) s n (expect 4 number OtherGroup >>= λ gn. after_number) p
unfolding group_head
group_begun number s n p w = record { placed = w; same = refl }

-- ---- a picture's
abbrev pub after_spares : ℕ → ℕ → ReaderIn counted Header
after_spares tr ptype = expect 16 1 NoStartCode >>= λ gbsc. done (record { tr = tr; ptype = ptype })

abbrev pub after_ptype : ℕ → ℕ → ReaderIn counted Header
after_ptype tr ptype = spares >>= λ dropped. after_spares tr ptype

abbrev pub after_tr : Format → ℕ → ReaderIn counted Header
after_tr f tr = judged_read (field 6) (ptype_of f) >>= after_ptype tr

abbrev pub after_start : Format → ReaderIn counted Header
after_start f = field 5 >>= after_tr f
