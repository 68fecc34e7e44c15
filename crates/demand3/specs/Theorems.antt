-- Demand 3 holds of what `receive` and `show` are promised to do, whatever the coding, if it obeys its laws. Assumes nothing.
use Rattle.std.specs.Prelude.{◌≡◌, true, List, ◌∷◌, length}
use Rattle.coding.specs.declared.Kind.{Kind}
use Rattle.coding.specs.Coding.{Coding}
use Rattle.coding.specs.Kind.{kind_size, coding_of, AllLawful}
use Rattle.standing.specs.Receive.{lent_lengths, step}
use Rattle.standing.specs.Shown.{shown_by}
use Rattle.demand3.specs.Clip.{Picture, Clip, blocks_in, pictures_in, Fresh, begin, Receive, Show}
use Rattle.demand3.specs.Arrives.{InStepAt}
use Rattle.demand3.specs.Demand3.{InStep, CatchesUp, Demand3}

-- where a lent buffer hasn't its named length, each call is refused by 1 and nothing is handed out
abbrev pub InStepAlways : Type 1
InStepAlways = (D : Type 0) (coding : Kind → Coding D) → AllLawful coding → InStep coding (step coding) shown_by

abbrev pub CatchesUpAlways : Type 1
CatchesUpAlways = (D : Type 0) (coding : Kind → Coding D) → AllLawful coding → CatchesUp coding (step coding) shown_by

-- of any receiver that catches up: with all blocks of a clip of one picture or more, as they were written, it is in step at the last picture
abbrev pub WholeClipInStep : Type 1
WholeClipInStep = (D : Type 0) (coding : Kind → Coding D) → AllLawful coding → (receive : Receive) (show : Show) → CatchesUp coding receive show
    → (c : Clip D) (r : Fresh c.number c.kind) → lent_lengths (kind_size c.kind) r.lent ≡ true → (x : Picture D) (xs : List (Picture D)) → pictures_in coding c ≡ x ∷ xs
    → InStepAt receive show (pictures_in coding c) (length xs) (begin r) (blocks_in coding c)

-- so it holds against every clip of what `send` is promised to do
abbrev pub CodingsMeet : Type 0
CodingsMeet = Demand3 coding_of (step coding_of) shown_by
