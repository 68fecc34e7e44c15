-- One byte after another, up to the next code. Assumes nothing.
use Rattle.std.specs.Prelude.{◌≡◌, List, [], ◌∷◌, ℕ, ◌+◌, length, drop}
use Rattle.laws.specs.Choice.{pick}
use Rattle.h263_stream.specs.declared.Stream.{Stream}
use Rattle.h263_stream.specs.Stream.{code_at, stream_after, kept_after}

abbrev pub ran_from : Stream → List ℕ → Stream
ran_from s [] = s
ran_from s (b ∷ bytes) = ran_from (stream_after s b) bytes

abbrev pub kept_from : Stream → List ℕ → List ℕ → List ℕ
kept_from s [] picture = picture
kept_from s (b ∷ bytes) picture = kept_from (stream_after s b) bytes (kept_after s b picture)

-- those before the one that completes the next code
abbrev pub before_code : Stream → List ℕ → List ℕ
before_code s [] = []
before_code s (b ∷ bytes) = pick (code_at s b) [] (b ∷ before_code (stream_after s b) bytes)

-- up to the next code the bytes come to the same from there on
pub record Reaches (bytes : List ℕ) (s : Stream) (at : ℕ) (picture : List ℕ) (t : Stream) (there : ℕ) (left : List ℕ) : Type 0 where
  pub state : ran_from s (before_code s (drop at bytes)) ≡ ran_from t (before_code t (drop there bytes))
  pub place : at + length (before_code s (drop at bytes)) ≡ there + length (before_code t (drop there bytes))
  pub kept : kept_from s (before_code s (drop at bytes)) picture ≡ kept_from t (before_code t (drop there bytes)) left
  pub long : length left ≡ length picture
