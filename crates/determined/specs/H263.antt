-- The same of the promises of H.263's layers: two outcomes that one allows are equal. Assumes nothing.
use Rattle.std.specs.Prelude.{ℕ, ◌≡◌, List}
use Rattle.bits.specs.Places.{counted}
use Rattle.bits.specs.Read.{ReadIn}
use Rattle.fields.specs.declared.CountedRead.{CountedRead}
use Rattle.layout.specs.Value.{Vector}
use Rattle.h263_layers.specs.declared.Header as H
use Rattle.h263_layers.specs.declared.Opened as O
use Rattle.h263_layers.specs.Grammar.{Header, Opened}
use Rattle.h263_layers.specs.Answer.{as_header, as_opened, as_vector}
use Rattle.determined.specs.Determined.{Once}

abbrev pub HeaderOnce : Type 0
HeaderOnce = (s : List ℕ) (n : ℕ) (b : ReadIn counted Header) → Once (λ (x : CountedRead H.Header). as_header s n x ≡ b)

abbrev pub OpenedOnce : Type 0
OpenedOnce = (s : List ℕ) (n : ℕ) (b : ReadIn counted Opened) → Once (λ (x : CountedRead O.Opened). as_opened s n x ≡ b)

abbrev pub VectorOnce : Type 0
VectorOnce = (s : List ℕ) (n : ℕ) (b : ReadIn counted Vector) → Once (λ (x : CountedRead (ℕ × ℕ)). as_vector s n x ≡ b)
