-- Document 01, "What the promises decide": "Show that any two outcomes allowed by it are equal". One statement for each relation that promises cite; docs/PROMISES.md
-- says which functions cite which. Assumes nothing.
use Rattle.std.specs.Prelude.{ℕ, ◌≤◌, ◌<◌, ◌≡◌, List, length, Result}
use Rattle.refusals.specs.declared.Refusal.{Refusal}
use Rattle.std.specs.Borrow.{Bor}
use Rattle.laws.specs.Block.{Is}
use Rattle.laws.specs.Rows.{Put}
use Rattle.refusals.specs.Told.{Told, told_verdict, verdict_on, found_or}
use Rattle.refusals.specs.Writing.{told_written}
use Rattle.bits.specs.Bits.{Bit}
use Rattle.bits.specs.Output.{output_left}
use Rattle.bits.specs.Places.{counted}
use Rattle.bits.specs.Read.{ReadIn, Read}
use Rattle.bits.specs.Answer.{as_field}
use Rattle.bits.specs.declared.FieldRead.{FieldRead}
use Rattle.bits.specs.declared.Place.{Place}
use Rattle.bits.specs.Appended.{WroteBits}
use Rattle.h261_words.specs.Words.{Event}
use Rattle.h261_words.specs.Answer.{as_coefficient}
use Rattle.bits.specs.Codewords.{Writes}
use Rattle.h261_words.specs.declared.CoefficientRead.{CoefficientRead}
use Rattle.h263_words.specs.Words.{Event as Event263}
use Rattle.h263_words.specs.Answer.{as_event}
use Rattle.h263_words.specs.declared.EventRead.{EventRead}
use Rattle.size.specs.declared.Size.{Size}
use Rattle.size.specs.Size.{store_length}
use Rattle.h261_layers.specs.Grammar.{Mba, Header}
use Rattle.layout.specs.Value.{Vector}
use Rattle.layout.specs.Flat.{Flat}
use Rattle.h261_layers.specs.Answer.{as_mba, as_header, as_vector, as_macroblock, Sent}
use Rattle.fields.specs.Answer.{leaving, as_number}
use Rattle.fields.specs.declared.CountedRead.{CountedRead}
use Rattle.fields.specs.declared.PictureRead.{PictureRead}
use Rattle.h261_layers.specs.declared.Mba as code
use Rattle.h261_layers.specs.declared.Behind.{Behind}
use Rattle.fields.specs.declared.CountedRead.TheVariants.{Got}
use Rattle.samples.specs.Content.{Values}
use Rattle.samples.specs.Wrote.{Wrote, Macroblock}
use Rattle.coding.specs.declared.Kind.{Kind}
use Rattle.decoder.specs.Decoded.{DecodeSays, DecodeLeaves}
use Rattle.standing.specs.declared.Holder.{Holder}
use Rattle.standing.specs.Stores.{HandsBack}
use Rattle.standing.specs.declared.Receiver.{Receiver}
use Rattle.standing.specs.declared.Received.{Received}
use Rattle.receiver.specs.Receiving.{ReceiveDoes}
use Rattle.sender.specs.declared.Sender.{Sender}
use Rattle.sender.specs.declared.Sent.{Sent as SentBack}
use Rattle.sender.specs.Sending.{SendDoes}
use Rattle.text.specs.Puts.{Puts}
use Rattle.standing.specs.Receive as R
use Rattle.sender.specs.Send as S

-- any two that a promise allows are equal
abbrev pub Once : {A : Type 0} → (A → Type 0) → Type 0
Once {A} R = (x y : A) → R x → R y → x ≡ y

-- ---- an equation with the answer, with a buffer, or with both
abbrev pub EquationOnce : Type 1
EquationOnce = (A : Type 0) (a : A) → Once (λ (x : A). x ≡ a)

-- ---- the entry points: what each promises of its answer, of the buffers that it leaves, or of both at once
-- a picture read: `ReadSays` and `ReadCounts` together, the verdict and the number of reads, of `coding` and of either standard's reader, whatever is told
abbrev pub ReadSaysOnce : Type 0
ReadSaysOnce = (told : Told Flat) (count : ℕ) → Once (λ (r : PictureRead). (told_verdict r.verdict ≡ verdict_on told) × (r.reads ≡ count))

-- and `ReadLeaves`
abbrev pub ReadLeavesOnce : Type 0
ReadLeavesOnce = (before : Flat) (told : Told Flat) → Once (λ (left : Flat). left ≡ found_or before told)

abbrev pub DecodeSaysOnce : Type 0
DecodeSaysOnce = (k : Kind) (bytes : List ℕ) (n : ℕ) (reference store : List ℕ) → Once (DecodeSays k bytes n reference store)

abbrev pub DecodeLeavesOnce : Type 0
DecodeLeavesOnce = (k : Kind) (bytes : List ℕ) (n : ℕ) (reference store : List ℕ) → Once (DecodeLeaves k bytes n reference store)

-- a description written: `WriteSays` and `WriteLeaves`, of `coding` and of either standard's writer
abbrev pub WriteSaysOnce : Type 0
WriteSaysOnce = (told : Told ℕ) → Once (λ (answer : Result ℕ Refusal). told_written answer ≡ told)

abbrev pub WriteLeavesOnce : Type 0
WriteLeavesOnce = (out : List ℕ) (bits : List Bit) (told : Told ℕ) → Once (λ (left : List ℕ). left ≡ output_left out bits told)

abbrev pub ReceiveOnce : Type 0
ReceiveOnce = (r : Receiver) (block : List ℕ) (b : R.Buffers) (x y : Received) (left after : R.Buffers) → ReceiveDoes r block b x left → ReceiveDoes r block b y after
    → (x ≡ y) × (left ≡ after)

abbrev pub SendOnce : Type 0
SendOnce = (s : Sender) (d : Flat) (b : S.Buffers) (x y : SentBack) (left after : S.Buffers) → SendDoes s d b x left → SendDoes s d b y after
    → (x ≡ y) × (left ≡ after)

-- which part `show` hands back of the two lent stores: where it begins, and its bytes
abbrev pub HandsBackOnce : Type 0
HandsBackOnce = (size : Size) (holder : Holder) (first second x y : Bor (List ℕ)) → HandsBack size holder first second x → HandsBack size holder first second y
    → (x.ref_ptr ≡ y.ref_ptr) × (x.now ≡ y.now)

-- ---- an equation with what the answer says: nothing of the answer is lost by that
abbrev pub FieldOnce : Type 0
FieldOnce = (s : List ℕ) (n : ℕ) (b : Read ℕ) → Once (λ (x : FieldRead ℕ). as_field s n x ≡ b)

abbrev pub NumberReadOnce : Type 0
NumberReadOnce = (s : List ℕ) (n : ℕ) (b : ReadIn counted ℕ) → Once (λ (x : CountedRead ℕ). as_number s n x ≡ b)

abbrev pub CoefficientOnce : Type 0
CoefficientOnce = (s : List ℕ) (n : ℕ) (b : Read Event) → Once (λ (x : CoefficientRead). as_coefficient s n x ≡ b)

abbrev pub EventOnce : Type 0
EventOnce = (s : List ℕ) (n : ℕ) (b : Read Event263) → Once (λ (x : EventRead). as_event s n x ≡ b)

abbrev pub HeaderOnce : Type 0
HeaderOnce = (s : List ℕ) (n : ℕ) (b : ReadIn counted Header) → Once (λ (x : CountedRead (ℕ × ℕ)). as_header s n x ≡ b)

abbrev pub MbaOnce : Type 0
MbaOnce = (s : List ℕ) (n : ℕ) (b : ReadIn counted Mba) → Once (λ (x : CountedRead code.Mba). as_mba s n x ≡ b)

abbrev pub VectorOnce : Type 0
VectorOnce = (s : List ℕ) (n : ℕ) (b : ReadIn counted Vector) → Once (λ (x : CountedRead (ℕ × ℕ)). as_vector s n x ≡ b)

-- a layer's answer, and where it is a place, what it left in the buffers
abbrev pub MacroblockReadOnce : Type 0
MacroblockReadOnce = (s : List ℕ) (n : ℕ) (b : ReadIn counted Sent) (x y : CountedRead Behind) (m l k j : List ℕ) → as_macroblock s n x m l ≡ b → as_macroblock s n y k j ≡ b → x ≡ y

abbrev pub MacroblockLeftOnce : Type 0
MacroblockLeftOnce = (s : List ℕ) (n : ℕ) (b : ReadIn counted Sent) (c d : Behind) (p q : Place) (m l k j : List ℕ) → as_macroblock s n (Got c p) m l ≡ b → as_macroblock s n (Got d q) k j ≡ b
    → (m ≡ k) × (l ≡ j)

abbrev pub PlaceOnce : Type 1
PlaceOnce = (A : Type 0) (s : List ℕ) (n : ℕ) (b : ReadIn counted A) (x y : CountedRead (Unit {0})) (t u : A) → leaving s n x t ≡ b → leaving s n y u ≡ b → x ≡ y

abbrev pub LeftOnce : Type 1
LeftOnce = (A : Type 0) (s : List ℕ) (n : ℕ) (b : ReadIn counted A) (p q : Place) (t u : A) → leaving s n (Got tt p) t ≡ b → leaving s n (Got tt q) u ≡ b → t ≡ u

-- ---- a block whose 64 numbers are said
abbrev pub BlockOnce : Type 1
BlockOnce = (A : Type 0) (d : A) (g : ℕ → ℕ → A) → Once (Is d g)

-- ---- a codeword: its bits, and how many
abbrev pub CodewordOnce : Type 0
CodewordOnce = (w : List Bit) → Once (Writes w)

-- ---- bits after bits
abbrev pub BitsWroteOnce : Type 0
BitsWroteOnce = (at p q : ℕ) (w : List Bit) (before t u : List ℕ) → WroteBits w before at t p → WroteBits w before at u q → (t ≡ u) × (p ≡ q)

-- ---- stores: every sample is said, or is as it was
abbrev pub BlockWroteOnce : Type 0
BlockWroteOnce = (size : Size) (p y x : ℕ) (g : ℕ → ℕ → ℕ) (s : List ℕ) → length s ≡ store_length size → Once (Wrote size p y x g s)

abbrev pub MacroblockOnce : Type 0
MacroblockOnce = (size : Size) (r c : ℕ) (g : Values) (s : List ℕ) → length s ≡ store_length size → Once (Macroblock size r c g s)

-- ---- rows a stride apart
abbrev pub RowsOnce : Type 0
RowsOnce = (h w start stride : ℕ) (g : ℕ → ℕ → ℕ) (s : List ℕ) → 0 < stride → w ≤ stride → Once (Put h w start stride g s)

-- ---- text put into a buffer
abbrev pub TextOnce : Type 0
TextOnce = (text : List ℕ) (at p q : ℕ) (out t u : List ℕ) → Puts text at out t p → Puts text at out u q → (t ≡ u) × (p ≡ q)
