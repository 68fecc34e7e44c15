-- What `replay` answers and leaves in its two buffers. Assumes nothing.
use Rattle.std.specs.Prelude.{◌≡◌, Result, Ok, Err, List, ◌++◌, ℕ, ◌+◌, ◌*◌, ◌/◌, ◌≤◌, eqb, leb, length, drop}
use Rattle.laws.specs.Choice.{pick, both}
use Rattle.refusals.specs.declared.Refusal.{Refusal}
use Rattle.refusals.specs.Told.{numbers_of, Told, accepted, refused_by, refused}
use Rattle.bits.specs.Bits.{Bit, source, bits_left}
use Rattle.bits.specs.Write.{bytes_with}
use Rattle.capture.specs.Capture.{LockPlace, lock_at, no_lock, lock_from, frames_in, data_bits, report_places}
use Rattle.capture.specs.declared.Replayed.{Replayed}

-- the place of lock, the data bits, the places of the frames that are reported
pub record Replay : Type 0 where
  pub lock : ℕ
  pub bits : List Bit
  pub places : List ℕ

-- of the bits from the place of lock on
abbrev pub replay_at : List Bit → ℕ → Replay
replay_at bs p = record { lock = p; bits = data_bits (frames_in bs p); places = report_places (frames_in bs p) }

abbrev pub replay_from : List Bit → LockPlace → Told Replay
replay_from bs (lock_at p) = accepted (replay_at (drop p bs) p)
replay_from bs no_lock = refused 44 0

-- "Refusals: 1, 2 (for the slice only), then 44, no lock to the end of the capture." The lengths are those of the output and of the list of places
unfoldable pub replay_of : List ℕ → ℕ → ℕ → ℕ → Told Replay
replay_of capture n room entries =
    pick (both (eqb room (length capture)) (eqb entries (length capture / 64 + 1)))
    (pick (leb n (8 * length capture)) (replay_from (source capture n) (lock_from (source capture n) 0)) (refused 2 0))
    (refused 1 0)

-- ---- the answer: the place of lock, how many bits were written, how many places
pub record Figures : Type 0 where
  pub lock : ℕ
  pub bits : ℕ
  pub places : ℕ

abbrev pub told_replayed : Result Replayed Refusal → Told Figures
told_replayed (Ok r) = accepted (record { lock = r.lock; bits = r.bits; places = r.places })
told_replayed (Err why) = refused_by (numbers_of why)

-- the answer with both buffers at exit
pub record ReplayEnd : Type 0 where
  pub answer : Told Figures
  pub out : List ℕ
  pub places : List ℕ

-- the data bits from the output's first on, and the places from the list's first on; what stands after them is untouched, and all on a refusal
abbrev pub replay_end : List ℕ → List ℕ → Told Replay → ReplayEnd
replay_end out places (accepted r) =
    record {
      answer = accepted (record { lock = r.lock; bits = length r.bits; places = length r.places });
      out = bytes_with out 0 r.bits;
      places = r.places ++ drop (length r.places) places;
    }
replay_end out places (refused_by numbers) = record { answer = refused_by numbers; out = out; places = places }

-- a capture whose lock is known, and buffers of their named lengths
pub record Lockable (capture : List ℕ) (n lock : ℕ) (out places : List ℕ) : Type 0 where
  pub lent : n ≤ 8 * length capture
  pub inside : lock ≤ n
  pub room : length out ≡ length capture
  pub entries : length places ≡ length capture / 64 + 1

-- what is left where lock is known
abbrev pub LockedDoes : List ℕ → ℕ → ℕ → List ℕ → List ℕ → Result Replayed Refusal → List ℕ → List ℕ → Type 0
LockedDoes capture n lock out places answer out' places' =
    record { answer = told_replayed answer; out = out'; places = places' } ≡ replay_end out places (accepted (replay_at (bits_left capture n lock) lock))

-- what `replay` promises
abbrev pub ReplayDoes : List ℕ → ℕ → List ℕ → List ℕ → Result Replayed Refusal → List ℕ → List ℕ → Type 0
ReplayDoes capture n out places answer out' places' =
    record { answer = told_replayed answer; out = out'; places = places' } ≡ replay_end out places (replay_of capture n (length out) (length places))

-- that leaves one answer and one end of each buffer
abbrev pub ReplayOnce : Type 0
ReplayOnce =
    (capture : List ℕ) (n : ℕ) (out places : List ℕ) (a a' : Result Replayed Refusal) (o o' p p' : List ℕ)
    → ReplayDoes capture n out places a o p → ReplayDoes capture n out places a' o' p' → (a ≡ a') × (o ≡ o') × (p ≡ p')
