-- What `replay` answers at each of its ends. Assumes nothing.
use mathlib.Core.Path.{◌≡◌, refl, sym, ap, ◌∙◌}
use mathlib.Core.Bool.{Bool, true, false}
use mathlib.Core.List.{List}
use Prim.Native.Nat.{ℕ, ◌+◌, ◌*◌, ◌/◌, ◌≤◌, ◌<◌}
use native.Mathlib.Omega.{arith}
use borrow.Author.Tests.{eq-eqb, ne_eqb, le-leb, lt-leb}
use lib.Dec.{eqb, leb}
use lib.ListN.{length, drop}
use Rattle.laws.specs.Choice.{pick, both}
use Rattle.laws.proofs.Choice.{second_no}
use Rattle.refusals.specs.Number.{number, read_table, refusal}
use Rattle.refusals.specs.Told.{Told, accepted, refused}
use Rattle.refusals.specs.declared.Reason.TheVariants.{Length, Count, NoLock}
use Rattle.bits.specs.Bits.{Bit, source, bits_left}
use Rattle.bits.proofs.Source.{source_left}
use Rattle.bits.proofs.Value.{left_drop}
use Rattle.capture.specs.Capture.{LockPlace, lock_at, no_lock, lock_from}
use Rattle.capture.specs.Replay.{Replay, replay_at, replay_from, replay_of, replay_end, LockedDoes, ReplayDoes}
use Rattle.capture.specs.declared.Replayed.{Replayed}
use Rattle.refusals.specs.declared.Refusal.{Refusal}
use Rattle.std.specs.Prelude.{Result, Err}

-- once the lengths are right
abbrev by_count : List ℕ → ℕ → Bool → Told Replay
by_count capture n b = pick b (replay_from (source capture n) (lock_from (source capture n) 0)) (refused 2 0)

module _ (capture : List ℕ) (n : ℕ) (out places : List ℕ) where
  refused-length : (b : Bool) → b ≡ false → both (eqb (length out) (length capture)) (eqb (length places) (length capture / 64 + 1)) ≡ b
      → ReplayDoes capture n out places (Err (refusal Length 0)) out places
  unfolding replay_of number read_table
  refused-length b e f =
      sym (ap (λ (b : Bool). replay_end out places (pick b (by_count capture n (leb n (8 * length capture))) (refused 1 0))) (f ∙ e))

  pub other_output : (length out ≡ length capture → ⊥) → ReplayDoes capture n out places (Err (refusal Length 0)) out places
  other_output e = refused-length _ (ap (λ (b : Bool). both b (eqb (length places) (length capture / 64 + 1))) (ne_eqb (length out) (length capture) e)) refl

  pub other_list : (length places ≡ length capture / 64 + 1 → ⊥) → ReplayDoes capture n out places (Err (refusal Length 0)) out places
  other_list e = refused-length _ (second_no (eqb (length out) (length capture)) _ (ne_eqb (length places) (length capture / 64 + 1) e)) refl

  module _ (room : length out ≡ length capture) (entries : length places ≡ length capture / 64 + 1) where
    right : both (eqb (length out) (length capture)) (eqb (length places) (length capture / 64 + 1)) ≡ true
    right = (λ i. both (eq-eqb (length out) (length capture) room i) (eq-eqb (length places) (length capture / 64 + 1) entries i))

    by_count_lem : (b : Bool) → leb n (8 * length capture) ≡ b → replay_of capture n (length out) (length places) ≡ by_count capture n b
    unfolding replay_of
    by_count_lem b e =
        (λ i. pick (right i) (by_count capture n (leb n (8 * length capture))) (refused 1 0)) ∙ ap (by_count capture n) e

    pub past_slice : 8 * length capture < n → ReplayDoes capture n out places (Err (refusal Count 0)) out places
    unfolding number read_table
    past_slice l = sym (ap (replay_end out places) (by_count_lem false (lt-leb n (8 * length capture) l)))

    module _ (lent : n ≤ 8 * length capture) where
      left_is : source capture n ≡ bits_left capture n 0
      left_is = source_left capture n lent

      by_lock : (o : LockPlace) → o ≡ lock_from (bits_left capture n 0) 0 → replay_of capture n (length out) (length places) ≡ replay_from (bits_left capture n 0) o
      by_lock o e =
          by_count_lem true (le-leb n (8 * length capture) lent) ∙ ap (λ (bs : List Bit). replay_from bs (lock_from bs 0)) left_is ∙ ap (replay_from (bits_left capture n 0)) (sym e)

      pub nowhere_locked : no_lock ≡ lock_from (bits_left capture n 0) 0 → ReplayDoes capture n out places (Err (refusal NoLock 0)) out places
      unfolding number read_table
      nowhere_locked e = sym (ap (replay_end out places) (by_lock no_lock e))

      pub locked_at : (p : ℕ) (answer : Result Replayed Refusal) (out' places' : List ℕ) → lock_at p ≡ lock_from (bits_left capture n 0) 0
          → LockedDoes capture n p out places answer out' places'
          → ReplayDoes capture n out places answer out' places'
      locked_at p answer out' places' e d =
          let z : 0 + p ≡ p = omega arith in
          let bits : drop p (bits_left capture n 0) ≡ bits_left capture n p = left_drop capture n 0 p ∙ ap (bits_left capture n) z in
          d ∙ sym (ap (replay_end out places) (by_lock (lock_at p) e ∙ ap (λ (bs : List Bit). accepted (replay_at bs p)) bits))
