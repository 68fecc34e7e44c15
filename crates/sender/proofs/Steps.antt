-- From the written bits to what a call comes to, on plain values. Assumes nothing.
use mathlib.Core.Path.{◌≡◌, sym, ap, subst, ◌∙◌}
use mathlib.Core.Bool.{Bool}
use mathlib.Core.List.{List}
use Prim.Native.Nat.{ℕ, ◌+◌, ◌*◌, ◌/◌, ◌≤◌, ◌<◌}
use native.Mathlib.Omega.{arith}
use lib.ListN.{length, take}
use lib.Seq.{length-take-le}
use Rattle.refusals.specs.Told.{refused}
use Rattle.bits.specs.Write.{started_bytes}
use Rattle.bits.specs.Appended.{WroteBits}
use Rattle.bits.proofs.Output.{counted, copy_within, first}
use Rattle.size.specs.declared.Size.{Size}
use Rattle.size.specs.Size.{limit, output_length}
use Rattle.layout.specs.Flat.{Flat}
use Rattle.coding.specs.Kind.{kind_size, coding_of}
use Rattle.coding.proofs.Scratch.{limit_most, scratch_room}
use Rattle.sender.specs.declared.Sender.{Sender}
use Rattle.sender.specs.Send.{Buffers, sends, Reply, reply, Outcome, came_to, step}
use Rattle.sender.specs.Sending.{Passed, Encoded}
use Rattle.sender.proofs.Laws.{above, below, encoded, came, came_refused}

bytes_hold : (count room : ℕ) → room ≡ (count + 7) / 8 → count ≤ 8 * room
bytes_hold count room e = omega arith

-- ---- a call that passed its first judgements, its bits counted, with the size and the limit as the code has them
module _ {refreshed : Bool} {s : Sender} {d : Flat} {lent : Buffers} (p : Passed coding_of s refreshed d lent) {size : Size} (is : size ≡ kind_size s.kind)
    {most : ℕ} (ms : most ≡ limit size) (scratch : List ℕ) {after : List ℕ} {count : ℕ} (w : WroteBits ((coding_of s.kind).written d) scratch 0 after count) where
  limited : most ≡ limit (kind_size s.kind)
  limited = ms ∙ ap limit is

  count_is : count ≡ length ((coding_of s.kind).written d)
  count_is = counted w limited scratch

  module _ (low : count ≤ most) where
    within : count ≤ limit (kind_size s.kind)
    within = omega (arith, limited)

    pub count_fits : count ≤ 262144
    count_fits = omega (arith, within, limit_most s.kind)

    -- the scratch has room for what isn't above the limit
    module _ (l : length scratch ≡ output_length (kind_size s.kind)) where
      pub bytes_fit : (count + 7) / 8 ≤ length after
      bytes_fit = copy_within w limited scratch low (scratch_room s.kind l)

      pub bytes_long : (count + 7) / 8 ≡ length (take ((count + 7) / 8) after)
      bytes_long = sym (length-take-le ((count + 7) / 8) after bytes_fit)

      pub is_encoded : Encoded coding_of s refreshed d lent (take ((count + 7) / 8) after) count
      is_encoded =
          encoded coding_of s d lent p count_is within
          (ap (λ (n : ℕ). take (started_bytes n) after) count_is ∙ first w limited scratch low (scratch_room s.kind l))
          (bytes_hold count (length (take ((count + 7) / 8) after)) (sym bytes_long))

    pub sent_comes : {x : Outcome} → x ≡ came_to coding_of s d lent sends → x ≡ step coding_of s d lent
    sent_comes h = came coding_of s d lent (below coding_of s d lent p (subst (λ (n : ℕ). n ≤ limit (kind_size s.kind)) count_is within)) h

  pub above_comes : most < count → {x : Reply} → x ≡ reply (refused 32 0) s → record { gave = x; left = lent } ≡ step coding_of s d lent
  above_comes l h = came_refused coding_of s d lent h (above coding_of s d lent p (subst (λ (n : ℕ). limit (kind_size s.kind) < n) count_is (omega (arith, limited))))
