-- The laws of a coding: what a sender and a receiver of one clip rely on. H.261 and H.263 obey them (H261.antt, H263.antt). Assumes nothing.
use Rattle.std.specs.Prelude.{◌≡◌, true, List, ℕ, ◌≤◌, ◌<◌, length}
use Rattle.size.specs.declared.Size.{Size}
use Rattle.size.specs.Size.{limit, store_length}
use Rattle.bits.specs.Write.{Holds}
use Rattle.refusals.specs.Told.{accepted}
use Rattle.coding.specs.Coding.{Coding}

pub record Lawful {D : Type 0} (size : Size) (c : Coding D) : Type 0 where
  -- a valid description whose bits are not above the limit is read back from any bytes that hold them first
  pub reads : (d : D) (bytes : List ℕ) → c.valid d ≡ true → length (c.written d) ≤ limit size → Holds bytes (c.written d)
      → c.read bytes (length (c.written d)) ≡ accepted d
  -- what is read is valid
  pub reads_valid : (bytes : List ℕ) (n : ℕ) (d : D) → c.read bytes n ≡ accepted d → c.valid d ≡ true
  -- a picture has bits
  pub has_bits : (d : D) → 1 ≤ length (c.written d)
  -- a store has its named length
  pub rendered_long : (d : D) (reference : List ℕ) → length (c.render d reference) ≡ store_length size
  -- TR is below its modulus, which is above 0, and so many that TR has eight bits at most
  pub tr_below : (d : D) → c.valid d ≡ true → c.tr d < c.modulus
  pub modulus_some : 1 ≤ c.modulus
  pub modulus_most : c.modulus ≤ 256
  -- a refresh is the same over any reference
  pub anew : (d : D) (s t : List ℕ) → c.valid d ≡ true → c.refresh d ≡ true → c.render d s ≡ c.render d t
