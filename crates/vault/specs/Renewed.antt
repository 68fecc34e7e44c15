-- Document 02, T-09: "write a new clip under a given number .. renumber them from 0 without gaps, and set the checks anew". A block for another clip, under another number: its part, marks, bits used
-- and payload are as they were, whatever they say. Assumes nothing.
use Rattle.std.specs.Prelude.{◌≡◌, List, [], ◌∷◌, ◌++◌, ℕ, ◌/◌, ◌%◌, ◌≤◌, ◌<◌, length, take, drop}
use Rattle.size.specs.declared.Size.{Size}
use Rattle.refusals.specs.Told.{accepted}
use Rattle.vault.specs.declared.Header.{Header}
use Rattle.vault.specs.Block.{two_bytes, payload_of, pictures, sum_of, check_of, judge_of, block_for}

-- bytes 0 to 3, 4 to 507, 508 and 509
unfoldable pub renewed_body : ℕ → ℕ → List ℕ → List ℕ
renewed_body clip picture block =
    (two_bytes clip ++ two_bytes (picture % 65536)) ++ take 504 (drop 4 block) ++ (picture / 65536 ∷ 0 ∷ [])

-- "set the checks anew"
unfoldable pub renewed_block : ℕ → ℕ → List ℕ → List ℕ
renewed_block clip picture block = renewed_body clip picture block ++ two_bytes (sum_of (renewed_body clip picture block))

-- what it is made of: a block, room for another, and a number that a picture can have
pub record Renewing (picture : ℕ) (block out : List ℕ) : Type 0 where
  pub block_long : length block ≡ 512
  pub out_long : length out ≡ 512
  pub numbered : picture < pictures

abbrev pub renewed_header : ℕ → ℕ → Header → Header
renewed_header clip picture header = record {
  standard = header.standard;
  clip = clip;
  picture = picture;
  part = header.part;
  last = header.last;
  refresh = header.refresh;
  used = header.used;
}

-- a good block is a good block of the other clip, with the same payload
pub record RenewedAs (size : Size) (clip picture : ℕ) (block : List ℕ) (header : Header) : Type 0 where
  pub judged : judge_of size header.standard clip (renewed_block clip picture block) ≡ accepted (renewed_header clip picture header)
  pub payload : payload_of (renewed_block clip picture block) ≡ payload_of block

abbrev pub RenewedGood : Type 0
RenewedGood = (size : Size) (clip picture : ℕ) (block : List ℕ) (header : Header) → 1 ≤ clip → picture < pictures → check_of size block ≡ accepted header
    → RenewedAs size clip picture block header

-- only the last clip and number count
abbrev pub RenewedAgain : Type 0
RenewedAgain = (clip picture clip' picture' : ℕ) (block : List ℕ) → length block ≡ 512
    → renewed_block clip picture (renewed_block clip' picture' block) ≡ renewed_block clip picture block

-- a block as it was made is the same under its own clip and number
abbrev pub RenewedSame : Type 0
RenewedSame = (header : Header) (payload : List ℕ) → length payload ≡ 500
    → renewed_block header.clip header.picture (block_for header payload) ≡ block_for header payload
