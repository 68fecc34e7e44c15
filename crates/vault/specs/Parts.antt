-- One picture cut into blocks: its N bits, 4000 to a part. Assumes nothing.
use Rattle.std.specs.Prelude.{ℕ, zero, suc, ◌+◌, ◌-◌, ◌*◌, ◌/◌, ◌^◌, ◌≤◌, ◌<◌, min, ◌≡◌, Bool, List, [], ◌++◌, length, get_or, take, drop, eqb}
use Rattle.laws.specs.Choice.{both}
use Rattle.laws.specs.Row.{row}
use Rattle.vault.specs.declared.Standard.{Standard}
use Rattle.vault.specs.declared.Header.{Header}
use Rattle.vault.specs.Block.{unused, pictures, payload_of, block_for}

-- "bits used, 1..4000, exactly 4000 unless last": how many parts that makes, and the bits used of each
abbrev pub part_count : ℕ → ℕ
part_count count = (count + 3999) / 4000

abbrev pub used_at : ℕ → ℕ → ℕ
used_at count part = min 4000 (count - 4000 * part)

-- "unused bits zero": byte i with all but the picture's first `count` bits zero
abbrev pub kept_byte : List ℕ → ℕ → ℕ → ℕ
kept_byte bytes count i = get_or bytes i 0 / 2 ^ unused count i * 2 ^ unused count i

-- the payload of a part
unfoldable pub payload_at : List ℕ → ℕ → ℕ → List ℕ
payload_at bytes count part = row 500 (λ j. kept_byte bytes count (500 * part + j))

-- a part's header: the last part is marked, part 0 of a refresh picture, and the standard on every part
abbrev pub header_at : Standard → ℕ → ℕ → Bool → ℕ → ℕ → Header
header_at standard clip picture refresh count part = record {
  standard = standard;
  clip = clip;
  picture = picture;
  part = part;
  last = eqb (part + 1) (part_count count);
  refresh = both refresh (eqb part 0);
  used = used_at count part;
}

unfoldable pub block_at : Standard → ℕ → ℕ → Bool → List ℕ → ℕ → ℕ → List ℕ
block_at standard clip picture refresh bytes count part = block_for (header_at standard clip picture refresh count part) (payload_at bytes count part)

-- the first n blocks, one after another
unfoldable pub first_blocks : Standard → ℕ → ℕ → Bool → List ℕ → ℕ → ℕ → List ℕ
first_blocks standard clip picture refresh bytes count zero = []
first_blocks standard clip picture refresh bytes count (suc n) = first_blocks standard clip picture refresh bytes count n ++ block_at standard clip picture refresh bytes count n

-- all blocks of a picture
abbrev pub blocks_of : Standard → ℕ → ℕ → Bool → List ℕ → ℕ → List ℕ
blocks_of standard clip picture refresh bytes count = first_blocks standard clip picture refresh bytes count (part_count count)

-- ---- what cutting a picture asks for
-- a part of a picture of so many bits
pub record PartIn (count part : ℕ) : Type 0 where
  pub part_is : part < 66
  pub short : count ≤ 262144
  pub reached : 4000 * part ≤ count

-- a block to write a part's payload into, and the bytes that hold the picture's bits
pub record PayloadRoom (bytes : List ℕ) (count part : ℕ) (block : List ℕ) : Type 0 where
  pub block_long : length block ≡ 512
  pub part_is : part < 66
  pub held : count ≤ 8 * length bytes

-- a picture of a clip, the bytes that hold its bits, and room for all its blocks
pub record BlocksRoom (picture : ℕ) (bytes : List ℕ) (count : ℕ) (out : List ℕ) : Type 0 where
  pub numbered : picture < pictures
  pub short : count ≤ 262144
  pub held : count ≤ 8 * length bytes
  pub room : 512 * part_count count ≤ length out

-- "Taken copies 500 payload bytes to 500 times part in the collection buffer"
unfoldable pub placed_payload : List ℕ → ℕ → List ℕ → List ℕ
placed_payload block part collection = take (500 * part) collection ++ payload_of block ++ drop (500 * part + 500) collection
