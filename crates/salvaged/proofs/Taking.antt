-- A block that an old receiver took, renewed and given to a new one: it is taken too, and where the one finishes its picture so does the other. Assumes nothing.
use mathlib.Core.Path.{◌≡◌, refl, sym, ap, ◌∙◌, subst}
use mathlib.Core.Bool.{Bool, true, false, true≢false}
use mathlib.Core.Logic.{◌⊎◌, inl, inr}
use mathlib.Core.List.{List, [], ◌∷◌, ◌++◌}
use Prim.Native.Nat.{ℕ, ◌+◌, ◌*◌, ◌≤◌, ◌<◌}
use native.Mathlib.Omega.{arith}
use borrow.Author.Tests.{eq-eqb, le-ltb}
use lib.Dec.{eqb}
use lib.ListN.{length, take, drop, take-append-drop, length-append, length-take, length-drop}
use lib.Seq.{length-take-le, take-append-le, take_at}
use Rattle.laws.specs.Choice.{pick, both, opposite, alike}
use Rattle.refusals.specs.Told.{Told, accepted, untabled}
use Rattle.bits.specs.Bits.{Bit, bits_of, bits_in, source}
use Rattle.size.specs.declared.Size.{Size}
use Rattle.size.specs.declared.Size.TheVariants.{SubQcif, Qcif, Cif}
use Rattle.size.specs.Size.{collection_length}
use Rattle.coding.specs.declared.Kind.{Kind}
use Rattle.coding.specs.Coding.{Coding}
use Rattle.coding.specs.Kind.{kind_size, kind_standard}
use Rattle.vault.specs.declared.Standard.{Standard}
use Rattle.vault.specs.declared.Header.{Header}
use Rattle.vault.specs.Block.{pictures, greatest_part, payload_of, judge_of}
use Rattle.vault.specs.Parts.{placed_payload}
use Rattle.vault.specs.Renewed.{renewed_block, renewed_header, RenewedAs}
use Rattle.vault.proofs.Judged.{Sound, judged_good}
use Rattle.vault.proofs.Standards.{standard_believed}
use Rattle.vault.proofs.Collected.{placed_length}
use Rattle.vault.proofs.Renewed.{renewed_length, renewed_good, renewed_again}
use Rattle.standing.specs.declared.Line.{Line}
use Rattle.standing.specs.declared.Line.TheVariants.{Earlier, Next, Anew, Otherwise}
use Rattle.standing.specs.declared.Standing.{Standing}
use Rattle.standing.specs.declared.Standing.TheVariants as S
use Rattle.standing.specs.Receive.{taken, failed, finished, Buffers, place, earlier_place, same_place, is_lost, line_of, count_of, mark_of, lent_lengths, judged_block, ended_picture, took_of, by_line, by_judgement, decide}
use Rattle.demand3.proofs.Step.{Moment, progress_at, receiver_at, collection_is}
use Rattle.salvaged.specs.Replayed.{ReadsBits, AllReadBits}

-- ---- the bits of two slices that begin alike
bits_join : (a b : List ℕ) → bits_in (a ++ b) ≡ bits_in a ++ bits_in b
unfolding bits_in
bits_join [] b = refl
bits_join (x ∷ a) b = ap (λ (l : List Bit). bits_of 8 x ++ l) (bits_join a b)

bits_long : (a : List ℕ) → length (bits_in a) ≡ 8 * length a
unfolding bits_in
bits_long [] = refl
bits_long (x ∷ a) = let more = bits_long a in omega arith

source_first : (a : List ℕ) (m n : ℕ) → m ≤ length a → n ≤ 8 * m → source a n ≡ source (take m a) n
source_first a m n l h =
    ap (λ (s : List ℕ). take n (bits_in s)) (sym (take-append-drop m a))
    ∙ ap (take n) (bits_join (take m a) (drop m a))
    ∙ take-append-le n (bits_in (take m a)) (bits_in (drop m a)) (omega (arith, bits_long (take m a), length-take-le m a l))

source-alike : (a b : List ℕ) (m n : ℕ) → length a ≡ length b → m ≤ length a → n ≤ 8 * m → take m a ≡ take m b → source a n ≡ source b n
source-alike a b m n e l h same = source_first a m n l h ∙ ap (λ (s : List ℕ). source s n) same ∙ sym (source_first b m n (omega (arith, e, l)) h)

-- ---- a collection with one part more
room_for : (size : Size) (part : ℕ) → part ≤ greatest_part size → 500 * part + 500 ≤ collection_length size
room_for SubQcif part l = omega arith
room_for Qcif part l = omega arith
room_for Cif part l = omega arith

placed_first : (block : List ℕ) (part : ℕ) (collection : List ℕ) → length block ≡ 512 → 500 * part + 500 ≤ length collection
    → take (500 * (part + 1)) (placed_payload block part collection) ≡ take (500 * part) collection ++ payload_of block
unfolding placed_payload
placed_first block part collection e l =
    take_at (take (500 * part) collection ++ payload_of block) (drop (500 * part + 500) collection) (500 * (part + 1))
    (omega (arith, length-append (take (500 * part) collection) (payload_of block), length-take-le (500 * part) collection (omega arith), length-take 500 (drop 8 block), length-drop 8 block))

-- a block that is put into a collection as this part
pub record Placing (size : Size) (part : ℕ) (block collection : List ℕ) : Type 0 where
  pub within : part ≤ greatest_part size
  pub long : length block ≡ 512
  pub named : length collection ≡ collection_length size

pub placing : {size : Size} {block : List ℕ} {header : Header} → Sound size block header → (b : Buffers) → lent_lengths size b ≡ true → Placing size header.part block b.collection
placing {size} sound b named = record { within = sound.part_is; long = sound.long; named = collection_is size b named }

placed_room : {size : Size} {part : ℕ} {block collection : List ℕ} → Placing size part block collection → 500 * part + 500 ≤ length collection
placed_room {size} {part} p = let room = room_for size part p.within in omega (arith, room, p.named)

pub placed_long : {size : Size} {part : ℕ} {block collection : List ℕ} → Placing size part block collection → length (placed_payload block part collection) ≡ collection_length size
placed_long {part = part} {block} {collection} p = placed_length block part collection p.long (placed_room p) ∙ p.named

-- two blocks of the same payload, put into collections that begin alike
module _ {size : Size} {part : ℕ} {block collection block' collection' : List ℕ} (p : Placing size part block collection) (q : Placing size part block' collection') (same : payload_of block ≡ payload_of block')
    (begins : take (500 * part) collection ≡ take (500 * part) collection') where
  pub placed_alike : take (500 * (part + 1)) (placed_payload block part collection) ≡ take (500 * (part + 1)) (placed_payload block' part collection')
  placed_alike =
      placed_first block part collection p.long (placed_room p)
      ∙ (λ i. begins i ++ same i)
      ∙ sym (placed_first block' part collection' q.long (placed_room q))

  -- are read alike
  pub read_alike : {D : Type 0} {c : Coding D} → ReadsBits c → (count : ℕ) → count ≤ 4000 * part + 4000 → c.read (placed_payload block part collection) count ≡ c.read (placed_payload block' part collection') count
  read_alike reads count most =
      let room = placed_room p in
      let long = placed_long p in
      let alike_long : length (placed_payload block part collection) ≡ length (placed_payload block' part collection') = placed_long p ∙ sym (placed_long q) in
      reads.exactly (placed_payload block part collection) (placed_payload block' part collection') count alike_long
      (source-alike (placed_payload block part collection) (placed_payload block' part collection') (500 * (part + 1)) count alike_long (omega (arith, room, long, p.named)) (omega (arith, most)) placed_alike)

module _ {D : Type 0} {coding : Kind → Coding D} (reads : AllReadBits coding) (kind : Kind) (old new : ℕ) (has_new : 1 ≤ new) where
  abbrev size : Size
  size = kind_size kind

  -- a block that the old receiver takes, and the part that the new one is to take as one of its picture k
  pub record Fits (k : ℕ) (m n : Moment) (block : List ℕ) (header : Header) : Type 0 where
    pub judged : judge_of size (kind_standard kind) old block ≡ accepted header
    pub sound : Sound size block header
    pub numbered : k < pictures
    pub named_old : lent_lengths size m.lent ≡ true
    pub named_new : lent_lengths size n.lent ≡ true
    pub wants : n.wanted ≡ place k header.part
    pub takes : (is_lost n.standing ≡ false) ⊎ ((header.part ≡ 0) × (header.refresh ≡ true))
    pub begins : take (500 * header.part) m.lent.collection ≡ take (500 * header.part) n.lent.collection
    pub marks : mark_of (progress_at m) header ≡ mark_of (progress_at n) header

  module _ {k : ℕ} {m n : Moment} {block : List ℕ} {header : Header} (f : Fits k m n block header) where
    abbrev pub renewed : List ℕ
    renewed = renewed_block new k block

    abbrev pub header' : Header
    header' = renewed_header new k header

    is_renewed : RenewedAs size new k block header
    is_renewed = renewed_good size new k block header has_new f.numbered (judged_good size (kind_standard kind) old block header f.judged).0

    pub own : renewed_block new k renewed ≡ renewed
    own = renewed_again new k new k block f.sound.long

    -- ---- which line takes it
    judged_new : judged_block (receiver_at new kind n) renewed n.lent ≡ accepted header'
    unfolding judged_block
    judged_new =
        let own_standard : header.standard ≡ kind_standard kind = standard_believed size (kind_standard kind) old block header f.judged in
        rw f.named_new (subst (λ (s : Standard). judge_of size s new renewed ≡ accepted header') own_standard is_renewed.judged)

    not_earlier : earlier_place (place k header.part) n.wanted ≡ false
    not_earlier = ap (earlier_place (place k header.part)) f.wants ∙ rw (le-ltb k k (omega arith), eq-eqb k k refl, le-ltb header.part header.part (omega arith))

    same_place_lem : same_place (place k header.part) n.wanted ≡ true
    same_place_lem = ap (same_place (place k header.part)) f.wants ∙ rw (eq-eqb k k refl, eq-eqb header.part header.part refl)

    placed_new : List ℕ
    placed_new = placed_payload renewed header.part n.lent.collection

    record Takes : Type 0 where
      standing : Standing
      stands : is_lost standing ≡ false
      does : decide coding (receiver_at new kind n) renewed n.lent ≡ took_of coding (receiver_at new kind n) header' standing placed_new

    by_line_lem : (line : Line) → line_of (progress_at n) header' ≡ line
        → decide coding (receiver_at new kind n) renewed n.lent ≡ by_line coding line (receiver_at new kind n) header' renewed n.lent.collection
    unfolding decide by_judgement
    by_line_lem line e =
        ap (λ (t : Told Header). by_judgement coding t (receiver_at new kind n) renewed n.lent.collection) judged_new
        ∙ ap (λ (l : Line). by_line coding l (receiver_at new kind n) header' renewed n.lent.collection) e

    takes_it : Takes
    unfolding line_of by_line placed_new
    takes_it = go (is_lost n.standing) refl
      where
        line_is : (l : Bool) → is_lost n.standing ≡ l → line_of (progress_at n) header' ≡ pick (opposite l) Next (pick (both (eqb header.part 0) header.refresh) Anew Otherwise)
        line_is l e = λ i. pick (not_earlier i) Earlier (pick (both (same_place_lem i) (opposite (e i))) Next (pick (both (eqb header.part 0) header.refresh) Anew Otherwise))

        begun : (is_lost n.standing ≡ false) ⊎ ((header.part ≡ 0) × (header.refresh ≡ true)) → is_lost n.standing ≡ true → both (eqb header.part 0) header.refresh ≡ true
        begun (inl q) e = absurd (true≢false (sym e ∙ q))
        begun (inr q) e = rw (eq-eqb header.part 0 q.0, q.1)

        go : (l : Bool) → is_lost n.standing ≡ l → Takes
        go false e = record { standing = n.standing; stands = e; does = by_line_lem Next (line_is false e) }
        go true e = record { standing = S.Catching; stands = refl; does = by_line_lem Anew (line_is true e ∙ (λ i. pick (begun f.takes e i) Anew Otherwise)) }

    -- ---- not the last part
    pub record TakenToo : Type 0 where
      pub standing : Standing
      pub stands : is_lost standing ≡ false
      pub does : decide coding (receiver_at new kind n) renewed n.lent ≡ taken header' standing

    pub taken_too : header.last ≡ false → TakenToo
    unfolding took_of takes_it
    taken_too e = record {
      standing = takes_it.standing;
      stands = takes_it.stands;
      does = takes_it.does ∙ ap (λ (b : Bool). pick b (ended_picture coding (receiver_at new kind n) header' ((coding kind).read placed_new (count_of header'))) (taken header' takes_it.standing)) e;
    }

    -- ---- the last one: what is collected is the same
    pub renewed_long : length renewed ≡ 512
    renewed_long = renewed_length new k block f.sound.long

    place_old : Placing size header.part block m.lent.collection
    place_old = placing f.sound m.lent f.named_old

    pub place_new : Placing size header.part renewed n.lent.collection
    place_new = record { within = f.sound.part_is; long = renewed_long; named = collection_is size n.lent f.named_new }

    pub begins_more : take (500 * (header.part + 1)) (placed_payload block header.part m.lent.collection) ≡ take (500 * (header.part + 1)) (placed_payload renewed header.part n.lent.collection)
    begins_more = placed_alike place_old place_new (sym is_renewed.payload) f.begins

    reads_too : (coding kind).read (placed_payload renewed header.part n.lent.collection) (count_of header') ≡ (coding kind).read (placed_payload block header.part m.lent.collection) (count_of header)
    reads_too = let most = f.sound.used_most in read_alike place_new place_old is_renewed.payload (sym f.begins) (reads.each kind) (count_of header) (omega (arith, most))

    pub finished_too : header.last ≡ true → (d : D) → (coding kind).read (placed_payload block header.part m.lent.collection) (count_of header) ≡ accepted d
        → alike ((coding kind).refresh d) (mark_of (progress_at m) header) ≡ true → decide coding (receiver_at new kind n) renewed n.lent ≡ finished header' d
    unfolding took_of ended_picture takes_it placed_new
    finished_too e d r marked =
        takes_it.does
        ∙ ap (λ (b : Bool). pick b (ended_picture coding (receiver_at new kind n) header' ((coding kind).read placed_new (count_of header'))) (taken header' takes_it.standing)) e
        ∙ ap (ended_picture coding (receiver_at new kind n) header') (reads_too ∙ r)
        ∙ ap (λ (b : Bool). pick b (finished header' d) (failed header' (untabled 24 0))) (ap (alike ((coding kind).refresh d)) (sym f.marks) ∙ marked)
