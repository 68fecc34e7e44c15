-- The sender's judgements one by one, and what a call comes to by them. Assumes nothing.
use Prim.Native.Nat.{ℕ, ◌*◌, ◌≤◌, ◌<◌}
use mathlib.Core.Path.{◌≡◌, sym, ap, ◌∙◌}
use mathlib.Core.Bool.{Bool, true, false}
use mathlib.Core.List.{List, ◌++◌}
use native.Mathlib.Omega.{arith}
use borrow.Author.Tests.{lt-ltb, le-ltb, lt-leb, le-leb}
use lib.Dec.{eqb, leb, eqb→eq}
use lib.ListN.{length, drop}
use Rattle.laws.specs.Choice.{pick, both, either, opposite}
use Rattle.laws.proofs.Choice.{both_left, both_right, true-T}
use Rattle.refusals.specs.Told.{accepted, refused}
use Rattle.size.specs.declared.Size.{Size}
use Rattle.size.specs.declared.Size.TheVariants.{SubQcif, Qcif, Cif}
use Rattle.size.specs.Size.{limit, store_length, blocks_length}
use Rattle.coding.specs.declared.Kind.{Kind}
use Rattle.coding.specs.Coding.{Coding}
use Rattle.coding.specs.Kind.{kind_size, kind_standard}
use Rattle.coding.specs.Described.{bytes_in}
use Rattle.vault.specs.declared.Standard.{Standard}
use Rattle.vault.specs.Block.{pictures}
use Rattle.vault.specs.Parts.{part_count, blocks_of}
use Rattle.standing.specs.Stores.{Stores, reference, stores_with}
use Rattle.sender.specs.declared.Sender.{Sender}
use Rattle.sender.specs.Send.{Buffers, lent_lengths, Judgement, sends, refuses, Reply, reply, Outcome, next_sender, judge, blocks_sent, came_to, step}
use Rattle.sender.specs.Sending.{Encoded, Passed}

-- the output has room for the blocks of a picture that isn't above the limit
room_for : (size : Size) (count room : ℕ) → count ≤ limit size → room ≡ blocks_length size → (count ≤ 262144) × (512 * part_count count ≤ room)
room_for SubQcif count room l e = (omega arith, omega arith)
room_for Qcif count room l e = (omega arith, omega arith)
room_for Cif count room l e = (omega arith, omega arith)

module _ {D : Type 0} (coding : Kind → Coding D) where
  module _ (s : Sender) (d : D) (b : Buffers) where
    -- ---- the judgements, in their order
    pub unnamed : both ((coding s.kind).named d) (lent_lengths (kind_size s.kind) b) ≡ false → judge coding s d b ≡ refuses 1
    unfolding judge
    unnamed e = rw e

    module _ (n : both ((coding s.kind).named d) (lent_lengths (kind_size s.kind) b) ≡ true) where
      pub all_sent : pictures ≤ s.picture → judge coding s d b ≡ refuses 34
      unfolding judge
      all_sent l = rw (n, le-ltb s.picture pictures l)

      module _ (p : s.picture < pictures) where
        pub invalid : (coding s.kind).valid d ≡ false → judge coding s d b ≡ refuses 31
        unfolding judge
        invalid e = rw (n, lt-ltb s.picture pictures p, e)

        pub not_refresh : (coding s.kind).valid d ≡ true → either (opposite (eqb s.picture 0)) ((coding s.kind).refresh d) ≡ false
            → judge coding s d b ≡ refuses 33
        unfolding judge
        not_refresh v e = rw (n, lt-ltb s.picture pictures p, v, e)

    module _ {refreshed : Bool} (p : Passed coding s refreshed d b) where
      by_limit : judge coding s d b ≡ pick (leb (length ((coding s.kind).written d)) (limit (kind_size s.kind))) sends (refuses 32)
      unfolding judge
      by_limit =
          rw (p.named_is, lt-ltb s.picture pictures p.counted, p.valid_is, ap (either (opposite (eqb s.picture 0))) (sym p.refresh_is) ∙ p.begins)

      pub above : limit (kind_size s.kind) < length ((coding s.kind).written d) → judge coding s d b ≡ refuses 32
      above l = by_limit ∙ ap (λ (t : Bool). pick t sends (refuses 32)) (lt-leb (length ((coding s.kind).written d)) (limit (kind_size s.kind)) l)

      pub below : length ((coding s.kind).written d) ≤ limit (kind_size s.kind) → judge coding s d b ≡ sends
      below l = by_limit ∙ ap (λ (t : Bool). pick t sends (refuses 32)) (le-leb (length ((coding s.kind).written d)) (limit (kind_size s.kind)) l)

      -- what is written not above the limit
      pub encoded : {bytes : List ℕ} {count : ℕ} → count ≡ length ((coding s.kind).written d) → count ≤ limit (kind_size s.kind)
          → bytes ≡ bytes_in ((coding s.kind).written d) → count ≤ 8 * length bytes → Encoded coding s refreshed d b bytes count
      encoded {bytes} {count} e l w h =
          let out_fits = eqb (length b.out) (blocks_length (kind_size s.kind)) in
          let first_fits = eqb (length b.both.first) (store_length (kind_size s.kind)) in
          let second_fits = eqb (length b.both.second) (store_length (kind_size s.kind)) in
          let lent = both_right ((coding s.kind).named d) (both out_fits (both first_fits second_fits)) (true-T _ p.named_is) in
          let two = both_right out_fits (both first_fits second_fits) lent in
          let most = room_for (kind_size s.kind) count (length b.out) l (eqb→eq _ _ (both_left out_fits (both first_fits second_fits) lent)) in
          record {
            counted = p.counted;
            valid_is = p.valid_is;
            refresh_is = p.refresh_is;
            count_is = e;
            bytes_are = w;
            short = most.0;
            held = h;
            room = most.1;
            first_long = eqb→eq _ _ (both_left first_fits second_fits two);
            second_long = eqb→eq _ _ (both_right first_fits second_fits two);
          }

    -- ---- what they come to
    pub came : {j : Judgement} {x : Outcome} → judge coding s d b ≡ j → x ≡ came_to coding s d b j → x ≡ step coding s d b
    unfolding step
    came e h = h ∙ sym (ap (came_to coding s d b) e)

    pub came_refused : {n : ℕ} {x : Reply} → x ≡ reply (refused n 0) s → judge coding s d b ≡ refuses n
        → record { gave = x; left = b } ≡ step coding s d b
    unfolding came_to
    came_refused h e = came e (ap (λ (y : Reply). record { gave = y; left = b }) h)

    -- the blocks in the output, the picture in a store, the next state
    pub came_sent : {refreshed : Bool} {bytes out : List ℕ} {count blocks : ℕ} {standard : Standard} {after : Stores} {next : Sender} → Encoded coding s refreshed d b bytes count
        → standard ≡ kind_standard s.kind → blocks ≡ part_count count → out ≡ blocks_of standard s.clip s.picture refreshed bytes count ++ drop (512 * part_count count) b.out
        → after ≡ stores_with s.holder ((coding s.kind).render d (reference s.holder b.both)) b.both → next ≡ next_sender s
        → record { gave = reply (accepted blocks) next; left = record { out = out; both = after } } ≡ came_to coding s d b sends
    unfolding came_to blocks_sent
    came_sent {refreshed} {bytes} {out} {count} {blocks} {standard} {after} {next} k st n o w t =
        λ i. record {
          gave = reply (accepted ((n ∙ ap part_count k.count_is) i)) (t i);
          left = record { out = (o ∙ as_sent) i; both = w i };
        }
      where
        as_sent : blocks_of standard s.clip s.picture refreshed bytes count ++ drop (512 * part_count count) b.out
            ≡ blocks_sent coding s d ++ drop (512 * part_count (length ((coding s.kind).written d))) b.out
        as_sent = λ i. blocks_of (st i) s.clip s.picture (k.refresh_is i) (k.bytes_are i) (k.count_is i) ++ drop (512 * part_count (k.count_is i)) b.out
