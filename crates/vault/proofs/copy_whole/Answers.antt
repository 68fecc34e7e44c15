-- `vault::copy_whole` meets its contract: the bytes that the picture fills are the payload's first. Assumes nothing.
use native.Mathlib.Nat.{le_refl}
use native.Mathlib.Omega.{arith}
use mathlib.Core.Path.{◌≡◌, sym, ap, ◌∙◌}
use Prim.Native.Nat.{ℕ, ◌+◌, ◌-◌, ◌*◌, ◌/◌, ◌≤◌, ◌<◌, min}
use mathlib.Core.List.{List, ◌++◌}
use lib.ListN.{length, get_or, take, drop, length-take, length-drop}
use lib.Seq.{paste, paste-zero, ext_get_or, get_or-take, get_or-drop, take-take}
use borrow.Rule.Slice.PartMut.{put_mid}
use Rattle.std.proofs.lemmas.Slice.{put_mid-paste}
use Rattle.vault.specs.Parts.{payload_at}
use Rattle.vault.proofs.KeptLaws.{kept_whole, payload_length, payload_byte}
use Rattle.vault.proofs.copy_whole.Goals as goal

-- n bytes, all within the picture
module _ (bytes : List ℕ) (count part n : ℕ) (short : n ≤ 500) (whole : 500 * part + n ≤ count / 8) (held : count ≤ 8 * length bytes) where
  cut_length : length (take n (drop (500 * part) bytes)) ≡ n
  cut_length = omega (arith, length-take n (drop (500 * part) bytes), length-drop (500 * part) bytes)

  first_length : length (take n (payload_at bytes count part)) ≡ n
  first_length = omega (arith, length-take n (payload_at bytes count part), payload_length bytes count part)

  first_bytes : take n (drop (500 * part) bytes) ≡ take n (payload_at bytes count part)
  first_bytes = ext_get_or 0 _ _ (cut_length ∙ sym first_length) byte
    where
      byte : (j : ℕ) → j < length (take n (drop (500 * part) bytes)) → get_or (take n (drop (500 * part) bytes)) j 0 ≡ get_or (take n (payload_at bytes count part)) j 0
      byte j l =
          let h : j < n = omega (arith, cut_length) in
          let b : j < 500 = omega arith in
          let w : 8 * (500 * part + j + 1) ≤ count = omega arith in
          rw (get_or-take, get_or-take, get_or-drop) (sym (payload_byte bytes count part j b ∙ kept_whole bytes count (500 * part + j) w))

  copied : (block : List ℕ) {left : List ℕ} (k m : ℕ) → n ≡ k → m ≡ n → left ≡ take m (drop (500 * part) bytes) → put_mid 8 k block left ≡ paste block 8 (payload_at bytes count part) n
  copied block {left} k m e f h =
      put_mid-paste 8 k block left (take n (payload_at bytes count part)) n (h ∙ ap (λ (i : ℕ). take i (drop (500 * part) bytes)) f ∙ first_bytes) e (sym first_length)
      ∙ ap (λ (l : List ℕ). take 8 block ++ l ++ drop (8 + n) block) (take-take n n (payload_at bytes count part) (le_refl n))

pub returns-then-whole-eq0 : goal.returns-then-whole-eq0
returns-then-whole-eq0 c =
    let none : min 500 (c.args.count / 8 - 500 * c.args.part) ≡ 0 = omega (arith, c.whole_bytes-whole.ensures) in
    record { value = sym none; block_after = paste-zero c.args.block.now 8 (payload_at c.args.bytes.now c.args.count c.args.part) ∙ ap (paste c.args.block.now 8 (payload_at c.args.bytes.now c.args.count c.args.part)) (sym none) }

pub returns : goal.returns
returns c =
    let a = c.args in
    let w : c.whole_bytes-whole.result ≡ min 500 (a.count / 8 - 500 * a.part) = c.whole_bytes-whole.ensures in
    let k : min 500 (a.count / 8 - 500 * a.part) ≡ 8 + c.whole_bytes-whole.result - 8 = omega arith in
    let m : 500 * a.part + c.whole_bytes-whole.result - 500 * a.part ≡ min 500 (a.count / 8 - 500 * a.part) = omega arith in
    record {
      value = w;
      block_after = copied a.bytes.now a.count a.part _ (omega arith) (omega (arith, c.if-whole-eq0.false)) c.requires.held a.block.now _ _ k m c.copy_from_slice.ensures.after;
    }
