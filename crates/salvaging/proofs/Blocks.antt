-- The blocks of a list, cut one after another: the place of the next one, by what the iterator has left. Assumes nothing.
use mathlib.Core.Path.{◌≡◌, sym, ap, subst, ◌∙◌}
use mathlib.Core.List.{List, ◌++◌}
use Prim.Native.Nat.{ℕ, ◌+◌, ◌-◌, ◌≤◌, ◌<◌}
use native.Mathlib.Omega.{arith}
use lib.ListN.{length, take, drop, length-append, length-drop}
use lib.Seq.{drop-drop, take-append_seam, drop-append_seam}
use denote.Ref.{Bor}
use Rattle.std.specs.Prelude.{Option, Some, None}
use Rattle.std.specs.Slice.Iter.{chunks_exact_rest, chunks_exact_size, chunks_exact_steps}
use Rattle.std.specs.declared.slice.ChunksExact.{ChunksExact}
use Rattle.salvaging.specs.Going.{InList}
use Rattle.salvaging.proofs.Going.{block_from}

-- where its next block begins
abbrev pub at_of : List ℕ → ChunksExact ℕ → ℕ
at_of list s = length list - length (chunks_exact_rest s)

pub record BlocksLeft (list : List ℕ) (s : ChunksExact ℕ) : Type 0 where
  pub size : chunks_exact_size s ≡ 512
  pub rest : chunks_exact_rest s ≡ drop (at_of list s) list

-- a block comes off the front
pub record Cut (s t : ChunksExact ℕ) (block : List ℕ) : Type 0 where
  pub parts : chunks_exact_rest s ≡ block ++ chunks_exact_rest t
  pub long : length block ≡ chunks_exact_size s
  pub same : chunks_exact_size t ≡ chunks_exact_size s

pub cut_of : (s t : ChunksExact ℕ) (r : Option (Bor (List ℕ))) (x : Bor (List ℕ)) → chunks_exact_steps s r t → r ≡ Some x → Cut s t x.now
cut_of s t r x h e =
    let k = subst (λ (r : Option (Bor (List ℕ))). chunks_exact_steps s r t) e h in
    record { parts = k.1.0; long = k.1.1; same = k.0 }

-- none is left whole
pub short_of : (s t : ChunksExact ℕ) (r : Option (Bor (List ℕ))) → chunks_exact_steps s r t → r ≡ None → length (chunks_exact_rest s) < chunks_exact_size s
short_of s t r h e = (subst (λ (r : Option (Bor (List ℕ))). chunks_exact_steps s r t) e h).1.0

pub place_of : (list : List ℕ) (s : ChunksExact ℕ) (from : ℕ) → chunks_exact_rest s ≡ drop from list → from ≤ length list → from ≡ at_of list s
place_of list s from e l = omega (arith, ap length e, length-drop from list)

pub left_first : {list : List ℕ} (s : ChunksExact ℕ) (from : ℕ) → chunks_exact_size s ≡ 512 → chunks_exact_rest s ≡ drop from list → from ≤ length list → BlocksLeft list s
left_first {list} s from size e l = record { size = size; rest = e ∙ ap (λ (n : ℕ). drop n list) (place_of list s from e l) }

module _ {list : List ℕ} {s t : ChunksExact ℕ} {block : List ℕ} (l : BlocksLeft list s) (cut : Cut s t block) where
  parted : length (chunks_exact_rest s) ≡ 512 + length (chunks_exact_rest t)
  parted = omega (arith, ap length cut.parts, length-append block (chunks_exact_rest t), cut.long, l.size)

  within : length (chunks_exact_rest s) ≤ length list
  within = omega (arith, ap length l.rest, length-drop (at_of list s) list)

  pub rest_less : length (chunks_exact_rest t) < length (chunks_exact_rest s)
  rest_less = omega (arith, parted)

  pub block_more : at_of list s < length list
  block_more = omega (arith, parted, within)

  pub at_next : at_of list s + 512 ≡ at_of list t
  at_next = omega (arith, parted, within)

  cut_block : (n : ℕ) → n ≡ length block → take n (drop (at_of list s) list) ≡ block
  cut_block n e = ap (λ (n : ℕ). take n (drop (at_of list s) list)) e ∙ ap (take (length block)) (sym l.rest ∙ cut.parts) ∙ take-append_seam block (chunks_exact_rest t)

  pub block_is : block ≡ block_from list (at_of list s)
  block_is = let e : at_of list s + 512 - at_of list s ≡ length block = omega (arith, cut.long, l.size) in sym (cut_block _ e)

  pub left_next : BlocksLeft list t
  left_next =
      let e : length block ≡ 512 = omega (arith, cut.long, l.size) in
      record {
        size = cut.same ∙ l.size;
        rest =
            sym (drop-append_seam block (chunks_exact_rest t)) ∙ (λ i. drop (e i) ((sym cut.parts ∙ l.rest) i)) ∙ drop-drop 512 (at_of list s) list ∙ ap (λ (n : ℕ). drop n list) at_next;
      }

pub left_none : {list : List ℕ} {s : ChunksExact ℕ} → BlocksLeft list s → InList list (at_of list s) → length (chunks_exact_rest s) < chunks_exact_size s → length list ≤ at_of list s
left_none {list} {s} l p short = omega (arith, l.size, short, p.whole, p.begins, ap length l.rest, length-drop (at_of list s) list)
