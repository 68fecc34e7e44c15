-- What was sent: each picture is one that the sender took, cut into its blocks; its store is drawn over the one before; and each block of the clip is a part of one.
-- Assumes nothing.
use mathlib.Core.Path.{◌≡◌, refl, sym, ap, subst, ◌∙◌}
use mathlib.Core.Bool.{Bool, true, false}
use mathlib.Core.Logic.{◌⊎◌, inl, inr}
use mathlib.Core.List.Memᴰ
use mathlib.Core.List.{List, [], ◌∷◌, ◌++◌, Memᴰ}
use mathlib.Core.Option.{none, some, some-injective}
use Prim.Native.Nat.{ℕ, zero, suc, ◌+◌, ◌*◌, ◌≤◌, ◌<◌}
use native.Mathlib.Omega.{arith}
use borrow.Author.Tests.{ltb-true, leb-true, eq-eqb}
use lib.Dec.{eqb, leb, ltb}
use lib.ListN.{length, get_elem?, take, drop}
use lib.Seq.{drop-drop}
use Rattle.laws.specs.Choice.{pick, both, either, opposite}
use Rattle.laws.proofs.Choice.{two_of, if_so}
use Rattle.refusals.specs.Told.{Told, accepted, refused_by}
use Rattle.coding.specs.declared.Kind.{Kind}
use Rattle.size.specs.Size.{limit, store_length}
use Rattle.vault.specs.Block.{pictures as most_pictures}
use Rattle.vault.specs.Parts.{part_count, block_at}
use Rattle.vault.proofs.Collected.{nth}
use Rattle.standing.specs.Stores.{goes_into, reference, stores_with, shown_store}
use Rattle.sender.specs.declared.Sender.{Sender}
use Rattle.coding.specs.Coding.{Coding}
use Rattle.coding.specs.Kind.{kind_size, kind_standard}
use Rattle.coding.specs.Described.{bytes_in}
use Rattle.sender.specs.Send.{Buffers, Judgement, sends, refuses, Outcome, lent_lengths, judge, blocks_sent, came_to, step}
use Rattle.sender.specs.Run.{Call, World, cut, blocks_added, call_outcome, world_after, clip_of}
use Rattle.demand3.specs.Clip.{Picture, sent_as, pictures, PartOf}
use Rattle.demand3.proofs.Finished.{kept_reference, kept_shown}

-- ---- of lists
pub member_at : {A : Type 0} {a : A} {l : List A} → Memᴰ a l → (i : ℕ) × (get_elem? l i ≡ some a)
member_at (Memᴰ.head e) = (0, ap some (sym e))
member_at (Memᴰ.tail m) = let found = member_at m in (suc found.0, found.1)

pub none-some : {A : Type 0} (a : A) → none ≡ some a → ⊥
none-some a e = let z : ◌≡◌ {A = ℕ} 0 1 = cc in omega arith

cut-length : (n : ℕ) (out : List ℕ) → length (cut n out) ≡ n
unfolding cut
cut-length zero out = refl
cut-length (suc n) out = ap suc (cut-length n (drop 512 out))

-- block i of a buffer
cut_at : (n : ℕ) (out : List ℕ) (i : ℕ) (block : List ℕ) → get_elem? (cut n out) i ≡ some block → (i < n) × (take 512 (drop (512 * i) out) ≡ block)
unfolding cut
cut_at zero out i block e = absurd (none-some block e)
cut_at (suc n) out zero block e = (omega arith, some-injective (take 512 out) block e)
cut_at (suc n) out (suc i) block e =
    let rest = cut_at n (drop 512 out) i block e in
    let next : 512 + 512 * i ≡ 512 * suc i = omega arith in
    let less : i < n = rest.0 in
    (omega arith, ap (take 512) (sym (drop-drop (512 * i) 512 out ∙ ap (λ (k : ℕ). drop k out) next)) ∙ rest.1)

-- ---- one call
never : (n : ℕ) → refuses n ≡ sends → ⊥
never n e = let z : ◌≡◌ {A = ℕ} 0 1 = cc in omega arith

-- a test whose failure refuses
passed : (t : Bool) (x : Judgement) (n : ℕ) → pick t x (refuses n) ≡ sends → (t ≡ true) × (x ≡ sends)
passed true x n e = (refl, e)
passed false x n e = absurd (never n e)

module _ {D : Type 0} (coding : Kind → Coding D) where
  -- what is known of a picture that was sent
  pub record Whole (clip : ℕ) (kind : Kind) (p : ℕ) (x : Picture D) : Type 0 where
    pub valid : (coding kind).valid x.description ≡ true
    pub within : length ((coding kind).written x.description) ≤ limit (kind_size kind)
    pub number : p < most_pictures
    pub first : p ≡ 0 → (coding kind).refresh x.description ≡ true
    pub count : length x.blocks ≡ part_count (length ((coding kind).written x.description))
    pub parts : (part : ℕ) (block : List ℕ) → get_elem? x.blocks part ≡ some block
        → (part < part_count (length ((coding kind).written x.description)))
        × (block_at (kind_standard kind) clip p ((coding kind).refresh x.description) (bytes_in ((coding kind).written x.description)) (length ((coding kind).written x.description)) part ≡ block)

  -- pictures in a row, from number n on, over this reference
  abbrev pub Row : ℕ → Kind → ℕ → List ℕ → List (Picture D) → Type 0
  Row clip kind n before [] = Unit {0}
  Row clip kind n before (x ∷ xs) = Whole clip kind n x × (x.store ≡ (coding kind).render x.description before) × Row clip kind (n + 1) x.store xs

  record Passed (s : Sender) (d : D) (b : Buffers) : Type 0 where
    named : lent_lengths (kind_size s.kind) b ≡ true
    few : s.picture < most_pictures
    first : s.picture ≡ 0 → (coding s.kind).refresh d ≡ true
    valid : (coding s.kind).valid d ≡ true
    within : length ((coding s.kind).written d) ≤ limit (kind_size s.kind)

  passed_all : (s : Sender) (d : D) (b : Buffers) → judge coding s d b ≡ sends → Passed s d b
  unfolding judge
  passed_all s d b e =
      let one = passed (both ((coding s.kind).named d) (lent_lengths (kind_size s.kind) b)) _ _ e in
      let few = passed (ltb s.picture most_pictures) _ _ one.1 in
      let valid = passed ((coding s.kind).valid d) _ _ few.1 in
      let first = passed (either (opposite (eqb s.picture 0)) ((coding s.kind).refresh d)) _ _ valid.1 in
      let within = passed (leb (length ((coding s.kind).written d)) (limit (kind_size s.kind))) _ _ first.1 in
      record {
        named = (two_of ((coding s.kind).named d) _ one.0).1;
        few = ltb-true s.picture most_pictures few.0;
        first = λ z. if_so (eqb s.picture 0) ((coding s.kind).refresh d) first.0 (eq-eqb s.picture 0 z);
        valid = valid.0;
        within = leb-true (length ((coding s.kind).written d)) (limit (kind_size s.kind)) within.0;
      }

  -- ---- all calls
  module _ (long : (kind : Kind) (d : D) (before : List ℕ) → length ((coding kind).render d before) ≡ store_length (kind_size kind)) where
    sent_row : (w : World) (call : Call D) (j : Judgement) (rest : List (Picture D))
        → (let b : Buffers = record { out = call.out; both = w.both } in judge coding w.sender call.description b ≡ j)
        → (let x : Outcome = came_to coding w.sender call.description (record { out = call.out; both = w.both }) j in
        Row x.gave.next.clip x.gave.next.kind x.gave.next.picture (reference x.gave.next.holder x.left.both) rest
        → Row w.sender.clip w.sender.kind w.sender.picture (reference w.sender.holder w.both) (sent_as x.gave.answer call x ++ rest))
    unfolding came_to blocks_sent
    sent_row w call (refuses n) rest e h = h
    sent_row w call sends rest e h =
        let s : Sender = w.sender in
        let b : Buffers = record { out = call.out; both = w.both } in
        let p : Passed s call.description b = passed_all s call.description b e in
        let fits = (two_of (eqb (length call.out) _) _ p.named).1 in
        let drawn : List ℕ = (coding s.kind).render call.description (reference s.holder w.both) in
        let is : shown_store (kind_size s.kind) (goes_into s.holder) (stores_with s.holder drawn w.both) ≡ drawn = kept_shown (kind_size s.kind) s.holder drawn w.both (long s.kind call.description _) fits in
        let bits = (coding s.kind).written call.description in (
          record {
            valid = p.valid;
            within = p.within;
            number = p.few;
            first = p.first;
            count = cut-length (part_count (length bits)) _;
            parts = λ part block g.
                let c = cut_at (part_count (length bits)) _ part block g in
                (c.0, sym (nth (kind_standard s.kind) s.clip s.picture ((coding s.kind).refresh call.description) (bytes_in bits) (length bits) (part_count (length bits)) part _ c.0) ∙ c.1);
          },
          is,
          subst (λ (l : List ℕ). Row s.clip s.kind (s.picture + 1) l rest) (kept_reference s.holder drawn w.both ∙ sym is) h,
        )

    pub row : (w : World) (calls : List (Call D)) → Row w.sender.clip w.sender.kind w.sender.picture (reference w.sender.holder w.both) (pictures coding w calls)
    unfolding pictures call_outcome world_after step
    row w [] = tt
    row w (call ∷ calls) =
        sent_row w call (judge coding w.sender call.description (record { out = call.out; both = w.both })) (pictures coding (world_after coding w call) calls) refl
        (row (world_after coding w call) calls)

  -- ---- a picture of a row
  pub row_whole : (clip : ℕ) (kind : Kind) (n : ℕ) (before : List ℕ) (xs : List (Picture D)) → Row clip kind n before xs → (i : ℕ) (x : Picture D) → get_elem? xs i ≡ some x → (p : ℕ) → p ≡ n + i → Whole clip kind p x
  row_whole clip kind n before [] h i x e p q = absurd (none-some x e)
  row_whole clip kind n before (y ∷ ys) h zero x e p q =
      let there : n ≡ p = omega arith in
      let same : y ≡ x = some-injective y x e in
      subst (λ (k : ℕ). Whole clip kind k x) there (subst (λ (z : Picture D). Whole clip kind n z) same h.0)
  row_whole clip kind n before (y ∷ ys) h (suc i) x e p q = row_whole clip kind (n + 1) y.store ys h.2 i x e p (omega arith)

  pub row_drawn : (clip : ℕ) (kind : Kind) (n : ℕ) (before : List ℕ) (xs : List (Picture D)) → Row clip kind n before xs → (i : ℕ) (x : Picture D) → get_elem? xs i ≡ some x
      → (under : List ℕ) × (x.store ≡ (coding kind).render x.description under)
  row_drawn clip kind n before [] h i x e = absurd (none-some x e)
  row_drawn clip kind n before (y ∷ ys) h zero x e =
      (before, subst (λ (z : Picture D). z.store ≡ (coding kind).render z.description before) (some-injective y x e) h.1)
  row_drawn clip kind n before (y ∷ ys) h (suc i) x e = row_drawn clip kind (n + 1) y.store ys h.2 i x e

  first_drawn : (clip : ℕ) (kind : Kind) (n : ℕ) (before : List ℕ) (xs : List (Picture D)) → Row clip kind n before xs → (x : Picture D) → get_elem? xs 0 ≡ some x
      → x.store ≡ (coding kind).render x.description before
  first_drawn clip kind n before [] h x e = absurd (none-some x e)
  first_drawn clip kind n before (y ∷ ys) h x e = subst (λ (z : Picture D). z.store ≡ (coding kind).render z.description before) (some-injective y x e) h.1

  pub row_onward : (clip : ℕ) (kind : Kind) (n : ℕ) (before : List ℕ) (xs : List (Picture D)) → Row clip kind n before xs → (i : ℕ) (x y : Picture D)
      → get_elem? xs i ≡ some x → get_elem? xs (suc i) ≡ some y → y.store ≡ (coding kind).render y.description x.store
  row_onward clip kind n before [] h i x y e g = absurd (none-some x e)
  row_onward clip kind n before (z ∷ zs) h zero x y e g =
      first_drawn clip kind (n + 1) z.store zs h.2 y g ∙ ap (λ (u : Picture D). (coding kind).render y.description u.store) (some-injective z x e)
  row_onward clip kind n before (z ∷ zs) h (suc i) x y e g = row_onward clip kind (n + 1) z.store zs h.2 i x y e g

  -- ---- a block of the clip
  pub record Part (sent : List (Picture D)) (block : List ℕ) : Type 0 where
    pub p : ℕ
    pub part : ℕ
    pub is : PartOf sent p part block

  added_part : (a : Told ℕ) (call : Call D) (x : Outcome) (rest : List (Picture D)) (block : List ℕ) → Memᴰ block (blocks_added a x.left.out) → Part (sent_as a call x ++ rest) block
  added_part (refused_by numbers) call x rest block m = absurd (Memᴰ.not-nil m)
  added_part (accepted n) call x rest block m =
      let found = member_at m in
      record { p = 0; part = found.0; is = record { picture = _; at = refl; has = found.1 } }

  later_part : (a : Told ℕ) (call : Call D) (x : Outcome) (rest : List (Picture D)) (block : List ℕ) → Part rest block → Part (sent_as a call x ++ rest) block
  later_part (refused_by numbers) call x rest block h = h
  later_part (accepted n) call x rest block h = record { p = suc h.p; part = h.part; is = record { picture = h.is.picture; at = h.is.at; has = h.is.has } }

  -- each block of the clip is a part of a picture that was sent
  pub clip_part : (w : World) (calls : List (Call D)) (block : List ℕ) → Memᴰ block (clip_of coding w calls) → Part (pictures coding w calls) block
  unfolding clip_of pictures
  clip_part w [] block m = absurd (Memᴰ.not-nil m)
  clip_part w (call ∷ calls) block m =
      let x = call_outcome coding w call in
      go (λ k. clip_part (world_after coding w call) calls block k) (Memᴰ.append_cases (blocks_added x.gave.answer x.left.out) m)
    where
      go : (Memᴰ block (clip_of coding (world_after coding w call) calls) → Part (pictures coding (world_after coding w call) calls) block)
          → Memᴰ block (blocks_added (call_outcome coding w call).gave.answer (call_outcome coding w call).left.out) ⊎ Memᴰ block (clip_of coding (world_after coding w call) calls)
          → Part (sent_as (call_outcome coding w call).gave.answer call (call_outcome coding w call) ++ pictures coding (world_after coding w call) calls) block
      go below (inl k) = added_part (call_outcome coding w call).gave.answer call (call_outcome coding w call) (pictures coding (world_after coding w call) calls) block k
      go below (inr k) = later_part (call_outcome coding w call).gave.answer call (call_outcome coding w call) (pictures coding (world_after coding w call) calls) block (below k)
