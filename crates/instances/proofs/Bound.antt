-- The bound is reached: from part 1 of picture 12 on the next refresh is picture 24, before which a fresh receiver is lost, and before whose last part it is catching. Assumes nothing.
use mathlib.Core.Path.{◌≡◌, refl, sym, ap, subst, ◌∙◌}
use mathlib.Core.Bool.{Bool, true, false}
use mathlib.Core.List.{List, [], ◌∷◌, ◌++◌, map, map-map}
use mathlib.Core.Option.{some, some-injective}
use Prim.Native.Nat.{ℕ, zero, suc, ◌+◌, ◌-◌, ◌≤◌, ◌<◌}
use native.Mathlib.Nat.{add-zero, zero-add, suc-add, le_refl}
use native.Mathlib.Omega.{arith}
use borrow.Author.Tests.{eqb-true, eqb-false, ltb-true, ltb-false}
use lib.Dec.{eqb, ltb, lit<, lit≤}
use lib.ListN.{length, length-map, get_elem?, replicate}
use Rattle.layout.specs.Flat.{Flat}
use Rattle.coding.specs.declared.Kind.{Kind}
use Rattle.coding.specs.Kind.{kind_size, coding_of}
use Rattle.coding.proofs.AllLawful.{coding_lawful}
use Rattle.vault.specs.Parts.{part_count}
use Rattle.demand3.specs.Clip.{Picture, PartOf, opening, pictures_in, world_given}
use Rattle.demand3.specs.Soon.{InOrder, here, next, onward, RefreshEvery}
use Rattle.demand3.proofs.Sent.{none-some}
use Rattle.demand3.proofs.Held.{lost_in_step, Sound}
use Rattle.demand3.proofs.InStep.{start, start_held, sound_clip}
use Rattle.demand3.proofs.Soon.{some_inside, back_in_step_by_12}
use Rattle.instances.specs.Uniform.{still, grey}
use Rattle.instances.specs.Example.{newcomer}
use Rattle.instances.specs.Instances.{before_last}
use Rattle.instances.specs.Bound.{next_refresh, refresh_marks, marked_picture, sparse_clip, Bound, BoundReached}
use Rattle.instances.proofs.Codes.{one}
use Rattle.instances.proofs.Uniform.{still-valid, still_plain, still_fits, grey-valid, grey_refresh, grey_fits, grey_parts}
use Rattle.instances.proofs.Sending.{blank_sized, newcomer_named, described, Sendable, all_sent}
use Rattle.instances.proofs.Arriving.{not_yet}

-- ---- of lists
there : {A : Type 0} (l : List A) (i : ℕ) → i < length l → (a : A) × (get_elem? l i ≡ some a)
there [] i h = absurd (omega (arith, h))
there (a ∷ l) zero h = (a, refl)
there (a ∷ l) (suc i) h = there l i (omega (arith, h))

map_from : {A B : Type 0} (g : A → B) (l : List A) (i : ℕ) (b : B) → get_elem? (map g l) i ≡ some b → (a : A) × (get_elem? l i ≡ some a) × (g a ≡ b)
map_from g [] i b e = absurd (none-some b e)
map_from g (a ∷ l) zero b e = (a, refl, some-injective (g a) b e)
map_from g (a ∷ l) (suc i) b e = map_from g l i b e

map_at : {A B : Type 0} (g : A → B) (l : List A) (i : ℕ) (a : A) → get_elem? l i ≡ some a → get_elem? (map g l) i ≡ some (g a)
map_at g [] i a e = absurd (none-some a e)
map_at g (b ∷ l) zero a e = ap (λ (c : _). some (g c)) (some-injective b a e)
map_at g (b ∷ l) (suc i) a e = map_at g l i a e

plain_run : (n i : ℕ) (l : List Bool) → i < n → get_elem? (replicate n false ++ l) i ≡ some false
plain_run zero i l h = absurd (omega (arith, h))
plain_run (suc n) zero l h = refl
plain_run (suc n) (suc i) l h = plain_run n i l (omega (arith, h))

skipped : {A : Type 0} (a b : List A) (i : ℕ) → get_elem? (a ++ b) (length a + i) ≡ get_elem? b i
skipped [] b i = ap (get_elem? b) (zero-add i)
skipped (x ∷ a) b i = ap (get_elem? (x ∷ (a ++ b))) (suc-add (length a) i) ∙ skipped a b i

-- ---- a clip's blocks in order
module _ {D : Type 0} (sent : List (Picture D)) (q last : ℕ) where
  abbrev From : ℕ → ℕ → Type 0
  From p part = (blocks : List (List ℕ)) × InOrder sent q last p part blocks

  -- so many parts of a picture
  parts_order : (p : ℕ) (x : Picture D) → get_elem? sent p ≡ some x → (left part to : ℕ) → part + left ≡ to → to ≤ length x.blocks → From p to → From p part
  parts_order p x at zero part to e l o = subst (From p) (sym e ∙ add-zero part) o
  parts_order p x at (suc left) part to e l o =
      let b = there x.blocks part (omega (arith, e, l)) in
      let rest : From p (part + 1) = parts_order p x at left (part + 1) to (omega (arith, e)) l o in
      (b.0 ∷ rest.0, next (record { picture = x; at = at; has = b.1 }) rest.1)

  -- so many pictures
  pictures_order : (n p to : ℕ) → p + n ≡ to → to ≤ length sent → From to 0 → From p 0
  pictures_order zero p to e l o = subst (λ (i : ℕ). From i 0) (sym e ∙ add-zero p) o
  pictures_order (suc n) p to e l o =
      let x = there sent p (omega (arith, e, l)) in
      let rest : From (p + 1) 0 = pictures_order n (p + 1) to (omega (arith, e)) l o in
      let count : ℕ = length x.0.blocks in
      parts_order p x.0 x.1 count 0 count (zero-add count) (le_refl count) (rest.0, onward x.0 x.1 refl rest.1)

-- and one more, the last of its picture
one_last : {D : Type 0} {sent : List (Picture D)} {q last p part : ℕ} {blocks : List (List ℕ)} (block : List ℕ) (h : PartOf sent q last block) → last + 1 ≡ length h.picture.blocks
    → InOrder sent q last p part blocks → InOrder sent (q + 1) 0 p part (blocks ++ (block ∷ []))
one_last block h e here = next h (onward h.picture h.at e here)
one_last block h e (next k o) = next k (one_last block h e o)
one_last block h e (onward x at n o) = onward x at n (one_last block h e o)

module _ (kind : Kind) where
  abbrev sent : List (Picture Flat)
  sent = pictures_in coding_of (sparse_clip kind)

  -- ---- what was sent
  sendable : (t : Bool) → Sendable coding_of kind (marked_picture kind t)
  sendable true = record { can = described kind (grey kind 1) (grey-valid one kind); within = grey_fits kind one }
  sendable false = record { can = described kind (still kind) (still-valid kind); within = still_fits kind }

  descriptions : map (λ (x : Picture Flat). x.description) sent ≡ map (marked_picture kind) refresh_marks
  descriptions =
      all_sent coding_of (λ k d under. (coding_lawful.each k).rendered_long d under) (marked_picture kind) (opening coding_of (sparse_clip kind)) (blank_sized (kind_size kind)) sendable true (grey_refresh kind one) (next_refresh (next_refresh []))
      (lit≤ tt)

  abbrev is_refresh : Picture Flat → Bool
  is_refresh x = (coding_of kind).refresh x.description

  mark_of : (t : Bool) → (coding_of kind).refresh (marked_picture kind t) ≡ t
  mark_of true = grey_refresh kind one
  mark_of false = still_plain kind

  marks_of : (l : List Bool) → map (λ (t : Bool). (coding_of kind).refresh (marked_picture kind t)) l ≡ l
  marks_of [] = refl
  marks_of (t ∷ l) = λ i. mark_of t i ∷ marks_of l i

  marks_are : map is_refresh sent ≡ refresh_marks
  marks_are =
      sym (map-map (coding_of kind).refresh (λ (x : Picture Flat). x.description) sent)
      ∙ ap (map (coding_of kind).refresh) descriptions
      ∙ map-map (coding_of kind).refresh (marked_picture kind) refresh_marks
      ∙ marks_of refresh_marks

  pub count_sent : length sent ≡ 25
  count_sent = sym (length-map sent is_refresh) ∙ ap length marks_are

  -- ---- 0, 12 and 24
  refresh_at : (p : ℕ) → get_elem? refresh_marks p ≡ some true → (x : Picture Flat) × (get_elem? sent p ≡ some x) × (x.description ≡ grey kind 1)
  refresh_at p e = map_from (λ (x : Picture Flat). x.description) sent p (grey kind 1) (ap (λ (l : List Flat). get_elem? l p) descriptions ∙ map_at (marked_picture kind) refresh_marks p true e)

  abbrev Found : ℕ → Type 0
  Found i = (p : ℕ) × (i ≤ p) × (p < i + 12) × (x : Picture Flat) × (get_elem? sent p ≡ some x) × (is_refresh x ≡ true)

  every_twelve : RefreshEvery (coding_of kind) 12 sent
  every_twelve i h = go (eqb i 0) refl (ltb 12 i) refl
    where
      most : i + 12 ≤ 25
      most = subst (λ (n : ℕ). i + 12 ≤ n) count_sent h

      found : (p : ℕ) → get_elem? refresh_marks p ≡ some true → i ≤ p → p < i + 12 → Found i
      found p e a b = let r = refresh_at p e in (p, a, b, r.0, r.1, ap (coding_of kind).refresh r.2 ∙ grey_refresh kind one)

      go : (a : Bool) → eqb i 0 ≡ a → (b : Bool) → ltb 12 i ≡ b → Found i
      go true e b g = let z = eqb-true i 0 e in found 0 refl (omega (arith, z)) (omega (arith, z))
      go false e false g = let z = eqb-false i 0 e in let l = ltb-false 12 i g in found 12 refl (omega (arith, l)) (omega (arith, z))
      go false e true g = let l = ltb-true 12 i g in found 24 refl (omega (arith, most)) (omega (arith, l))

  -- ---- and none between
  between : (i : ℕ) → i < 11 → get_elem? refresh_marks (13 + i) ≡ some false
  between i l = skipped (true ∷ next_refresh []) (replicate 11 false ++ (true ∷ [])) i ∙ plain_run 11 i (true ∷ []) l

  pub plain_between : (p : ℕ) (x : Picture Flat) → get_elem? sent p ≡ some x → 12 < p → p < 24 → is_refresh x ≡ false
  plain_between p x at a b =
      let i : ℕ = p - 13 in
      let e : 13 + i ≡ p = omega (arith, a) in
      let l : i < 11 = omega (arith, a, b) in
      some-injective (is_refresh x) false
      (sym (map_at is_refresh sent p x at) ∙ ap (λ (m : List Bool). get_elem? m p) marks_are ∙ ap (get_elem? refresh_marks) (sym e) ∙ between i l)

  pub none_after : (p : ℕ) (x : Picture Flat) → get_elem? sent p ≡ some x → p < 25
  none_after p x at = subst (λ (n : ℕ). p < n) count_sent (some_inside sent p x at)

  -- ---- the blocks
  sound : Sound coding_of 1 kind sent
  sound = sound_clip coding_lawful (sparse_clip kind)

  parts_are : (x : Picture Flat) → x.description ≡ grey kind 1 → part_count (length ((coding_of kind).written x.description)) ≡ suc (before_last kind)
  parts_are x e = ap (λ (d : Flat). part_count (length ((coding_of kind).written d))) e ∙ grey_parts kind one

  module _ (x12 x24 : Picture Flat) (at12 : get_elem? sent 12 ≡ some x12) (at24 : get_elem? sent 24 ≡ some x24) (is12 : x12.description ≡ grey kind 1) (is24 : x24.description ≡ grey kind 1) where
    count12 : length x12.blocks ≡ suc (before_last kind)
    count12 = (sound.whole 12 x12 at12).count ∙ parts_are x12 is12

    count24 : length x24.blocks ≡ suc (before_last kind)
    count24 = (sound.whole 24 x24 at24).count ∙ parts_are x24 is24

    -- all but the last
    until : (blocks : List (List ℕ)) × InOrder sent 24 (before_last kind) 12 1 blocks
    until =
        let first24 : (blocks : List (List ℕ)) × InOrder sent 24 (before_last kind) 24 0 blocks = parts_order sent 24 (before_last kind) 24 x24 at24 (before_last kind) 0 (before_last kind) (zero-add (before_last kind)) (omega (arith, count24)) ([], here) in
        let between : (blocks : List (List ℕ)) × InOrder sent 24 (before_last kind) 13 0 blocks = pictures_order sent 24 (before_last kind) 11 13 24 refl (subst (λ (n : ℕ). 24 ≤ n) (sym count_sent) (lit≤ tt)) first24 in
        parts_order sent 24 (before_last kind) 12 x12 at12 (before_last kind) 1 (length x12.blocks) (omega (arith, count12)) (le_refl (length x12.blocks)) (between.0, onward x12 at12 refl between.1)

    last24 : (block : List ℕ) × (get_elem? x24.blocks (before_last kind) ≡ some block)
    last24 = there x24.blocks (before_last kind) (omega (arith, count24))

    in_order : InOrder sent 25 0 12 1 (until.0 ++ (last24.0 ∷ []))
    in_order = one_last last24.0 (record { picture = x24; at = at24; has = last24.1 }) (omega (arith, count24)) until.1

    -- ---- what comes of them
    bound : Bound kind
    unfolding world_given
    bound = record {
      refreshes = marks_are;
      every = every_twelve;
      before = until.0;
      last = last24.0;
      in_order = in_order;
      soon = back_in_step_by_12 (sparse_clip kind) (newcomer kind) (newcomer_named kind) every_twelve [] tt 12 1 refl 25 0 (until.0 ++ (last24.0 ∷ [])) in_order (lit< tt);
      no_sooner =
          not_yet coding_lawful sound 12 24 (before_last kind) plain_between
          (λ x at. let e : x24 ≡ x = some-injective x24 x (sym at24 ∙ at) in
          let c : part_count (length ((coding_of kind).written x.description)) ≡ suc (before_last kind) = parts_are x (ap (λ (y : Picture Flat). y.description) (sym e) ∙ is24) in
          omega (arith, c))
          until.1 (le_refl 12) (λ e. absurd (omega (arith, e))) (start (newcomer kind).lent) (start_held coding_lawful sound (newcomer kind).lent (newcomer_named kind)) (λ _. refl) (λ k e. lost_in_step k e);
    }

-- THE THEOREM
pub bound_reached : BoundReached
bound_reached kind =
    let a = refresh_at kind 12 refl in
    let b = refresh_at kind 24 refl in
    bound kind a.0 b.0 a.1 b.1 a.2 b.2
