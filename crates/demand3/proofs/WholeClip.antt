-- What demand 3's last sentence comes to where nothing is missing: each picture's own blocks arrive in order, so with all blocks of a clip, as they were written, a receiver is in step at the
-- last picture. Assumes nothing.
use mathlib.Core.Path.{◌≡◌, refl, sym, ap, subst, ◌∙◌}
use mathlib.Core.Bool.{false}
use mathlib.Core.List.{List, [], ◌∷◌, ◌++◌}
use mathlib.Core.Option.{some}
use Prim.Native.Nat.{ℕ, suc, ◌+◌}
use native.Mathlib.Nat.{add-zero, zero-add}
use native.Mathlib.Omega.{arith}
use lib.ListN.{length, get_elem?}
use Rattle.coding.specs.declared.Kind.{Kind}
use Rattle.refusals.specs.Told.{Told, accepted, refused_by}
use Rattle.sender.specs.Send.{Outcome}
use Rattle.sender.specs.Run.{Call, World, blocks_added, call_outcome, world_after, clip_of}
use Rattle.standing.specs.declared.Receiver.{Receiver}
use Rattle.coding.specs.Coding.{Coding}
use Rattle.standing.specs.Receive.{place, earlier_place}
use Rattle.demand3.specs.Clip.{Picture, sent_as, pictures, opening, blocks_in, pictures_in, begin, world_given}
use Rattle.demand3.specs.Arrives.{Arrives, all, next, Follow, in_turn, InStepAt}
use Rattle.demand3.specs.Theorems.{WholeClipInStep}
use Rattle.demand3.proofs.InStep.{receiver_opened, sound_clip}

shift : (p i : ℕ) → p + suc i ≡ p + 1 + i
shift p i = omega arith

module _ {D : Type 0} where
  -- the blocks of each picture
  abbrev pub blocks_each : List (Picture D) → List (List (List ℕ))
  blocks_each [] = []
  blocks_each (x ∷ xs) = x.blocks ∷ blocks_each xs

  each_length : (xs : List (Picture D)) → length (blocks_each xs) ≡ length xs
  each_length [] = refl
  each_length (x ∷ xs) = ap suc (each_length xs)

  -- ---- a picture's own blocks arrive
  own_from : (sent : List (Picture D)) (p : ℕ) (x : Picture D) → get_elem? sent p ≡ some x → (part : ℕ) (rest : List (List ℕ))
      → ((i : ℕ) → get_elem? rest i ≡ get_elem? x.blocks (part + i)) → part + length rest ≡ length x.blocks → Arrives sent p part rest
  own_from sent p x at part [] h l = all x at (sym (add-zero part) ∙ l)
  own_from sent p x at part (block ∷ rest) h l =
      next (record { picture = x; at = at; has = ap (get_elem? x.blocks) (sym (add-zero part)) ∙ sym (h 0) })
      (own_from sent p x at (part + 1) rest (λ i. h (suc i) ∙ ap (get_elem? x.blocks) (shift part i)) (sym (shift part (length rest)) ∙ l))

  pub own_arrive : (sent : List (Picture D)) (p : ℕ) (x : Picture D) → get_elem? sent p ≡ some x → Arrives sent p 0 x.blocks
  own_arrive sent p x at = own_from sent p x at 0 x.blocks (λ i. ap (get_elem? x.blocks) (sym (zero-add i))) (zero-add (length x.blocks))

  own_follow : (sent : List (Picture D)) (p : ℕ) (xs : List (Picture D)) → ((i : ℕ) → get_elem? xs i ≡ get_elem? sent (p + i)) → Follow sent p (blocks_each xs)
  own_follow sent p [] h = tt
  own_follow sent p (x ∷ xs) h =
      (own_arrive sent p x (ap (get_elem? sent) (sym (add-zero p)) ∙ sym (h 0)), own_follow sent (p + 1) xs (λ i. h (suc i) ∙ ap (get_elem? sent) (shift p i)))

  -- ---- the clip is the pictures' blocks in turn
  in_turn_lem : (a : Told ℕ) (call : Call D) (x : Outcome) (rest : List (Picture D)) (blocks : List (List ℕ)) → blocks ≡ in_turn (blocks_each rest)
      → blocks_added a x.left.out ++ blocks ≡ in_turn (blocks_each (sent_as a call x ++ rest))
  in_turn_lem (accepted n) call x rest blocks e = ap (λ (l : List (List ℕ)). blocks_added (accepted n) x.left.out ++ l) e
  in_turn_lem (refused_by numbers) call x rest blocks e = e

  pub clip_in_turn : (coding : Kind → Coding D) (w : World) (calls : List (Call D)) → clip_of coding w calls ≡ in_turn (blocks_each (pictures coding w calls))
  unfolding clip_of pictures
  clip_in_turn coding w [] = refl
  clip_in_turn coding w (call ∷ calls) =
      in_turn_lem (call_outcome coding w call).gave.answer call (call_outcome coding w call) (pictures coding (world_after coding w call) calls) (clip_of coding (world_after coding w call) calls)
      (clip_in_turn coding (world_after coding w call) calls)

-- THE THEOREM
pub whole_clip : WholeClipInStep
unfolding world_given
whole_clip D coding lawful receive show catches c r named x xs e =
    subst (λ (k : ℕ). InStepAt receive show (pictures_in coding c) k (begin r) (blocks_in coding c)) (zero-add (length (blocks_each xs)) ∙ each_length xs)
    (subst (λ (blocks : List (List ℕ)). InStepAt receive show (pictures_in coding c) (0 + length (blocks_each xs)) (begin r) blocks) (sym all_blocks)
    (catches c r named [] tt 0 x at (((sound_clip lawful c).whole 0 x at).first refl) not_past x.blocks (blocks_each xs)
    (own_arrive (pictures_in coding c) 0 x at) (own_follow (pictures_in coding c) (0 + 1) xs later)))
  where
    at : get_elem? (pictures_in coding c) 0 ≡ some x
    at = ap (λ (l : List (Picture D)). get_elem? l 0) e

    later : (i : ℕ) → get_elem? xs i ≡ get_elem? (pictures_in coding c) (0 + 1 + i)
    later i = sym (ap (λ (l : List (Picture D)). get_elem? l (0 + 1 + i)) e ∙ ap (get_elem? (x ∷ xs)) (next_one i))
      where
        next_one : (i : ℕ) → 0 + 1 + i ≡ suc i
        next_one i = omega arith

    all_blocks : blocks_in coding c ≡ x.blocks ++ in_turn (blocks_each xs)
    all_blocks = clip_in_turn coding (opening coding c) c.calls ∙ ap (λ (l : List (Picture D)). in_turn (blocks_each l)) e

    not_past : earlier_place (place 0 0) r.receiver.progress.wanted ≡ false
    not_past = ap (λ (q : Receiver). earlier_place (place 0 0) q.progress.wanted) (sym (receiver_opened c.number c.kind r.receiver r.is_open))
