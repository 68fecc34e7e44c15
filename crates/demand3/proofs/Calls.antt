-- A run of calls of any receiver. Assumes nothing.
use mathlib.Core.Path.{◌≡◌, refl, ap, ◌∙◌}
use mathlib.Core.List.{List, [], ◌∷◌, ◌++◌, Memᴰ}
use Prim.Native.Nat.{ℕ}
use Rattle.standing.specs.Receive.{Outcome}
use Rattle.standing.specs.Run.{World}
use Rattle.demand3.specs.Clip.{Picture, Each, Receive, Show, after_block, world_given, upon, Right}
use Rattle.demand3.specs.Arrives.{InStepAt}
use Rattle.standing.specs.declared.Standing.TheVariants as T

pub each_of : (clip blocks : List (List ℕ)) → ((block : List ℕ) → Memᴰ block blocks → Memᴰ block clip) → Each clip blocks
each_of clip [] h = tt
each_of clip (block ∷ blocks) h = (h block (Memᴰ.head refl), each_of clip blocks (λ a m. h a (Memᴰ.tail m)))

module _ (receive : Receive) where
  pub given_append : (w : World) (before after : List (List ℕ)) → world_given receive w (before ++ after) ≡ world_given receive (world_given receive w before) after
  unfolding world_given
  given_append w [] after = refl
  given_append w (block ∷ before) after = given_append (after_block receive w block) before after

  -- what each call keeps, the run keeps
  pub always : (P : World → Type 0) → ((w : World) (block : List ℕ) → P w → P (after_block receive w block)) → (w : World) → P w → (blocks : List (List ℕ)) → P (world_given receive w blocks)
  unfolding world_given
  always P h w p [] = p
  always P h w p (block ∷ blocks) = always P h (after_block receive w block) (h w block p) blocks

  -- the last call of a run, which ends in step
  pub record Ends {D : Type 0} (show : Show) (sent : List (Picture D)) (k : ℕ) (w : World) (blocks : List (List ℕ)) : Type 0 where
    pub last : Outcome
    pub is : world_given receive w blocks ≡ record { receiver = last.gave.next; lent = last.left }
    pub stands : last.gave.next.progress.standing ≡ T.InStep k
    pub right : Right show sent last

  pub ends : {D : Type 0} {show : Show} {sent : List (Picture D)} {k : ℕ} {w : World} {blocks : List (List ℕ)} → InStepAt receive show sent k w blocks → Ends show sent k w blocks
  unfolding world_given
  ends {D} {show} {sent} {k} {w} {blocks} h = record {
    last = upon receive w h.before h.block;
    is = ap (world_given receive w) h.is ∙ given_append w h.before (h.block ∷ []);
    stands = h.stands;
    right = h.right;
  }
