-- What a rendered store owes to the reference: nothing where no content does, everything where no macroblock is sent. Assumes nothing.
use mathlib.Core.Path.{◌≡◌, sym, ◌∙◌}
use mathlib.Core.Bool.{false}
use mathlib.Core.List.{List}
use Prim.Native.Nat.{ℕ, ◌/◌, ◌%◌}
use Rattle.laws.specs.Choice.{pick}
use Rattle.size.specs.declared.Size.{Size}
use Rattle.size.specs.Place.{own, On, block_of}
use Rattle.size.proofs.Blocks.{on_at, own_across, own_down}
use Rattle.quantiser.specs.Sample.{sample_of}
use Rattle.samples.specs.Content.{Content, sent_values, kept_values, content_values, picture_values, rendered_store}
use Rattle.samples.specs.Reference.{Alike, ContentsSame, UnsentSame}
use Rattle.samples.proofs.Rendered.{rendered-length, rendered_at, is_rendered, is_drawn}

-- the values of two contents that are alike
alike_values : (f : Size) (s t : List ℕ) (m k : Content) → Alike m k → (p y x i j : ℕ) → content_values f s m p y x i j ≡ content_values f t k p y x i j
unfolding content_values sent_values
alike_values f s t m k a p y x i j =
    (λ z. pick (a.one z) (sample_of (a.prediction p y x i j z) (a.difference (block_of p y x) i j z)) (kept_values f s p y x i j))
    ∙ (λ z. pick (sym a.other z) (sample_of (k.prediction p y x i j) (k.difference (block_of p y x) i j)) (kept_values f t p y x i j))

pub contents_same : ContentsSame
unfolding picture_values
contents_same f m k s t h =
    is_rendered f k t (rendered_store f m s) (rendered-length f m s)
    (λ p y x hp hy hx.
    let o : On f p (y / 8) (x / 8) = on_at f p y x hp hy hx in
    rendered_at f m s p y x hp hy hx
    ∙ alike_values f s t (m (own p (y / 8)) (own p (x / 8))) (k (own p (y / 8)) (own p (x / 8)))
    (h (own p (y / 8)) (own p (x / 8)) (own_down f p (y / 8) o.row) (own_across f p (x / 8) o.column)) p (y / 8) (x / 8) (y % 8) (x % 8))

-- the values of a content that isn't sent
unsent_values : (f : Size) (s : List ℕ) (m : Content) → m.sent ≡ false → (p y x i j : ℕ) → kept_values f s p y x i j ≡ content_values f s m p y x i j
unfolding content_values
unsent_values f s m e p y x i j = simp e

pub unsent_same : UnsentSame
unfolding picture_values
unsent_same f m s h e =
    sym (is_drawn f m s s e
    (λ p y x o i j l k. unsent_values f s (m (own p y) (own p x)) (h (own p y) (own p x) (own_down f p y o.row) (own_across f p x o.column)) p y x i j))
