-- A clip in which a call is refused and a refresh comes after picture 0; and a fresh receiver for it. Assumes nothing.
use Rattle.std.specs.Prelude.{ℕ, refl, List, [], ◌∷◌}
use Rattle.size.specs.declared.Size.{Size}
use Rattle.size.specs.Size.{store_length, collection_length, blocks_length}
use Rattle.coding.specs.declared.Kind.{Kind}
use Rattle.coding.specs.Kind.{kind_size}
use Rattle.layout.specs.Flat.{Flat}
use Rattle.standing.specs.Stores.{Stores, stores}
use Rattle.sender.specs.Send.{fresh_sender}
use Rattle.sender.specs.Run.{Call}
use Rattle.demand3.specs.Clip.{Clip, Fresh}
use Rattle.instances.specs.Uniform.{repeated, still, grey, heavy}
use Rattle.standing.specs.Receive as R

-- ---- buffers of their named lengths that are all 0
abbrev pub blank : ℕ → List ℕ
blank n = repeated n (0 ∷ [])

abbrev pub blank_stores : Size → Stores
blank_stores size = stores (blank (store_length size)) (blank (store_length size))

-- ---- a fresh receiver of clip 1
abbrev pub newcomer : (kind : Kind) → Fresh 1 kind
newcomer kind = record { receiver = R.fresh_receiver 1 kind; is_open = refl; lent = record { collection = blank (collection_length (kind_size kind)); both = blank_stores (kind_size kind) } }

-- ---- clip 1 of these descriptions
module _ {D : Type 0} where
  abbrev pub call : Kind → D → Call D
  call kind d = record { description = d; out = blank (blocks_length (kind_size kind)) }

  abbrev pub calls : Kind → List D → List (Call D)
  calls kind [] = []
  calls kind (d ∷ ds) = call kind d ∷ calls kind ds

  abbrev pub clip : Kind → List D → Clip D
  clip kind ds = record { number = 1; kind = kind; sender = fresh_sender 1 kind; is_open = refl; stores = blank_stores (kind_size kind); calls = calls kind ds }

-- a refresh; one above the limit; two pictures in which nothing is sent; another refresh; and nothing sent again
abbrev pub example : Kind → Clip Flat
example kind = clip kind (grey kind 1 ∷ heavy kind ∷ still kind ∷ still kind ∷ grey kind 2 ∷ still kind ∷ [])
