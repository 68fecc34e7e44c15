-- What a function of one standard asks and says is what the kind's coding asks and says. Assumes nothing.
use mathlib.Core.Path.{◌≡◌, sym, ap, subst, ◌∙◌}
use mathlib.Core.Bool.{true}
use mathlib.Core.List.{List}
use Prim.Native.Nat.{ℕ}
use lib.Dec.{T}
use lib.ListN.{length}
use Rattle.laws.proofs.Choice.{true-T}
use Rattle.bits.specs.Appended.{WroteBits}
use Rattle.refusals.specs.Told.{Told, verdict_on, found_or}
use Rattle.size.specs.declared.Size.{Size}
use Rattle.size.specs.Size.{store_length}
use Rattle.h261_groups.specs.declared.Format.{Format}
use Rattle.h261_groups.specs.Format.{size_of}
use Rattle.layout.specs.Flat.{Flat, zeros}
use Rattle.coding.specs.declared.Kind.{Kind}
use Rattle.coding.specs.declared.Kind.TheVariants.{H261, H263}
use Rattle.coding.specs.Coding.{Coding}
use Rattle.coding.specs.H261.{h261}
use Rattle.coding.specs.H263.{h263}
use Rattle.coding.specs.Kind.{kind_size, shape_of, coding_of, reads_of}
use Rattle.coding.specs.Described.{Drawable}
use Rattle.h261_layers.specs.Grammar as G261
use Rattle.h261_render.specs.Turn as T261
use Rattle.h263_layers.specs.Grammar as G263
use Rattle.h263_render.specs.Turn as T263

-- ---- what a coding says, another says that it equals
module _ {c e : Coding Flat} (is : c ≡ e) where
  pub says_verdict : {v : Told (Unit {0})} (bytes : List ℕ) (n : ℕ) → v ≡ verdict_on (c.read bytes n) → v ≡ verdict_on (e.read bytes n)
  says_verdict bytes n h = h ∙ ap (λ (x : Coding Flat). verdict_on (x.read bytes n)) is

  pub says_buffers : {d before zeros : Flat} (bytes : List ℕ) (n : ℕ) → zeros ≡ before → d ≡ found_or zeros (c.read bytes n) → d ≡ found_or before (e.read bytes n)
  says_buffers bytes n b h = h ∙ (λ i. found_or (b i) ((is i).read bytes n))

  pub says_wrote : {s t : List ℕ} {r : ℕ} (d : Flat) → WroteBits (c.written d) s 0 t r → WroteBits (e.written d) s 0 t r
  says_wrote {s} {t} {r} d w = subst (λ (x : Coding Flat). WroteBits (x.written d) s 0 t r) is w

  pub is_valid : (d : Flat) → e.valid d ≡ true → T (c.valid d)
  is_valid d v = true-T (c.valid d) (ap (λ (x : Coding Flat). x.valid d) is ∙ v)

-- ---- zeros in a kind's lengths
pub zeros_as : {k kind : Kind} {d : Flat} → k ≡ kind → d ≡ zeros (shape_of k) → d ≡ zeros (shape_of kind)
zeros_as is e = e ∙ ap (λ (x : Kind). zeros (shape_of x)) is

-- ---- H.261
module _ {k : Kind} {f : Format} (is : k ≡ H261 f) where
  pub coded_h261 : h261 f ≡ coding_of k
  unfolding coding_of
  coded_h261 = sym (ap coding_of is)

  pub size_h261 : size_of f ≡ kind_size k
  size_h261 = sym (ap kind_size is)

  pub reads_h261 : {reads : ℕ} (bytes : List ℕ) (n : ℕ) → reads ≡ length (G261.read_widths f bytes n) → reads ≡ reads_of k bytes n
  unfolding reads_of
  reads_h261 bytes n e = e ∙ sym (ap (λ (x : Kind). reads_of x bytes n) is)

  pub drawable_h261 : (d : Flat) (reference store : List ℕ) → Drawable k d reference store → T261.PictureOf f d (length reference) (length store)
  drawable_h261 d reference store r =
      let size = sym (ap store_length size_h261) in
      record { fine = is_valid coded_h261 d r.valid_is; reference = r.reference_long ∙ size; store = r.store_long ∙ size }

-- ---- H.263
module _ {k : Kind} {size : Size} (is : k ≡ H263 size) where
  pub coded_h263 : h263 size ≡ coding_of k
  unfolding coding_of
  coded_h263 = sym (ap coding_of is)

  pub size_h263 : size ≡ kind_size k
  size_h263 = sym (ap kind_size is)

  pub reads_h263 : {reads : ℕ} (bytes : List ℕ) (n : ℕ) → reads ≡ length (G263.read_widths size bytes n) → reads ≡ reads_of k bytes n
  unfolding reads_of
  reads_h263 bytes n e = e ∙ sym (ap (λ (x : Kind). reads_of x bytes n) is)

  pub drawable_h263 : (d : Flat) (reference store : List ℕ) → Drawable k d reference store → T263.PictureOf size d (length reference) (length store)
  drawable_h263 d reference store r =
      let long = sym (ap store_length size_h263) in
      record { fine = is_valid coded_h263 d r.valid_is; reference = r.reference_long ∙ long; store = r.store_long ∙ long }
