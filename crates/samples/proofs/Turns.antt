-- One macroblock's turn gives its content's values: what is sent, and what is kept. Assumes nothing.
use mathlib.Core.Path.{◌≡◌, refl, sym, ap, subst}
use mathlib.Core.Bool.{true, false}
use mathlib.Core.List.{List}
use Prim.Native.Nat.{ℕ, zero, suc, ◌+◌, ◌*◌, ◌≤◌, ◌<◌}
use native.Mathlib.Omega.{arith}
use lib.ListN.{get_or}
use Rattle.laws.specs.Rows.{Put}
use Rattle.size.specs.declared.Size.{Size}
use Rattle.size.specs.Place.{macroblocks_across, macroblocks_down}
use Rattle.size.proofs.Blocks.{Placed, placed}
use Rattle.quantiser.specs.Sample.{sample_of}
use Rattle.samples.specs.Content.{Values, Predictions, Differences, Content, Contents, sent_values, kept_values, content_values, picture_values}
use Rattle.samples.specs.Wrote.{Wrote, Part, Macroblock, rows_of}
use Rattle.samples.proofs.Corner.{Corner, corner_half, rows_cell}
use Rattle.samples.proofs.Wrote.{wrote, wrote_as, part_as, part_more, part_four}

-- ---- not sent
kept_four : {f : Size} {r c at w : ℕ} (s : List ℕ) {t u : List ℕ} → Corner f 0 (r * 16) (c * 16) at w → r < macroblocks_down f → c < macroblocks_across f
    → Put 16 16 at w (rows_of s at w) t u → Part f r c 4 (kept_values f s) t u
kept_four s a hr hc h = part_four a hr hc (λ y x i j er ec l m. ap (λ (k : ℕ). get_or s k 0) (corner_half a y x er ec i j)) h

-- where the blocks of CB and CR lie
pub chroma : (f : Size) (p r c : ℕ) → 1 ≤ p → p < 3 → r < macroblocks_down f → c < macroblocks_across f → Placed f r c (p + 3) p r c
chroma f (suc p) r c l m hr hc = placed f r c (suc p + 3) (suc p) r c hr hc (omega arith) (omega arith) refl refl
chroma f zero r c l m hr hc = absurd (omega arith)

kept_more : {f : Size} {r c p at w : ℕ} (s : List ℕ) {t₀ t u : List ℕ} → Corner f p (r * 8) (c * 8) at w → Placed f r c (p + 3) p r c
    → Part f r c (p + 3) (kept_values f s) t₀ t → Put 8 8 at w (rows_of s at w) t u → Part f r c (p + 4) (kept_values f s) t₀ u
kept_more {f} {r} {c} {p} s {t₀} {t} {u} a l q h = go (p + 3) (p + 4) (omega arith) (part_more l q (wrote_as (λ i j m n. rows_cell r c a s i j) (wrote a l.on h)))
  where
    go : (b d : ℕ) → b + 1 ≡ d → Part f r c (b + 1) (kept_values f s) t₀ u → Part f r c d (kept_values f s) t₀ u
    go b d e k = rw e at k

-- all six: luminance, CB, CR
pub kept_six : {f : Size} {r c a₀ a₁ a₂ w h : ℕ} (s : List ℕ) {t₀ t₁ t₂ t₃ : List ℕ} → r < macroblocks_down f → c < macroblocks_across f
    → Corner f 0 (r * 16) (c * 16) a₀ w → Corner f 1 (r * 8) (c * 8) a₁ h → Corner f 2 (r * 8) (c * 8) a₂ h
    → Put 16 16 a₀ w (rows_of s a₀ w) t₀ t₁ → Put 8 8 a₁ h (rows_of s a₁ h) t₁ t₂ → Put 8 8 a₂ h (rows_of s a₂ h) t₂ t₃ → Macroblock f r c (kept_values f s) t₀ t₃
kept_six {f} {r} {c} s hr hc e₀ e₁ e₂ h₀ h₁ h₂ =
    kept_more s e₂ (chroma f 2 r c (omega arith) (omega arith) hr hc)
    (kept_more s e₁ (chroma f 1 r c (omega arith) (omega arith) hr hc) (kept_four s e₀ hr hc h₀) h₁) h₂

-- ---- sent: one block more of the six
pub sent_more : {f : Size} {r c b p y x : ℕ} (g : Predictions) (a : Differences) {t₀ t u : List ℕ} → Placed f r c b p y x
    → Part f r c b (sent_values g a) t₀ t → Wrote f p y x (λ i j. sample_of (g p y x i j) (a b i j)) t u → Part f r c (b + 1) (sent_values g a) t₀ u
unfolding sent_values
sent_more {p = p} {y = y} {x = x} g a l q h =
    part_more l q (wrote_as (λ i j m n. ap (λ (e : ℕ). sample_of (g p y x i j) (a e i j)) (sym l.number)) h)

-- ---- either is the content's
pub macroblock_at_lem : {f : Size} {r c q d : ℕ} {g : Values} {t u : List ℕ} → r ≡ q → c ≡ d → Macroblock f r c g t u → Macroblock f q d g t u
macroblock_at_lem {f} {r} {d = d} {g = g} {t = t} {u = u} er ec h =
    subst (λ (m : ℕ). Macroblock f m d g t u) er (subst (λ (m : ℕ). Macroblock f r m g t u) ec h)

pub kept_content : {f : Size} {r c : ℕ} {t u : List ℕ} (s : List ℕ) (m : Content) → m.sent ≡ false → Macroblock f r c (kept_values f s) t u → Macroblock f r c (content_values f s m) t u
unfolding content_values
kept_content s m e h = part_as (λ p y x a b i j l k. simp e) h

pub sent_content : {f : Size} {r c : ℕ} {t u : List ℕ} (s : List ℕ) (m : Content) → m.sent ≡ true → Macroblock f r c (sent_values m.prediction m.difference) t u → Macroblock f r c (content_values f s m) t u
unfolding content_values
sent_content s m e h = part_as (λ p y x a b i j l k. simp e) h

-- and so the picture's
pub content_picture : {f : Size} {r c : ℕ} {t u : List ℕ} (s : List ℕ) (m : Contents) → Macroblock f r c (content_values f s (m r c)) t u → Macroblock f r c (picture_values f m s) t u
unfolding picture_values
content_picture {f} s m h = part_as (λ p y x a b i j l k. λ z. content_values f s (m (sym a z) (sym b z)) p y x i j) h
