-- A row of reads: what it gives from its start is what the rest of it gives from the place where it has been read to. Each read in turn was got,
-- and the row goes on; or it was refused, and that is the row's refusal. Assumes nothing.
use mathlib.Core.Path.{◌≡◌, sym, ap, ◌∙◌}
use mathlib.Core.List.{List}
use Prim.Native.Nat.{ℕ, suc}
use lib.ListN.{length}
use Rattle.bits.specs.Bits.{Bit, bits_left}
use Rattle.bits.specs.Places.{counted}
use Rattle.bits.specs.Read.{ReadIn, got, refused, ReaderIn, AnyReader, next, ◌>>=◌, done}
use Rattle.bits.specs.Answer.{Placed}
use Rattle.bits.specs.declared.Place.{Place}
use Rattle.bits.specs.declared.Stopped.{Stopped}
use Rattle.bits.proofs.Logic.{Reads}
use Rattle.fields.specs.Answer.{as_number, as_meant, as_meant_pair, leaving, stopped_of}
use Rattle.fields.specs.declared.CountedRead.{CountedRead}
use Rattle.fields.specs.declared.CountedRead.TheVariants.{Got, Refused}
use Rattle.fields.proofs.Meaning.{onward}
use Rattle.fields.proofs.Told.{no_number, is_number, no_meant, is_meant, no_pair, is_pair, no_place, is_place, within_next}

pub record Row {A : Type 0} (whole : ReadIn counted A) (s : List ℕ) (n : ℕ) (rest : ReaderIn counted A) (p : Place) : Type 0 where
  pub placed : Placed s n p
  pub same : whole ≡ rest (bits_left s n p.bit) p

pub row_done : {A : Type 0} {whole : ReadIn counted A} {s : List ℕ} {n : ℕ} {p : Place} {a : A} → Row whole s n (done a) p → got a (bits_left s n p.bit) p ≡ whole
row_done h = sym h.same

-- ---- by what the next read, r, comes to; the rest is k of its meaning
module _ {A B : Type 0} (r : AnyReader B) (k : B → ReaderIn counted A) {whole : ReadIn counted A} {s : List ℕ} {n : ℕ} {p : Place} (h : Row whole s n (r counted >>= k) p) where
  pub row_next : {least : ℕ} {Good : B → List Bit → Type 0} (b : B) (q : Place) → Reads (suc (length (bits_left s n p.bit))) least Good r
      → r counted (bits_left s n p.bit) p ≡ got b (bits_left s n q.bit) q → Row whole s n (k b) q
  row_next b q reads e = record { placed = within_next s n p b q reads h.placed e; same = h.same ∙ ap (λ (x : ReadIn counted B). next x k) e }

  pub row_refused : (x : Stopped) → r counted (bits_left s n p.bit) p ≡ refused x → refused x ≡ whole
  row_refused x e = sym (h.same ∙ ap (λ (x : ReadIn counted B). next x k) e)

  -- what the read that was got gives
  pub row_good : {least : ℕ} {Good : B → List Bit → Type 0} (b : B) (q : Place) → Reads (suc (length (bits_left s n p.bit))) least Good r
      → r counted (bits_left s n p.bit) p ≡ got b (bits_left s n q.bit) q → Good b (bits_left s n q.bit)
  row_good b q reads e = (onward s n p b q reads h.placed.within.inside e).good

  -- by a layer's answer
  pub row_place : {least : ℕ} {Good : B → List Bit → Type 0} (b : B) {x : CountedRead (Unit {0})} {q : Place} → Reads (suc (length (bits_left s n p.bit))) least Good r
      → leaving s n x b ≡ r counted (bits_left s n p.bit) p → x ≡ Got tt q → Row whole s n (k b) q
  row_place b {x} {q} reads w e = row_next b q reads (is_place s n b x q w e)

  pub row_no_place : {why : Stopped} (b : B) (x : CountedRead (Unit {0})) {y : Stopped} → x ≡ Refused why → leaving s n x b ≡ r counted (bits_left s n p.bit) p → y ≡ stopped_of x → refused y ≡ whole
  row_no_place b x t w e = ap (λ (z : Stopped). refused z) e ∙ row_refused (stopped_of x) (no_place s n b x t w)

-- ---- by the answer of a field or of a codeword
module _ {A : Type 0} (r : AnyReader ℕ) (k : ℕ → ReaderIn counted A) {whole : ReadIn counted A} {s : List ℕ} {n : ℕ} {p : Place} (h : Row whole s n (r counted >>= k) p) where
  pub row_number : {least : ℕ} {Good : ℕ → List Bit → Type 0} {x : CountedRead ℕ} {v : ℕ} {q : Place} → Reads (suc (length (bits_left s n p.bit))) least Good r
      → as_number s n x ≡ r counted (bits_left s n p.bit) p → x ≡ Got v q → Row whole s n (k v) q
  row_number {x = x} {v} {q} reads w e = row_next r k h v q reads (is_number s n x v q w e)

  pub row_no_number : {why : Stopped} (x : CountedRead ℕ) {y : Stopped} → x ≡ Refused why → as_number s n x ≡ r counted (bits_left s n p.bit) p → y ≡ stopped_of x → refused y ≡ whole
  row_no_number x t w e = ap (λ (z : Stopped). refused z) e ∙ row_refused r k h (stopped_of x) (no_number s n x t w)

  pub row_number_good : {least : ℕ} {Good : ℕ → List Bit → Type 0} {x : CountedRead ℕ} {v : ℕ} {q : Place} → Reads (suc (length (bits_left s n p.bit))) least Good r
      → as_number s n x ≡ r counted (bits_left s n p.bit) p → x ≡ Got v q → Good v (bits_left s n q.bit)
  row_number_good {x = x} {v} {q} reads w e = row_good r k h v q reads (is_number s n x v q w e)

-- ---- by a number, or a pair, that stands for something
module _ {A B : Type 0} (f : ℕ → B) (r : AnyReader B) (k : B → ReaderIn counted A) {whole : ReadIn counted A} {s : List ℕ} {n : ℕ} {p : Place} (h : Row whole s n (r counted >>= k) p) where
  pub row_meant : {least : ℕ} {Good : B → List Bit → Type 0} {x : CountedRead ℕ} {v : ℕ} {q : Place} → Reads (suc (length (bits_left s n p.bit))) least Good r
      → as_meant f s n x ≡ r counted (bits_left s n p.bit) p → x ≡ Got v q → Row whole s n (k (f v)) q
  row_meant {x = x} {v} {q} reads w e = row_next r k h (f v) q reads (is_meant f s n x v q w e)

  pub row_no_meant : {why : Stopped} (x : CountedRead ℕ) {y : Stopped} → x ≡ Refused why → as_meant f s n x ≡ r counted (bits_left s n p.bit) p → y ≡ stopped_of x → refused y ≡ whole
  row_no_meant x t w e = ap (λ (z : Stopped). refused z) e ∙ row_refused r k h (stopped_of x) (no_meant f s n x t w)

module _ {A B : Type 0} (f : ℕ → ℕ → B) (r : AnyReader B) (k : B → ReaderIn counted A) {whole : ReadIn counted A} {s : List ℕ} {n : ℕ} {p : Place} (h : Row whole s n (r counted >>= k) p) where
  pub row_pair : {least : ℕ} {Good : B → List Bit → Type 0} {x : CountedRead (ℕ × ℕ)} {a b : ℕ} {q : Place} → Reads (suc (length (bits_left s n p.bit))) least Good r
      → as_meant_pair f s n x ≡ r counted (bits_left s n p.bit) p → x ≡ Got (a, b) q → Row whole s n (k (f a b)) q
  row_pair {x = x} {a} {b} {q} reads w e = row_next r k h (f a b) q reads (is_pair f s n x a b q w e)

  pub row_no_pair : {why : Stopped} (x : CountedRead (ℕ × ℕ)) {y : Stopped} → x ≡ Refused why → as_meant_pair f s n x ≡ r counted (bits_left s n p.bit) p → y ≡ stopped_of x → refused y ≡ whole
  row_no_pair x t w e = ap (λ (z : Stopped). refused z) e ∙ row_refused r k h (stopped_of x) (no_pair f s n x t w)

  pub row_pair_good : {least : ℕ} {Good : B → List Bit → Type 0} {x : CountedRead (ℕ × ℕ)} {a b : ℕ} {q : Place} → Reads (suc (length (bits_left s n p.bit))) least Good r
      → as_meant_pair f s n x ≡ r counted (bits_left s n p.bit) p → x ≡ Got (a, b) q → Good (f a b) (bits_left s n q.bit)
  row_pair_good {x = x} {a} {b} {q} reads w e = row_good r k h (f a b) q reads (is_pair f s n x a b q w e)
