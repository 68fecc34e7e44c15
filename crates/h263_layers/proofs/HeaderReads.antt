-- What a picture's header reads: PSC, TR, PTYPE, PQUANT and CPM are the first five reads, then come the spares. Assumes nothing.
-- 14 is given at a PTYPE bit, and so inside a read: the logic of reads, in which a refusal stands where a read begins, doesn't say it.
use Prim.Native.Nat.{ℕ, zero, suc, ◌+◌, ◌-◌, ◌*◌, ◌/◌, ◌%◌, ◌^◌, ◌≤◌, ◌<◌}
use mathlib.Core.Path.{◌≡◌, refl, sym, ap, subst, ◌∙◌}
use mathlib.Core.Logic.{◌⊎◌, inl, inr}
use mathlib.Core.Bool.{Bool, true, false}
use mathlib.Core.List.{List, [], ◌∷◌}
use native.Mathlib.Omega.{arith}
use native.Mathlib.Nat.{pow-suc, le_refl}
use lib.Dec.{T, eqb, lit≤, lit<}
use lib.ListN.{length, length-append}
use Rattle.laws.specs.Choice.{pick, both, either}
use Rattle.laws.proofs.Choice.{either_right}
use Rattle.laws.proofs.Table.{all_at}
use Rattle.refusals.specs.declared.Reason.{Reason}
use Rattle.refusals.specs.declared.Reason.TheVariants.{BitsEnd, NoStartCode, OtherFormat, QuantiserZero, OptionalMode}
use Rattle.refusals.specs.Number.{number, refusal}
use Rattle.bits.specs.Bits.{Bit, num}
use Rattle.bits.specs.Places.{Places, counted, listed, ListedPlace, ListedRefusal, bit_in, past_in, stop_in, seen_place, unread_place, total_width}
use Rattle.bits.specs.declared.Place.{Place}
use Rattle.bits.specs.Read.{ReadIn, got, refused, endless, ReaderIn, AnyReader, failed, next, ◌>>=◌, done, field_from, field, Judged, fine, against, settle, judged_read, seen_read}
use Rattle.bits.proofs.Numbers.{num_small}
use Rattle.bits.proofs.Seen.{seen_bit, seen_stop, seen_field}
use Rattle.bits.proofs.ListOfReads.{Added, added_none, added_on, Among, among_on}
use Rattle.bits.proofs.Logic.{Took, Lists, Reads, reads_judged, makes_field, reads_field, judges_pick, judges_fine, judges_against}
use Rattle.size.specs.declared.Size.{Size}
use Rattle.layout.specs.Numbers.{is_quantiser}
use Rattle.fields.specs.Rules.{quantiser, spares}
use Rattle.fields.proofs.RuleReads.{Any, expect_reads, quantiser_reads, spares_reads}
use Rattle.h263_description.specs.Value.{format_code}
use Rattle.h263_layers.specs.Among.{InPtype}
use Rattle.h263_layers.specs.Grammar.{format_of, mode_bit, Ptype, modes_of, ptype_read, cpm_read, Header, header}

-- ---- alike in places of any kind
pub record Alike {A : Type 0} (r : AnyReader A) : Type 0 where
  pub sees : (P : Places) (bs : List Bit) (at : ListedPlace) → r P bs (seen_place P at) ≡ seen_read P (r listed bs at)

pub alike_reads : {A : Type 0} {least : ℕ} {Good : A → List Bit → Type 0} {r : AnyReader A} → ((bound : ℕ) → Reads bound least Good r) → Alike r
alike_reads h = record { sees = λ P bs at. (h (suc (length bs))).sees P bs at (le_refl (suc (length bs))) }

pub alike_then : {A B : Type 0} {r : AnyReader A} {k : (P : Places) → A → ReaderIn P B} → Alike r → ((a : A) → Alike (λ P. k P a)) → Alike (λ P. r P >>= k P)
alike_then {A} {B} {r} {k} h f = record { sees = λ P bs at. ap (λ x. next x (k P)) (h.sees P bs at) ∙ on P (r listed bs at) }
  where
    on : (P : Places) (x : ReadIn listed A) → next (seen_read P x) (k P) ≡ seen_read P (next x (k listed))
    on P (got a left at) = (f a).sees P left at
    on P (refused r) = refl
    on P endless = refl

pub alike_done : {A : Type 0} (a : A) → Alike (λ P. done a)
alike_done a = record { sees = λ P bs at. refl }

-- a refusal at some bit, wherever reading had come to
pub seen_refused : {A : Type 0} (P : Places) (reason : Reason) (q : ℕ) (at : ListedPlace) → ◌≡◌ {A = ReadIn P A} (refused (stop_in P (refusal reason q) (seen_place P at))) (seen_read P (refused (stop_in listed (refusal reason q) at)))
seen_refused P reason q at = ap (λ x. refused x) (seen_stop P (refusal reason q) at)

alike_cpm : Alike (λ P. cpm_read)
alike_cpm = record { sees = λ P bs at. ap (λ x. next x (λ a. settle (seen_place P at) (ruled (eqb a 0) a))) (seen_field P 1 bs at) ∙ on P at (field 1 bs at) }
  where
    ruled : Bool → ℕ → Judged ℕ
    ruled t cpm = pick t (fine cpm) (against OptionalMode)

    by : (P : Places) (at : ListedPlace) (t : Bool) (a : ℕ) (left : List Bit) (p : ListedPlace) → settle (seen_place P at) (ruled t a) left (seen_place P p) ≡ seen_read P (settle at (ruled t a) left p)
    by P at true a left p = refl
    by P at false a left p = ap (λ (q : ℕ). refused (stop_in P (refusal OptionalMode q) (seen_place P p))) (seen_bit P at) ∙ seen_refused P OptionalMode at.bit p

    on : (P : Places) (at : ListedPlace) (x : ReadIn listed ℕ) → next (seen_read P x) (λ a. settle (seen_place P at) (ruled (eqb a 0) a)) ≡ seen_read P (next x (λ a. settle at (ruled (eqb a 0) a)))
    on P at (got a left p) = by P at (eqb a 0) a left p
    on P at (refused r) = refl
    on P at endless = refl

format_reads : {bound : ℕ} (size : Size) → Reads bound 13 Any (λ P. judged_read (field 13) (format_of size))
unfolding number
format_reads size =
    reads_judged (makes_field 13) (reads_field 13 tt)
    (λ x left l. judges_pick (both (eqb (x / 2048) 2) (eqb (x / 32 % 8) (format_code size))) (λ y. judges_fine x tt) (λ n. judges_against OtherFormat tt))

abbrev parts : ℕ → Ptype
parts x = record { ptype = x / 256 % 8; type = x / 16 % 2 }

alike_ptype : (size : Size) → Alike (λ P. ptype_read size)
unfolding ptype_read
alike_ptype size = record {
  sees = λ P bs at. ap (λ x. next x (modes_of (seen_place P at))) ((alike_reads (λ bound. format_reads {bound = bound} size)).sees P bs at) ∙ on P at (judged_read (field 13) (format_of size) bs at);
}
  where
    by : (P : Places) (at : ListedPlace) (t : Bool) (x : ℕ) (left : List Bit) (p : ListedPlace)
        → pick t (done (parts x) left (seen_place P p)) (refused (stop_in P (refusal OptionalMode (bit_in P (seen_place P at) + mode_bit x)) (seen_place P p)))
        ≡ seen_read P (pick t (done (parts x) left p) (refused (stop_in listed (refusal OptionalMode (at.bit + mode_bit x)) p)))
    by P at true x left p = refl
    by P at false x left p =
        ap (λ (q : ℕ). refused (stop_in P (refusal OptionalMode (q + mode_bit x)) (seen_place P p))) (seen_bit P at) ∙ seen_refused P OptionalMode (at.bit + mode_bit x) p

    on : (P : Places) (at : ListedPlace) (y : ReadIn listed ℕ) → next (seen_read P y) (modes_of (seen_place P at)) ≡ seen_read P (next y (modes_of at))
    on P at (got x left p) = by P at (eqb (x % 16) 0) x left p
    on P at (refused r) = refl
    on P at endless = refl

pub header_alike : (size : Size) → Alike (λ P. header size)
unfolding header number
header_alike size =
    alike_then (alike_reads (λ bound. expect_reads {bound = bound} 22 0b0000000000000000100000 NoStartCode tt tt))
    (λ psc. alike_then (alike_reads (λ bound. reads_field {bound = bound} 8 tt))
    (λ tr. alike_then (alike_ptype size)
    (λ ptype. alike_then (alike_reads (λ bound. quantiser_reads {bound = bound}))
    (λ pquant. alike_then alike_cpm (λ cpm. alike_then (alike_reads (λ bound. spares_reads {bound = bound})) (λ dropped. alike_done _))))))

-- ---- from the first bit on
-- a read of its bits, or none of them, that is refused where it begins
among_one : (at : ListedPlace) (past end : ℕ) (reason : Reason) → Added at → at.bit ≤ past → past ≤ end → 3 ≤ number reason → Among end (stop_in listed (refusal reason at.bit) (past_in listed at past))
among_one at past end reason a l m n = record {
  stands = record { before = at.widths; after = (past - at.bit) ∷ []; all = refl; placed = a.all; last = tt };
  few = omega (arith, length-append at.widths ((past - at.bit) ∷ []), a.few);
  within = omega arith;
  read = n;
}

-- a field: it fails, or has its bits
by_field : {B : Type 0} (Q : ReadIn listed B → Type 0) (k : ℕ) (bs : List Bit) (at : ListedPlace) (f : ℕ → ReaderIn listed B) → Q (failed BitsEnd at)
    → ((v : ℕ) (left : List Bit) → length left + k ≡ length bs → v < 2 ^ k → Q (f v left (past_in listed at (at.bit + k)))) → Q (next (field k bs at) f)
unfolding field_from
by_field Q k bs at f fails has = from k 0 0 bs at.bit (omega arith) (omega arith) (omega arith) (lit< tt)
  where
    from : (rest j v : ℕ) (left : List Bit) (p : ℕ) → j + rest ≡ k → p ≡ at.bit + j → length left + j ≡ length bs → v < 2 ^ j → Q (next (field_from rest at v left p) f)
    from zero j v left p e q l s =
        let all : j ≡ k = omega arith in
        let past : at.bit + k ≡ p = omega arith in
        subst (λ (p : ℕ). Q (f v left (past_in listed at p))) past (has v left (omega arith) (subst (λ (n : ℕ). v < 2 ^ n) all s))
    from (suc rest) j v [] p e q l s = fails
    from (suc rest) j v (b ∷ left) p e q l s =
        from rest (suc j) (v * 2 + num b) left (p + 1) (omega arith) (omega arith) (omega arith) (omega (arith, pow-suc 2 j, num_small b))

-- ---- the header
pub record HeaderGood (h : Header) : Type 0 where
  pub reference : h.tr ≤ 255
  pub flagged : h.ptype ≤ 7
  pub typed : h.type ≤ 1
  pub quantised : T (is_quantiser h.pquant)

-- refused as a read is, or inside PTYPE
pub record InPtypeOf (end : ℕ) (r : ListedRefusal) : Type 0 where
  pub inside : InPtype r.refusal r.widths
  pub read : 43 ≤ end

abbrev pub HeaderRefused : ℕ → ListedRefusal → Type 0
HeaderRefused end r = Among end r ⊎ InPtypeOf end r

-- where it isn't, it says what it may, and its reads have all its bits
pub record HeaderRead (bs : List Bit) (h : Header) (left : List Bit) (at : ListedPlace) : Type 0 where
  pub good : HeaderGood h
  pub took : Took 22 bs 0 left at.bit
  pub added : Added at

abbrev pub HeaderLists : List Bit → ReadIn listed Header → Type 0
HeaderLists bs (got h left at) = HeaderRead bs h left at
HeaderLists bs (refused r) = HeaderRefused (length bs) r
HeaderLists bs endless = ⊥

abbrev place_after : ℕ → List ℕ → ListedPlace
place_after bit widths = record { bit = bit; widths = widths }

module _ (size : Size) (bs : List Bit) where
  abbrev head : ℕ → Ptype → ℕ → Header
  head tr p q = record { tr = tr; ptype = p.ptype; type = p.type; pquant = q }

  -- what is read from each of its places on
  abbrev from_spares : ℕ → Ptype → ℕ → ReaderIn listed Header
  from_spares tr p q = spares >>= λ dropped. done (head tr p q)

  abbrev from_cpm : ℕ → Ptype → ℕ → ReaderIn listed Header
  from_cpm tr p q = cpm_read >>= λ cpm. from_spares tr p q

  abbrev from_pquant : ℕ → Ptype → ReaderIn listed Header
  from_pquant tr p = quantiser >>= λ q. from_cpm tr p q

  abbrev from_ptype : ℕ → ReaderIn listed Header
  from_ptype tr = ptype_read size >>= λ p. from_pquant tr p

  abbrev from_tr : ReaderIn listed Header
  from_tr = field 8 >>= λ tr. from_ptype tr

  -- refused by the read from a place on
  not_read : (at : ListedPlace) (past : ℕ) (reason : Reason) → Added at → at.bit ≤ past → past ≤ length bs → 3 ≤ number reason → HeaderLists bs (refused (stop_in listed (refusal reason at.bit) (past_in listed at past)))
  not_read at past reason a l m n = inl (among_one at past (length bs) reason a l m n)

  abbrev at22 : ListedPlace
  at22 = place_after 22 (22 ∷ [])

  abbrev at30 : ListedPlace
  at30 = place_after 30 (22 ∷ 8 ∷ [])

  abbrev at43 : ListedPlace
  at43 = place_after 43 (22 ∷ 8 ∷ 13 ∷ [])

  abbrev at48 : ListedPlace
  at48 = place_after 48 (22 ∷ 8 ∷ 13 ∷ 5 ∷ [])

  abbrev at49 : ListedPlace
  at49 = place_after 49 (22 ∷ 8 ∷ 13 ∷ 5 ∷ 1 ∷ [])

  added22 : Added at22
  unfolding total_width
  added22 = record { all = refl; few = lit≤ tt }

  added30 : Added at30
  unfolding total_width
  added30 = record { all = refl; few = lit≤ tt }

  added43 : Added at43
  unfolding total_width
  added43 = record { all = refl; few = lit≤ tt }

  added48 : Added at48
  unfolding total_width
  added48 = record { all = refl; few = lit≤ tt }

  added49 : Added at49
  unfolding total_width
  added49 = record { all = refl; few = lit≤ tt }

  spares_lists : (tr : ℕ) (p : Ptype) (q : ℕ) → HeaderGood (head tr p q) → (left : List Bit) → length left + 49 ≡ length bs → HeaderLists bs (from_spares tr p q left at49)
  spares_lists tr p q g left l = on (spares left at49) (spares_reads.lists left at49 (le_refl (suc (length left))))
    where
      end : 49 + length left ≡ length bs
      end = omega arith

      on : (x : ReadIn listed ℕ) → Lists 0 Any left at49 x → HeaderLists bs (next x (λ dropped. done (head tr p q)))
      on (got d rest at) h = record { good = g; took = record { end = omega (arith, h.0.end); onward = omega (arith, h.0.onward) }; added = added_on added49 h.1 }
      on (refused r) h = subst (λ (n : ℕ). HeaderRefused n r) end (inl (among_on added49 h.0 h.1))
      on endless h = h

  cpm_lists : (tr : ℕ) (p : Ptype) (q : ℕ) → HeaderGood (head tr p q) → (left : List Bit) → length left + 48 ≡ length bs → HeaderLists bs (from_cpm tr p q left at48)
  unfolding number
  cpm_lists tr p q g left l =
      by_field (λ y. HeaderLists bs (next y (λ cpm. from_spares tr p q))) 1 left at48 _ (not_read at48 48 BitsEnd added48 (lit≤ tt) (omega arith) (lit≤ tt))
      (λ cpm rest m s. on (eqb cpm 0) cpm rest (omega arith))
    where
      on : (t : Bool) (cpm : ℕ) (rest : List Bit) → length rest + 49 ≡ length bs → HeaderLists bs (next (settle at48 (pick t (fine cpm) (against OptionalMode)) rest at49) (λ cpm. from_spares tr p q))
      on true cpm rest m = spares_lists tr p q g rest m
      on false cpm rest m = not_read at48 49 OptionalMode added48 (lit≤ tt) (omega arith) (lit≤ tt)

  pquant_lists : (tr : ℕ) (p : Ptype) → tr ≤ 255 → p.ptype ≤ 7 → p.type ≤ 1 → (left : List Bit) → length left + 43 ≡ length bs → HeaderLists bs (from_pquant tr p left at43)
  unfolding number
  pquant_lists tr p t f y left l =
      by_field (λ y. HeaderLists bs (next y (λ q. from_cpm tr p q))) 5 left at43 _ (not_read at43 43 BitsEnd added43 (lit≤ tt) (omega arith) (lit≤ tt))
      (λ q rest m s. on (eqb q 0) q refl s rest (omega arith))
    where
      on : (z : Bool) (q : ℕ) → eqb q 0 ≡ z → q < 32 → (rest : List Bit) → length rest + 48 ≡ length bs → HeaderLists bs (next (settle at43 (pick z (against QuantiserZero) (fine q)) rest at48) (λ q. from_cpm tr p q))
      on true q e s rest m = not_read at43 48 QuantiserZero added43 (lit≤ tt) (omega arith) (lit≤ tt)
      on false q e s rest m =
          cpm_lists tr p q (record { reference = t; flagged = f; typed = y; quantised = either_right (eqb q 0) (is_quantiser q) e (all_at 32 (λ q. either (eqb q 0) (is_quantiser q)) tt q s) }) rest m

  mode_first : (x : ℕ) → 9 ≤ mode_bit x
  mode_first x = go (eqb (x / 8 % 2) 1) (eqb (x / 4 % 2) 1) (eqb (x / 2 % 2) 1)
    where
      go : (a b c : Bool) → 9 ≤ pick a 9 (pick b 10 (pick c 11 12))
      go true b c = lit≤ tt
      go false true c = lit≤ tt
      go false false true = lit≤ tt
      go false false false = lit≤ tt

  mode_last : (x : ℕ) → mode_bit x ≤ 12
  mode_last x = go (eqb (x / 8 % 2) 1) (eqb (x / 4 % 2) 1) (eqb (x / 2 % 2) 1)
    where
      go : (a b c : Bool) → pick a 9 (pick b 10 (pick c 11 12)) ≤ 12
      go true b c = lit≤ tt
      go false true c = lit≤ tt
      go false false true = lit≤ tt
      go false false false = lit≤ tt

  ptype_lists : (tr : ℕ) → tr ≤ 255 → (left : List Bit) → length left + 30 ≡ length bs → HeaderLists bs (from_ptype tr left at30)
  unfolding ptype_read number
  ptype_lists tr t left l =
      by_field (λ y. HeaderLists bs (next (next y (modes_of at30)) (λ p. from_pquant tr p))) 13 left at30 _ (not_read at30 30 BitsEnd added30 (lit≤ tt) (omega arith) (lit≤ tt))
      (λ x rest m s. format (both (eqb (x / 2048) 2) (eqb (x / 32 % 8) (format_code size))) x rest (omega arith))
    where
      modes : (b : Bool) (x : ℕ) (rest : List Bit) → length rest + 43 ≡ length bs
          → HeaderLists bs (next (pick b (done (parts x) rest at43) (refused (stop_in listed (refusal OptionalMode (30 + mode_bit x)) at43))) (λ p. from_pquant tr p))
      modes true x rest m = pquant_lists tr (parts x) t (omega arith) (omega arith) rest m
      modes false x rest m =
          inr (record { inside = record { reason = refl; all = refl; first = omega (arith, mode_first x); last = omega (arith, mode_last x) }; read = omega arith })

      format : (b : Bool) (x : ℕ) (rest : List Bit) → length rest + 43 ≡ length bs
          → HeaderLists bs (next (next (settle at30 (pick b (fine x) (against OtherFormat)) rest at43) (modes_of at30)) (λ p. from_pquant tr p))
      format true x rest m = modes (eqb (x % 16) 0) x rest m
      format false x rest m = not_read at30 43 OtherFormat added30 (lit≤ tt) (omega arith) (lit≤ tt)

  tr_lists : (left : List Bit) → length left + 22 ≡ length bs → HeaderLists bs (from_tr left at22)
  unfolding number
  tr_lists left l =
      by_field (HeaderLists bs) 8 left at22 (λ tr. from_ptype tr) (not_read at22 22 BitsEnd added22 (lit≤ tt) (omega arith) (lit≤ tt))
      (λ tr rest m s. ptype_lists tr (small tr s) rest (omega arith))
    where
      small : (x : ℕ) → x < 256 → x ≤ 255
      small x l = omega arith

  -- THE LAW
  pub header_lists : HeaderLists bs (header size bs unread_place)
  unfolding header number
  header_lists =
      by_field (λ y. HeaderLists bs (next y (λ psc. from_tr))) 22 bs unread_place _ (not_read unread_place 0 BitsEnd added_none (lit≤ tt) (omega arith) (lit≤ tt))
      (λ psc left l s. on (eqb psc 0b0000000000000000100000) psc left l)
    where
      on : (t : Bool) (psc : ℕ) (left : List Bit) → length left + 22 ≡ length bs
          → HeaderLists bs (next (settle unread_place (pick t (fine psc) (against NoStartCode)) left at22) (λ psc. from_tr))
      on true psc left l = tr_lists left l
      on false psc left l = not_read unread_place 22 NoStartCode added_none (lit≤ tt) (omega arith) (lit≤ tt)

-- ---- in counted places: no more reads than bits
pub record HeaderCounted (bs : List Bit) (h : Header) (left : List Bit) (at : Place) : Type 0 where
  pub good : HeaderGood h
  pub took : Took 22 bs 0 left at.bit
  pub few : at.reads ≤ at.bit

abbrev pub HeaderCounts : List Bit → ReadIn counted Header → Type 0
HeaderCounts bs (got h left at) = HeaderCounted bs h left at
HeaderCounts bs (refused r) = Unit {0}
HeaderCounts bs endless = ⊥

pub header_counts : (size : Size) (bs : List Bit) → HeaderCounts bs (header size bs (seen_place counted unread_place))
header_counts size bs = subst (λ x. HeaderCounts bs x) (sym ((header_alike size).sees counted bs unread_place)) (on (header size bs unread_place) (header_lists size bs))
  where
    on : (x : ReadIn listed Header) → HeaderLists bs x → HeaderCounts bs (seen_read counted x)
    on (got h left at) g = record { good = g.good; took = g.took; few = g.added.few }
    on (refused r) g = tt
    on endless g = g
