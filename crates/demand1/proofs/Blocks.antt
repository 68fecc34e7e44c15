-- Blocks, clips and descriptions that are sent are refused by the first rule that refuses; what a refused call leaves. Assumes nothing.
use Prim.Native.Nat.{ℕ, ◌≤◌}
use mathlib.Core.Path.{◌≡◌, refl, sym, ap, subst, ◌∙◌}
use mathlib.Core.Bool.{Bool, true, false}
use mathlib.Core.List.{List, [], ◌∷◌, ◌++◌}
use native.Mathlib.Omega.{arith}
use borrow.Author.Tests.{eq-eqb, eqb-true, ne_eqb, leb-true}
use lib.Dec.{eqb, ltb, leb}
use lib.ListN.{length}
use Rattle.laws.specs.Choice.{pick, both, either, opposite, alike}
use Rattle.laws.proofs.Choice.{two_of}
use Rattle.refusals.specs.Told.{Numbers, untabled, Told, accepted, refused_by, refused, verdict_on}
use Rattle.refusals.proofs.Told.{told_apart, same_numbers}
use Rattle.size.specs.declared.Size.{Size}
use Rattle.size.specs.Size.{limit}
use Rattle.layout.specs.Flat.{Flat}
use Rattle.coding.specs.declared.Kind.{Kind}
use Rattle.coding.specs.declared.Kind.TheVariants.{H261, H263}
use Rattle.coding.specs.Kind.{kind_size, kind_standard, kind_in, coding_of}
use Rattle.vault.specs.declared.Standard.{Standard}
use Rattle.vault.specs.declared.Header.{Header}
use Rattle.vault.specs.Block.{clip_of, part_of, last_of, standard_of, check_sum_of, header_of, header_ruled, fields_follow, sum_of, pictures, check_of, of_clip, same_standard, of_standard, judge_of}
use Rattle.vault.specs.Parts.{placed_payload}
use Rattle.standing.specs.declared.Line.{Line}
use Rattle.standing.specs.declared.Line.TheVariants.{Earlier, Next, Anew, Otherwise}
use Rattle.standing.specs.declared.Standing.{Standing}
use Rattle.standing.specs.declared.Receiver.{Receiver}
use Rattle.standing.specs.Receive.{Event, refusing, taken, failed, finished, Buffers, fresh_receiver, count_of, mark_of, line_of, judged_block, ended_picture, took_of, by_line, by_judgement, decide, advance, answer_of, collection_after, stored_by, failed_receiver, came_to, step}
use Rattle.listing.specs.declared.Clip.{Clip}
use Rattle.listing.specs.Listed.{opened_kind, opened_by, found_by, Came, stepped, by_opened, begun, listed}
use Rattle.sender.specs.declared.Sender.{Sender}
use Rattle.standing.specs.declared.Standing.TheVariants as T
use Rattle.standing.specs.Receive as R
use Rattle.sender.specs.Send as S
use Rattle.listing.specs.declared.Clip.TheVariants as K
use Rattle.size.specs.declared.Size.TheVariants as Z
use Rattle.h261_groups.specs.declared.Format.TheVariants as F
use Rattle.vault.specs.declared.Standard.TheVariants as N
use Rattle.demand1.specs.Order.{Verdict, when, first_verdict, Refuses}
use Rattle.demand1.specs.Rules.{picture_rules, send_rules, check_rules, judge_rules, block_rules, takes, mark_rule, last_rules}
use Rattle.demand1.specs.Demand1.{verdict_said, BlockRefuses, kind_or, kind_of_block, receiver_of}
use Rattle.demand1.proofs.Order.{or_else, first_append}
use Rattle.demand1.proofs.Pictures.{kind_due}

-- ---- opening
pub opening_due : {A : Type 0} (none : Bool) (a : A) → verdict_on (pick none (refused 22 0) (accepted a)) ≡ first_verdict (when 22 none ∷ [])
opening_due true a = refl
opening_due false a = refl

-- ---- a block: its verdict decides what is judged of it
abbrev pub with_value : {A : Type 0} → A → Verdict → Told A
with_value a (accepted t) = accepted a
with_value a (refused_by numbers) = refused_by numbers

pub value_verdict : {A : Type 0} (a : A) (v : Verdict) → verdict_on (with_value a v) ≡ v
value_verdict a (accepted t) = refl
value_verdict a (refused_by numbers) = refl

checked : (long sum fine : Bool) (header : Header) → pick long (pick sum (pick fine (accepted header) (refused 22 0)) (refused 21 0)) (refused 1 0)
    ≡ with_value header (first_verdict (when 1 (opposite long) ∷ when 21 (opposite sum) ∷ when 22 (opposite fine) ∷ []))
checked true true true header = refl
checked true true false header = refl
checked true false fine header = refl
checked false sum fine header = refl

pub check_is : (size : Size) (block : List ℕ) → check_of size block ≡ with_value (header_of block) (first_verdict (check_rules size block))
unfolding check_of
check_is size block = checked (eqb (length block) 512) (eqb (sum_of block) (check_sum_of block)) (fields_follow size block) (header_of block)

-- 5, where nothing else refuses
by_standard : {A : Type 0} (a : A) (same : Bool) → pick same (accepted a) (refused 5 0) ≡ with_value a (first_verdict (when 5 (opposite same) ∷ []))
by_standard a true = refl
by_standard a false = refl

-- of this clip, and of its standard
of_clip_lem : (v : Verdict) (header : Header) (standard : Standard) (clip : ℕ) → of_standard standard (of_clip clip (with_value header v))
    ≡ with_value header (or_else v (first_verdict (when 23 (opposite (eqb header.clip clip)) ∷ when 5 (opposite (same_standard header.standard standard)) ∷ [])))
of_clip_lem (refused_by numbers) header standard clip = refl
of_clip_lem (accepted t) header standard clip = go (eqb header.clip clip)
  where
    go : (same : Bool) → of_standard standard (pick same (accepted header) (refused 23 0))
        ≡ with_value header (first_verdict (when 23 (opposite same) ∷ when 5 (opposite (same_standard header.standard standard)) ∷ []))
    go true = by_standard header (same_standard header.standard standard)
    go false = refl

pub judge_is : (size : Size) (standard : Standard) (clip : ℕ) (block : List ℕ) → judge_of size standard clip block ≡ with_value (header_of block) (first_verdict (judge_rules size standard clip block))
unfolding judge_of
judge_is size standard clip block =
    ap (λ (x : Told Header). of_standard standard (of_clip clip x)) (check_is size block) ∙ of_clip_lem (first_verdict (check_rules size block)) (header_of block) standard clip
    ∙ ap (with_value (header_of block))
    (sym (first_append (check_rules size block) (when 23 (opposite (eqb (clip_of block) clip)) ∷ when 5 (opposite (same_standard (standard_of block) standard)) ∷ [])))

judged_is : (r : Receiver) (block : List ℕ) (b : Buffers) → judged_block r block b ≡ with_value (header_of block) (first_verdict (block_rules r block b))
unfolding judged_block
judged_is r block b = go (R.lent_lengths (kind_size r.kind) b)
  where
    go : (named : Bool) → pick named (judge_of (kind_size r.kind) (kind_standard r.kind) r.clip block) (refused 1 0)
        ≡ with_value (header_of block) (first_verdict (when 1 (opposite named) ∷ judge_rules (kind_size r.kind) (kind_standard r.kind) r.clip block))
    go true = judge_is (kind_size r.kind) (kind_standard r.kind) r.clip block
    go false = refl

-- ---- a good block
module _ (r : Receiver) (block : List ℕ) (b : Buffers) where
  abbrev event_verdict : Event Flat → Verdict
  event_verdict e = verdict_said (answer_of coding_of r e)

  abbrev header : Header
  header = header_of block

  abbrev after : List ℕ
  after = placed_payload block (part_of block) b.collection

  -- what a refused event leaves: lost, with the part in the collection
  abbrev Fails : Event Flat → Type 0
  Fails e = (numbers : Numbers) → event_verdict e ≡ refused_by numbers
      → (advance coding_of r e ≡ failed_receiver r header) × (collection_after block b.collection e ≡ after) × (stored_by coding_of r b.both e ≡ b.both)

  ended_due : (rules : List Verdict) (found : Told Flat) → verdict_on found ≡ first_verdict rules → event_verdict (ended_picture coding_of r header found) ≡ first_verdict (rules ++ (mark_rule r header found ∷ []))
  unfolding ended_picture
  ended_due rules (refused_by numbers) h = sym (first_append rules (accepted tt ∷ []) ∙ ap (λ (v : Verdict). or_else v (accepted tt)) (sym h))
  ended_due rules (accepted d) h =
      go (alike ((coding_of r.kind).refresh d) (mark_of r.progress header))
      ∙ sym (first_append rules (mark_rule r header (accepted d) ∷ []) ∙ ap (λ (v : Verdict). or_else v (first_verdict (mark_rule r header (accepted d) ∷ []))) (sym h))
    where
      go : (true_mark : Bool) → event_verdict (pick true_mark (finished header d) (failed header (untabled 24 0))) ≡ first_verdict (when 24 (opposite true_mark) ∷ [])
      go true = refl
      go false = refl

  ended_fails : (found : Told Flat) → Fails (ended_picture coding_of r header found)
  unfolding ended_picture
  ended_fails (refused_by numbers) = λ numbers h. (refl, refl, refl)
  ended_fails (accepted d) = go (alike ((coding_of r.kind).refresh d) (mark_of r.progress header))
    where
      go : (true_mark : Bool) → Fails (pick true_mark (finished header d) (failed header (untabled 24 0)))
      go true = λ numbers h. absurd (told_apart h)
      go false = λ numbers h. (refl, refl, refl)

  abbrev last_ones : List Verdict
  last_ones = picture_rules r.kind after (count_of header) ++ (mark_rule r header ((coding_of r.kind).read after (count_of header)) ∷ [])

  took_due : (standing : Standing) → event_verdict (took_of coding_of r header standing after) ≡ first_verdict (pick (last_of block) last_ones [])
  unfolding took_of
  took_due standing = go (last_of block)
    where
      go : (last : Bool) → event_verdict (pick last (ended_picture coding_of r header ((coding_of r.kind).read after (count_of header))) (taken header standing)) ≡ first_verdict (pick last last_ones [])
      go true = ended_due (picture_rules r.kind after (count_of header)) ((coding_of r.kind).read after (count_of header)) (kind_due r.kind after (count_of header))
      go false = refl

  took_fails : (standing : Standing) → Fails (took_of coding_of r header standing after)
  unfolding took_of
  took_fails standing = go (last_of block)
    where
      go : (last : Bool) → Fails (pick last (ended_picture coding_of r header ((coding_of r.kind).read after (count_of header))) (taken header standing))
      go true = ended_fails ((coding_of r.kind).read after (count_of header))
      go false = λ numbers h. absurd (told_apart h)

  line_due : (line : Line) → event_verdict (by_line coding_of line r header block b.collection) ≡ first_verdict (pick (both (takes line) (last_of block)) last_ones [])
  unfolding by_line
  line_due Earlier = refl
  line_due Next = took_due r.progress.standing
  line_due Anew = took_due T.Catching
  line_due Otherwise = refl

  line_fails : (line : Line) → Fails (by_line coding_of line r header block b.collection)
  unfolding by_line
  line_fails Earlier = λ numbers h. absurd (told_apart h)
  line_fails Next = took_fails r.progress.standing
  line_fails Anew = took_fails T.Catching
  line_fails Otherwise = λ numbers h. absurd (told_apart h)

  -- ---- any block
  record Comes (e : Event Flat) : Type 0 where
    due : event_verdict e ≡ first_verdict (block_rules r block b ++ last_rules r block b)
    idle : (numbers : Numbers) → first_verdict (block_rules r block b) ≡ refused_by numbers → e ≡ refusing numbers
    fails : first_verdict (block_rules r block b) ≡ accepted tt → Fails e

  decided : (v : Verdict) → first_verdict (block_rules r block b) ≡ v → Comes (by_judgement coding_of (with_value header v) r block b.collection)
  unfolding by_judgement
  decided (refused_by due) h = record {
    due = sym (first_append (block_rules r block b) (last_rules r block b) ∙ ap (λ (v : Verdict). or_else v (first_verdict (last_rules r block b))) h);
    idle = λ numbers q. ap refusing (same_numbers (sym h ∙ q));
    fails = λ q. absurd (told_apart (sym q ∙ h));
  }
  decided (accepted t) h = record {
    due =
        line_due (line_of r.progress header)
        ∙ sym (first_append (block_rules r block b) (last_rules r block b) ∙ ap (λ (v : Verdict). or_else v (first_verdict (last_rules r block b))) h);
    idle = λ numbers q. absurd (told_apart (sym h ∙ q));
    fails = λ _. line_fails (line_of r.progress header);
  }

  decide_came : Comes (decide coding_of r block b)
  unfolding decide
  decide_came =
      subst (λ (x : Told Header). Comes (by_judgement coding_of x r block b.collection)) (sym (judged_is r block b))
      (decided (first_verdict (block_rules r block b)) refl)

  -- what a receiver's call comes to
  event_refuses : (e : Event Flat) → Comes e → BlockRefuses r block b r (λ s. s) (answer_of coding_of r e) (advance coding_of r e) (record { collection = collection_after block b.collection e; both = stored_by coding_of r b.both e })
  event_refuses e c = record {
    due = c.due;
    stores = λ numbers h. stored (first_verdict (block_rules r block b)) refl numbers h;
    unchanged = λ numbers h.
        subst (λ (x : Event Flat). (advance coding_of r x ≡ r) × (record { collection = collection_after block b.collection x; both = stored_by coding_of r b.both x } ≡ b)) (sym (c.idle numbers h)) (refl, refl);
    at_last = λ numbers g h. let f = c.fails g numbers h in (f.0, λ i. record { collection = f.1 i; both = f.2 i });
  }
    where
      stored : (v : Verdict) → first_verdict (block_rules r block b) ≡ v → (numbers : Numbers) → event_verdict e ≡ refused_by numbers → stored_by coding_of r b.both e ≡ b.both
      stored (accepted t) g numbers h = (c.fails g numbers h).2
      stored (refused_by others) g numbers h = ap (stored_by coding_of r b.both) (c.idle others g)

  pub step_refuses : BlockRefuses r block b r (λ s. s) (step coding_of r block b).gave.answer (step coding_of r block b).gave.next (step coding_of r block b).left
  unfolding step came_to
  step_refuses = event_refuses (decide coding_of r block b) decide_came

-- ---- the lister's
-- a block without 22 has a clip
clip_some : (size : Size) (block : List ℕ) → fields_follow size block ≡ true → eqb (clip_of block) 0 ≡ false
unfolding fields_follow header_ruled
clip_some size block e =
    let first = (two_of (header_ruled size (header_of block)) _ e).0 in
    not-zero (clip_of block) (leb-true 1 (clip_of block) (two_of (leb 1 (clip_of block)) _ first).0)
  where
    not-zero : (n : ℕ) → 1 ≤ n → eqb n 0 ≡ false
    not-zero n l = ne_eqb n 0 (λ z. omega (arith, l, z))

all_fine : (long sum fine : Bool) → first_verdict (when 1 (opposite long) ∷ when 21 (opposite sum) ∷ when 22 (opposite fine) ∷ []) ≡ accepted tt → fine ≡ true
all_fine true true true e = refl
all_fine true true false e = absurd (told_apart (sym e))
all_fine true false fine e = absurd (told_apart (sym e))
all_fine false sum fine e = absurd (told_apart (sym e))

-- a receiver of the block's standard is opened, or 5 is due
opened_kind_lem : (size : Size) (standard : Standard) (clip : ℕ) → eqb clip 0 ≡ false
    → (let kind : Kind = kind_or size (kind_in standard size) in opened_kind clip (kind_in standard size) ≡ with_value (fresh_receiver clip kind) (first_verdict (when 5 (opposite (same_standard standard (kind_standard kind))) ∷ [])))
opened_kind_lem Z.SubQcif N.H261 clip e = refl
opened_kind_lem Z.Qcif N.H261 clip e = ap (λ (z : Bool). pick z (refused 22 0) (accepted (fresh_receiver clip (H261 F.Qcif)))) e
opened_kind_lem Z.Cif N.H261 clip e = ap (λ (z : Bool). pick z (refused 22 0) (accepted (fresh_receiver clip (H261 F.Cif)))) e
opened_kind_lem size N.H263 clip e = ap (λ (z : Bool). pick z (refused 22 0) (accepted (fresh_receiver clip (H263 size)))) e

kind_sized : (size : Size) (standard : Standard) → kind_size (kind_or size (kind_in standard size)) ≡ size
kind_sized Z.SubQcif N.H261 = refl
kind_sized Z.Qcif N.H261 = refl
kind_sized Z.Cif N.H261 = refl
kind_sized size N.H263 = refl

-- a block that comes to a clip of this number
module _ (size : Size) (clip : ℕ) (block : List ℕ) where
  abbrev kind : Kind
  kind = kind_of_block size block

  abbrev own : Receiver
  own = fresh_receiver clip kind

  abbrev same : Bool
  same = same_standard (standard_of block) (kind_standard kind)

  found_is : opened_by size (of_clip clip (check_of size block)) ≡ with_value own (first_verdict (judge_rules size (kind_standard kind) clip block))
  found_is =
      ap (λ (x : Told Header). opened_by size (of_clip clip x)) (check_is size block)
      ∙ go (first_verdict (check_rules size block)) refl
      ∙ ap (with_value own) (sym (first_append (check_rules size block) (when 23 (opposite (eqb (clip_of block) clip)) ∷ when 5 (opposite same) ∷ [])))
    where
      some : first_verdict (check_rules size block) ≡ accepted tt → eqb (clip_of block) 0 ≡ false
      some e = clip_some size block (all_fine (eqb (length block) 512) (eqb (sum_of block) (check_sum_of block)) (fields_follow size block) e)

      by_clip : (t : Bool) → eqb (clip_of block) clip ≡ t → eqb (clip_of block) 0 ≡ false
          → opened_by size (pick t (accepted (header_of block)) (refused 23 0)) ≡ with_value own (first_verdict (when 23 (opposite t) ∷ when 5 (opposite same) ∷ []))
      by_clip false q z = refl
      by_clip true q z =
          let is : clip_of block ≡ clip = eqb-true (clip_of block) clip q in
          ap (λ (c : ℕ). opened_kind c (kind_in (standard_of block) size)) is ∙ opened_kind_lem size (standard_of block) clip (ap (λ (c : ℕ). eqb c 0) (sym is) ∙ z)

      go : (v : Verdict) → first_verdict (check_rules size block) ≡ v
          → opened_by size (of_clip clip (with_value (header_of block) v)) ≡ with_value own (or_else v (first_verdict (when 23 (opposite (eqb (clip_of block) clip)) ∷ when 5 (opposite same) ∷ [])))
      go (refused_by numbers) e = refl
      go (accepted t) e = by_clip (eqb (clip_of block) clip) refl (some e)

  opened_is : (b : Buffers) → pick (R.lent_lengths size b) (opened_by size (of_clip clip (check_of size block))) (refused 1 0) ≡ with_value own (first_verdict (block_rules own block b))
  opened_is b =
      go (R.lent_lengths size b)
      ∙ ap (λ (z : Size). with_value own (first_verdict (when 1 (opposite (R.lent_lengths z b)) ∷ judge_rules z (kind_standard kind) clip block))) (sym (kind_sized size (standard_of block)))
    where
      go : (named : Bool) → pick named (opened_by size (of_clip clip (check_of size block))) (refused 1 0) ≡ with_value own (first_verdict (when 1 (opposite named) ∷ judge_rules size (kind_standard kind) clip block))
      go true = found_is
      go false = refl

-- a block is of its own clip
own_clip : (size : Size) (block : List ℕ) → of_clip (clip_of block) (check_of size block) ≡ check_of size block
own_clip size block = subst (λ (x : Told Header). of_clip (clip_of block) x ≡ x) (sym (check_is size block)) (go (first_verdict (check_rules size block)))
  where
    go : (v : Verdict) → of_clip (clip_of block) (with_value (header_of block) v) ≡ with_value (header_of block) v
    go (refused_by numbers) = refl
    go (accepted t) = ap (λ (z : Bool). pick z (accepted (header_of block)) (refused 23 0)) (eq-eqb (clip_of block) (clip_of block) refl)

-- of what a call is known to come to
abbrev ListRefuses : Receiver → List ℕ → Buffers → Clip → Came → Type 0
ListRefuses r block b clip x = BlockRefuses r block b clip K.Known x.answer x.next x.left

as_known : (r : Receiver) (block : List ℕ) (b : Buffers) → ListRefuses r block b (K.Known r) (stepped (step coding_of r block b))
unfolding stepped
as_known r block b =
    let x = step_refuses r block b in
    record {
      due = x.due;
      stores = x.stores;
      unchanged = λ numbers h. let u = x.unchanged numbers h in (ap K.Known u.0, u.1);
      at_last = λ numbers g h. let u = x.at_last numbers g h in (ap K.Known u.0, u.1);
    }

-- a receiver is opened for the block, or the clip stays as it was
as_opened : (r : Receiver) (clip : Clip) (block : List ℕ) (b : Buffers) (v : Verdict) → first_verdict (block_rules r block b) ≡ v → ListRefuses r block b clip (by_opened clip (with_value r v) block b)
unfolding by_opened
as_opened r clip block b (refused_by due) e = record {
  due = sym (first_append (block_rules r block b) (last_rules r block b) ∙ ap (λ (v : Verdict). or_else v (first_verdict (last_rules r block b))) e);
  stores = λ numbers h. refl;
  unchanged = λ numbers h. (refl, refl);
  at_last = λ numbers g h. absurd (told_apart (sym g ∙ e));
}
as_opened r clip block b (accepted t) e =
    let x = as_known r block b in
    record {
      due = x.due;
      stores = x.stores;
      unchanged = λ numbers h. absurd (told_apart (sym e ∙ h));
      at_last = x.at_last;
    }

begun_refuses : (r : Receiver) (clip : Clip) (block : List ℕ) (b : Buffers) (x : Told Receiver) → x ≡ with_value r (first_verdict (block_rules r block b)) → ListRefuses r block b clip (by_opened clip x block b)
begun_refuses r clip block b x e =
    subst (λ (y : Told Receiver). ListRefuses r block b clip (by_opened clip y block b)) (sym e) (as_opened r clip block b (first_verdict (block_rules r block b)) refl)

pub listed_refuses : (size : Size) (clip : Clip) (block : List ℕ) (b : Buffers) → ListRefuses (receiver_of size clip block) block b clip (listed size clip block b)
unfolding listed begun found_by
listed_refuses size (K.Known r) block b = as_known r block b
listed_refuses size (K.Asked clip) block b = begun_refuses (own size clip block) (K.Asked clip) block b _ (opened_is size clip block b)
listed_refuses size K.Unknown block b =
    begun_refuses (own size (clip_of block) block) K.Unknown block b _
    (ap (λ (x : Told Header). pick (R.lent_lengths size b) (opened_by size x) (refused 1 0)) (sym (own_clip size block)) ∙ opened_is size (clip_of block) block b)

-- ---- a description that is sent
abbrev judgement_verdict : S.Judgement → Verdict
judgement_verdict S.sends = accepted tt
judgement_verdict (S.refuses n) = refused n 0

otherwise : (fine : Bool) (n : ℕ) (x : S.Judgement) (rules : List Verdict) → judgement_verdict x ≡ first_verdict rules → judgement_verdict (pick fine x (S.refuses n)) ≡ first_verdict (when n (opposite fine) ∷ rules)
otherwise true n x rules h = h
otherwise false n x rules h = refl

first_refresh : (first refresh : Bool) → opposite (either (opposite first) refresh) ≡ both first (opposite refresh)
first_refresh true refresh = refl
first_refresh false refresh = refl

judge_due : (s : Sender) (d : Flat) (b : S.Buffers) → judgement_verdict (S.judge coding_of s d b) ≡ first_verdict (send_rules s d b)
unfolding S.judge
judge_due s d b =
    let c = coding_of s.kind in
    let above : Verdict = when 32 (opposite (leb (length (c.written d)) (limit (kind_size s.kind)))) in
    let first : Verdict = when 33 (both (eqb s.picture 0) (opposite (c.refresh d))) in
    let invalid : Verdict = when 31 (opposite (c.valid d)) in
    let many : Verdict = when 34 (opposite (ltb s.picture pictures)) in
    otherwise (both (c.named d) (S.lent_lengths (kind_size s.kind) b)) 1 _ (many ∷ invalid ∷ first ∷ above ∷ [])
    (otherwise (ltb s.picture pictures) 34 _ (invalid ∷ first ∷ above ∷ [])
    (otherwise (c.valid d) 31 _ (first ∷ above ∷ [])
    (otherwise (either (opposite (eqb s.picture 0)) (c.refresh d)) 33 _ (above ∷ []) (otherwise (leb (length (c.written d)) (limit (kind_size s.kind))) 32 S.sends [] refl)
    ∙ ap (λ (z : Bool). first_verdict (when 33 z ∷ above ∷ [])) (first_refresh (eqb s.picture 0) (c.refresh d)))))

came_refuses : (s : Sender) (d : Flat) (b : S.Buffers) (rules : List Verdict) (j : S.Judgement) → judgement_verdict j ≡ first_verdict rules
    → (let x = S.came_to coding_of s d b j in Refuses {W = Sender × S.Buffers} rules (verdict_on x.gave.answer) (s, b) (x.gave.next, x.left))
unfolding S.came_to
came_refuses s d b rules S.sends h = record { due = h; unchanged = λ numbers q. absurd (told_apart q) }
came_refuses s d b rules (S.refuses m) h = record { due = h; unchanged = λ numbers q. refl }

pub sent_refuses : (s : Sender) (d : Flat) (b : S.Buffers)
    → (let x = S.step coding_of s d b in Refuses {W = Sender × S.Buffers} (send_rules s d b) (verdict_on x.gave.answer) (s, b) (x.gave.next, x.left))
unfolding S.step
sent_refuses s d b = came_refuses s d b (send_rules s d b) (S.judge coding_of s d b) (judge_due s d b)
